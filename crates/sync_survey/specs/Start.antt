-- Where the stream of frames begins.
use Rattle.std.specs.List.{range_with_len}
use Rattle.std.specs.Prelude.{Bool, Err, false, filter_map, if◌then◌else◌, is_some, List, None, Ok}
use Rattle.std.specs.Prelude.{Option, Result, slice_get, Some, true, ℕ, ◌&&◌, ◌+◌, ◌<◌, ◌≡◌, ◌≤◌}
use Rattle.std.specs.Prelude.{◌⊎◌}
use Rattle.frame_header.specs.{Fields.{ClassFields, HeaderFields}, Tables.{class_of, length_of}}
use Rattle.sync_survey.specs.{Chains.item_chain, Items.{item_at, item_fits, same_class}}
use Rattle.sync_survey.specs.declared.{chains.Region.TheVariants.Front, items.Item.Item}
use Rattle.sync_survey.specs.declared.items.Item.TheVariants.{Block, End, Frame, Free, Nothing}
use Rattle.sync_survey.specs.declared.{items.Item.TheVariants.Zero, places.PlacedFrame.PlacedFrame}
use Rattle.sync_survey.specs.declared.{places.Start.Start, survey_fault.SurveyFault.SurveyFault}
use Rattle.sync_survey.specs.declared.survey_fault.SurveyFault.TheVariants.{FreeFormat, NoFrame}
use Rattle.sync_survey.specs.declared.survey_fault.SurveyFault.TheVariants.{Truncated}

-- ---- anchored frames

-- what is at the end of an anchored frame of the class: a header of the class or the beginning of a
-- block, whether or not the file holds them whole, or the end of the file; a zero byte is no anchor
abbrev pub is_anchor : ClassFields → Item → Bool
is_anchor c (Frame h) = same_class (class_of h) c
is_anchor c Free = false
is_anchor c (Block b) = true
is_anchor c Zero = false
is_anchor c End = true
is_anchor c Nothing = false

-- the frame with this header is whole, and an anchor is at its end
abbrev pub has_anchor : List ℕ → ℕ → HeaderFields → Bool
has_anchor file at h = item_fits file at (Frame h)
    && is_anchor (class_of h) (item_at file (at + length_of (class_of h) h.slot))

-- the anchored frame that an item at an offset is
abbrev pub anchored_item : List ℕ → ℕ → Item → Option PlacedFrame
anchored_item file at (Frame h) =
    if has_anchor file at h then Some (record { offset = at; header = h }) else None
anchored_item file at Free = None
anchored_item file at (Block b) = None
anchored_item file at Zero = None
anchored_item file at End = None
anchored_item file at Nothing = None

-- the anchored frame at the offset
unfoldable pub anchored_frame : List ℕ → ℕ → Option PlacedFrame
anchored_frame file at = anchored_item file at (item_at file at)

-- an anchored frame is at the offset
abbrev pub is_anchored : List ℕ → ℕ → Bool
is_anchored file at = is_some (anchored_frame file at)

-- ---- the first frame

-- the greatest length in bytes of junk, which is what is between the front end and the first frame
abbrev pub longest_junk : ℕ
longest_junk = 65536

-- the anchored frame at the first of `count` offsets, from `from` on, at which there is one
unfoldable pub first_anchored : ℕ → List ℕ → ℕ → Option PlacedFrame
first_anchored count file from =
    slice_get (filter_map (anchored_frame file) (range_with_len from count)) 0

-- the bytes from here on are junk up to the first frame, if there is one
abbrev pub start_after_junk : ℕ → Option PlacedFrame → Result Start SurveyFault
start_after_junk front_end (Some frame) = Ok (record { front_end = front_end; first = frame })
start_after_junk front_end None = Err (NoFrame front_end)

-- the start, given the item at which the front ends; a header there needs no anchor
abbrev pub start_at : List ℕ → ℕ → Item → Result Start SurveyFault
start_at file at (Frame h) = if item_fits file at (Frame h) then Ok
    (record { front_end = at; first = record { offset = at; header = h } }) else Err (Truncated at)
start_at file at Free = Err (FreeFormat at)
start_at file at (Block b) = Err (Truncated at)
start_at file at Zero = start_after_junk at (first_anchored longest_junk file (at + 1))
start_at file at End = start_after_junk at (first_anchored longest_junk file (at + 1))
start_at file at Nothing = start_after_junk at (first_anchored longest_junk file (at + 1))

-- the offset that is reached from 0 past whole blocks and zero bytes, at which neither begins
unfoldable pub front_end_of : List ℕ → ℕ
front_end_of file = (item_chain Front file 0).stop

-- the start of the stream, or why there is none
unfoldable pub start_of : List ℕ → Result Start SurveyFault
start_of file = start_at file (front_end_of file) (item_at file (front_end_of file))

-- ---- what a start says, without the list of offsets

-- the smallest offset of a range at which a test holds
abbrev pub IsLeastOffset : (ℕ → Bool) → ℕ → ℕ → ℕ → Type 0
IsLeastOffset test from to at = (from ≤ at) × (at < to) × (test at ≡ true)
    × ((earlier : ℕ) → from ≤ earlier → earlier < at → test earlier ≡ false)

-- there is no junk before the first frame, or the frame is at the smallest offset after the first
-- byte of junk at which there is an anchored frame
abbrev pub IsLeastStart : List ℕ → Start → Type 0
IsLeastStart file s = (s.first.offset ≡ s.front_end)
    ⊎ IsLeastOffset (is_anchored file) (s.front_end + 1)
    ((s.front_end + 1) + longest_junk) s.first.offset
