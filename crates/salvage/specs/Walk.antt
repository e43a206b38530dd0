-- What is in a damaged file: the first frame, and from there on items and gaps.
use Rattle.std.specs.Option.{option_or}
use Rattle.std.specs.Prelude.{Bool, drop, filter_map, if◌then◌else◌, length, List, nat_lt, None}
use Rattle.std.specs.Prelude.{Option, option_and_then, Some, suc, true, zero, ℕ, [], ◌+◌, ◌-◌, ◌∷◌}
use Rattle.frame_header.specs.Fields.{ClassFields}
use Rattle.salvage.specs.{UsableFrames.{is_usable, next_usable_frame}, declared.gap.Gap.Gap}
use Rattle.salvage.specs.declared.usable.Role.{Role, TheVariants.{First, Later}}
use Rattle.sync_survey.specs.{Chains.{block_of_item, frame_of_item, whole_item_at}, Items.size_of}
use Rattle.sync_survey.specs.declared.{chains.Region.TheVariants.Stream, items.Item.Item}
use Rattle.sync_survey.specs.declared.{items.Item.TheVariants.Frame, places.Piece.Piece}
use Rattle.sync_survey.specs.declared.places.PlacedFrame.{PlacedFrame}

-- ---- what is read at an offset

-- a whole item at the offset is read: it isn't a frame, or is a usable one
abbrev pub is_item_read : List ℕ → Role → ℕ → Item → Bool
is_item_read file role at (Frame h) =
    is_usable role (record { offset = at; header = h }) (drop at file)
is_item_read file role at item = true

-- the item, if it is read
abbrev pub item_if_read : List ℕ → Role → ℕ → Option Item → Option Item
item_if_read file role at None = None
item_if_read file role at (Some item) = if is_item_read file role at item then Some item else None

-- the item that is read at the offset: a usable frame, a whole block, or a zero byte
unfoldable pub item_read : List ℕ → Role → ℕ → Option Item
item_read file role at = item_if_read file role at (whole_item_at Stream file at)

-- The first frame, given the offset at which the front of the file ends: it is usable, and begins
-- there or, anchored, at the smallest offset after it.
unfoldable pub first_frame : List ℕ → ℕ → Option PlacedFrame
first_frame file front_end = option_or (option_and_then (frame_of_item front_end)
    (item_read file First front_end)) (next_usable_frame file First (front_end + 1))

-- where a gap ends: at this frame, or with the file
abbrev pub offset_or_end : List ℕ → Option PlacedFrame → ℕ
offset_or_end file None = length file
offset_or_end file (Some p) = p.offset

-- the end of a gap that begins at the offset, after a first frame of this class: the smallest later
-- offset at which there is a usable anchored frame, or the end of the file
unfoldable pub gap_end : List ℕ → ClassFields → ℕ → ℕ
gap_end file class at = offset_or_end file (next_usable_frame file (Later class) (at + 1))

-- an item that is read, or a gap
pub data ItemOrGap : Type 0 where
  -- an item that is read
  IsItem : Item → ItemOrGap
  -- a gap of this many bytes
  IsGap : ℕ → ItemOrGap

-- how many bytes a thing has
abbrev pub size_of_thing : ItemOrGap → ℕ
size_of_thing (IsItem item) = size_of item
size_of_thing (IsGap n) = n

-- the item that is read at the offset, or the gap that begins there
abbrev pub thing_or_gap : List ℕ → ClassFields → ℕ → Option Item → ItemOrGap
thing_or_gap file class at (Some item) = IsItem item
thing_or_gap file class at None = IsGap (gap_end file class at - at)

-- the thing at an offset
unfoldable pub thing_at : List ℕ → ClassFields → ℕ → ItemOrGap
thing_at file class at = thing_or_gap file class at (item_read file (Later class) at)

-- ---- all of it

-- a thing and the offset at which it begins
pub record PlacedThing : Type 0 where
  pub offset : ℕ
  pub thing : ItemOrGap

-- the things that follow end to end from an offset on, at most this many
unfoldable pub things_up_to : ℕ → List ℕ → ClassFields → ℕ → List PlacedThing
things_up_to zero file class at = []
things_up_to (suc most) file class at =
    let here = thing_at file class at in
    if nat_lt at (length file) then record { offset = at; thing = here }
    ∷ things_up_to most file class (at + size_of_thing here) else []

-- all things that follow end to end from an offset on: there are no more things than bytes
unfoldable pub things : List ℕ → ClassFields → ℕ → List PlacedThing
things file class from = things_up_to (length file) file class from

-- ---- frames, gaps and blocks

-- the frame that a thing is
abbrev pub frame_of_thing : ℕ → ItemOrGap → Option PlacedFrame
frame_of_thing at (IsItem item) = frame_of_item at item
frame_of_thing at (IsGap n) = None

-- the gap that a thing is
abbrev pub gap_of_thing : ℕ → ItemOrGap → Option Gap
gap_of_thing at (IsItem item) = None
gap_of_thing at (IsGap n) = Some (record { offset = at; length = n })

-- the block that a thing is
abbrev pub block_of_thing : ℕ → ItemOrGap → Option Piece
block_of_thing at (IsItem item) = block_of_item at item
block_of_thing at (IsGap n) = None

-- the frames among these things, in order
abbrev pub frames_of_things : List PlacedThing → List PlacedFrame
frames_of_things ts = filter_map (λ t. frame_of_thing t.offset t.thing) ts

-- the gaps among these things, in order
abbrev pub gaps_of : List PlacedThing → List Gap
gaps_of ts = filter_map (λ t. gap_of_thing t.offset t.thing) ts

-- the blocks among these things, in order
abbrev pub blocks_of_things : List PlacedThing → List Piece
blocks_of_things ts = filter_map (λ t. block_of_thing t.offset t.thing) ts
