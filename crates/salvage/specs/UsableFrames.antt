-- Frames of a damaged file that can be used.
use Rattle.std.specs.List.{range_with_len}
use Rattle.std.specs.Prelude.{Bool, drop, filter_map, if◌then◌else◌, is_some, length, List, None}
use Rattle.std.specs.Prelude.{not, Option, slice_get, Some, ℕ, ◌&&◌, ◌==◌, ◌||◌}
use Rattle.frame_header.specs.{Fields.{HeaderFields, same_class}, Tables.class_of}
use Rattle.salvage.specs.declared.usable.Role.{Role, TheVariants.{First, Later}}
use Rattle.side_info.specs.Frame.{right_crc, stored_crc}
use Rattle.sync_survey.specs.{Start.anchored_frame, Walk.{head_in_bytes, own_bytes}}
use Rattle.sync_survey.specs.declared.places.PlacedFrame.{PlacedFrame}

-- the frame with which these bytes begin has no check word, or the right one
abbrev pub has_right_crc : HeaderFields → List ℕ → Bool
has_right_crc h bytes = not h.protected || (stored_crc bytes == right_crc h bytes)

-- the frame with which these bytes begin is a head
abbrev pub is_head : PlacedFrame → List ℕ → Bool
is_head p bytes = is_some (head_in_bytes p (own_bytes p bytes))

-- A whole frame is usable for a role, given the bytes from its first on: its check word (ISO/IEC
-- 11172-3, 2.4.3.1) is right, and as a later frame it is of the class of the first frame. As the
-- first frame it may be a head, whose check word isn't judged.
abbrev pub is_usable : Role → PlacedFrame → List ℕ → Bool
is_usable First p bytes = has_right_crc p.header bytes || is_head p bytes
is_usable (Later class) p bytes =
    same_class (class_of p.header) class && has_right_crc p.header bytes

-- the frame of the file, if it is usable
abbrev pub frame_if_usable : List ℕ → Role → Option PlacedFrame → Option PlacedFrame
frame_if_usable file role None = None
frame_if_usable file role (Some p) = if is_usable role p (drop p.offset file) then Some p else None

-- the anchored frame at the offset, if it is usable
unfoldable pub usable_frame_at : List ℕ → Role → ℕ → Option PlacedFrame
usable_frame_at file role at = frame_if_usable file role (anchored_frame file at)

-- the usable anchored frame at the smallest offset from `from` on
unfoldable pub next_usable_frame : List ℕ → Role → ℕ → Option PlacedFrame
next_usable_frame file role from =
    slice_get (filter_map (usable_frame_at file role) (range_with_len from (length file))) 0
