-- Frames in their own slots that join others, and the lead-in at the front of an input.
use Rattle.std.specs.Prelude.{Bool, bytes_eq, drop, false, find, List, map, nat_le, None, not}
use Rattle.std.specs.Prelude.{Option, option_map, Some, ℕ, [], ◌&&◌, ◌++◌, ◌∷◌}
use Rattle.frame_header.specs.Fields.{ClassFields, HeaderFields, SlotFields}
use Rattle.frame_header.specs.{HeaderBits.header_bits, Slots.all_slots, Tables.{area_of, class_of}}
use Rattle.seam_plan.specs.Frames.{Brought, needs_of, SpliceFrame}
use Rattle.slot_plan.specs.{FreeBytes.need_in_slot, Layouts.has_layout}
use Rattle.slot_plan.specs.{Parts.{own_frame, own_slot_area}, declared.needs.Need.Need}

-- frames, each in its own slot, have a layout after `free` bytes of
-- areas that hold nothing (`FitsBehind` of `slot_plan` as a value)
abbrev pub fits_behind : ℕ → ℕ → List Need → Bool
fits_behind window free needs = has_layout window 0 free (map own_frame needs)

-- ---- the lead-in at the front of an input

-- the least slot of a lead-in, which has no check word, after whose area the frames fit
abbrev pub lead_in_slot : ℕ → ClassFields → List Need → Option SlotFields
lead_in_slot window class needs =
    find (λ slot. fits_behind window (area_of class slot false) needs) all_slots

-- the header of the lead-in: the first frame's header in the lead-in's slot, without a check word
unfoldable pub lead_in_header : ℕ → List Need → Option HeaderFields
lead_in_header window [] = None
lead_in_header window (first ∷ needs) =
    option_map (λ slot. record first.header { protected = false; slot = slot })
    (lead_in_slot window (class_of first.header) (first ∷ needs))

-- the headers have the same 32 bits
abbrev pub is_same_header : HeaderFields → HeaderFields → Bool
is_same_header g h = bytes_eq (header_bits g) (header_bits h)

-- there is a header, and it is the same
abbrev pub matches_header : HeaderFields → Option HeaderFields → Bool
matches_header h None = false
matches_header h (Some other) = is_same_header h other

-- the first frame has the header of the lead-in of all frames after it, and there is such a frame
abbrev pub leads_others : ℕ → List Need → Bool
leads_others window [] = false
leads_others window (first ∷ needs) = matches_header first.header (lead_in_header window needs)

-- The input begins with a lead-in, whichever program wrote it: all bytes of the side information
-- of its first frame are 0, and this frame has the header of the lead-in of the frames after it.
unfoldable pub has_lead_in : ℕ → Brought → Bool
has_lead_in window input = input.blank && leads_others window (needs_of input.frames)

-- The frames after the lead-in want it: without main data before them they don't fit.
abbrev pub is_lead_in_wanted : ℕ → Brought → Bool
is_lead_in_wanted window input = not (fits_behind window 0 (needs_of (drop 1 input.frames)))

-- ---- frames that join a splice

-- the frame's area in this slot is at least its area in its own
abbrev pub is_area_no_less : Need → SlotFields → Bool
is_area_no_less need slot = nat_le (own_slot_area need) (own_slot_area (need_in_slot slot need))

-- The slot in which the first of some frames joins a splice of frames, so that the splice, this
-- frame and then the others fit after a whole window: the least slot that is no less than its own.
abbrev pub join_slot : ℕ → List Need → Need → List Need → Option SlotFields
join_slot window splice first needs =
    find
    (λ slot. is_area_no_less first slot
    && fits_behind window window (splice ++ need_in_slot slot first ∷ needs))
    all_slots

-- a frame in another slot
abbrev pub frame_in_slot : SlotFields → SpliceFrame → SpliceFrame
frame_in_slot slot f = record f { need = need_in_slot slot f.need }

-- The frames as they join a splice, the first in its slot, if they can. An empty list always can.
unfoldable pub joining_frames : ℕ → List SpliceFrame → List SpliceFrame → Option (List SpliceFrame)
joining_frames window splice [] = Some []
joining_frames window splice (first ∷ frames) =
    option_map (λ slot. frame_in_slot slot first ∷ frames)
    (join_slot window (needs_of splice) first.need (needs_of frames))
