-- The Info frame of a file: its slot, its header and its bytes.
use Rattle.std.specs.Prelude.{false, if◌then◌else◌, List, nat_le, replicate, ℕ, [], ◌++◌, ◌-◌, ◌∷◌}
use Rattle.bit_fields.specs.Bits.{bytes}
use Rattle.frame_header.specs.Fields.{ClassFields, HeaderFields, SlotFields}
use Rattle.frame_header.specs.{HeaderBits.header_bits, Slots.{all_slots, largest_slot}}
use Rattle.frame_header.specs.Tables.{area_of, class_of, side_size_of}
use Rattle.info_header.specs.{Info.info_bytes, declared.fields.Info.Info}

-- the first of these slots whose area has room for the 156 bytes of the fields, in a frame without
-- a check word; the largest slot of all where none has
unfoldable pub first_with_room : ClassFields → List SlotFields → SlotFields
first_with_room c [] = largest_slot
first_with_room c (slot ∷ slots) =
    if nat_le 156 (area_of c slot false) then slot else first_with_room c slots

-- the slot of the Info frame: the slots are in the order of their areas, so it is the one with the
-- smallest area that has room
unfoldable pub info_slot_of : ClassFields → SlotFields
info_slot_of c = first_with_room c all_slots

-- the header of the Info frame: the header of the first frame after it, without a check word and in
-- this slot
abbrev pub info_header_of : HeaderFields → HeaderFields
info_header_of first = record first { protected = false; slot = info_slot_of (class_of first) }

-- the frame: its header, side information that is all 0, the fields, and zeros up to its length
unfoldable pub info_frame : HeaderFields → Info → List ℕ
info_frame first info =
    let c = class_of first in let slot = info_slot_of c in
    bytes (header_bits (info_header_of first)) ++ (replicate (side_size_of c) 0
    ++ (info_bytes info ++ replicate (area_of c slot false - 156) 0))
