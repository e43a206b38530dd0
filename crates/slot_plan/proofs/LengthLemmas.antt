-- An area of a class, by the lengths without padding.
use Rattle.std.proofs.Common.{arith, Bool, cond, false, get_or, List, ℕ, ◌+◌, ◌-◌, ◌≡◌, ◌≤◌}
use Rattle.frame_header.proofs.{LengthLemmas.length-most, SlotLemmas.area-is}
use Rattle.frame_header.specs.{Fields.{ClassFields, IsSlot, SlotFields}, Slots.slot_of}
use Rattle.frame_header.specs.Tables.{area_of, length_of, overhead_of, rate_of, side_bytes_of}
use Rattle.frame_header.specs.{Tables.side_size_of, declared.version.Version.Version}
use Rattle.slot_plan.specs.ClassLengths.{AreLengths}
use mir.Val.{bool_byte}

byte_is : (flag : Bool) → bool_byte flag ≡ cond flag 1 0
byte_is flag = grind arith

padded : (c : ClassFields) (s : SlotFields)
    → length_of c (slot_of s.rate_index false) + bool_byte s.padding ≡ length_of c s
unfolding length_of rate_of
padded c s = omega (arith, byte_is s.padding)

side_most : (version : Version) (channels : ℕ) → side_bytes_of version channels ≤ 32
side_most version channels = grind arith

-- header, check word and side information have at most 38 bytes
pub overhead-side : (c : ClassFields) (p : Bool) → overhead_of c p ≤ 6 + side_size_of c
unfolding overhead_of
overhead-side c p = grind arith

-- at most 38 bytes are before the area
pub overhead-most : (c : ClassFields) (p : Bool) → overhead_of c p ≤ 38
unfolding side_size_of
overhead-most c p = omega (arith, overhead-side c p, side_most c.version c.channels)

-- the entry for the bit rate index, with the padding, less what is before the area
pub area-looked : {c : ClassFields} (s : SlotFields) (p : Bool) {by_index : List ℕ}
    {unprotected protected n overhead : ℕ} → IsSlot s → AreLengths c by_index unprotected protected
    → n ≡ get_or by_index (s.rate_index - 1) 0 → overhead ≡ overhead_of c p
    → (overhead ≤ n + bool_byte s.padding) × ((n + bool_byte s.padding) - overhead ≡ area_of c s p)
    × (area_of c s p ≤ 1441)
area-looked {c} s p slot known entry before =
    grind (arith, area-is c s p known.known slot, padded c s, length-most c s known.known slot)
