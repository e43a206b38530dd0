-- The slots of a class: the same 28 in every class, in the order of their areas.
use Rattle.std.specs.Prelude.{Bool, false, List, map, suc, true, zero, ℕ, [], ◌++◌, ◌∷◌}
use Rattle.frame_header.specs.{Fields.{ClassFields, SlotFields}, Tables.area_of}

-- the slot with this bit rate index and this padding bit
abbrev pub slot_of : ℕ → Bool → SlotFields
slot_of rate_index padding = record { rate_index = rate_index; padding = padding }

-- the slots of the bit rate indexes from 1 up to this one, at each index first without padding and
-- then with it
unfoldable pub slots_to : ℕ → List SlotFields
slots_to zero = []
slots_to (suc n) = slots_to n ++ slot_of (suc n) false ∷ slot_of (suc n) true ∷ []

-- the 28 slots
unfoldable pub all_slots : List SlotFields
all_slots = slots_to 14

-- the last of them, which has the greatest area
abbrev pub largest_slot : SlotFields
largest_slot = slot_of 14 true

-- the areas of the slots
unfoldable pub areas_of : ClassFields → Bool → List ℕ
areas_of c protected = map (λ s. area_of c s protected) all_slots
