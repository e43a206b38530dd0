-- The first of some slots that is long enough, by the length that is wanted.
use Rattle.std.specs.Prelude.{Contains, length, List, slice_index_or, ℕ, ◌+◌, ◌<◌, ◌≡◌, ◌≤◌}
use Rattle.frame_header.specs.{Fields.{ClassFields, SlotFields}, Tables.{length_of, side_size_of}}
use Rattle.slot_plan.specs.{Parts.AreNeedsOfClass, declared.needs.Need.Need}
use Rattle.slot_plan.specs.declared.table.SlotTable.{SlotTable}

-- of some slots, the one with the shortest frame of at least `wanted` bytes
pub record IsShortestSlot (class : ClassFields) (slots : List SlotFields) (wanted : ℕ)
    (slot : SlotFields) : Type 0 where
  pub chosen : Contains slots slot
  pub enough : wanted ≤ length_of class slot
  pub least : (other : SlotFields) → Contains slots other → wanted ≤ length_of class other
      → length_of class slot ≤ length_of class other

-- There is a slot. The table has for each length, up to the length of
-- the longest frame, the slot with the shortest frame of at least that
-- length; each frame has room for more than what is before its area.
pub record IsSlotTable (slots : List SlotFields) (table : SlotTable) : Type 0 where
  pub some : 1 ≤ length slots
  pub room : (slot : SlotFields) → Contains slots slot
      → 6 + side_size_of table.lengths < length_of table.lengths slot
  pub all : (slot : SlotFields) → Contains slots slot
      → length_of table.lengths slot < length table.by_length.items
  pub least : (wanted : ℕ) (d : SlotFields) → wanted < length table.by_length.items
      → IsShortestSlot table.lengths slots wanted (slice_index_or table.by_length.items wanted d)

-- the table of these slots of a class
pub record IsClassTable (class : ClassFields) (slots : List SlotFields)
    (table : SlotTable) : Type 0 where
  pub class_is : table.lengths ≡ class
  pub of_slots : IsSlotTable slots table

-- the table of these slots in the class of these frames
pub record IsTableForNeeds (slots : List SlotFields) (needs : List Need)
    (table : SlotTable) : Type 0 where
  -- the frames are of the table's class
  pub class : AreNeedsOfClass table.lengths needs
  -- the table has these slots
  pub of_slots : IsSlotTable slots table
