-- What the definitions of tags and undo items say, without their recursions.
use Rattle.std.specs.List.{list_all, list_any}
use Rattle.std.specs.Prelude.{Bool, drop, false, length, List, None, Ok, slice_index, Some, take}
use Rattle.std.specs.Prelude.{true, ℕ, ◌&&◌, ◌++◌, ◌<◌, ◌==◌, ◌↔◌, ◌≡◌, ◌≤◌}
use Rattle.tag_blocks.specs.Blocks.{block_front}
use Rattle.tag_blocks.specs.Items.{is_item, is_undo, items_bytes, items_length, next_item}
use Rattle.tag_blocks.specs.Items.{tag_items_from, TagItem}
use Rattle.tag_blocks.specs.Tags.{IsTag, other_items, tag_bytes, tag_of, TagFields, undo_items}
use Rattle.tag_blocks.specs.UndoItems.{undo_from, with_undo, without_undo}
use Rattle.tag_blocks.specs.UndoText.{digits_number, undo_of, undo_text, UndoFitsText}
use Rattle.tag_blocks.specs.declared.{block.Kind.TheVariants.Ape, undo.Undo.Undo}
use Rattle.tag_blocks.specs.declared.undo.UndoItem.TheVariants.{Found, Missing}

-- every member of the list is a byte
abbrev pub AreByteValues : List ℕ → Type 0
AreByteValues bytes = (i : ℕ) → slice_index bytes i < 256

-- a block is read as a tag exactly if this is a legal tag whose bytes are the block
abbrev pub TagsAreTheirBytes : Type 0
TagsAreTheirBytes =
    (block : List ℕ) (tag : TagFields) → AreByteValues block
    → block_front block ≡ Some (record { kind = Ape; length = length block })
    → length block ≤ 1048576 → (tag_of block ≡ Ok tag) ↔ (IsTag tag × (tag_bytes tag ≡ block))

-- The bytes begin with these items, with nothing between them. There are at most `most` of them,
-- and at most one of them is the undo item. Where there are fewer, no item that may be there comes
-- after them.
pub record AreItemsOf (most : ℕ) (bytes : List ℕ) (items : List TagItem) : Type 0 where
  pub all : list_all is_item items ≡ true
  pub few : length items ≤ most
  pub one : length (undo_items items) ≤ 1
  pub front : bytes ≡ items_bytes items ++ drop (items_length items) bytes
  pub last : length items < most
      → next_item (list_any is_undo items) (drop (items_length items) bytes) ≡ None

-- the items by a definition without recursion: exactly one list meets it, the one that is read
abbrev pub ItemsAreAll : Type 0
ItemsAreAll = (most : ℕ) (bytes : List ℕ) (items : List TagItem) → AreByteValues bytes
    → AreItemsOf most bytes items ↔ (tag_items_from most false bytes ≡ items)

-- After another undo is put in, the undo item says it; after the undo item is taken out, there is
-- none; and all others stay.
pub record ChangesUndoAlone (undo : Undo) (items : List TagItem) : Type 0 where
  pub put : (offset : ℕ) → undo_from offset (with_undo undo items) ≡ Found undo
  pub put_others : other_items (with_undo undo items) ≡ other_items items
  pub gone : (offset : ℕ) → undo_from offset (without_undo items) ≡ Missing
  pub gone_others : other_items (without_undo items) ≡ other_items items
  pub back : without_undo (with_undo undo items) ≡ without_undo items

-- putting in another undo, or taking it out, changes the undo item alone
abbrev pub UndoItemsAloneChange : Type 0
UndoItemsAloneChange = (undo : Undo) (items : List TagItem) → UndoFitsText undo
    → length (undo_items items) ≤ 1 → ChangesUndoAlone undo items

-- a minus and three zeros, which is never written
abbrev pub is_minus_zero : List ℕ → Bool
is_minus_zero four = (slice_index four 0 == 45) && (digits_number four == 0)

-- a value that is read and has no such number is written again as it was
abbrev pub UndosAreTheirTexts : Type 0
UndosAreTheirTexts = (value : List ℕ) (undo : Undo) → undo_of value ≡ Some undo
    → is_minus_zero (take 4 value) ≡ false → is_minus_zero (take 4 (drop 5 value)) ≡ false
    → undo_text undo ≡ value
