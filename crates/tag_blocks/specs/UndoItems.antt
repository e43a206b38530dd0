-- The undo item of a tag: what it says, and the items with another one or without it. All other
-- items stay as they are.
use Rattle.std.specs.Prelude.{codes, if◌then◌else◌, List, None, Option, Some, ℕ, [], ◌+◌, ◌∷◌}
use Rattle.tag_blocks.specs.{Items.{is_undo, item_length, TagItem}, UndoText.{undo_of, undo_text}}
use Rattle.tag_blocks.specs.declared.undo.{Undo.Undo, UndoItem.UndoItem}
use Rattle.tag_blocks.specs.declared.undo.UndoItem.TheVariants.{Bad, Found, Missing}

-- what an undo item at this offset says, by its value
abbrev pub undo_at : ℕ → Option Undo → UndoItem
undo_at offset None = Bad offset
undo_at offset (Some undo) = Found undo

-- what the undo item says, where the first of these items is at `offset`: `Missing` where there is
-- none, the offset of the item where its value has another form, otherwise what its value says
abbrev pub undo_from : ℕ → List TagItem → UndoItem
undo_from offset [] = Missing
undo_from offset (item ∷ items) = if is_undo item then undo_at offset (undo_of item.value)
    else undo_from (offset + item_length item) items

-- a new undo item
abbrev pub new_undo_item : Undo → TagItem
new_undo_item undo = record { key = codes "MP3GAIN_UNDO"; flags = 0; value = undo_text undo }

-- the same items with this undo: as the value of the undo item, or in a new item after all others
-- where there is none
abbrev pub with_undo : Undo → List TagItem → List TagItem
with_undo undo [] = new_undo_item undo ∷ []
with_undo undo (item ∷ items) = if is_undo item then record item { value = undo_text undo } ∷ items
    else item ∷ with_undo undo items

-- the same items without the undo item
abbrev pub without_undo : List TagItem → List TagItem
without_undo [] = []
without_undo (item ∷ items) = if is_undo item then items else item ∷ without_undo items
