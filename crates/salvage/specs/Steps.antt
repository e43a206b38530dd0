-- What is read at an offset, given what a look has shown.
use Rattle.std.specs.Prelude.{Bool, drop, false, List, None, Ok, Option, Some, true, ℕ, ◌%◌, ◌&&◌}
use Rattle.std.specs.Prelude.{◌+◌, ◌/◌, ◌==◌, ◌≡◌, ◌≤◌, ◌⊎◌}
use Rattle.frame_header.specs.{Fields.HeaderFields, Tables.{class_of, length_of}}
use Rattle.salvage.specs.{UsableFrames.is_usable, Walk.item_read, declared.usable.Role.Role}
use Rattle.sync_survey.specs.{Items.{header_front, item_front}, Start.is_anchor}
use Rattle.sync_survey.specs.declared.{chains.Step.Step, items.Item.{Item, TheVariants.Frame}}

-- a header may begin with these two bytes, by eight bits of the sync word and the two of the layer
abbrev pub may_begin_header : ℕ → ℕ → Bool
may_begin_header first second = (first == 255) && (second / 2 % 4 == 1)

-- how many bytes of a look are searched at once: 32 are seen after each of them
abbrev pub search_reach : ℕ
search_reach = 4064

-- no header is at this place of a look
abbrev pub HasNoHeader : List ℕ → ℕ → Type 0
HasNoHeader front k = (h : HeaderFields) → item_front (drop k front) ≡ Frame h → ⊥

-- a frame that these bytes begin with isn't usable
abbrev pub IsUnusable : List ℕ → Type 0
IsUnusable bytes = (role : Role) (offset : ℕ) (h : HeaderFields) → header_front bytes ≡ Ok h
    → is_usable role (record { offset = offset; header = h }) bytes ≡ false

-- No usable anchored frame is at this place of a look at the offset: there is no header, or
-- the look shows that there is no anchor at the frame's end, or that the frame isn't usable.
abbrev pub HasNoUsableFrame : Role → ℕ → List ℕ → ℕ → Type 0
HasNoUsableFrame role offset front k =
    (h : HeaderFields) → item_front (drop k front) ≡ Frame h
    → (k + length_of (class_of h) h.slot ≤ search_reach)
    × ((is_anchor (class_of h) (item_front (drop (k + length_of (class_of h) h.slot) front))
    ≡ false) ⊎ (is_usable role (record { offset = offset + k; header = h }) (drop k front) ≡ false))

-- no usable anchored frame is at this place, whatever the look's offset and the frame's role are
abbrev pub IsRuledOut : List ℕ → ℕ → Type 0
IsRuledOut front k = (role : Role) (offset : ℕ) → HasNoUsableFrame role offset front k

-- a whole item at an offset is read, given the bytes from there on: it isn't a frame, or is a
-- usable one
abbrev pub admits_item : Role → ℕ → Item → List ℕ → Bool
admits_item role at (Frame h) bytes = is_usable role (record { offset = at; header = h }) bytes
admits_item role at item bytes = true

-- this item is read there, or none is
abbrev pub IsItemRead : List ℕ → Role → ℕ → Option Step → Type 0
IsItemRead file role at None = item_read file role at ≡ None
IsItemRead file role at (Some step) = item_read file role at ≡ Some step.item
