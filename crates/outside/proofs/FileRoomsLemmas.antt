-- What the names hold after the slot of one of them changed.
use Rattle.std.proofs.Common.{ap, List, Option, refl, Some, string_bytes, sym, ℕ, [], ◌++◌, ◌∙◌}
use Rattle.std.proofs.{Common.◌≡◌, lemmas.Map.Text.btree_map_updates_text}
use Rattle.std.specs.{BTreeMap.{get_by_text, UpdatesBy}, Cmp.Lexicographic.slice_cmp, Map.update}
use Rattle.std.specs.Ordering.{nat_cmp}
use Rattle.std.specs.Prelude.{Bool, bytes_eq, cond, false, if◌then◌else◌, option_map, true}
use Rattle.std.specs.{Prelude.unwrap_or, String.string_cmp}
use Rattle.outside.proofs.FilesLemmas.{update_held}
use Rattle.outside.specs.FileRooms.{content_in, content_of, contents_in, rooms_in}
use Rattle.outside.specs.{Files.with_file, declared.memory.file_rooms.FileRoom.FileRoom}
use Rattle.outside.specs.declared.memory.file_rooms.FileRooms.{FileRooms}

-- the name's slot is this one, and every other is unchanged
abbrev pub Sets : FileRooms → FileRooms → List ℕ → FileRoom → Type 0
Sets old new name slot = UpdatesBy string_cmp
    (λ key. slice_cmp nat_cmp name (string_bytes key)) old.by_name new.by_name (Some slot)

module _ (old new : FileRooms) (name : List ℕ) {slot : FileRoom}
    (sets : Sets old new name slot) where
  -- the name has the contents of the slot, and all others are unchanged
  pub contents_set : contents_in new ≡ update bytes_eq (contents_in old) name (content_of slot)
  contents_set =
      λ i q. (ap content_in (btree_map_updates_text name old.by_name new.by_name (Some slot) sets q)
      ∙ at (bytes_eq name q) (get_by_text old.by_name q)) i
    where
      at : (b : Bool) (o : Option FileRoom)
          → content_in (cond b (Some slot) o) ≡ cond b (content_of slot) (content_in o)
      at true o = refl
      at false o = refl

  -- it has the slot's room, and all others are unchanged
  pub rooms_set : rooms_in new ≡ update bytes_eq (rooms_in old) name (Some slot.buffer.room)
  rooms_set = λ i q. (ap (option_map (λ s. s.buffer.room)) (btree_map_updates_text name old.by_name
      new.by_name (Some slot) sets q) ∙ at (bytes_eq name q) (get_by_text old.by_name q)) i
    where
      at : (b : Bool) (o : Option FileRoom) → option_map (λ s. s.buffer.room) (cond b (Some slot) o)
          ≡ cond b (Some slot.buffer.room) (option_map (λ s. s.buffer.room) o)
      at true o = refl
      at false o = refl

  -- where the name had a slot before:
  module _ {before : FileRoom} (was : Some before ≡ get_by_text old.by_name name) where
    -- the name had the contents of that slot
    pub content_before : contents_in old name ≡ content_of before
    content_before = sym (ap content_in was)

    -- with the same room, all rooms are unchanged
    pub rooms_stay : slot.buffer.room ≡ before.buffer.room → rooms_in new ≡ rooms_in old
    rooms_stay same =
        rooms_set
        ∙ update_held name
        (sym (ap (option_map (λ (s : FileRoom). s.buffer.room)) was)
        ∙ ap (λ (room : ℕ). Some room) (sym same))

    -- if the slot has a file of these bytes, the name has them
    pub contents_written : {bytes : List ℕ} → content_of slot ≡ Some bytes
        → contents_in new ≡ with_file (contents_in old) name bytes
    unfolding with_file
    contents_written is = contents_set ∙ ap (update bytes_eq (contents_in old) name) is

    -- the slot took more bytes if they fit, and otherwise is unchanged
    pub contents_appended : (fits : Bool) (more : List ℕ) → content_of slot
        ≡ (if fits then Some (unwrap_or (content_of before) [] ++ more) else content_of before)
        → contents_in new ≡ (if fits then with_file (contents_in old) name
        (unwrap_or (contents_in old name) [] ++ more) else contents_in old)
    contents_appended true more is = contents_written
        (is ∙ ap (λ (o : Option (List ℕ)). Some (unwrap_or o [] ++ more)) (sym content_before))
    contents_appended false more is = contents_set
        ∙ update_held name (content_before ∙ sym is)
