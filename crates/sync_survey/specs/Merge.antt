-- A walk over two lists that are in order of offset.
use Rattle.std.specs.Prelude.{drop, List, map, None, Option, Some, ℕ, [], ◌+◌, ◌∷◌, ◌≡◌}
use Rattle.sync_survey.specs.Order.{IsFirstAfter, IsFirstFrom, IsFirstUntil, merged_list}
use Rattle.sync_survey.specs.declared.merge.Entry.{Entry, TheVariants.{First, Second}}
use Rattle.sync_survey.specs.declared.merge.Merge.{Merge}

module _ {A B : Type 0} where
  -- what the walk hasn't met yet of the first list
  abbrev pub firsts_left : Merge A B → List A
  firsts_left m = drop m.next_first m.firsts.now

  -- what the walk hasn't met yet of the second list
  abbrev pub seconds_left : Merge A B → List B
  seconds_left m = drop m.next_second m.seconds.now

  -- this was the next entry of the first list, and nothing else changed
  pub record PassesFirst (a : A) (old new : Merge A B) : Type 0 where
    pub firsts : firsts_left old ≡ a ∷ firsts_left new
    pub seconds : seconds_left new ≡ seconds_left old
    pub number : new.next_second ≡ old.next_second

  -- this was the next entry of the second list, and nothing else changed
  pub record PassesSecond (b : B) (old new : Merge A B) : Type 0 where
    pub seconds : seconds_left old ≡ b ∷ seconds_left new
    pub firsts : firsts_left new ≡ firsts_left old
    pub number : new.next_second ≡ old.next_second + 1

module _ {A B : Type 0} (first_at : A → ℕ) (second_at : B → ℕ) where
  -- the offset of an entry of either list
  abbrev pub entry_offset : Entry A B → ℕ
  entry_offset (First a) = first_at a
  entry_offset (Second b) = second_at b

  -- the next entry isn't one of the second of these lists: none of it is left, or the next of the
  -- first is at or before its next
  abbrev pub IsNoSecondNext : List A → List B → Type 0
  IsNoSecondNext firsts [] = Unit {0}
  IsNoSecondNext firsts (b ∷ seconds) = IsFirstUntil first_at (second_at b) firsts

  -- the next entry of this walk isn't one of the second list
  abbrev pub HasNoSecondNext : Merge A B → Type 0
  HasNoSecondNext m = IsNoSecondNext (firsts_left m) (seconds_left m)

  -- the walk met the entry at the smallest offset, one of the first list before one of the second;
  -- or none, if none is left, and then nothing changed
  abbrev pub Meets : Merge A B → Option (Entry A B) → Merge A B → Type 0
  Meets old None new = (firsts_left old ≡ []) × (seconds_left old ≡ []) × (new ≡ old)
  Meets old (Some (First a)) new =
      PassesFirst a old new × IsFirstFrom second_at (first_at a) (seconds_left old)
  Meets old (Some (Second b)) new =
      PassesSecond b old new × IsFirstAfter first_at (second_at b) (firsts_left old)

  -- what the walk hasn't met yet, in order
  unfoldable pub entries_left : Merge A B → List (Entry A B)
  entries_left m =
      merged_list entry_offset (map First (firsts_left m)) (map Second (seconds_left m))
