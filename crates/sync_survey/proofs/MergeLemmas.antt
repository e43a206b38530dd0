-- A walk over two lists meets the entries of both in order.
use Rattle.std.proofs.Common.{ap, map, MatchOption, None, Option, refl, Some, sym, ℕ, [], ◌∙◌, ◌∷◌}
use Rattle.std.proofs.Common.{◌≡◌}
use Rattle.sync_survey.proofs.OrderLemmas.{after_map, from_map, merged_other, merged_own}
use Rattle.sync_survey.specs.Merge.{entries_left, entry_offset, firsts_left, Meets, seconds_left}
use Rattle.sync_survey.specs.{Order.merged_list, declared.merge.Entry.Entry}
use Rattle.sync_survey.specs.declared.merge.{Entry.TheVariants.{First, Second}, Merge.Merge}

module _ {A B : Type 0} (first_at : A → ℕ) (second_at : B → ℕ) (old : Merge A B) where
  -- what the walk met is the first of what was left, and the others are left
  pub met : (result : Option (Entry A B)) (new : Merge A B)
      → Meets first_at second_at old result new
      → MatchOption result (entries_left first_at second_at old
      ≡ []) (λ e. entries_left first_at second_at old ≡ e ∷ entries_left first_at second_at new)
  unfolding entries_left merged_list
  met None new none = rw (none.0, none.1) refl
  met (Some (First a)) new meets =
      let key : Entry A B → ℕ = entry_offset first_at second_at in
      ap (λ fs. merged_list key (map First fs) (map Second (seconds_left old))) meets.0.firsts
      ∙ merged_own key (map First (firsts_left new)) (map Second (seconds_left old))
      (from_map key Second (first_at a) (seconds_left old) meets.1)
      ∙ ap (λ ss. First a ∷ merged_list key (map First (firsts_left new)) (map Second ss))
      (sym meets.0.seconds)
  met (Some (Second b)) new meets =
      let key : Entry A B → ℕ = entry_offset first_at second_at in
      ap (λ ss. merged_list key (map First (firsts_left old)) (map Second ss)) meets.0.seconds
      ∙ merged_other key (map First (firsts_left old)) (map Second (seconds_left new))
      (after_map key First (second_at b) (firsts_left old) meets.1)
      ∙ ap (λ fs. Second b ∷ merged_list key (map First fs) (map Second (seconds_left new)))
      (sym meets.0.firsts)
