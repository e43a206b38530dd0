-- The starts rise.
use Rattle.std.proofs.Common.{ap, append-nil, arith, Bool, cond, false, get_or, inl, inr, length}
use Rattle.std.proofs.Common.{List, None, not, Option, refl, Some, subst, sym, true, ℕ, [], ◌++◌}
use Rattle.std.proofs.Common.{◌+◌, ◌<◌, ◌||◌, ◌∙◌, ◌∷◌, ◌≡◌, ◌≤◌}
use Rattle.std.proofs.lemmas.{Bool.{cases_lt, leb-true}, List.Quantifiers.all_pairs_push}
use Rattle.std.{proofs.lemmas.Option.none-some, specs.List.last_or}
use Rattle.cue_sheet.specs.Cues.{cue_fault_of, has_track, is_later_start, is_started, IsRising}
use Rattle.cue_sheet.specs.{Cues.times_of, declared.cue_fault.CueFault.CueFault}
use Rattle.cue_sheet.specs.declared.cue_fault.CueFault.TheVariants.{Line, NotRising}
use Rattle.cue_sheet.specs.declared.entry.CueEntry.{CueEntry}
use Rattle.cue_sheet.specs.declared.entry.CueEntry.TheVariants.{Broken, File, Index, Passed, Start}
use Rattle.cue_sheet.specs.declared.entry.CueEntry.TheVariants.{Track}

last_is : (x d : ℕ) (xs : List ℕ) → last_or (Some x) xs ≡ Some (get_or (x ∷ xs) (length xs) d)
last_is x d [] = refl
last_is x d (y ∷ ys) = last_is y d ys

-- no time is later than the last
none_above : {x : ℕ} (xs : List ℕ) → IsRising (x ∷ xs) → {k : ℕ} (d : ℕ) → k < length (x ∷ xs)
    → get_or (x ∷ xs) k d ≤ get_or (x ∷ xs) (length xs) d
none_above {x} xs rising {k} d within =
    elim (cases_lt k (length xs)) [
      | inl less ↦ omega (arith, rising k (length xs) d less (omega arith))
      | inr end ↦ let same : k ≡ length xs = omega (arith, end, within) in
          omega (arith, ap (λ i. get_or (x ∷ xs) i d) same)
    ]

is_above : (x : ℕ) {time : ℕ} (xs : List ℕ) → is_later_start (last_or (Some x) xs) time ≡ true
    → (d : ℕ) → get_or (x ∷ xs) (length xs) d < time
is_above x {time} xs behind d =
    leb-true _ _ (ap (λ o. is_later_start o time) (sym (last_is x d xs)) ∙ behind)

-- rising times and one that is later than the last of them rise
pub more_rising : (times : List ℕ) (time : ℕ) → IsRising times
    → is_later_start (last_or None times) time ≡ true → IsRising (times ++ (time ∷ []))
more_rising [] time rising behind =
    all_pairs_push (λ s t. s < t) [] time rising (λ k d within. absurd (omega (arith, within)))
more_rising (x ∷ xs) time rising behind = all_pairs_push (λ s t. s < t) (x ∷ xs) time rising
    (λ k d within. omega (arith, none_above xs rising d within, is_above x xs behind d))

no_fault : (a b : Bool) (line : ℕ)
    → None ≡ cond {A = Option CueFault} a (Some (Line line)) (cond b None (Some (NotRising line)))
    → b ≡ true
no_fault a true line none = refl
no_fault true false line none = absurd (none-some _ none)
no_fault false false line none = absurd (none-some _ none)

-- the times still rise with one line more that isn't at fault
pub rises : (before : List CueEntry) (entry : CueEntry) → IsRising (times_of before)
    → None ≡ cue_fault_of before entry → IsRising (times_of before ++ times_of (entry ∷ []))
unfolding cue_fault_of
rises before Passed rising none = subst IsRising (sym (append-nil (times_of before))) rising
rises before File rising none = subst IsRising (sym (append-nil (times_of before))) rising
rises before Track rising none = subst IsRising (sym (append-nil (times_of before))) rising
rises before Index rising none = subst IsRising (sym (append-nil (times_of before))) rising
rises before (Start time) rising none =
    more_rising (times_of before) time rising
    (no_fault (not (has_track before) || is_started before)
    (is_later_start (last_or None (times_of before)) time) (length before + 1) none)
rises before Broken rising none = subst IsRising (sym (append-nil (times_of before))) rising
