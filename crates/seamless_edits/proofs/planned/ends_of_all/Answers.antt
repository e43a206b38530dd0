-- The first input and the last.
use Rattle.std.proofs.Common.{ap, arith, drop, length, List, map, suc, zero, ℕ, [], ◌+◌, ◌-◌, ◌∷◌}
use Rattle.std.proofs.{Common.{◌≡◌, ◌≤◌}, lemmas.List.length-map}
use Rattle.joined_inputs.proofs.InputLemmas.{can-some}
use Rattle.joined_inputs.specs.Inputs.{frames_together, input_view, InputFields}
use Rattle.seamless_edits.specs.{SpliceReady.{AreEnds, last_length}, declared.numbers.Ends.Ends}
use Rattle.sync_survey.specs.Row.{Row}
use Rattle.seamless_edits.proofs.planned.ends_of_all.Goals as goal

frames-most : (inputs : List InputFields) (n : ℕ) {i : InputFields} {rest : List InputFields}
    → drop n inputs ≡ i ∷ rest → length i.survey.frames ≤ frames_together inputs
unfolding frames_together
frames-most [] zero e = absurd cc
frames-most [] (suc n) e = absurd cc
frames-most (j ∷ inputs) zero {i} {rest} e = grind arith
frames-most (j ∷ inputs) (suc n) e = omega (arith, frames-most inputs n e)

last-at : (i : InputFields) (inputs : List InputFields) (n : ℕ) {last : InputFields}
    {rest : List InputFields} → drop n (i ∷ inputs) ≡ last ∷ rest → n ≡ length inputs
    → length last.survey.frames ≡ last_length i inputs
last-at i [] zero {last} {rest} e long = grind arith
last-at i [] (suc n) e long = absurd (omega (arith, long))
last-at i (j ∷ inputs) zero e long = absurd (omega (arith, long))
last-at i (j ∷ inputs) (suc n) e long = last-at j inputs n e (omega (arith, long))

ends-are : (inputs : List InputFields) (n : ℕ) {first last : InputFields}
    {behind rest : List InputFields} (ends : Ends) → drop 0 inputs ≡ first ∷ behind
    → drop n inputs ≡ last ∷ rest → n + 1 ≡ length inputs
    → ends ≡ record {
      class = first.survey.class;
      first = length first.survey.frames;
      last = length last.survey.frames;
    } → AreEnds inputs ends
ends-are [] n ends e f long is = absurd (omega (arith, long))
ends-are (i ∷ inputs) n {first} {last} {behind} {rest} ends e f long is = grind (arith, last-at)

pub overflow_cast-result : goal.overflow_cast-result
overflow_cast-result c =
    grind (arith, frames-most (map input_view c.args.inputs.now) 0 c.input_at.ensures)

pub overflow_cast-result-2 : goal.overflow_cast-result-2
overflow_cast-result-2 c = grind (arith, frames-most)

pub returns : goal.returns
returns c =
    let inputs = map input_view c.args.inputs.now in
    let some = can-some c.requires in
    let long : length c.args.inputs.now - 1 + 1 ≡ length inputs =
    omega (arith, some, length-map c.args.inputs.now input_view) in
    ends-are inputs (length c.args.inputs.now - 1) _
    c.input_at.ensures c.input_at-2.ensures long (λ i. record {
      class = c.class.ensures i;
      first = ap (λ (l : List Row). length l) c.frames.ensures i;
      last = ap (λ (l : List Row). length l) c.frames-2.ensures i;
    })
