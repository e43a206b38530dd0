-- One more frame.
use Rattle.std.proofs.Common.{ap, cond, List, sym, ℕ, [], ◌++◌, ◌∙◌, ◌∷◌}
use Rattle.seamless_edits.proofs.LostLemmas.{lost-next}
use Rattle.seamless_edits.proofs.apart.lost_numbers.Goals as goal

pub loop-number-preserved : goal.loop-number-preserved
loop-number-preserved c =
    let number = c.loop-number.number in
    let row = c.index-rows-number.result in
    c.in_ok-push_lost.ensures
    ∙ ap (λ (l : List ℕ). l ++ cond row.lost (number ∷ []) []) c.loop-number.invariant
    ∙ sym (lost-next c.args.rows.now c.loop-number-test.true
    (sym c.index-rows-number.is))
