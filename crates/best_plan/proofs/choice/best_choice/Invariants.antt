-- The least over the areas so far.
use Rattle.best_plan.proofs.RowLemmas.{IsChoiceTo}
use Rattle.best_plan.proofs.choice.best_choice.Given as goal

abbrev pub invariant-loop-place : goal.invariant-loop-place
invariant-loop-place l =
    IsChoiceTo l.window l.free l.bytes l.areas l.later l.place l.choice.sum l.choice.place
