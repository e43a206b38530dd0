-- Whether a gain of some frames leaves its range, frame by frame.
use Rattle.std.proofs.Common.{arith, List, None, Option, ℕ, ◌∷◌, ◌≡◌}
use Rattle.commands.proofs.RefusingLemmas.{first-cons, none_both, none_first}
use Rattle.gain_edits.specs.GainRange.{out_of_range_refusal, range_fault}
use Rattle.moved_gains.specs.{Edited.row_out_of_range, declared.gains.OutOfRange.OutOfRange}
use Rattle.requests.specs.declared.shift.Steps.{Steps}
use Rattle.sync_survey.specs.Row.{Row}

stuck_none : (at : ℕ) {s : Option OutOfRange} → out_of_range_refusal at s ≡ None → s ≡ None
stuck_none at e = grind arith

-- if no gain of all frames leaves its range, none of the first does, and none of the others
pub frame-none : (steps : ℕ → Steps) (row : Row) (rows : List Row)
    → range_fault steps (row ∷ rows) ≡ None
    → (row_out_of_range (steps row.offset) row ≡ None) × (range_fault steps rows ≡ None)
frame-none steps row rows none = grind (arith, none_first, first-cons, stuck_none)

-- if no gain of the first frame is stuck and none of the others is, none of all is
pub none-frame : (steps : ℕ → Steps) (row : Row) (rows : List Row)
    → row_out_of_range (steps row.offset) row
    ≡ None → range_fault steps rows ≡ None → range_fault steps (row ∷ rows) ≡ None
none-frame steps row rows here rest = grind (arith, first-cons, none_both)
