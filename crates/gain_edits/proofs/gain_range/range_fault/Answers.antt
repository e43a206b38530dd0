-- The frames of a survey have their numbers.
use Rattle.std.proofs.Common.{arith, subst, sym}
use Rattle.moved_gains.proofs.CourseLemmas.{out_classed, out_few, out_numbered}
use Rattle.moved_gains.specs.Moving.{AreFramesOfClass}
use Rattle.sync_survey.specs.Faults.{survey_view}
use Rattle.gain_edits.proofs.gain_range.range_fault.Goals as goal

pub first_fault-requires-clause-classed : goal.first_fault-requires-clause-classed
first_fault-requires-clause-classed c =
    let s = survey_view c.args.survey.now in
    subst (λ class. AreFramesOfClass class c.frames.result.now) (sym c.class.ensures)
    (subst (AreFramesOfClass s.class) (sym c.frames.ensures) (out_classed c.requires))

pub first_fault-requires-clause-numbered : goal.first_fault-requires-clause-numbered
first_fault-requires-clause-numbered c = grind (arith, out_numbered c.requires)

pub first_fault-requires-clause-few : goal.first_fault-requires-clause-few
first_fault-requires-clause-few c = grind (arith, out_few c.requires)
