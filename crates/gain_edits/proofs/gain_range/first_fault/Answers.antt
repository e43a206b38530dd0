-- The first stuck gain is found.
use Rattle.std.proofs.Common.{arith, sym, ◌∙◌, ◌≡◌}
use Rattle.commands.proofs.RefusingLemmas.{first-behind, first-from}
use Rattle.gain_edits.proofs.gain_range.first_fault.Goals.{After-fault_at}
use Rattle.gain_edits.specs.GainRange.{row_range_fault}
use Rattle.moved_gains.{proofs.CourseLemmas.frame_steps, specs.Course.steps_at_offset}
use Rattle.gain_edits.proofs.gain_range.first_fault.Goals as goal

-- the row that is looked at is tested with the steps at its offset
judged : (c : After-fault_at)
    → row_range_fault (steps_at_offset c.args.course.now c.args.rows.now) c.index-rows-frame.result
    ≡ c.fault_at.result
judged c = grind (arith, frame_steps)

pub returns-in-Some : goal.returns-in-Some
returns-in-Some c =
    sym (c.loop-frame.invariant
    ∙ first-from (row_range_fault (steps_at_offset c.args.course.now c.args.rows.now))
    c.args.rows.now (omega (arith, c.loop-frame-test.true))
    c.index-rows-frame.is (judged (goal.at.returns-in-Some c).After-fault_at ∙ c.in-Some.is))

pub loop-frame-preserved : goal.loop-frame-preserved
loop-frame-preserved c =
    c.loop-frame.invariant
    ∙ first-from (row_range_fault (steps_at_offset c.args.course.now c.args.rows.now))
    c.args.rows.now (omega (arith, c.loop-frame-test.true))
    c.index-rows-frame.is (judged (goal.at.loop-frame-preserved c).After-fault_at ∙ c.in_default.is)

pub returns : goal.returns
returns c = grind (arith, first-behind)
