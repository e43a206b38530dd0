-- The first joint frame is found.
use Rattle.std.proofs.Common.{arith, sym, ◌∙◌}
use Rattle.commands.proofs.RefusingLemmas.{first-behind, first-from}
use Rattle.gain_edits.specs.Channels.{joint_refusal}
use Rattle.gain_edits.proofs.channels.joint_fault.Goals as goal

pub returns-in-Some : goal.returns-in-Some
returns-in-Some c =
    sym (c.loop-row.invariant
    ∙ first-from joint_refusal c.args.rows.now
    (omega (arith, c.loop-row-test.true)) c.row-item.is (sym c.joint_at.ensures ∙ c.in-Some.is))

pub loop-row-preserved : goal.loop-row-preserved
loop-row-preserved c =
    c.loop-row.invariant
    ∙ first-from joint_refusal c.args.rows.now
    (omega (arith, c.loop-row-test.true)) c.row-item.is (sym c.joint_at.ensures ∙ c.in_default.is)

pub returns : goal.returns
returns c = grind (arith, first-behind)
