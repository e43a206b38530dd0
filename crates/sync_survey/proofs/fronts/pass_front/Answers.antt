-- One more item, or none.
use Rattle.std.proofs.Common.{arith}
use Rattle.outside.proofs.BufferOutputLemmas.{err_at}
use Rattle.sync_survey.proofs.FoldersLemmas.{none_read, read_more, refusal_after, still_shown}
use Rattle.sync_survey.proofs.FrontLemmas.{blocks_more, blocks_none, passed_all, passed_end}
use Rattle.sync_survey.proofs.FrontLemmas.{passed_more, passed_none}
use Rattle.sync_survey.proofs.fronts.pass_front.Goals as goal

pub loop-at-init : goal.loop-at-init
loop-at-init g c = search (arith, passed_none, blocks_none, none_read)

pub returns-in_err-left-clause-refused : goal.returns-in_err-left-clause-refused
returns-in_err-left-clause-refused g c =
    err_at _ _ c.from_residual.ensures.1
    (λ allowed. refusal_after c.loop-at.invariant.read (c.in_err-left.ensures.refused allowed))

pub returns-in_default-clause-front_end : goal.returns-in_default-clause-front_end
returns-in_default-clause-front_end g c = grind (arith, passed_all, still_shown)

pub returns-in_default-clause-blocks : goal.returns-in_default-clause-blocks
returns-in_default-clause-blocks g c = grind (arith, passed_all, still_shown)

pub loop-at-preserved : goal.loop-at-preserved
loop-at-preserved g c = grind (arith, passed_more, still_shown, blocks_more, read_more)

pub returns-clause-front_end : goal.returns-clause-front_end
returns-clause-front_end g c = grind (arith, passed_end)

pub returns-clause-blocks : goal.returns-clause-blocks
returns-clause-blocks g c = grind (arith, passed_end)
