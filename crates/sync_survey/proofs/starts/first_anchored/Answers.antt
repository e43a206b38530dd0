-- The first offset at which there is an anchored frame.
use Rattle.std.proofs.Common.{arith, sym}
use Rattle.outside.proofs.BufferOutputLemmas.{err_at}
use Rattle.sync_survey.proofs.FoldersLemmas.{refusal_after, still_shown}
use Rattle.sync_survey.proofs.StartLemmas.{first_anchored-some, none_anchored}
use Rattle.sync_survey.proofs.starts.first_anchored.Goals as goal

pub returns-in_err-left-clause-refused : goal.returns-in_err-left-clause-refused
returns-in_err-left-clause-refused g c =
    err_at _ _ c.from_residual.ensures.1
    (λ allowed. refusal_after c.loop-at.invariant.read (c.in_err-left.ensures.refused allowed))

pub returns-in-Some-clause-first : goal.returns-in-Some-clause-first
returns-in-Some-clause-first g c = grind (arith, first_anchored-some, still_shown)

pub returns-in-Some-clause-placed : goal.returns-in-Some-clause-placed
returns-in-Some-clause-placed g c = grind arith

pub returns-clause-first : goal.returns-clause-first
returns-clause-first g c = λ bytes holds.
    sym (none_anchored bytes
    (c.requires.known.long bytes holds) (omega (arith, c.loop-at-test.false, c.min-at-end.ensures))
    (c.loop-at.invariant.none bytes holds))
