-- One more piece is passed on.
use Rattle.std.proofs.Common.{arith}
use Rattle.outside.proofs.PassLemmas.{copies_begun, copies_failed, copies_more}
use Rattle.outside.proofs.pass.Pass.copy.Goals as goal

pub loop-at-init : goal.loop-at-init
loop-at-init g c = grind (arith, copies_begun)

pub returns-in_err-copy_piece : goal.returns-in_err-copy_piece
returns-in_err-copy_piece g c =
    copies_failed c.loop-at.invariant c.min-n.result
    (omega (arith, c.min-n.ensures, c.loop-at.invariant.in_range))
    c.from_residual.result _ _ c.from_residual.ensures.1 c.in_err-copy_piece.ensures

pub loop-at-preserved : goal.loop-at-preserved
loop-at-preserved g c =
    copies_more c.loop-at.invariant c.min-n.result
    (omega (arith, c.min-n.ensures, c.loop-at.invariant.in_range)) c.in_ok-copy_piece.ensures
