-- The places so far, after those that were there.
use Rattle.std.proofs.Common.{◌≡◌}
use Rattle.seam_plan.proofs.PlaceLemmas.{Notes}
use Rattle.seam_plan.proofs.splice.Run.note.Given as goal

abbrev pub invariant-loop-frame : goal.invariant-loop-frame
invariant-loop-frame l = record {
  class : l.self.class ≡ l.fn.self.class;
  left : l.self.left ≡ l.fn.self.left;
  rest : l.self.rest ≡ l.fn.self.rest;
  last : Notes l.fn.self.last.items l.self.last.items l.input l.first l.frame;
}
