-- The bytes up to `at` were passed on.
use Rattle.std.proofs.Common.{◌-◌}
use Rattle.outside.proofs.PassLemmas.{CopiesUpTo}
use Rattle.moved_gains.proofs.buffers.GainBuffers.copy.Given as goal

abbrev pub invariant-loop-at : goal.invariant-loop-at
invariant-loop-at g l =
    CopiesUpTo l.pass l.fn.from l.at l.fn.to l.fn.self.waiting l.self.waiting l.self.feed
    (g.D.Folder.seen l.fn.folder) (g.D.Folder.seen l.folder)

abbrev pub decreases-loop-at : goal.decreases-loop-at
decreases-loop-at g l = l.to - l.at
