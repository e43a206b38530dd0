-- What is left of the queue, and of the zeros after it.
use Rattle.std.proofs.Common.{ap, arith, drop, length-append, refl, ◌++◌, ◌-◌, ◌≡◌}
use Rattle.frame_writer.proofs.LaidLemmas.{laid_count-queue, left-is, length-zeros, taken-laid}
use Rattle.frame_writer.specs.Laid.{WaitingAreas, zeros}
use Rattle.frame_writer.proofs.areas.Areas.drop_first.Goals as goal

pub returns-clause-laid : goal.returns-clause-laid
returns-clause-laid c = λ given ps are.
    let n = c.args.count in
    let free = c.self.inside.free in
    let now = c.args.self.now.bytes in
    let less = free - (n - c.args.stored) in
    let left = c.drop_first.new.self in
    let leaves : left ++ zeros less ≡ drop n now =
    left-is free c.self.inside.queue
    (laid_count-queue n c.self.inside.queue c.self.view_is
    c.requires.stored)
    c.drop_first.ensures (ap (λ (w : WaitingAreas). w.bytes) c.self.view_is) c.requires.within in
    taken-laid n refl leaves
    (omega (arith, ap (λ (w : WaitingAreas). w.free) c.self.view_is))
    (omega (arith, length-append left (zeros less), length-zeros less)) are
