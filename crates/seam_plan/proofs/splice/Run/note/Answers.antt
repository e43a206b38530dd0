-- One more place, and that the last seven are enough.
use Rattle.std.proofs.Common.{arith, subst, ◌≡◌}
use Rattle.seam_plan.proofs.PlaceLemmas.{note-all, note-from, note-slid, Notes}
use Rattle.seam_plan.proofs.splice.Run.note.Goals as goal

pub loop-frame-preserved : goal.loop-frame-preserved
loop-frame-preserved c = search (arith, note-slid)

pub returns-clause-last : goal.returns-clause-last
returns-clause-last c = λ places is.
    let from = note-from
    c.max-first.ensures c.saturating_sub.ensures c.requires in
    let end : c.loop-frame.frame ≡ c.args.to = omega
    (arith, c.loop-frame-test.false, c.loop-frame.auto.frame, c.loop-frame.auto.frame-end, from.1)
    in
    note-all c.args.input from.0 from.1 from.2
    (subst (Notes c.args.self.now.last.items c.loop-frame.self.last.items c.args.input
    c.max-first.result) end c.loop-frame.invariant.last) places is
