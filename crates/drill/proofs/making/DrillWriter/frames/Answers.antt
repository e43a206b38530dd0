-- Frame by frame.
use Rattle.std.proofs.Common.{arith, subst, suc, ◌+◌, ◌∙◌, ◌≡◌}
use Rattle.drill.proofs.MakingLemmas.{before-first, before-more, made-more, made-none, made-part}
use Rattle.drill.specs.{Drill.drill_frames, Making.{drill_writing, HasMade}}
use Rattle.outside.proofs.{BufferOutputLemmas.on_err, FilesLemmas.appended_there}
use Rattle.drill.proofs.making.DrillWriter.frames.Goals as goal

pub loop-i-init : goal.loop-i-init
loop-i-init g c = grind (arith, before-first, made-none)

pub frame-requires-clause-there : goal.frame-requires-clause-there
frame-requires-clause-there g c = grind (arith, appended_there)

pub frame-requires-clause-next : goal.frame-requires-clause-next
frame-requires-clause-next g c = c.loop-i.invariant.next.next

pub returns-in_err-frame-clause-prefix : goal.returns-in_err-frame-clause-prefix
returns-in_err-frame-clause-prefix g c =
    let seen = g.D.Folder.seen in
    let inv = c.loop-i.invariant in
    on_err c.from_residual.result
    (made-part c.args.name.now inv.next inv.made c.loop-i-test.true c.frame.ensures.reach
    c.in_err-frame.ensures.part)

pub loop-i-preserved : goal.loop-i-preserved
loop-i-preserved g c =
    let seen = g.D.Folder.seen in
    let inv = c.loop-i.invariant in
    let seed = c.args.self.now.draws.state in
    let i = c.loop-i._i in
    let one : suc i ≡ i + 1 = omega arith in
    record {
      next = grind (arith, before-more);
      made =
          subst (λ n. HasMade c.args.name.now (drill_writing c.frame.new.self) (drill_frames seed n)
          (seen c.args.folder.now).files (seen c.frame.new.folder).files) one
          (made-more c.args.name.now inv.next inv.made c.in_ok-frame.ensures.written);
      counts = c.in_ok-frame.ensures.done ∙ inv.counts;
    }
