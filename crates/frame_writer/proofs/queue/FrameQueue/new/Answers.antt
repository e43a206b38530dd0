-- If there are no frames, nothing was taken.
use Rattle.std.proofs.Common.{ap, List, subst, sym, []}
use Rattle.circular_buffer.specs.Buffer.{Buffer}
use Rattle.frame_writer.{proofs.FrameLemmas.none-new, specs.Laid.{AreAreasLaid, WaitingAreas}}
use Rattle.frame_writer.specs.Writing.{IsNewQueue}
use Rattle.side_info.specs.FrameFields.{FrameFields}
use Rattle.frame_writer.proofs.queue.FrameQueue.new.Goals as goal

pub returns : goal.returns
returns c =
    let none = c.in_ok-new.ensures.none in
    subst (λ (w : WaitingAreas). IsNewQueue c.args.class (record {
      class = c.args.class;
      kept = c.in_ok-with_capacity.field-0.items;
      waiting = w;
    })) (sym none)
    (subst (λ (ks : List FrameFields). IsNewQueue c.args.class
    (record { class = c.args.class; kept = ks; waiting = record { bytes = []; free = 0 } }))
    (sym (ap (λ (b : Buffer FrameFields). b.items) c.in_ok-with_capacity.ensures))
    (none-new c.args.class (subst (λ w. AreAreasLaid [] w []) none c.in_ok-new.ensures.laid)))
