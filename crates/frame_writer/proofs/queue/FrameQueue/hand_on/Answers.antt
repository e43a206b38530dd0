-- The frames in order.
use Rattle.std.proofs.Common.{refl, rules, ◌∙◌}
use Rattle.frame_writer.proofs.WritingLemmas.{handed-none, handed-then, part-then}
use Rattle.frame_writer.specs.Writing.{waiting_bytes, writing_of}
use Rattle.outside.proofs.BufferOutputLemmas.{on_err, passed_nothing, passed_then}
use Rattle.outside.proofs.BufferOutputLemmas.{passed_then_prefix, passed_there}
use Rattle.frame_writer.proofs.queue.FrameQueue.hand_on.Goals as goal

pub loop-self-init : goal.loop-self-init
loop-self-init g c = record {
  passed = passed_nothing
      (waiting_bytes (writing_of c.args.self.now c.args.unsent.now)) c.requires.there;
  moved = handed-none c.args.self.now;
  class = refl;
  reach = refl;
  there = c.requires.there;
  counts = refl;
}

pub loop-self-preserved : goal.loop-self-preserved
loop-self-preserved g c = record {
  passed = passed_then c.loop-self.invariant.passed c.in_ok-take_first.ensures.passed;
  moved = handed-then c.loop-self.invariant.moved c.in_ok-take_first.ensures.moved;
  class = c.in_ok-take_first.ensures.class ∙ c.loop-self.invariant.class;
  reach = c.in_ok-take_first.ensures.reach (c.loop-self-test.ensures.0 refl)
      ∙ c.loop-self.invariant.reach;
  there = passed_there c.in_ok-take_first.ensures.passed;
  counts = c.in_ok-take_first.ensures.done ∙ c.loop-self.invariant.counts;
}

pub returns-in_err-take_first : goal.returns-in_err-take_first
returns-in_err-take_first g c = record {
  passed = search rules;
  moved = search rules;
  part = on_err c.from_residual.result
      (part-then
      c.loop-self.invariant.passed c.loop-self.invariant.moved c.in_err-take_first.ensures.part);
  class = search rules;
  reach =
      c.take_first.ensures.reach (c.loop-self-test.ensures.0 refl) ∙ c.loop-self.invariant.reach;
  unsettled = search rules;
  prefix = on_err c.from_residual.result
      (passed_then_prefix c.loop-self.invariant.passed c.in_err-take_first.ensures.prefix);
  failed = search rules;
  done = search rules;
  counts = search rules;
}
