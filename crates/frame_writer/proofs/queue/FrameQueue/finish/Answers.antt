-- The frames in order.
use Rattle.std.proofs.{Common.{arith, rules}, lemmas.Grind.common_steps}
use Rattle.frame_writer.proofs.WritingLemmas.{none-left}
use Rattle.outside.proofs.BufferOutputLemmas.{on_err, passed_nothing, passed_then}
use Rattle.outside.proofs.BufferOutputLemmas.{passed_then_prefix, passed_there}
use Rattle.frame_writer.proofs.queue.FrameQueue.finish.Goals as goal

pub loop-self-init : goal.loop-self-init
loop-self-init g c = grind (arith, passed_nothing)

pub loop-self-preserved : goal.loop-self-preserved
loop-self-preserved g c =
    grind (
      arith,
      passed_then c.loop-self.invariant.passed c.in_ok-take_first.ensures.passed,
      passed_there c.in_ok-take_first.ensures.passed,
    )

pub returns-in_err-take_first : goal.returns-in_err-take_first
returns-in_err-take_first g c = record {
  passed = search rules;
  none = search rules;
  prefix = on_err c.from_residual.result
      (passed_then_prefix c.loop-self.invariant.passed c.in_err-take_first.ensures.prefix);
  failed = search rules;
  done = search rules;
  counts = search rules;
}

pub returns : goal.returns
returns g c = grind (arith, none-left, common_steps)
