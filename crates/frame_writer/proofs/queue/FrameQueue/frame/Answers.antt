use Rattle.std.proofs.Common.{rules}
-- The frame waits, and then what is settled is forwarded.
use Rattle.frame_writer.proofs.WritingLemmas.{err-map, ok-both, writes-on, writes-part}
use Rattle.frame_writer.specs.Writing.{writing_of}
use Rattle.frame_writer.proofs.queue.FrameQueue.frame.Goals as goal

pub returns-clause-answer : goal.returns-clause-answer
returns-clause-answer g c = record {
  written = ok-both c.hand_on.result
      (writes-on c.args.name.now c.args.frame.now (writing_of c.args.self.now c.args.unsent.now)
      c.push.new.self c.push.ensures.written)
      c.hand_on.ensures.passed
      c.hand_on.ensures.moved;
  passed = search rules;
  part = err-map c.hand_on.result
      (writes-part c.args.name.now c.args.frame.now (writing_of c.args.self.now c.args.unsent.now)
      c.push.new.self c.push.ensures.written)
      c.hand_on.ensures.part;
  prefix = search rules;
  class = search rules;
  reach = search rules;
  failed = search rules;
  done = search rules;
  counts = search rules;
}
