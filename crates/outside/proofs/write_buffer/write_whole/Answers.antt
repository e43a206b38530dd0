use Rattle.std.proofs.Common.{rules}
use Rattle.outside.proofs.BufferOutputLemmas.{on_err, prefix_of_front}
use Rattle.outside.proofs.write_buffer.write_whole.Goals as goal

pub returns-in_err-write_all : goal.returns-in_err-write_all
returns-in_err-write_all g c = record {
  within = search rules;
  few = search rules;
  written = search rules;
  prefix = let h = c.in_err-write_all.ensures.front in
      on_err c.from_residual.result (prefix_of_front _
      (record { count = h.0; short = h.1; files = h.2 }));
  failed = search rules;
  done = search rules;
  counts = search rules;
}
