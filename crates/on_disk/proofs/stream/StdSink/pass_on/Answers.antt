use Rattle.std.proofs.Common.{arith}
use Rattle.on_disk.proofs.KnownLemmas.{kept_appends}
use Rattle.outside.proofs.BufferOutputLemmas.{on_err}
use Rattle.on_disk.proofs.stream.StdSink.pass_on.Goals as goal

pub returns-in_err-count-clause-prefix : goal.returns-in_err-count-clause-prefix
returns-in_err-count-clause-prefix g c =
    on_err c.from_residual.result (record {
      count = 0;
      within = omega arith;
      grew = kept_appends _ _ c.in_err-count.ensures.passed;
    })
