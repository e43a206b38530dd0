-- All frames, and then what waits.
use Rattle.std.proofs.lemmas.Result.{on_err_weaker, on_ok_weaker}
use Rattle.drill.proofs.MakingLemmas.{made-passed}
use Rattle.outside.proofs.BufferOutputLemmas.{on_err, passed_then, passed_then_all}
use Rattle.outside.proofs.BufferOutputLemmas.{passed_then_prefix, passed_there}
use Rattle.drill.proofs.making.DrillWriter.write.Goals as goal

pub finish-requires : goal.finish-requires
finish-requires g c =
    record {
      there = passed_there (made-passed c.args.name.now c.args.self.now.draws.state c.args.count
          c.in_ok-frames.ensures.made);
    }

pub returns-in_err-finish-clause-prefix : goal.returns-in_err-finish-clause-prefix
returns-in_err-finish-clause-prefix g c =
    on_err c.from_residual-in_err-finish.result
    (passed_then_prefix (made-passed c.args.name.now c.args.self.now.draws.state c.args.count
    c.in_ok-frames.ensures.made)
    c.in_err-finish.ensures.prefix)

pub finish-requires-2 : goal.finish-requires-2
finish-requires-2 g c = passed_there c.in_ok-finish.ensures.passed

pub returns-clause-written : goal.returns-clause-written
returns-clause-written g c =
    let all = passed_then (made-passed c.args.name.now c.args.self.now.draws.state c.args.count
    c.in_ok-frames.ensures.made)
    c.in_ok-finish.ensures.passed in
    on_ok_weaker c.finish-2.result (λ is. passed_then_all all is) c.finish-2.ensures.appended

pub returns-clause-prefix : goal.returns-clause-prefix
returns-clause-prefix g c =
    let all = passed_then (made-passed c.args.name.now c.args.self.now.draws.state c.args.count
    c.in_ok-frames.ensures.made)
    c.in_ok-finish.ensures.passed in
    on_err_weaker c.finish-2.result (λ part. passed_then_prefix all part) c.finish-2.ensures.prefix
