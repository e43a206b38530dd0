use Rattle.std.proofs.Common.{rules}
-- A piece that was read is passed on, and all is ready for the next.
use Rattle.std.proofs.lemmas.Result.{on_ok_weaker}
use Rattle.outside.proofs.{BufferOutputLemmas.err_at, PassLemmas.{passed_ready, prefix_nothing}}
use Rattle.outside.specs.Pass.{bytes_at}
use Rattle.outside.proofs.pass.Pass.copy_piece.Goals as goal

pub returns-in_err-fill : goal.returns-in_err-fill
returns-in_err-fill g c = record {
  written = search rules;
  prefix = err_at c.from_residual.result _ c.from_residual.ensures.1
      (prefix_nothing c.args.self.now (bytes_at c.args.at c.args.n)
      c.args.waiting.now
      c.in_err-fill.ensures.read c.in_err-fill.ensures.files c.requires.ready.target);
  done = search rules;
  cause = search rules;
  ready = search rules;
}

pub returns : goal.returns
returns g c = record {
  written = search rules;
  prefix = search rules;
  done = search rules;
  cause = search rules;
  ready = on_ok_weaker c.push.result
      (λ passed. passed_ready passed c.in_ok-fill.ensures.ready)
      c.push.ensures.passed;
}
