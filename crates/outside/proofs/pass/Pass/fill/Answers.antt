use Rattle.std.proofs.Common.{rules}
-- The fault is one of reading, and so is the cause.
use Rattle.std.proofs.lemmas.Result.{err_from_is_err_and}
use Rattle.outside.{proofs.PassLemmas.{read_cause, read_kind}, specs.Pass.route_of}
use Rattle.outside.proofs.pass.Pass.fill.Goals as goal

pub returns-in_err-fill_exact : goal.returns-in_err-fill_exact
returns-in_err-fill_exact g c = record {
  given = search rules;
  bytes = search rules;
  done = search rules;
  cause = let p = err_from_is_err_and c.from_residual.result c.from_residual.ensures.1 in
      rw (p.1, p.2) (read_cause (route_of c.args.self.now)
      (g.D.Folder.seen c.args.folder.now).files (g.D.Folder.seen c.args.folder.now).counts _
      c.in_err-fill_exact.field-0.0 c.in_err-fill_exact.ensures.cause);
  read = let p = err_from_is_err_and c.from_residual.result c.from_residual.ensures.1 in
      rw (p.1, p.2) (read_kind c.in_err-fill_exact.field-0.0);
  files = search rules;
  ready = search rules;
}
