-- If there are no zeros, nothing is forwarded.
use Rattle.std.proofs.Common.{ap, append-nil, List, rules, subst, sym, ℕ, ◌++◌, ◌∙◌}
use Rattle.frame_writer.specs.Laid.{zeros}
use Rattle.outside.{proofs.BufferOutputLemmas.passed_nothing, specs.BufferOutput.AppendsWaiting}
use Rattle.frame_writer.proofs.areas.add_zeros.Goals as goal

pub returns-then-count-eq0 : goal.returns-then-count-eq0
returns-then-count-eq0 g c = record {
  passed = let files = (g.D.Folder.seen c.args.folder.now).files in
      let unsent = c.args.unsent.now in
      subst (λ (xs : List ℕ). AppendsWaiting c.args.name.now xs unsent files files)
      (sym (ap (λ n. unsent ++ zeros n) c.if-count-eq0.true ∙ append-nil unsent))
      (passed_nothing unsent c.requires.there);
  prefix = search rules;
  failed = search rules;
  done = search rules;
  counts = search rules;
}
