use Rattle.std.proofs.Common.{rules, subst, sym, ◌<◌, ◌∙◌, ◌≡◌, ◌⊎◌}
use Rattle.on_disk.proofs.disk.DiskFolderFolder.read.Goals as goal

pub returns-clause-answer : goal.returns-clause-answer
returns-clause-answer g c = record {
  bound = search rules;
  bytes = search rules;
  rest = search rules;
  end = search rules;
  within = search rules;
  ended = search rules;
  failed = search rules;
  files = search rules;
  got = λ more. c.count_read.ensures.got (subst (λ room. (0 < c.in-Ok.count) ⊎ (room ≡ 0))
      (sym c.read_there.auto.into) more) ∙ c.in-Ok.ensures.aside.tally;
  done = search rules;
  counts = search rules;
}
