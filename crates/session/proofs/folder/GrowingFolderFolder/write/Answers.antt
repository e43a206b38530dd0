use Rattle.std.proofs.Common.{ap, arith, rules}
use Rattle.outside.{proofs.FilesLemmas.appended_is, specs.Files.Told}
use Rattle.session.proofs.folder.GrowingFolderFolder.write.Goals as goal

pub returns-in-Ok-clause-answer : goal.returns-in-Ok-clause-answer
returns-in-Ok-clause-answer c = grind (arith, appended_is)

pub returns-in-Err-clause-answer : goal.returns-in-Err-clause-answer
returns-in-Err-clause-answer c = record {
  bound = tt;
  some = tt;
  written = tt;
  kept = ap Told c.in-Err.ensures.kept;
  failed = search rules;
  done = tt;
  counts = search rules;
}
