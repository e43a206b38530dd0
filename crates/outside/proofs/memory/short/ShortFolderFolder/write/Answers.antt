use Rattle.std.proofs.Common.{rules}
use Rattle.outside.proofs.FilesLemmas.{untold_files-written}
use Rattle.outside.proofs.memory.short.ShortFolderFolder.write.Goals as goal

pub returns-clause-answer : goal.returns-clause-answer
returns-clause-answer c = record {
  bound = search rules;
  some = search rules;
  written = untold_files-written c.write.result c.args.name.now c.args.bytes.now;
  kept = search rules;
  failed = search rules;
  done = search rules;
  counts = search rules;
}
