use Rattle.std.proofs.Common.{rules}
use Rattle.outside.{proofs.FilesLemmas.emptied_is, specs.Memory.contents_of}
use Rattle.outside.proofs.memory.folder.MemFolderFolder.create.Goals as goal

pub returns-clause-answer : goal.returns-clause-answer
returns-clause-answer c = record {
  created = emptied_is (contents_of c.args.self.now)
      c.args.name.now (rw c.if-not-create.false at c.create.ensures.contents);
  kept = search rules;
  failed = search rules;
  done = search rules;
  counts = search rules;
}
