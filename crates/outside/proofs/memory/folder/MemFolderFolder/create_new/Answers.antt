use Rattle.std.proofs.Common.{arith, rules}
use Rattle.outside.{proofs.FilesLemmas.new_is, specs.Memory.contents_of}
use Rattle.outside.proofs.memory.folder.MemFolderFolder.create_new.Goals as goal

pub returns-clause-answer : goal.returns-clause-answer
returns-clause-answer c = record {
  missing = grind arith;
  created = new_is (contents_of c.args.self.now)
      c.args.name.now (rw c.if-not-create.false at c.create.ensures.contents);
  kept = search rules;
  failed = search rules;
  done = search rules;
  counts = search rules;
}
