-- What may be lost of any name still may be.
use Rattle.std.proofs.Common.{Ok, rules}
use Rattle.outside.{proofs.FilesLemmas.untold_files-written, specs.declared.folder.Failed.Failed}
use Rattle.acceptance.proofs.tests.taken.TakenFolder.write.Goals as goal

pub returns : goal.returns
returns c = record {
  answer = record {
    bound = search rules;
    some = search rules;
    written = untold_files-written {E = Failed} (Ok _) c.args.name.now c.args.bytes.now;
    kept = search rules;
    failed = search rules;
    done = search rules;
    counts = search rules;
  };
}
