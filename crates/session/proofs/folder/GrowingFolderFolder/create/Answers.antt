use Rattle.session.proofs.AnswerLemmas.{creates}
use Rattle.session.proofs.folder.GrowingFolderFolder.create.Goals as goal

pub returns : goal.returns
returns c = record {
  answer = creates c.args.self.now c.empty.new.self c.empty.result (record {
    emptied = c.empty.ensures.emptied;
    kept = c.empty.ensures.kept;
    done = c.empty.ensures.done;
    counted = c.empty.ensures.counted;
    counts = c.empty.ensures.counts;
  });
}
