use Rattle.std.{proofs.Common.{arith, refl}, specs.Prelude.Err}
use Rattle.session.proofs.AnswerLemmas.{makes}
use Rattle.session.proofs.folder.GrowingFolderFolder.create_new.Goals as goal

pub returns-then-is_some : goal.returns-then-is_some
returns-then-is_some c = record {
  answer = makes c.args.self.now (record {
    alloc = c.args.self.now.alloc;
    by_name = c.args.self.now.by_name;
    tally = c.count_write_fault.new.self;
  }) (Err (record {})) tt (record {
    emptied = tt;
    kept = refl;
    done = tt;
    counted = c.count_write_fault.ensures.counted;
    counts = c.count_write_fault.ensures.later;
  });
}

pub returns : goal.returns
returns c = record {
  answer = makes c.args.self.now c.empty.new.self c.empty.result
      (grind arith) (record {
        emptied = c.empty.ensures.emptied;
        kept = c.empty.ensures.kept;
        done = c.empty.ensures.done;
        counted = c.empty.ensures.counted;
        counts = c.empty.ensures.counts;
      });
}
