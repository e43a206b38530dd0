-- The name was noted, and no other.
use Rattle.std.proofs.Common.{ap, false}
use Rattle.on_disk.proofs.TouchedLemmas.{touch_emptied, touch_failed, touch_there}
use Rattle.on_disk.specs.Names.{touched_in}
use Rattle.on_disk.proofs.disk.DiskFolder.touch_and_empty.Goals as goal

pub make_empty-requires : goal.make_empty-requires
make_empty-requires g c = record {
  noted_first =
      touch_there (touched_in c.args.self.now.touched) c.args.name.now false
      c.in_ok-add_created.ensures.added;
}

pub returns-clause-emptied : goal.returns-clause-emptied
returns-clause-emptied g c =
    touch_emptied (touched_in c.args.self.now.touched) c.args.name.now
    (ap touched_in c.make_empty.ensures.touched) c.in_ok-add_created.ensures.added
    c.make_empty.result

pub returns-clause-kept : goal.returns-clause-kept
returns-clause-kept g c =
    touch_failed (touched_in c.args.self.now.touched) c.args.name.now
    (ap touched_in c.make_empty.ensures.touched) c.in_ok-add_created.ensures.added
    c.make_empty.result
