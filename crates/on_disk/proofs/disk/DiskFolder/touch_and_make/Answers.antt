-- The name was noted, and no other.
use Rattle.std.proofs.Common.{ap, true}
use Rattle.on_disk.proofs.TouchedLemmas.{touch_made, touch_there, touch_unmade}
use Rattle.on_disk.specs.Names.{touched_in}
use Rattle.on_disk.proofs.disk.DiskFolder.touch_and_make.Goals as goal

pub make_new-requires : goal.make_new-requires
make_new-requires g c = record {
  noted_first =
      touch_there (touched_in c.args.self.now.touched) c.args.name.now true
      c.in_ok-add_made.ensures.added;
}

pub returns-clause-made : goal.returns-clause-made
returns-clause-made g c =
    touch_made (touched_in c.args.self.now.touched) c.args.name.now
    (ap touched_in c.make_new.ensures.touched) c.in_ok-add_made.ensures.added
    c.make_new.result

pub returns-clause-kept : goal.returns-clause-kept
returns-clause-kept g c =
    touch_unmade (touched_in c.args.self.now.touched) c.args.name.now
    (ap touched_in c.make_new.ensures.touched) c.in_ok-add_made.ensures.added
    c.make_new.result
