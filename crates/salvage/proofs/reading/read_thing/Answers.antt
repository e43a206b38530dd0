-- A later frame is read and kept.
use Rattle.std.proofs.Common.{ap, arith, length, rules, ◌∙◌}
use Rattle.salvage.proofs.ReadingStepLemmas.{IsReadOn, keeps_on, look_failed}
use Rattle.salvage.specs.declared.usable.Role.TheVariants.{Later}
use Rattle.sync_survey.proofs.{FoldersLemmas.shown_in, StepLemmas.room_passed}
use Rattle.salvage.proofs.reading.read_thing.Goals as goal

pub returns-in_err-left : goal.returns-in_err-left
returns-in_err-left g c =
    look_failed c.from_residual.result c.from_residual.ensures.1 c.requires.fed
    c.in_err-left.ensures.reads (c.in_err-left.ensures.refused 0) c.in_err-left.ensures.outside

pub keep-requires-clause-room : goal.keep-requires-clause-room
keep-requires-clause-room g c = room_passed c.in-Some.ensures.passes
    (ap length c.bytes-front.ensures ∙ c.in_ok-left.ensures.many)

pub returns : goal.returns
returns g c =
    let on : IsReadOn (g.D.Folder.seen c.args.folder.now) c.args.name.now c.args.begun.now
    c.args.found.now c.in-Some.step.item c.in-Some.step.size c.bytes-front.result.now
    c.in_ok-left.left (Later c.class-class.result) = record {
      shows = λ bytes holds.
          shown_in c.bytes-front.ensures (c.in_ok-left.ensures.shows bytes holds);
      later = ap Later c.class-class.ensures;
      read = c.in-Some.ensures.read;
      begins = c.requires.begun;
      reading = c.requires.reading;
      usable = c.in-Some.ensures.usable;
      passes = c.in-Some.ensures.passes;
      within = omega (
        arith,
        c.in-Some.ensures.passes.within,
        c.in_ok-left.ensures.left,
        c.requires.before,
      );
    } in
    keeps_on on {now = g.D.Folder.seen c.look.new.folder} c.keep.ensures.kept c.keep.ensures.few
    c.in_ok-left.ensures.reads.done (search rules)
