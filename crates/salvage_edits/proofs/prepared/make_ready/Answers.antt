-- All frames are chosen, and have their plan.
use Rattle.std.proofs.Common.{arith}
use Rattle.commands.specs.SingleOutput.{most_frames}
use Rattle.cut_edits.specs.Chosen.{AreChosenThere}
use Rattle.salvage_edits.{proofs.CommandLemmas.ready-of, specs.Salvaged.all_chosen}
use Rattle.sync_survey.specs.Faults.{survey_view}
use Rattle.salvage_edits.proofs.prepared.make_ready.Goals as goal

pub plan_file-requires : goal.plan_file-requires
plan_file-requires c =
    let s = survey_view c.args.mended.survey in
    let there : AreChosenThere most_frames (all_chosen s) s = record {
      laid = c.requires.laid;
      few = c.requires.few;
      some = c.requires.laid.some;
      within = omega arith;
    } in
    rw c.all_frames.ensures there

pub returns : goal.returns
returns c = λ input files mended there octets.
    ready-of input {m = c.args.mended} {selected = c.in_ok-selected.selected}
    (record { is = mended; there = there; octets = octets; placed = c.requires.laid })
    (record {
      made = c.in_ok-laid.ensures;
      own = rw c.all_frames.ensures at c.in_ok-selected.ensures;
      unsaid = c.in_ok-sending.ensures;
      reports = λ d emptied gaps. record { gaps = gaps; emptied = emptied };
    })
