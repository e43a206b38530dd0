-- The Info frame counts the slots of the plan, which are those of the frames.
use Rattle.std.proofs.Common.{ap, map, sym, ◌∙◌}
use Rattle.laying.{proofs.LaidLemmas.laid-slots, specs.Laid.{frames_laid, laid_part}}
use Rattle.slot_plan.specs.{Plans.entries, declared.needs.Placed.Placed}
use Rattle.sync_survey.specs.Faults.{survey_view}
use Rattle.laying.proofs.selected.Selected.new.Goals as goal

pub returns-clause-writable : goal.returns-clause-writable
returns-clause-writable c = record {
  some = c.requires.some;
  within = c.requires.within;
  fits = c.requires.fitting.fits;
  info = λ file is first found.
      let s = survey_view c.args.survey.now in
      let laid = laid_part c.args.from c.args.to c.args.kept (entries c.args.plan) in
      c.info_bytes-info.ensures first (frames_laid laid file s) found
      (laid-slots laid is c.requires.some c.requires.within c.requires.fitting
      ∙ sym (ap (map (λ (p : Placed). p.slot)) c.placed.ensures));
}
