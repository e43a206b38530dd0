-- The survey, the change and the memory, each with its faults.
use Rattle.std.proofs.Common.{ap₂, subst, sym, ◌∙◌}
use Rattle.commands.proofs.{InputLemmas.{fault_is_input, of_survey_input}, RefusingLemmas.err_with}
use Rattle.commands.specs.declared.fault.EditFault.TheVariants.{Memory}
use Rattle.gain_edits.proofs.FadeLemmas.{change_early, change_early_behind, change_numbers}
use Rattle.gain_edits.proofs.FadeLemmas.{fade_makes, input_early, input_numbers, making_in}
use Rattle.gain_edits.specs.Fade.{fade_refuses}
use Rattle.outside.specs.{Files.{Holds, IsFileThere}, Seen.seen_folder}
use Rattle.sync_survey.specs.Faults.{survey_view}
use Rattle.gain_edits.proofs.fade_edit.FadeEditEdit.prepare.Goals as goal

pub returns-in_err-survey-clause-refused : goal.returns-in_err-survey-clause-refused
returns-in_err-survey-clause-refused g c =
    let edit = c.args.self.now in
    err_with _ _ c.from_residual.ensures.1 (input_early edit.sheet.now edit.back edit.input.now _ _
    _ (fault_is_input (making_in edit.sheet.now edit.back edit.input.now (g.D.Folder.seen
    c.args.folder.now).files) edit.input.now _ _ _ c.in_err-survey.ensures.refused))

pub returns-in_err-survey-clause-numbers : goal.returns-in_err-survey-clause-numbers
returns-in_err-survey-clause-numbers g c =
    let edit = c.args.self.now in
    err_with _ _ c.from_residual.ensures.1 (input_numbers edit.sheet.now edit.back edit.input.now _
    (of_survey_input fade_refuses _ c.in_err-survey.ensures.numbers))

pub returns-in_err-change-clause-refused : goal.returns-in_err-change-clause-refused
returns-in_err-change-clause-refused g c =
    let edit = c.args.self.now in
    let old = g.D.Folder.seen c.args.folder.now in
    err_with _ _ c.from_residual-in_err-change.ensures.1
    (change_early_behind edit.sheet.now edit.back {input = edit.input.now}
    {s = survey_view c.in_ok-survey.survey} {old = old} _ _ (record {
      there = c.in_ok-survey.ensures.there;
      surveyed = c.in_ok-survey.ensures.surveyed;
    }) (ap₂ seen_folder c.survey_at.ensures.reads.files c.in_ok-survey.ensures.reads.done)
    c.in_err-change.ensures.refused)

pub returns-in_err-change-clause-numbers : goal.returns-in_err-change-clause-numbers
returns-in_err-change-clause-numbers g c =
    let edit = c.args.self.now in
    err_with _ _ c.from_residual-in_err-change.ensures.1
    (change_numbers edit.sheet.now edit.back edit.input.now _ c.in_err-change.ensures.numbers)

pub returns-in_err-buffers-clause-refused : goal.returns-in_err-buffers-clause-refused
returns-in_err-buffers-clause-refused g c =
    let edit = c.args.self.now in
    err_with _ _ c.from_residual-in_err-buffers.ensures.1
    (change_early edit.sheet.now edit.back {input = edit.input.now}
    {s = survey_view c.in_ok-survey.survey} {old = g.D.Folder.seen c.args.folder.now} _ Memory
    (record {
      there = c.in_ok-survey.ensures.there;
      surveyed = c.in_ok-survey.ensures.surveyed;
    }) (ap₂ seen_folder (c.fade_change.ensures.reads.files ∙ c.survey_at.ensures.reads.files)
    (c.in_ok-change.ensures.reads.done ∙ c.in_ok-survey.ensures.reads.done)))

pub returns-clause-making : goal.returns-clause-making
returns-clause-making g c =
    let edit = c.args.self.now in
    let s = survey_view c.in_ok-survey.survey in
    let same = c.survey_at.ensures.reads.files in
    fade_makes edit.sheet.now edit.back {input = edit.input.now} {s = s}
    {old = g.D.Folder.seen c.args.folder.now} (record {
      there = c.in_ok-survey.ensures.there;
      surveyed = c.in_ok-survey.ensures.surveyed;
    }) c.in_ok-survey.ensures.octets
    (subst (λ f. IsFileThere f edit.sheet.now) same c.in_ok-change.ensures.there)
    (λ bytes holds. c.in_ok-change.ensures.change bytes
    (subst (λ f. Holds f edit.sheet.now bytes) (sym same) holds))
