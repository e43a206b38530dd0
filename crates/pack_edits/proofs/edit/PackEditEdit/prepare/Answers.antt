-- The survey, the chosen frames, their plan, and the memory, each with its faults.
use Rattle.std.proofs.Common.{ap₂, subst, sym, ◌∙◌}
use Rattle.commands.proofs.{InputLemmas.memory_is_input, RefusingLemmas.err_with}
use Rattle.commands.specs.{SingleOutput.most_frames, declared.fault.EditFault.TheVariants.Memory}
use Rattle.cut_edits.proofs.{ChosenLemmas.task_makes, LaidPassLemmas.{work_layable, work_makes}}
use Rattle.cut_edits.specs.Chosen.{all_choice, chosen_in, chosen_needs, laying_making}
use Rattle.laying.proofs.SurveyFrameLemmas.{survey-had}
use Rattle.outside.specs.{Files.Holds, Seen.seen_folder}
use Rattle.pack_edits.proofs.ModeLemmas.{mode_early, mode_makes, mode_numbers}
use Rattle.pack_edits.proofs.PackingLemmas.{input_moved, plan_is_input, plan_numbers}
use Rattle.pack_edits.specs.Modes.{mode_planning, mode_refuses}
use Rattle.sync_survey.specs.Faults.{survey_view}
use Rattle.pack_edits.proofs.edit.PackEditEdit.prepare.Goals as goal

pub returns-in_err-chosen-clause-refused : goal.returns-in_err-chosen-clause-refused
returns-in_err-chosen-clause-refused g c =
    let edit = c.args.self.now in
    let make = laying_making all_choice (mode_planning edit.mode) in
    let old = g.D.Folder.seen c.args.folder.now in
    err_with _ _ c.from_residual-in_err-chosen.ensures.1
    (mode_early edit.mode edit.input.now old _ _
    (λ file holds. (_, c.in_ok-survey.ensures.limited file holds))
    (input_moved make edit.input.now _ _ (ap₂ seen_folder c.survey_packed.ensures.reads.files
    c.in_ok-survey.ensures.reads.done) (c.in_err-chosen.ensures.refused make)))

pub returns-in_err-chosen-clause-numbers : goal.returns-in_err-chosen-clause-numbers
returns-in_err-chosen-clause-numbers g c =
    let edit = c.args.self.now in
    err_with _ _ c.from_residual-in_err-chosen.ensures.1 (mode_numbers edit.mode edit.input.now _
    (c.in_err-chosen.ensures.numbers (mode_refuses edit.mode)))

pub returns-in_err-selected-clause-refused : goal.returns-in_err-selected-clause-refused
returns-in_err-selected-clause-refused g c =
    let edit = c.args.self.now in
    let old = g.D.Folder.seen c.args.folder.now in
    err_with _ _ c.from_residual-in_err-selected.ensures.1
    (mode_early edit.mode edit.input.now old _ _
    (λ file holds. (_, c.in_ok-survey.ensures.limited file holds))
    (plan_is_input (mode_planning edit.mode) (mode_refuses edit.mode)
    edit.input.now c.in_ok-survey.ensures.there c.in_ok-survey.ensures.surveyed
    (λ bytes holds. c.in_ok-chosen.ensures.chosen bytes
    (subst (λ f. Holds f edit.input.now bytes) (sym c.survey_packed.ensures.reads.files) holds))
    (ap₂ seen_folder (c.all_choice.ensures.reads.files ∙ c.survey_packed.ensures.reads.files)
    (c.in_ok-chosen.ensures.reads.done ∙ c.in_ok-survey.ensures.reads.done)) _
    c.in_err-selected.ensures.refused))

pub returns-in_err-selected-clause-numbers : goal.returns-in_err-selected-clause-numbers
returns-in_err-selected-clause-numbers g c =
    let edit = c.args.self.now in
    let s = survey_view c.in_ok-survey.survey in
    err_with _ _ c.from_residual-in_err-selected.ensures.1
    (mode_numbers edit.mode edit.input.now _
    (plan_numbers (mode_planning edit.mode) (mode_refuses edit.mode)
    s.class (chosen_needs (chosen_in c.in_ok-chosen.chosen) s) _ c.in_err-selected.ensures.refused))

pub returns-in_err-work-clause-refused : goal.returns-in_err-work-clause-refused
returns-in_err-work-clause-refused g c =
    let edit = c.args.self.now in
    let old = g.D.Folder.seen c.args.folder.now in
    err_with _ _ c.from_residual-in_err-work.ensures.1
    (mode_early edit.mode edit.input.now old _ Memory
    (λ file holds. (_, c.in_ok-survey.ensures.limited file holds))
    (memory_is_input (laying_making all_choice (mode_planning edit.mode)) edit.input.now old _
    (survey_view c.in_ok-survey.survey) c.in_ok-survey.ensures.there c.in_ok-survey.ensures.surveyed
    (ap₂ seen_folder (c.all_choice.ensures.reads.files ∙ c.survey_packed.ensures.reads.files)
    (c.in_ok-chosen.ensures.reads.done ∙ c.in_ok-survey.ensures.reads.done))))

pub returns-clause-ready : goal.returns-clause-ready
returns-clause-ready g c =
    work_layable
    c.in_ok-work.ensures
    c.in_ok-survey.ensures.there c.in_ok-survey.ensures.laid
    (λ bytes holds. survey-had most_frames (c.in_ok-survey.ensures.surveyed bytes holds))
    c.in_ok-selected.ensures.writable

pub returns-clause-making : goal.returns-clause-making
returns-clause-making g c =
    let edit = c.args.self.now in
    let files = (g.D.Folder.seen c.args.folder.now).files in
    let s = survey_view c.in_ok-survey.survey in
    let selected = c.in_ok-selected.selected in
    work_makes c.in_ok-work.ensures
    (mode_makes edit.mode
    (λ file holds. (_, c.in_ok-survey.ensures.limited file holds))
    (task_makes all_choice (mode_planning edit.mode) (mode_refuses edit.mode)
    c.in_ok-survey.ensures.there c.in_ok-survey.ensures.surveyed c.in_ok-survey.ensures.octets
    (λ bytes holds. c.in_ok-chosen.ensures.chosen bytes (subst (λ f. Holds f edit.input.now bytes)
    (sym c.survey_packed.ensures.reads.files) holds)) c.in_ok-selected.ensures.laid))
