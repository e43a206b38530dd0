-- The survey, the chosen frames with their plan, and the memory, each with its faults.
use Rattle.std.proofs.Common.{ap, ap₂, List, Ok, subst, sym, ℕ, ◌∙◌}
use Rattle.commands.proofs.InputLemmas.{fault_is_input, input_is_early, input_numbers}
use Rattle.commands.proofs.{InputLemmas.{memory_is_input, of_survey_input}, RefusingLemmas.err_with}
use Rattle.commands.specs.SingleOutput.{IsEarlyFault, IsInputFault, Making, most_frames}
use Rattle.commands.specs.declared.fault.EditFault.TheVariants.{Memory}
use Rattle.cut_edits.proofs.{ChosenLemmas.task_makes, LaidPassLemmas.{work_layable, work_makes}}
use Rattle.cut_edits.proofs.edit.FrameEditEdit.prepare.Goals.{In_ok-chosen}
use Rattle.cut_edits.specs.Choices.{choosing_of, refuses_of_choice, task_of_choice}
use Rattle.cut_edits.specs.Chosen.{first_planning, laying_making, laying_stream, Planning}
use Rattle.cut_edits.specs.{Chosen.slot_choices, declared.edit.FrameEdit.FrameEdit}
use Rattle.laying.proofs.SurveyFrameLemmas.{survey-had}
use Rattle.outside.specs.{Files.Holds, Seen.seen_folder}
use Rattle.sync_survey.specs.{Faults.survey_view, MainData.StreamFrame}
use Rattle.cut_edits.proofs.edit.FrameEditEdit.prepare.Given as given
use Rattle.cut_edits.proofs.edit.FrameEditEdit.prepare.Goals as goal

-- what the command makes, and its stream
abbrev plan_in : FrameEdit → Planning
plan_in edit = first_planning (slot_choices edit.least)

abbrev make_in : FrameEdit → Making
make_in edit = laying_making (choosing_of edit.choice) (plan_in edit)

abbrev streams_in : FrameEdit → List ℕ → List StreamFrame
streams_in edit = laying_stream (choosing_of edit.choice) (plan_in edit)

pub returns-in_err-survey-clause-refused : goal.returns-in_err-survey-clause-refused
returns-in_err-survey-clause-refused g c =
    let edit = c.args.self.now in
    err_with _ _ c.from_residual.ensures.1 (input_is_early (make_in edit) (streams_in edit)
    (refuses_of_choice edit.choice) edit.input.now _ _ _
    (fault_is_input (make_in edit) edit.input.now _ _ _ c.in_err-survey.ensures.refused))

pub returns-in_err-survey-clause-numbers : goal.returns-in_err-survey-clause-numbers
returns-in_err-survey-clause-numbers g c =
    let edit = c.args.self.now in
    err_with _ _ c.from_residual.ensures.1 (input_numbers (make_in edit) (streams_in edit)
    (refuses_of_choice edit.choice) edit.input.now _
    (of_survey_input (refuses_of_choice edit.choice) _ c.in_err-survey.ensures.numbers))

pub returns-in_err-chosen-clause-refused : goal.returns-in_err-chosen-clause-refused
returns-in_err-chosen-clause-refused g c =
    let edit = c.args.self.now in
    let by = make_in edit in
    let new = g.D.Folder.seen c.find.new.folder in
    err_with _ _ c.from_residual-in_err-chosen.ensures.1 (input_is_early by (streams_in edit)
    (refuses_of_choice edit.choice) edit.input.now _ _ _
    (subst (λ old. IsInputFault by edit.input.now old new c.in_err-chosen.field-0.0)
    (ap₂ seen_folder c.survey_at.ensures.reads.files c.in_ok-survey.ensures.reads.done)
    (c.in_err-chosen.ensures.refused (plan_in edit))))

-- running out of memory, once the frames were chosen
forgot : (g : given.Over) (c : In_ok-chosen g) → IsEarlyFault
    (task_of_choice c.args.self.now.choice c.args.self.now.least c.args.self.now.input.now)
    (g.D.Folder.seen c.args.folder.now) (g.D.Folder.seen c.find.new.folder) Memory
forgot g c =
    let edit = c.args.self.now in
    let input = c.args.self.now.input.now in
    input_is_early (make_in edit) (streams_in edit) (refuses_of_choice edit.choice) input _ _ Memory
    (memory_is_input (make_in edit) input _ _
    (survey_view c.in_ok-survey.survey) c.in_ok-survey.ensures.there c.in_ok-survey.ensures.surveyed
    (ap₂ seen_folder (c.find.ensures.reads.files ∙ c.survey_at.ensures.reads.files)
    (c.in_ok-chosen.ensures.reads.done ∙ c.in_ok-survey.ensures.reads.done)))

pub returns-in_err-selected-clause-refused : goal.returns-in_err-selected-clause-refused
returns-in_err-selected-clause-refused g c =
    err_with _ _ c.from_residual-in_err-selected.ensures.1 (forgot g
    (goal.at.returns-in_err-selected-clause-refused g c).In_ok-chosen)

pub returns-in_err-work-clause-refused : goal.returns-in_err-work-clause-refused
returns-in_err-work-clause-refused g c =
    err_with _ _ c.from_residual-in_err-work.ensures.1 (forgot g
    (goal.at.returns-in_err-work-clause-refused g c).In_ok-chosen)

pub returns-clause-ready : goal.returns-clause-ready
returns-clause-ready g c =
    work_layable
    c.in_ok-work.ensures
    c.in_ok-survey.ensures.there c.in_ok-survey.ensures.laid
    (λ bytes holds. survey-had most_frames
    (c.in_ok-survey.ensures.surveyed bytes holds)) c.in_ok-selected.ensures.writable

pub returns-clause-making : goal.returns-clause-making
returns-clause-making g c =
    let edit = c.args.self.now in
    let files = (g.D.Folder.seen c.args.folder.now).files in
    let s = survey_view c.in_ok-survey.survey in
    work_makes
    c.in_ok-work.ensures
    (task_makes (choosing_of edit.choice) (plan_in edit)
    (refuses_of_choice edit.choice)
    c.in_ok-survey.ensures.there c.in_ok-survey.ensures.surveyed c.in_ok-survey.ensures.octets
    (λ bytes holds. c.in_ok-chosen.ensures.chosen bytes (subst (λ f. Holds f edit.input.now bytes)
    (sym c.survey_at.ensures.reads.files) holds)) (ap Ok (sym c.in_ok-selected.ensures.laid)))
