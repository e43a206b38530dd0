-- The survey, the change and the memory, each with its faults.
use Rattle.std.proofs.Common.{ap₂, subst, sym, ◌∙◌}
use Rattle.commands.proofs.InputLemmas.{fault_is_input, input_is_early, input_numbers}
use Rattle.commands.proofs.{InputLemmas.{memory_is_input, of_survey_input}, RefusingLemmas.err_with}
use Rattle.commands.specs.declared.fault.EditFault.TheVariants.{Memory}
use Rattle.gain_edits.proofs.ProperLemmas.{edit_makes}
use Rattle.gain_edits.specs.Change.{change_making, moved_file_stream}
use Rattle.gain_edits.specs.Changes.{changing_of, refuses_of_changes, steps_of_changes}
use Rattle.outside.specs.{Files.Holds, Seen.seen_folder}
use Rattle.sync_survey.specs.Faults.{survey_view}
use Rattle.gain_edits.proofs.edit.GainEditEdit.prepare.Goals as goal

pub returns-in_err-survey-clause-refused : goal.returns-in_err-survey-clause-refused
returns-in_err-survey-clause-refused g c =
    let edit = c.args.self.now in
    err_with _ _
    c.from_residual.ensures.1 (input_is_early (change_making (changing_of edit.changes))
    (moved_file_stream (steps_of_changes edit.changes))
    (refuses_of_changes edit.changes) edit.input.now _ _ _
    (fault_is_input (change_making (changing_of edit.changes)) edit.input.now _ _ _
    c.in_err-survey.ensures.refused))

pub returns-in_err-survey-clause-numbers : goal.returns-in_err-survey-clause-numbers
returns-in_err-survey-clause-numbers g c =
    let edit = c.args.self.now in
    err_with _ _ c.from_residual.ensures.1 (input_numbers (change_making (changing_of edit.changes))
    (moved_file_stream (steps_of_changes edit.changes))
    (refuses_of_changes edit.changes) edit.input.now _
    (of_survey_input (refuses_of_changes edit.changes) _ c.in_err-survey.ensures.numbers))

pub returns-in_err-buffers-clause-refused : goal.returns-in_err-buffers-clause-refused
returns-in_err-buffers-clause-refused g c =
    let edit = c.args.self.now in
    err_with _ _ c.from_residual-in_err-buffers.ensures.1
    (input_is_early (change_making (changing_of edit.changes))
    (moved_file_stream (steps_of_changes edit.changes))
    (refuses_of_changes edit.changes) edit.input.now (g.D.Folder.seen c.args.folder.now) _ Memory
    (memory_is_input (change_making (changing_of edit.changes))
    edit.input.now (g.D.Folder.seen c.args.folder.now) _
    (survey_view c.in_ok-survey.survey) c.in_ok-survey.ensures.there c.in_ok-survey.ensures.surveyed
    (ap₂ seen_folder (c.find.ensures.files ∙ c.survey_at.ensures.reads.files)
    (c.in_ok-change.ensures.done ∙ c.in_ok-survey.ensures.reads.done))))

pub returns-clause-making : goal.returns-clause-making
returns-clause-making g c =
    let edit = c.args.self.now in
    let s = survey_view c.in_ok-survey.survey in
    edit_makes edit.changes c.in_ok-survey.ensures.there
    c.in_ok-survey.ensures.surveyed c.in_ok-survey.ensures.octets
    (λ bytes holds. c.in_ok-change.ensures.change bytes
    (subst (λ f. Holds f edit.input.now bytes) (sym c.survey_at.ensures.reads.files) holds))
