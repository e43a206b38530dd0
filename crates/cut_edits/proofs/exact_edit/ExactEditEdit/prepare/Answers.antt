-- The survey, the head, the span, the frames with their plan, and the memory, each with its faults.
use Rattle.std.proofs.Common.{ap, ap₂, arith, List, Option, subst, sym, ℕ, ◌∙◌, ◌≡◌}
use Rattle.commands.proofs.InputLemmas.{fault_is_input, input_is_early, input_numbers}
use Rattle.commands.proofs.InputLemmas.{memory_is_input, of_survey_input, refused_is_input}
use Rattle.commands.proofs.RefusingLemmas.{err_with}
use Rattle.commands.specs.SingleOutput.{IsEarlyFault, IsMaking, Making}
use Rattle.commands.specs.declared.fault.EditFault.TheVariants.{Memory}
use Rattle.cut_edits.proofs.HeadLemmas.{head_is_input, head_numbers, survey_without_head-length}
use Rattle.cut_edits.proofs.LaidPassLemmas.{work_layable, work_makes}
use Rattle.cut_edits.proofs.PieceLemmas.{exact-makes, exact-refused, span-survey_without_head}
use Rattle.cut_edits.proofs.PieceLemmas.{survey_without_head-relaid}
use Rattle.cut_edits.proofs.exact_edit.ExactEditEdit.prepare.Goals.{In_ok-span}
use Rattle.cut_edits.specs.Exact.{exact_making, exact_refuses, exact_stream, exact_task, file_span}
use Rattle.cut_edits.specs.{Exact.span_piece, declared.exact_edit.ExactEdit.ExactEdit}
use Rattle.info_header.specs.declared.fields.Info.{Info}
use Rattle.laying.specs.{KeptFields.fields_of_head, Laid.{file_laid, selected_part}}
use Rattle.laying.specs.Surveys.{CanBeRelaid}
use Rattle.outside.specs.{Files.Holds, Seen.seen_folder}
use Rattle.sync_survey.{proofs.EmptiedLemmas.apart-laid, specs.Faults.{survey_view, SurveyFields}}
use Rattle.sync_survey.specs.{MainData.StreamFrame, Survey.IsSurveyLaidOut}
use Rattle.cut_edits.proofs.exact_edit.ExactEditEdit.prepare.Given as given
use Rattle.cut_edits.proofs.exact_edit.ExactEditEdit.prepare.Goals as goal

-- what the command makes, and its stream
abbrev make_in : ExactEdit → Making
make_in edit = exact_making edit.from.now edit.to.now

abbrev streams_in : ExactEdit → List ℕ → List StreamFrame
streams_in edit = exact_stream edit.from.now edit.to.now

pub returns-in_err-survey-clause-refused : goal.returns-in_err-survey-clause-refused
returns-in_err-survey-clause-refused g c =
    let edit = c.args.self.now in
    err_with _ _ c.from_residual.ensures.1 (input_is_early (make_in edit)
    (streams_in edit) exact_refuses edit.input.now _ _ _
    (fault_is_input (make_in edit) edit.input.now _ _ _ c.in_err-survey.ensures.refused))

pub returns-in_err-survey-clause-numbers : goal.returns-in_err-survey-clause-numbers
returns-in_err-survey-clause-numbers g c = grind (arith, err_with, input_numbers, of_survey_input)

pub returns-in_err-head-clause-refused : goal.returns-in_err-head-clause-refused
returns-in_err-head-clause-refused g c =
    grind (
      arith,
      err_with,
      input_is_early,
      head_is_input,
      g.D.Folder.seen,
      c.from_residual-in_err-head.ensures.1,
      c.in_err-head.field-0.0,
      c.survey_at.ensures.reads.files,
      c.in_ok-survey.ensures.reads.done,
      c.in_err-head.ensures.refused,
    )

pub returns-in_err-head-clause-numbers : goal.returns-in_err-head-clause-numbers
returns-in_err-head-clause-numbers g c = grind (arith, err_with, input_numbers, head_numbers)

pub returns-in_err-span-clause-refused : goal.returns-in_err-span-clause-refused
returns-in_err-span-clause-refused g c =
    let edit = c.args.self.now in
    let s = survey_view c.in_ok-survey.survey in
    err_with _ _ c.from_residual-in_err-span.ensures.1 (input_is_early (make_in edit)
    (streams_in edit) exact_refuses edit.input.now _ _ _
    (refused_is_input (make_in edit) edit.input.now _ _ s exact_refuses
    c.in_err-span.ensures.refusal c.in_ok-survey.ensures.there c.in_ok-survey.ensures.surveyed
    (λ bytes holds. exact-refused edit.from.now edit.to.now bytes s
    (ap (λ (h : Option Info). file_span edit.from.now edit.to.now h s)
    (sym (c.as_ref.ensures.value ∙ c.in_ok-head.ensures.head bytes
    (subst (λ f. Holds f edit.input.now bytes) (sym c.survey_at.ensures.reads.files) holds)))
    ∙ c.in_err-span.ensures.span))
    (ap₂ seen_folder (c.read_head.ensures.reads.files ∙ c.survey_at.ensures.reads.files)
    (c.in_ok-head.ensures.reads.done ∙ c.in_ok-survey.ensures.reads.done))))

-- running out of memory, once the span was found
forgot : (g : given.Over) (c : In_ok-span g) → IsEarlyFault
    (exact_task c.args.self.now.from.now c.args.self.now.to.now c.args.self.now.input.now)
    (g.D.Folder.seen c.args.folder.now) (g.D.Folder.seen c.read_head.new.folder) Memory
forgot g c =
    let edit = c.args.self.now in
    input_is_early (make_in edit) (streams_in edit) exact_refuses edit.input.now _ _ Memory
    (memory_is_input (make_in edit) edit.input.now _ _
    (survey_view c.in_ok-survey.survey) c.in_ok-survey.ensures.there c.in_ok-survey.ensures.surveyed
    (ap₂ seen_folder (c.read_head.ensures.reads.files ∙ c.survey_at.ensures.reads.files)
    (c.in_ok-head.ensures.reads.done ∙ c.in_ok-survey.ensures.reads.done)))

pub returns-in_err-selected-clause-refused : goal.returns-in_err-selected-clause-refused
returns-in_err-selected-clause-refused g c = grind (arith, err_with, forgot)

pub returns-in_err-work-clause-refused : goal.returns-in_err-work-clause-refused
returns-in_err-work-clause-refused g c = grind (arith, err_with, forgot)

-- the survey whose head is set apart is laid out
pub select_piece-requires-clause-laid : goal.select_piece-requires-clause-laid
select_piece-requires-clause-laid g c = subst IsSurveyLaidOut (sym c.set_apart.ensures)
    (apart-laid (survey_view c.in_ok-survey.survey) c.in_ok-survey.ensures.laid)

pub select_piece-requires-clause-few : goal.select_piece-requires-clause-few
select_piece-requires-clause-few g c =
    grind (arith, survey_without_head-length (survey_view c.in_ok-survey.survey))

pub select_piece-requires-clause-there : goal.select_piece-requires-clause-there
select_piece-requires-clause-there g c =
    grind (
      arith,
      span-survey_without_head
          c.in_ok-span.ensures.there,
    )

pub returns-clause-ready : goal.returns-clause-ready
returns-clause-ready g c =
    let s = survey_view c.in_ok-survey.survey in
    work_layable
    c.in_ok-work.ensures c.in_ok-survey.ensures.there
    (subst IsSurveyLaidOut (sym c.set_apart.ensures) (apart-laid s c.in_ok-survey.ensures.laid))
    (λ bytes holds. subst (CanBeRelaid bytes) (sym c.set_apart.ensures)
    (survey_without_head-relaid
    (c.in_ok-survey.ensures.surveyed bytes holds))) c.in_ok-selected.ensures.writable

pub returns-clause-making : goal.returns-clause-making
returns-clause-making g c =
    let edit = c.args.self.now in
    let files = (g.D.Folder.seen c.args.folder.now).files in
    let s = survey_view c.in_ok-survey.survey in
    let task = exact_task edit.from.now edit.to.now edit.input.now in
    let laid = selected_part c.in_ok-selected.selected in
    let span = c.in_ok-span.span in
    let read : (bytes : List ℕ) → Holds files edit.input.now bytes
    → c.in_ok-head.head ≡ fields_of_head bytes s.head =
    λ bytes holds. c.in_ok-head.ensures.head bytes
    (subst (λ f. Holds f edit.input.now bytes) (sym c.survey_at.ensures.reads.files) holds) in
    work_makes
    c.in_ok-work.ensures
    (subst (λ (t : SurveyFields). IsMaking task (λ file. file_laid laid file t) files)
    (sym c.set_apart.ensures)
    (exact-makes edit.from.now edit.to.now
    c.in_ok-survey.ensures.there c.in_ok-survey.ensures.surveyed c.in_ok-survey.ensures.octets
    (λ bytes holds. ap (λ (h : Option Info). file_span edit.from.now edit.to.now h s)
    (sym (c.as_ref.ensures.value ∙ read bytes holds)) ∙ c.in_ok-span.ensures.span)
    (λ bytes holds.
    c.in_ok-selected.ensures.laid bytes (subst (CanBeRelaid bytes) (sym c.set_apart.ensures)
    (survey_without_head-relaid (c.in_ok-survey.ensures.surveyed bytes holds)))
    ∙ ap₂ (λ (h : Option Info) (t : SurveyFields). span_piece h span bytes t)
    (c.as_ref-2.ensures.value ∙ read bytes holds) c.set_apart.ensures)))
