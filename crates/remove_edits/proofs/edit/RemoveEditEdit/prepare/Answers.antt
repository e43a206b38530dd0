-- The survey, the parts that stay, the head, the plan, and the memory, each with its faults.
use Rattle.std.proofs.Common.{ap, ap₂, arith, length, List, Option, subst, sym, ℕ, ◌∙◌, ◌≡◌, ◌≤◌}
use Rattle.std.specs.Prelude.{option_copied}
use Rattle.commands.proofs.InputLemmas.{fault_is_input, input_is_early, memory_is_input}
use Rattle.commands.proofs.{InputLemmas.refused_is_input, RefusingLemmas.err_with}
use Rattle.commands.specs.SingleOutput.{IsEarlyFault, Making}
use Rattle.commands.specs.declared.fault.EditFault.TheVariants.{Memory}
use Rattle.cut_edits.proofs.HeadLemmas.{survey_without_head-length}
use Rattle.cut_edits.proofs.PieceLemmas.{head_long, survey_without_head-relaid}
use Rattle.cut_edits.specs.{Chosen.cut_refuses, Exact.survey_without_head}
use Rattle.info_header.specs.declared.fields.Info.{Info}
use Rattle.laying.specs.{KeptFields.fields_of_head, Surveys.CanBeRelaid}
use Rattle.outside.specs.{Files.Holds, Seen.seen_folder}
use Rattle.remove_edits.proofs.CommandLemmas.{remove-makes, remove-refused}
use Rattle.remove_edits.proofs.EditLemmas.{left-few, parts-splice, planned-file, planned-ready}
use Rattle.remove_edits.proofs.edit.RemoveEditEdit.prepare.Goals.{After-as_ref}
use Rattle.remove_edits.specs.Ready.{ArePartsLeft, IsRemovalPlanned}
use Rattle.remove_edits.specs.Removed.{remove_making, remove_stream, remove_task}
use Rattle.remove_edits.specs.declared.edit.RemoveEdit.{RemoveEdit}
use Rattle.sync_survey.{proofs.EmptiedLemmas.apart-laid, specs.Faults.{survey_view, SurveyFields}}
use Rattle.sync_survey.specs.{MainData.StreamFrame, Survey.IsSurveyLaidOut}
use Rattle.remove_edits.proofs.edit.RemoveEditEdit.prepare.Given as given
use Rattle.remove_edits.proofs.edit.RemoveEditEdit.prepare.Goals as goal

-- what the command makes, and its stream
abbrev make_in : RemoveEdit → Making
make_in edit = remove_making edit.stretches.now

abbrev streams_in : RemoveEdit → List ℕ → List StreamFrame
streams_in edit = remove_stream edit.stretches.now

pub returns-in_err-survey-clause-refused : goal.returns-in_err-survey-clause-refused
returns-in_err-survey-clause-refused g c =
    let edit = c.args.self.now in
    err_with _ _ c.from_residual.ensures.1 (input_is_early (make_in edit)
    (streams_in edit) cut_refuses edit.input.now _ _ _
    (fault_is_input (make_in edit) edit.input.now _ _ _ c.in_err-survey.ensures.refused))

pub returns-in_err-parts-clause-refused : goal.returns-in_err-parts-clause-refused
returns-in_err-parts-clause-refused g c =
    let edit = c.args.self.now in
    let s = survey_view c.in_ok-survey.survey in
    err_with _ _ c.from_residual-in_err-parts.ensures.1 (input_is_early (make_in edit)
    (streams_in edit) cut_refuses edit.input.now _ _ _
    (refused_is_input (make_in edit) edit.input.now _ _ s cut_refuses
    c.in_err-parts.ensures.refusal c.in_ok-survey.ensures.there c.in_ok-survey.ensures.surveyed
    (λ bytes holds. remove-refused edit.stretches.now bytes s c.in_err-parts.ensures.parts)
    (ap₂ seen_folder c.survey_at.ensures.reads.files c.in_ok-survey.ensures.reads.done)))

-- the survey whose head is set apart is laid out
apart : (g : given.Over) (c : After-as_ref g)
    → IsSurveyLaidOut (survey_view c.set_apart.new.survey)
apart g c = subst IsSurveyLaidOut (sym c.set_apart.ensures)
    (apart-laid (survey_view c.in_ok-survey.survey) c.in_ok-survey.ensures.laid)

-- the parts that stay can be laid as one splice
splice : (g : given.Over) (c : After-as_ref g)
    → ArePartsLeft (survey_view c.set_apart.new.survey) c.in_ok-parts.parts.items
splice g c =
    parts-splice (survey_view c.in_ok-survey.survey) c.set_apart.ensures (apart g c)
    c.in_ok-parts.ensures.there

-- they are at most 51
few : (g : given.Over) (c : After-as_ref g) → length c.in_ok-parts.parts.items ≤ 51
few g c =
    left-few c.args.self.now.stretches.now (survey_view c.in_ok-survey.survey)
    c.in_ok-parts.ensures.parts c.requires.0

pub prepare-requires-clause-splice : goal.prepare-requires-clause-splice
prepare-requires-clause-splice g c =
    let s = survey_view c.in_ok-survey.survey in
    record {
      are = splice g c;
      many = few g c;
      few = omega (
        arith,
        ap (λ (t : SurveyFields). length t.frames) c.set_apart.ensures,
        survey_without_head-length s,
        c.in_ok-survey.ensures.few,
      );
    }

pub prepare-requires-clause-laid : goal.prepare-requires-clause-laid
prepare-requires-clause-laid g c = apart g c

pub returns-in_err-work-clause-refused : goal.returns-in_err-work-clause-refused
returns-in_err-work-clause-refused g c =
    let edit = c.args.self.now in
    let forgot : IsEarlyFault (remove_task edit.stretches.now edit.input.now)
    (g.D.Folder.seen c.args.folder.now) (g.D.Folder.seen c.read_head.new.folder) Memory =
    input_is_early (make_in edit) (streams_in edit) cut_refuses edit.input.now _ _ Memory
    (memory_is_input (make_in edit) edit.input.now _ _
    (survey_view c.in_ok-survey.survey) c.in_ok-survey.ensures.there c.in_ok-survey.ensures.surveyed
    (ap₂ seen_folder (c.read_head.ensures.reads.files ∙ c.survey_at.ensures.reads.files)
    (c.in_ok-head.ensures.reads.done ∙ c.in_ok-survey.ensures.reads.done))) in
    grind (arith, err_with, forgot)

pub returns-clause-ready : goal.returns-clause-ready
returns-clause-ready g c =
    let before = (goal.at.returns-clause-ready g c).After-as_ref in
    let s = survey_view c.in_ok-survey.survey in
    planned-ready c.in_ok-work.ensures (splice g before)
    c.in_ok-survey.ensures.there (apart g before)
    (λ bytes holds. subst (CanBeRelaid bytes) (sym c.set_apart.ensures)
    (survey_without_head-relaid (c.in_ok-survey.ensures.surveyed bytes holds)))
    (few g before)

pub returns-clause-making : goal.returns-clause-making
returns-clause-making g c =
    let before = (goal.at.returns-clause-making g c).After-as_ref in
    let edit = c.args.self.now in
    let files = (g.D.Folder.seen c.args.folder.now).files in
    let s = survey_view c.in_ok-survey.survey in
    let parts = c.in_ok-parts.parts.items in
    let work = c.in_ok-work.work in
    let read : (bytes : List ℕ) → Holds files edit.input.now bytes
    → option_copied c.as_ref.result ≡ fields_of_head bytes s.head =
    λ bytes holds. c.as_ref.ensures.value ∙ c.in_ok-head.ensures.head bytes
    (subst (λ f. Holds f edit.input.now bytes) (sym c.survey_at.ensures.reads.files) holds) in
    let planned : (bytes : List ℕ) → Holds files edit.input.now bytes
    → IsRemovalPlanned (survey_without_head s) parts (fields_of_head bytes s.head) work =
    λ bytes holds.
    subst (λ (h : Option Info). IsRemovalPlanned (survey_without_head s) parts h work)
    (read bytes holds) (subst (λ (t : SurveyFields). IsRemovalPlanned t parts
    (option_copied c.as_ref.result) work) c.set_apart.ensures c.in_ok-work.ensures) in
    remove-makes edit.stretches.now
    c.in_ok-survey.ensures.there c.in_ok-survey.ensures.surveyed c.in_ok-survey.ensures.octets
    c.in_ok-parts.ensures.parts
    (λ bytes holds. planned-file
    (planned bytes holds)
    (subst (λ (t : SurveyFields). ArePartsLeft t parts) c.set_apart.ensures (splice g before))
    (survey_without_head-relaid (c.in_ok-survey.ensures.surveyed bytes holds))
    (head_long bytes s.head))
