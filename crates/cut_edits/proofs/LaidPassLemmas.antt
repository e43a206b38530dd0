-- The second pass, which repacks chosen frames, and the work that is prepared for it.
use Rattle.std.proofs.Common.{ap, arith, List, ℕ, ◌≡◌, ◌≢◌}
use Rattle.commands.specs.SingleOutput.{IsMaking, Task}
use Rattle.cut_edits.specs.Chosen.{Chosen, chosen_file, own_slots_part}
use Rattle.cut_edits.specs.Layable.{IsLayable, IsWorkOf, work_file}
use Rattle.cut_edits.specs.declared.work.LaidWork.{LaidWork}
use Rattle.laying.specs.Laid.{file_laid, IsWritableSelection, LaidPart, selected_part}
use Rattle.laying.specs.{Passing.IsRelayReady, Surveys.CanBeRelaid, declared.relay.Relay.Relay}
use Rattle.laying.specs.declared.selected.Selected.{Selected}
use Rattle.outside.proofs.FilesLemmas.{emptied_held_other, emptied_keeps, emptied_there}
use Rattle.outside.specs.{Feed.{Fed, IsFedFrom}, Files.{Files, Holds, IsFileThere, with_empty_file}}
use Rattle.outside.specs.{Pass.AppendsPrefix, declared.pass.PassFault.PassFault}
use Rattle.sync_survey.specs.{Faults.{survey_view, SurveyFields}, Survey.IsSurveyLaidOut}
use Rattle.sync_survey.specs.declared.surveys.Survey.{Survey}

-- a prefix stays one with another function that gives the same bytes for the input
pub appends-as_prefix : {input output : List ℕ} {made other : List ℕ → List ℕ} {old new : Files}
    {fault : PassFault} → ((file : List ℕ) → Holds old input file → made file ≡ other file)
    → AppendsPrefix input output made old new fault → AppendsPrefix input output other old new fault
appends-as_prefix same h = grind arith

-- once the output was created, the pass can begin
pub relay-ready : {relay : Relay} (old : Files) {mid : Files} {fed : Fed}
    → relay.pass.input.now ≢ relay.pass.output.now → IsFileThere old relay.pass.input.now
    → IsSurveyLaidOut (survey_view relay.survey.now) → ((file : List ℕ)
    → Holds old relay.pass.input.now file → CanBeRelaid file (survey_view relay.survey.now))
    → relay.pass.length ≡ (survey_view relay.survey.now).length
    → mid ≡ with_empty_file old relay.pass.output.now → IsFedFrom fed mid relay.pass.input.now
    → IsRelayReady relay mid fed
relay-ready old apart there laid has long created fed_from =
    grind (arith, emptied_held_other, emptied_keeps, emptied_there)

-- if the chosen frames are in the slots of their own plan, the file is the file of these
pub file-is : {chosen : Chosen} {laid : LaidPart} (file : List ℕ) (s : SurveyFields)
    → laid ≡ own_slots_part chosen s → file_laid laid file s ≡ chosen_file chosen file s
unfolding chosen_file
file-is file s own = ap (λ l. file_laid l file s) own

-- ---- the work

module _ {survey : Survey} {selected : Selected} {work : LaidWork}
    (of : IsWorkOf survey selected work) where
  -- the work is prepared for the pass over the file that was read
  pub work_layable : {input : List ℕ} {files : Files} → IsFileThere files input
      → IsSurveyLaidOut (survey_view survey)
      → ((bytes : List ℕ) → Holds files input bytes → CanBeRelaid bytes (survey_view survey))
      → IsWritableSelection (survey_view survey) selected → IsLayable input work files
  work_layable there laid has writable = grind arith

  -- the work makes the file of the chosen frames
  pub work_makes : {task : Task} {files : Files}
      → IsMaking task (λ file. file_laid (selected_part selected) file (survey_view survey)) files
      → IsMaking task (work_file work) files
  work_makes making = grind arith
