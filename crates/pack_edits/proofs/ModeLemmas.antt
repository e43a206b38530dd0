-- What the one body requires of a packing in each mode.
use Rattle.std.proofs.Common.{arith, IfErr, inr, length, List, Ok, refl, ℕ, ◌<◌, ◌≡◌, ◌≤◌}
use Rattle.commands.proofs.InputLemmas.{fault_is_input, input_is_early, of_survey_input}
use Rattle.commands.specs.AfterCall.{HasInputNumbers, HasSurveyNumbers, IsLateFault}
use Rattle.commands.specs.SingleOutput.{HasTaskNumbers, IsEarlyFault, IsFileFault, IsInputFault}
use Rattle.commands.specs.SingleOutput.{IsMaking, IsProperTask, most_frames, Task}
use Rattle.commands.specs.declared.fault.EditFault.{EditFault}
use Rattle.cut_edits.proofs.ChosenLemmas.{all_choosing, IsPlanning, plan-few, plan-fitting}
use Rattle.cut_edits.proofs.ChosenLemmas.{task_proper}
use Rattle.cut_edits.specs.Chosen.{all_choice, Chosen, chosen_needs, first_plan, laying_making}
use Rattle.cut_edits.specs.Chosen.{laying_stream, laying_task}
use Rattle.frame_header.specs.{Fields.ClassFields, Tables.window_of}
use Rattle.laying.specs.NeedsFit.{any_choice, IsPlacedSurvey}
use Rattle.outside.specs.{Files.{Files, Holds}, Seen.Seen}
use Rattle.pack_edits.proofs.BestLemmas.{best-fitting}
use Rattle.pack_edits.proofs.LimitLemmas.{limited_task-making, limited_task-proper, survey-early}
use Rattle.pack_edits.proofs.PlanLemmas.{chosen-fitting, IsFittingFew, rates-late}
use Rattle.pack_edits.specs.Modes.{allowed_frames, mode_planning, mode_refuses, most_best}
use Rattle.pack_edits.specs.Modes.{pack_task}
use Rattle.requests.specs.declared.mode.PackMode.{PackMode}
use Rattle.requests.specs.declared.mode.PackMode.TheVariants.{Best, Constant, Floor, Least}
use Rattle.slot_plan.specs.declared.needs.{Need.Need, Placed.Placed}
use Rattle.sync_survey.specs.{Faults.SurveyFields, Survey.survey_of}

-- no mode allows more frames than other commands
pub allowed-most : (mode : PackMode) → allowed_frames mode ≤ most_frames
allowed-most mode = grind arith

-- frames can be laid by the plan of a mode
module _ (chosen : Chosen) (s : SurveyFields) (placed : IsPlacedSurvey s)
    (some : chosen.from < chosen.to)
    (within : chosen.to ≤ length s.frames) where
  least-fitting : IsFittingFew (window_of s.class.version) (chosen_needs chosen s)
      (first_plan any_choice s.class (chosen_needs chosen s))
  least-fitting = record {
    fitting = plan-fitting chosen s placed some within (inr refl);
    few = plan-few chosen s placed some within (inr refl);
  }

  -- frames can be laid by the plan of a mode, with at most one lead-in
  pub mode-fitting : (mode : PackMode) {plan : List Placed}
      → mode_planning mode s.class (chosen_needs chosen s) ≡ Ok plan
      → IsFittingFew (window_of s.class.version) (chosen_needs chosen s) plan
  mode-fitting Least planned = grind (arith, least-fitting)
  mode-fitting Best {plan} planned = best-fitting chosen s placed some within planned
  mode-fitting (Constant rate) {plan} planned =
      chosen-fitting chosen s placed some within (Constant rate) planned
  mode-fitting (Floor rate) {plan} planned =
      chosen-fitting chosen s placed some within (Floor rate) planned

-- the plans of each mode are refused late, and frames can be laid by them
pub planning : (mode : PackMode) → IsPlanning (mode_planning mode)
planning mode = record {
  late = late mode;
  fitting = λ chosen s well some within placed planned.
      (mode-fitting chosen s well some within mode planned).fitting;
}
  where
    late : (mode : PackMode) (class : ClassFields) (needs : List Need)
        → IfErr (mode_planning mode class needs) IsLateFault
    late (Constant rate) class needs = rates-late (Constant rate) class needs
    late (Floor rate) class needs = rates-late (Floor rate) class needs
    late _ class needs = tt

-- the task, if the input may have as many frames as in all commands
abbrev free_task : PackMode → List ℕ → Task
free_task mode input = laying_task all_choice (mode_planning mode) (mode_refuses mode) input

free_proper : (mode : PackMode) (input : List ℕ) → IsProperTask (free_task mode input)
free_proper mode input =
    task_proper all_choice (mode_planning mode) all_choosing (planning mode)
    (mode_refuses mode) input

-- the command is proper in each mode
pub mode_proper : (mode : PackMode) (input : List ℕ) → IsProperTask (pack_task mode input)
mode_proper Best input =
    limited_task-proper most_best (free_task Best input) (free_proper Best input)
mode_proper mode input = free_proper mode input

-- a fault of the survey is one met before the output is created
pub mode_survey : (mode : PackMode) (input : List ℕ) (old new : Seen) (fault : EditFault)
    → IsFileFault 0 (allowed_frames mode) input old new fault
    → IsEarlyFault (pack_task mode input) old new fault
mode_survey Best input old new fault is = grind (arith, survey-early)
mode_survey mode input old new fault is =
    let make = laying_making all_choice (mode_planning mode) in
    input_is_early make (laying_stream all_choice (mode_planning mode))
    (mode_refuses mode) input old new fault (fault_is_input make input old new fault is)

-- the input has no fault when as many frames as in this mode are allowed
abbrev pub IsAllowed : PackMode → List ℕ → Files → Type 0
IsAllowed mode input files = (file : List ℕ) → Holds files input file
    → (s : SurveyFields) × (survey_of file (allowed_frames mode) ≡ Ok s)

-- a fault met after the survey is one met before the output is created
pub mode_early : (mode : PackMode) (input : List ℕ) (old new : Seen) (fault : EditFault)
    → IsAllowed mode input old.files
    → IsInputFault (laying_making all_choice (mode_planning mode)) input old new fault
    → IsEarlyFault (pack_task mode input) old new fault
mode_early mode input old new fault sound is = grind arith

-- the numbers of a fault of the input are in the range of the command's inputs
pub mode_numbers : (mode : PackMode) (input : List ℕ) (fault : EditFault)
    → HasInputNumbers (mode_refuses mode) fault → HasTaskNumbers (pack_task mode input) fault
mode_numbers mode input fault is = grind arith

-- the numbers of a fault of the survey are in the range of the command's inputs
pub mode_survey_numbers : (mode : PackMode) (input : List ℕ) (fault : EditFault)
    → HasSurveyNumbers 0 fault → HasTaskNumbers (pack_task mode input) fault
mode_survey_numbers mode input fault is = grind (arith, mode_numbers, of_survey_input)

-- what is written for a file with no more frames than allowed is what the command makes
pub mode_makes : (mode : PackMode) {input : List ℕ} {made : List ℕ → List ℕ} {files : Files}
    → IsAllowed mode input files
    → IsMaking (laying_task all_choice (mode_planning mode) (mode_refuses mode) input) made files
    → IsMaking (pack_task mode input) made files
mode_makes Best {input} {made} {files} sound is =
    limited_task-making most_best (free_task Best input) sound is
mode_makes mode sound is = is
