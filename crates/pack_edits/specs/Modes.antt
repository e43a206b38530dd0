-- What each mode makes: how the frames of a file get their slots, and how many frames it may have.
use Rattle.std.specs.Prelude.{Bool, Err, false, List, None, Ok, Option, Result, Some, true}
use Rattle.std.specs.Prelude.{unwrap_or, ℕ, [], ◌==◌}
use Rattle.best_plan.specs.BestOf.{best_plan_of}
use Rattle.commands.specs.{Command.Command, SingleOutput.{most_frames, one_command, Task}}
use Rattle.commands.specs.declared.fault.{EditFault.{EditFault, TheVariants.Input}, Refusal.Refusal}
use Rattle.commands.specs.declared.fault.Refusal.TheVariants.{NoRate, Unfit}
use Rattle.cut_edits.specs.Chosen.{all_choice, first_planning, laying_task, Planning}
use Rattle.frame_header.specs.Tables.{window_of}
use Rattle.laying.specs.NeedsFit.{any_choice}
use Rattle.pack_edits.specs.Rates.{rates_plan}
use Rattle.requests.specs.declared.mode.PackMode.{PackMode}
use Rattle.requests.specs.declared.mode.PackMode.TheVariants.{Best, Constant, Floor, Least}
use Rattle.sync_survey.specs.{Faults.SurveyFields, Survey.survey_of}
use Rattle.sync_survey.specs.declared.survey_fault.SurveyFault.{SurveyFault}

-- Of all lists of slots with room for the main data, with a lead-in only if there is none without,
-- the one with the least sum of areas, and of several the lexicographically least (`best_plan_of`).
-- The frames of a well-formed file have one (the law `best_exists`).
abbrev pub best_planning : Planning
best_planning class needs =
    Ok (unwrap_or (best_plan_of (window_of class.version) any_choice needs) [])

-- how the slots are chosen
abbrev pub mode_planning : PackMode → Planning
mode_planning Least = first_planning any_choice
mode_planning Best = best_planning
mode_planning (Constant rate) = rates_plan (Constant rate)
mode_planning (Floor rate) = rates_plan (Floor rate)

-- With one bit rate alone a frame may be unfit; with all from one on none is.
abbrev pub mode_refuses : PackMode → Refusal → Bool
mode_refuses (Constant rate) (NoRate named) = named == rate
mode_refuses (Constant rate) (Unfit i) = true
mode_refuses (Floor rate) (NoRate named) = named == rate
mode_refuses _ _ = false

-- ---- how many frames are allowed

-- how many frames a file may have to be packed in the fewest bytes
abbrev pub most_best : ℕ
most_best = 200000

-- the other modes have no limit besides the one of all commands
abbrev pub mode_limit : PackMode → Option ℕ
mode_limit Best = Some most_best
mode_limit _ = None

-- how many frames a file may have in this mode
abbrev pub allowed_frames : PackMode → ℕ
allowed_frames mode = unwrap_or (mode_limit mode) most_frames

-- what is made, unless the survey has a fault
abbrev pub survey_fault_or : Result SurveyFields SurveyFault → Result (List ℕ) EditFault
    → Result (List ℕ) EditFault
survey_fault_or (Err fault) made = Err (Input 0 fault)
survey_fault_or (Ok s) made = made

-- a file that has a fault when this many frames are allowed is refused with it
abbrev pub limited_result : Option ℕ → Option (List ℕ) → Result (List ℕ) EditFault
    → Result (List ℕ) EditFault
limited_result None file made = made
limited_result (Some allowed) None made = made
limited_result (Some allowed) (Some file) made = survey_fault_or (survey_of file allowed) made

-- the same task for a source with at most as many frames as the limit, if there is one
abbrev pub limited_task : Option ℕ → Task → Task
limited_task limit task =
    record task { makes = λ files. limited_result limit (files task.source) (task.makes files) }

-- ---- the command

-- it makes the file of all frames in the slots that the mode chooses
abbrev pub pack_task : PackMode → List ℕ → Task
pack_task mode input =
    limited_task (mode_limit mode)
    (laying_task all_choice (mode_planning mode) (mode_refuses mode) input)

-- the output is all frames of the input, packed in this mode
abbrev pub pack_mode_command : PackMode → List ℕ → List ℕ → Command
pack_mode_command mode input output = one_command (pack_task mode input) output
