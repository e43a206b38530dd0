-- The faults of the fade command once its input was surveyed.
use Rattle.std.specs.Prelude.{Bool, List, Some, true, ℕ, ◌≡◌, ◌≢◌}
use Rattle.commands.specs.{FaultKinds.{HasRightNumbers, IsFromOutside}, Sheet.IsFaultOfSheet}
use Rattle.commands.specs.declared.fault.EditFault.{EditFault, TheVariants.{Input, Memory, Refused}}
use Rattle.gain_edits.specs.Fade.{fade_refuses, input_sheet_change}
use Rattle.outside.specs.Seen.{Seen}
use Rattle.sync_survey.specs.Faults.{SurveyFields}
use Rattle.sync_survey.specs.declared.survey_fault.SurveyFault.TheVariants.{Memory as NoRoom}

-- what a fault that is met after the survey of the input says about its cause
abbrev pub IsChangeFault : List ℕ → Bool → SurveyFields → Seen → Seen → EditFault → Type 0
IsChangeFault sheet back s old new fault =
    IsFaultOfSheet (λ bytes. input_sheet_change (Some bytes) back s) sheet old new fault

-- the fault is one of the sheet, a refusal of the command, or out of memory
abbrev pub HasChangeNumbers : EditFault → Type 0
HasChangeNumbers (Input place fault) =
    (place ≡ 1) × (fault ≢ NoRoom) × HasRightNumbers fault × IsFromOutside fault
HasChangeNumbers (Refused refusal) = fade_refuses refusal ≡ true
HasChangeNumbers Memory = Unit {0}
HasChangeNumbers _ = ⊥
