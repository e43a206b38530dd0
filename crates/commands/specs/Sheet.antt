-- A sheet, the second input of a command: its bytes, and why they aren't read.
use Rattle.std.specs.Prelude.{Bool, Err, false, if◌then◌else◌, length, List, nat_lt, None, Ok}
use Rattle.std.specs.Prelude.{Option, Result, Some, true, ℕ, ◌≡◌, ◌≢◌}
use Rattle.commands.specs.AfterCall.{by_why, no_cause, why_of}
use Rattle.commands.specs.FaultKinds.{HasRightNumbers, IsFromOutside}
use Rattle.commands.specs.SingleOutput.{LosesInput, MissesAt, ReadsNothing}
use Rattle.commands.specs.declared.fault.EditFault.{EditFault, TheVariants.{Input, Memory, Refused}}
use Rattle.commands.specs.declared.fault.Refusal.{Refusal, TheVariants.SheetTooLarge}
use Rattle.cue_sheet.specs.Limits.{longest_sheet}
use Rattle.outside.specs.{Files.{Holds, IsFileThere}, Seen.Seen}
use Rattle.sync_survey.specs.declared.survey_fault.SurveyFault.TheVariants.{Absent}
use Rattle.sync_survey.specs.declared.survey_fault.SurveyFault.TheVariants.{Memory as NoRoom}

-- the bytes of a sheet that isn't too large
abbrev pub sheet_read : List ℕ → Result (List ℕ) EditFault
sheet_read sheet =
    if nat_lt longest_sheet (length sheet) then Err (Refused (SheetTooLarge (length sheet)))
    else Ok sheet

-- the bytes of the sheet, if it is there and isn't too large, or why there are none
abbrev pub sheet_in : Option (List ℕ) → Result (List ℕ) EditFault
sheet_in None = Err (Input 1 Absent)
sheet_in (Some sheet) = sheet_read sheet

-- the sheet is there, and its bytes are refused
pub record RefusesSheet {T : Type 0} (says : List ℕ → Result T EditFault)
    (name : List ℕ) (old new : Seen) (fault : EditFault) : Type 0 where
  pub there : IsFileThere old.files name
  pub bytes : (bytes : List ℕ) → Holds old.files name bytes → says bytes ≡ Err fault
  pub stays : new ≡ old

-- the sheet, which is input 1, isn't there
abbrev pub MissesSheet : List ℕ → Seen → Seen → EditFault → Type 0
MissesSheet name old new fault = MissesAt 1 name old new fault

-- what a fault says about its cause, if it was met while `says` was found for a sheet
abbrev pub IsFaultOfSheet : {T : Type 0} → (List ℕ → Result T EditFault)
    → List ℕ → Seen → Seen → EditFault → Type 0
IsFaultOfSheet says name old new fault = by_why
    (record no_cause {
      rejected = RefusesSheet says name old new fault;
      missing = MissesSheet name old new fault;
      unread = ReadsNothing 1 name old new fault;
      shorter = LosesInput 1 name old new fault;
      no_memory = new ≡ old;
    })
    (why_of fault)

-- what a fault says about its cause, if it was met while a sheet was read, which may be too large
abbrev pub IsSheetFault : List ℕ → Seen → Seen → EditFault → Type 0
IsSheetFault name old new fault = IsFaultOfSheet sheet_read name old new fault

-- the refusals of a sheet for its length
abbrev pub sheet_refuses : Refusal → Bool
sheet_refuses (SheetTooLarge size) = nat_lt longest_sheet size
sheet_refuses _ = false

-- the fault is one of the sheet, which is read as bytes and not as frames, or that memory ran out
abbrev pub HasSheetNumbers : EditFault → Type 0
HasSheetNumbers (Input number fault) =
    (number ≡ 1) × (fault ≢ NoRoom) × HasRightNumbers fault × IsFromOutside fault
HasSheetNumbers (Refused refusal) = sheet_refuses refusal ≡ true
HasSheetNumbers Memory = Unit {0}
HasSheetNumbers _ = ⊥
