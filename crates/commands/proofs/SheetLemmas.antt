-- What is read from a sheet.
use Rattle.std.proofs.Common.{ap, arith, cond, Err, false, IfErr, length, List, nat_lt, None, Ok}
use Rattle.std.proofs.Common.{Option, refl, Some, sym, true, ℕ, ◌∙◌, ◌≡◌}
use Rattle.commands.specs.{AfterCall.IsLateFault, Sheet.{HasSheetNumbers, IsSheetFault, sheet_in}}
use Rattle.commands.specs.declared.fault.EditFault.{EditFault, TheVariants.{Input, Refused}}
use Rattle.commands.specs.declared.fault.Refusal.TheVariants.{SheetTooLarge}
use Rattle.cue_sheet.specs.Limits.{longest_sheet}
use Rattle.outside.specs.{Counts.Counts, Files.{Files, is_told}, ReadCauses.HasReadCause}
use Rattle.outside.specs.{Seen.seen_folder, declared.exact.ReadFault.ReadFault}
use Rattle.outside.specs.declared.exact.ReadFault.TheVariants.{Failed, Shrunk as ShrunkRead}
use Rattle.sync_survey.specs.SurveyFaultKinds.{survey_fault_of}
use Rattle.sync_survey.specs.declared.survey_fault.SurveyFault.TheVariants.{Absent}

-- what is true of each of its refusals is true of its error
pub sheet-all : (P : EditFault → Type 0) → P (Input 1 Absent)
    → ((size : ℕ) → P (Refused (SheetTooLarge size))) → (sheet : Option (List ℕ))
    → IfErr (sheet_in sheet) P
sheet-all P absent large None = absent
sheet-all P absent large (Some bytes) =
    elim (nat_lt longest_sheet (length bytes))
    as (λ b. IfErr (cond b (Err (Refused (SheetTooLarge (length bytes)))) (Ok bytes)) P) [
      | true ↦ large (length bytes)
      | false ↦ tt
    ]

-- the refusals of a sheet are found after memory was taken
pub sheet-late : (sheet : Option (List ℕ)) → IfErr (sheet_in sheet) IsLateFault
sheet-late sheet = sheet-all IsLateFault refl (λ size. refl) sheet

-- a sheet that was found, and whose bytes aren't read
module _ (sheet : List ℕ) {files mid last : Files} {before between : Counts} (after : Counts)
    (size : ℕ)
    (found : mid ≡ files) (stays : last ≡ mid) (same : between ≡ before) where
  read-fault : (fault : ReadFault) → HasReadCause sheet size mid between after fault
      → IsSheetFault sheet (seen_folder files before) (seen_folder last after)
      (Input 1 (survey_fault_of fault))
  read-fault Failed cause = record {
    is = refl;
    rose = rw (← same) cause.0;
    files = stays ∙ found;
  }
  read-fault (ShrunkRead first second) cause = record {
    first = first;
    second = second;
    is = refl;
    rose = rw (← same) cause.3;
    counts = rw (← same) cause.4;
    untold = sym (ap is_told found) ∙ cause.0;
    files = stays ∙ found;
  }

  read-number : (fault : ReadFault) → HasReadCause sheet size mid between after fault
      → HasSheetNumbers (Input 1 (survey_fault_of fault))
  read-number fault cause = grind arith

  -- a fault of reading is one of the sheet, with its cause, and has the number of the sheet
  pub read-stops : (fault : ReadFault) {edit : EditFault} → edit ≡ Input 1 (survey_fault_of fault)
      → HasReadCause sheet size mid between after fault
      → IsSheetFault sheet (seen_folder files before) (seen_folder last after) edit
      × HasSheetNumbers edit
  read-stops fault is cause = rw is (read-fault fault cause, read-number fault cause)
