-- A sheet that is there and isn't too large.
use Rattle.std.proofs.Common.{ap, arith, Bool, cond, Err, length, List, nat_lt, Ok, Option, Some, ℕ}
use Rattle.std.proofs.{Common.{◌∙◌, ◌≡◌, ◌≤◌}, lemmas.Bool.{le-ltb, ltb-false}}
use Rattle.commands.specs.{Sheet.sheet_in, declared.fault.EditFault.TheVariants.Refused}
use Rattle.commands.specs.declared.fault.Refusal.TheVariants.{SheetTooLarge}
use Rattle.cue_sheet.specs.Limits.{longest_sheet}

-- the sheet is there, and isn't longer than the longest
pub record IsSheet (o : Option (List ℕ)) (bytes : List ℕ) : Type 0 where
  pub there : o ≡ Some bytes
  pub small : length bytes ≤ longest_sheet

small-sheet : {sheet bytes : List ℕ} {large : Bool} → nat_lt longest_sheet (length sheet) ≡ large
    → cond large (Err (Refused (SheetTooLarge (length sheet)))) (Ok sheet) ≡ Ok bytes
    → IsSheet (Some sheet) bytes
small-sheet is e = grind (arith, ltb-false)

-- a sheet that isn't refused is there, and isn't too long
pub sheet-is : {o : Option (List ℕ)} {bytes : List ℕ} → sheet_in o ≡ Ok bytes → IsSheet o bytes
sheet-is e = grind (arith, small-sheet)

-- a sheet that is there and isn't too long isn't refused
pub is-sheet : {o : Option (List ℕ)} {bytes : List ℕ} → IsSheet o bytes → sheet_in o ≡ Ok bytes
is-sheet {bytes = bytes} is =
    ap sheet_in is.there ∙ ap (λ b. cond b (Err (Refused (SheetTooLarge (length bytes))))
    (Ok bytes)) (le-ltb longest_sheet (length bytes) is.small)
