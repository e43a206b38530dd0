-- What a command that keeps what is there makes, and what it leaves.
use Rattle.std.proofs.Common.{ap, Bool, cond, Err, false, is_some, List, map, None, Ok, Option}
use Rattle.std.proofs.Common.{refl, Result, Some, sym, true, ℕ, [], ◌+◌, ◌∙◌, ◌∷◌, ◌≡◌, ◌≢◌}
use Rattle.commands.{proofs.KeptLemmas.kept_done-free, specs.Command.{Made, Output, written_files}}
use Rattle.commands.specs.Kept.{exists_or, first_there, made_names, unless_there}
use Rattle.commands.specs.declared.fault.EditFault.{EditFault}
use Rattle.kept_laws.specs.Laws.{KeptCommandsLeaveAll}
use Rattle.outside.{proofs.FilesLemmas.with_file_other, specs.Files.{Contents, with_file}}

-- ---- what it makes

again : (f : Contents) (made : Made) (o : Option ℕ) → first_there f 0 (made_names made) ≡ o
    → unless_there f (exists_or o made) ≡ exists_or o made
again f made None none = ap (λ o. exists_or o made) none
again f made (Some place) is = refl

kept-twice : (f : Contents) (r : Result Made EditFault)
    → unless_there f (unless_there f r) ≡ unless_there f r
kept-twice f (Err fault) = refl
kept-twice f (Ok made) = again f made (first_there f 0 (made_names made)) refl

-- ---- what it leaves

not-here : (here : Bool) (place : ℕ) {later : Option ℕ} → cond here (Some place) later ≡ None
    → (here ≡ false) × (later ≡ None)
not-here true place e = absurd cc
not-here false place e = (refl, e)

-- a name that is there, and the bytes that it has
module _ (f : Contents) {name bytes : List ℕ} (held : f name ≡ Some bytes) where
  other : {output : List ℕ} → is_some (f output) ≡ false → name ≢ output
  other {output} missing same =
      let here : is_some (f output) ≡ true = ap (λ n. is_some (f n)) (sym same) ∙ ap is_some held in
      absurd cc

  -- outputs of which none was there leave it, whatever else was written before
  written-leaves : (outputs : List Output) (place : ℕ) (now : Contents) → now name ≡ Some bytes
      → first_there f place (map (λ (o : Output). o.name) outputs) ≡ None
      → written_files outputs now name ≡ Some bytes
  written-leaves [] place now here none = here
  written-leaves (output ∷ outputs) place now here none =
      let parts = not-here (is_some (f output.name)) place none in
      written-leaves outputs (place + 1) (with_file now output.name output.bytes)
      (with_file_other now output.bytes (other parts.0) ∙ here) parts.1

-- the law of every command
pub leave_all : KeptCommandsLeaveAll
leave_all command = record {
  refused = λ files fault is. ap (unless_there files) is;
  free = λ files made is none. ap (unless_there files) is ∙ ap (λ o. exists_or o made) none;
  exists = λ files made place is found.
      ap (unless_there files) is ∙ ap (λ o. exists_or o made) found;
  twice = λ files. kept-twice files (command.makes files);
  leaves =
      λ files made is name bytes held. written-leaves files held made.outputs 0 files
      held (kept_done-free command files is);
}
