-- The first of several refusals, and what is made if there is none.
use Rattle.std.specs.Prelude.{Err, List, None, Ok, Option, Result, Some, [], ◌∷◌}
use Rattle.commands.specs.declared.fault.EditFault.{EditFault, TheVariants.Refused}
use Rattle.commands.specs.declared.fault.Refusal.{Refusal}

-- the first of two refusals
abbrev pub or_else : Option Refusal → Option Refusal → Option Refusal
or_else (Some refusal) later = Some refusal
or_else None later = later

-- the refusal of the first of these items that is refused
unfoldable pub first_refusal : {A : Type 0} → (A → Option Refusal) → List A → Option Refusal
first_refusal refuse [] = None
first_refusal refuse (a ∷ list) = or_else (refuse a) (first_refusal refuse list)

-- this value, unless there is a refusal
abbrev pub refusal_or : {A : Type 0} → Option Refusal → A → Result A EditFault
refusal_or (Some refusal) a = Err (Refused refusal)
refusal_or None a = Ok a

-- what is made of this value, unless it is refused
abbrev pub then_made : {A B : Type 0} → Result A EditFault → (A → Result B EditFault)
    → Result B EditFault
then_made (Ok a) make = make a
then_made (Err fault) make = Err fault
