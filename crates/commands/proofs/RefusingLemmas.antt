-- What comes before what is made: its refusals, and when there is none.
use Rattle.std.proofs.Common.{ap, arith, drop, Err, get_or, IfErr, IfSome, length, List, None, Ok}
use Rattle.std.proofs.Common.{Option, refl, Result, ℕ, [], ◌+◌, ◌<◌, ◌∙◌, ◌∷◌, ◌≡◌, ◌≤◌}
use Rattle.std.{proofs.{Math.Seq.drop-cons, lemmas.List.drop_all}, specs.Result.IsErrAnd}
use Rattle.commands.specs.AfterCall.{IsLateFault, IsNotBefore}
use Rattle.commands.specs.Refusing.{first_refusal, or_else, refusal_or, then_made}
use Rattle.commands.specs.declared.fault.EditFault.{EditFault, TheVariants.{Input, Refused}}
use Rattle.commands.specs.declared.fault.Refusal.{Refusal}
use Rattle.outside.specs.Files.{Contents, Files, IfTold}
use Rattle.sync_survey.specs.declared.survey_fault.SurveyFault.TheVariants.{Read}

-- ---- what is true of every fault

-- what is true of a refusal is true of the result with it
pub refusal_or-all : {A : Type 0} (P : EditFault → Type 0) (o : Option Refusal) (a : A)
    → IfSome o (λ refusal. P (Refused refusal)) → IfErr (refusal_or o a) P
refusal_or-all P o a is = grind arith

-- what is true of the errors of two steps is true of the errors of both
pub then_all : {A B : Type 0} (P : EditFault → Type 0) (r : Result A EditFault)
    (make : A → Result B EditFault) → IfErr r P → ((a : A) → IfErr (make a) P)
    → IfErr (then_made r make) P
then_all P r make first rest = grind arith

-- no refusal comes before the one of a first input that could not be read
pub before_first : {A : Type 0} (files : Files) (makes : Contents → Result A EditFault)
    {fault : EditFault} → fault ≡ Input 0 Read
    → IfTold files (λ f. IfErr (makes f) (IsNotBefore fault))
before_first files makes is = grind arith

-- ---- memory was taken before

-- no refusal is found before memory was taken
pub refusal_or-late : {A : Type 0} (o : Option Refusal) (a : A) → IfErr (refusal_or o a) IsLateFault
refusal_or-late o a = grind arith

-- if the errors of two steps are late, so are the errors of both
pub then_late : {A B : Type 0} (r : Result A EditFault) (make : A → Result B EditFault)
    → IfErr r IsLateFault → ((a : A) → IfErr (make a) IsLateFault)
    → IfErr (then_made r make) IsLateFault
then_late r make first rest = grind arith

-- what is true of a result's error is true of this error
pub of_err : {A : Type 0} (P : EditFault → Type 0) {r : Result A EditFault} {fault : EditFault}
    → IfErr r P → r ≡ Err fault → P fault
of_err P is e = grind arith

-- what is true of the fault that a `?` returns is true of the error
pub err_with : {T E : Type 0} (P : E → Type 0) (r : Result T E) {fault : E}
    → IsErrAnd r (λ y. y ≡ fault) → P fault → IfErr r P
err_with P r is holds = grind arith

-- a result that isn't refused has no refusal
pub refusal_or-ok : {A : Type 0} {o : Option Refusal} {a b : A} → refusal_or o a ≡ Ok b
    → (o ≡ None) × (a ≡ b)
refusal_or-ok e = grind arith

-- a result of two steps is one of each
pub then_ok : {A B : Type 0} {r : Result A EditFault} {make : A → Result B EditFault} {b : B}
    → then_made r make ≡ Ok b → (a : A) × (r ≡ Ok a) × (make a ≡ Ok b)
then_ok e = grind arith

-- ---- the first refusal

-- if neither of two refusals is there, each is absent
pub none_first : {o later : Option Refusal} → or_else o later ≡ None → (o ≡ None) × (later ≡ None)
none_first e = grind arith

-- if each of two refusals is absent, neither is there
pub none_both : {o later : Option Refusal} → o ≡ None → later ≡ None → or_else o later ≡ None
none_both {later = later} e rest = ap (λ p. or_else p later) e ∙ rest

module _ {A : Type 0} (refuse : A → Option Refusal) where
  -- an empty list has no first refusal
  pub first-nil : first_refusal refuse [] ≡ None
  unfolding first_refusal
  first-nil = refl

  -- the first refusal is that of the first item or, if it has none, of the others
  pub first-cons : (a : A) (list : List A)
      → first_refusal refuse (a ∷ list) ≡ or_else (refuse a) (first_refusal refuse list)
  unfolding first_refusal
  first-cons a list = refl

  -- from item i on the first refusal is its own or, if it has none, that of the items after it
  pub first-from : (list : List A) {i : ℕ} {a : A} {here : Option Refusal} → i < length list
      → a ≡ get_or list i a → refuse a ≡ here
      → first_refusal refuse (drop i list) ≡ or_else here (first_refusal refuse (drop (i + 1) list))
  first-from list lt is refused = search (arith, drop-cons, first-cons)

  -- after the last item there is no refusal
  pub first-behind : (list : List A) {i : ℕ} → length list ≤ i
      → first_refusal refuse (drop i list) ≡ None
  first-behind list {i} end = ap (first_refusal refuse) (drop_all i list end) ∙ first-nil
