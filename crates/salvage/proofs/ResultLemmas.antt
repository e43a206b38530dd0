-- What is known of a result, by cases.
use Rattle.std.proofs.Common.{Err, IfErr, IfOk, MatchResult, Ok, OnOk, Result}

-- what follows from a result without error, and from what is known of it, holds if there is one
pub on_both : {T E : Type 0} (r : Result T E) (P : T → Type 0) (Q : E → Type 0) (A B : Type 0)
    → MatchResult r P Q → OnOk r B → ((x : T) → P x → B → A) → OnOk r A
on_both (Ok x) P Q A B is other then = then x is other
on_both (Err e) P Q A B is other then = tt

-- what follows from every error holds for the error of a result
pub if_err : {T E : Type 0} (r : Result T E) (P : T → Type 0) (Q A : E → Type 0) → MatchResult r P Q
    → ((e : E) → Q e → A e) → IfErr r A
if_err (Ok x) P Q A is then = tt
if_err (Err e) P Q A is then = then e is

-- what follows from a value, and from what is known of it, holds for the value of a result
pub if_ok : {T E : Type 0} (r : Result T E) (P A : T → Type 0) (B : Type 0) → IfOk r P → OnOk r B
    → ((x : T) → P x → B → A x) → IfOk r A
if_ok (Ok x) P A B is other then = then x is other
if_ok (Err e) P A B is other then = tt

-- what holds in any case holds for a result without error
pub on_ok : {T E : Type 0} (r : Result T E) (A : Type 0) → A → OnOk r A
on_ok (Ok x) A a = a
on_ok (Err e) A a = tt
