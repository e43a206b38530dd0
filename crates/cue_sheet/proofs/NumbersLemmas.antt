-- Numbers of a few digits, read from the left.
use Rattle.std.proofs.Common.{arith, Bool, cond, false, get_or, leb, length, List, None, Option}
use Rattle.std.proofs.Common.{refl, Some, take, true, ℕ, ◌&&◌, ◌<◌, ◌≡◌, ◌≤◌}
use Rattle.std.proofs.lemmas.{Bool.{le-leb, lt-leb}, List.length-take-le}
use Rattle.std.proofs.lemmas.Str.Parse.{digit_at, digits_value_short, IsNumeralModel}
use Rattle.std.proofs.lemmas.Str.Parse.{numerals_by_value, tells_all_ascii_digits}
use Rattle.std.specs.{Int.IsInRange, Str.{all_ascii_digits, Parse.{AllDigits, digits_value}}}
use Rattle.cue_sheet.specs.Digits.{number_in}

-- decimal digits are read from the left as a numeral
pub digits_model : IsNumeralModel (λ ds. all_ascii_digits ds ≡ true) (digits_value 10)
digits_model = numerals_by_value _ tells_all_ascii_digits

-- if one of four tests fails, the result is none
no_second : (a c d : Bool) (x : Option ℕ) → cond (((a && false) && c) && d) x None ≡ None
no_second true c d x = refl
no_second false c d x = refl

no_third : (a b d : Bool) (x : Option ℕ) → cond (((a && b) && false) && d) x None ≡ None
no_third true true d x = refl
no_third true false d x = refl
no_third false b d x = refl

no_last : (a b c : Bool) (x : Option ℕ) → cond (((a && b) && c) && false) x None ≡ None
no_last true true true x = refl
no_last true true false x = refl
no_last true false c x = refl
no_last false b c x = refl

-- digits that are as many as allowed and spell a number that isn't too great are read as this
-- number
pub number_of_digits : {least most greatest : ℕ} (digits : List ℕ) → least ≤ length digits
    → length digits ≤ most → AllDigits 10 digits → digits_value 10 digits ≤ greatest
    → number_in least most greatest digits ≡ Some (digits_value 10 digits)
unfolding number_in
number_of_digits {least} {most} {greatest} digits enough few all small =
    let low : leb least (length digits) ≡ true = le-leb _ _ enough in
    let high : leb (length digits) most ≡ true = le-leb _ _ few in
    let each : all_ascii_digits digits ≡ true = digits_model.from digits all in
    let top : leb (digits_value 10 digits) greatest ≡ true = le-leb _ _ small in
    rw (low, high, each, top) refl

-- fewer digits than allowed are no number
pub number_of_few : {least : ℕ} (most greatest : ℕ) (digits : List ℕ) → length digits < least
    → number_in least most greatest digits ≡ None
unfolding number_in
number_of_few {least} most greatest digits few =
    let low : leb least (length digits) ≡ false = lt-leb _ _ few in
    rw low refl

-- more digits than allowed are no number
pub number_of_many : (least : ℕ) {most : ℕ} (greatest : ℕ) (digits : List ℕ) → most < length digits
    → number_in least most greatest digits ≡ None
unfolding number_in
number_of_many least {most} greatest digits many =
    let high : leb (length digits) most ≡ false = lt-leb _ _ many in
    rw high (no_second (leb least (length digits)) (all_ascii_digits digits)
    (leb (digits_value 10 digits) greatest) (Some (digits_value 10 digits)))

-- bytes that aren't all digits are no number
pub number_of_others : (least most greatest : ℕ) (digits : List ℕ) {i : ℕ} → i < length digits
    → (IsInRange 48 57 (get_or digits i 0) → ⊥) → number_in least most greatest digits ≡ None
unfolding number_in
number_of_others least most greatest digits {i} lt other =
    elim (all_ascii_digits digits) as (λ b. all_ascii_digits digits ≡ b
    → number_in least most greatest digits ≡ None) [
      | true ↦ λ each. absurd (other (digit_at digits i (digits_model.to digits each) lt))
      | false ↦ λ each. rw each (no_third (leb least (length digits)) (leb (length digits) most)
          (leb (digits_value 10 digits) greatest) (Some (digits_value 10 digits)))
    ] refl

-- digits of a number that is too great are no number
pub number_of_great : (least most : ℕ) {greatest : ℕ} (digits : List ℕ)
    → greatest < digits_value 10 digits → number_in least most greatest digits ≡ None
unfolding number_in
number_of_great least most {greatest} digits great =
    let top : leb (digits_value 10 digits) greatest ≡ false = lt-leb _ _ great in
    rw top (no_last (leb least (length digits)) (leb (length digits) most) (all_ascii_digits digits)
    (Some (digits_value 10 digits)))

-- at most nine digits spell a number below 10^9, so that one more digit can be read
pub value_of_few : (digits : List ℕ) {i : ℕ} → i < length digits → length digits ≤ 10
    → AllDigits 10 (take i digits) → digits_value 10 (take i digits) < 1000000000
value_of_few digits {i} lt few all = digits_value_short digits_model (take i digits) 9
    (digits_model.from (take i digits) all) (omega (arith, length-take-le i digits (omega arith)))
