-- The text of each bit rate.
use Rattle.std.proofs.Common.{ap, arith, Bool, bytes_eq, drop, false, get_or, if◌then◌else◌, inl}
use Rattle.std.proofs.Common.{inr, length, List, suc, true, zero, ℕ, [], ◌%◌, ◌&&◌, ◌++◌, ◌+◌, ◌/◌}
use Rattle.std.proofs.Common.{◌<◌, ◌∙◌, ◌∷◌, ◌≡◌, ◌≤◌, ◌⊎◌}
use Rattle.std.proofs.lemmas.Bool.{and_parts, cases_lt, cond_above, cond_below, ltb-true}
use Rattle.std.proofs.lemmas.{Fmt.decimal_digit, Slice.Eq.bytes_eq-Decides}
use Rattle.std.specs.Prelude.{codes, decimal, nat_lt, slice_index}
use Rattle.list_edits.{proofs.DecimalLemmas.{decimal_split, decimal_two}, specs.Decimals.two_digits}
use Rattle.list_edits.specs.{Listing.rate_text, declared.rate_text.RateText.RateText}

abbrev pub no_text : RateText
no_text = record { text = []; spaces = 0 }

abbrev pub text_of : RateText → List ℕ
text_of r = drop r.spaces r.text

-- the digits of a number below 1,000
abbrev three_digits : ℕ → List ℕ
three_digits n = (48 + n / 100) ∷ two_digits (n % 100)

abbrev digits : ℕ → List ℕ
digits n =
    if nat_lt n 10 then (48 + n) ∷ [] else if nat_lt n 100 then two_digits n else three_digits n

digits-are : {n : ℕ} → n < 1000 → decimal n ≡ digits n
digits-are {n} few = by_size (cases_lt n 10) (cases_lt n 100)
  where
    by_size : (n < 10) ⊎ (10 ≤ n) → (n < 100) ⊎ (100 ≤ n) → decimal n ≡ digits n
    by_size (inl one) _ = decimal_digit n one ∙ cond_below n 10 ((48 + n) ∷ []) _ one
    by_size (inr more) (inl two) =
        cond_above n 10 _ _ _ more
        (decimal_two more two ∙ cond_below n 100 (two_digits n) (three_digits n) two)
    by_size (inr more) (inr three) =
        cond_above n 10 _ _ _ more
        (cond_above n 100 (two_digits n) (three_digits n) _ three
        (decimal_split three (omega arith)
        ∙ ap (λ ds. ds ++ two_digits (n % 100)) (decimal_digit (n / 100) (omega arith))))

-- whether these texts are the texts of these bit rates
abbrev pub are_texts : List RateText → List ℕ → Bool
are_texts [] rates = true
are_texts (text ∷ texts) [] = false
are_texts (text ∷ texts) (rate ∷ rates) =
    (nat_lt rate 1000 && bytes_eq (text_of text) (codes ": " ++ (digits rate ++ codes " kbit/s")))
    && are_texts texts rates

-- if the texts are those of the rates, each is the text of its rate
pub text_at : (texts : List RateText) (rates : List ℕ) (i : ℕ) → are_texts texts rates ≡ true
    → i < length texts → text_of (get_or texts i no_text) ≡ rate_text (slice_index rates i)
text_at [] rates i are few = absurd (omega arith)
text_at (text ∷ texts) [] i are few = absurd cc
text_at (text ∷ texts) (rate ∷ rates) zero are few =
    grind (arith, and_parts, bytes_eq-Decides, digits-are, ltb-true)
text_at (text ∷ texts) (rate ∷ rates) (suc i) are few =
    text_at texts rates i (and_parts _ _ are).1 (omega arith)
