-- The value of an undo item: what is written is read again.
use Rattle.std.proofs.Common.{ap, arith, Bool, cond, drop, false, get_or, length, length-drop, List}
use Rattle.std.proofs.Common.{neg_ℤ, negsuc, None, of_z, Option, pos, refl, Some, suc, sym, take}
use Rattle.std.proofs.Common.{take-append-drop, to_z, true, unsigned_abs, zero, ℕ, ℤ, [], ◌%◌, ◌*◌}
use Rattle.std.proofs.Common.{◌++◌, ◌+◌, ◌-◌, ◌/◌, ◌==◌, ◌||◌, ◌∙◌, ◌∷◌, ◌≡◌, ◌≤◌}
use Rattle.std.proofs.lemmas.Bool.{and_from, and_parts, eqb-true, le-leb, leb-true, lt-leb}
use Rattle.std.proofs.lemmas.{Bool.true≢false, Int.{fits_signed_from_abs, to_z-of_z}}
use Rattle.std.proofs.lemmas.List.{drop-drop, drop_more, length-take-le, nil_from_length}
use Rattle.std.{proofs.lemmas.Option.cond_some, specs.{Char.is_ascii_digit, Prelude.int_lt}}
use Rattle.tag_blocks.specs.Laws.{is_minus_zero}
use Rattle.tag_blocks.specs.UndoText.{digits_number, is_steps, is_undo_text, spelled_steps}
use Rattle.tag_blocks.specs.UndoText.{steps_text, undo_of, undo_text, UndoFitsText, wrap_letter}
use Rattle.tag_blocks.specs.declared.undo.Undo.{Undo}
use mir.Syntax.{w16}

is_digit : {n : ℕ} → n ≤ 9 → is_ascii_digit (48 + n) ≡ true
is_digit most = grind (arith, and_from, le-leb)

hundreds : {n : ℕ} → n ≤ 999 → n / 100 ≤ 9
hundreds most = omega (arith, most)

digits : {n : ℕ} → n ≤ 999
    → (48 + n / 100 - 48) * 100 + (48 + n / 10 % 10 - 48) * 10 + (48 + n % 10 - 48) ≡ n
digits most = omega (arith, most)

three_digits : {n : ℕ} → n ≤ 999 → (is_ascii_digit (48 + n / 100) ≡ true)
    × (is_ascii_digit (48 + n / 10 % 10) ≡ true) × (is_ascii_digit (48 + n % 10) ≡ true)
three_digits most = grind (arith, is_digit, hundreds)

-- a number that isn't negative has no minus
no_minus : (n : ℕ) → int_lt (pos n) (pos 0) ≡ false
no_minus n = lt-leb (suc n) 0 (omega arith)

-- steps are written as a sign and three digits
pub is_steps-steps_text : (steps : ℤ) → unsigned_abs steps ≤ 999
    → is_steps (steps_text steps) ≡ true
is_steps-steps_text (pos n) most = grind (arith, three_digits, no_minus)
is_steps-steps_text (negsuc n) most = grind (arith, three_digits)

-- steps are read from what they are written as
pub spelled_steps-steps_text : (steps : ℤ) → unsigned_abs steps ≤ 999
    → spelled_steps (steps_text steps) ≡ steps
spelled_steps-steps_text (pos n) most = rw (no_minus n) (ap pos (digits most))
spelled_steps-steps_text (negsuc n) most = rw (digits most) refl

of_wrap : (left right : ℤ) (wrap : Bool)
    → cond {A = Option Undo} ((wrap_letter wrap == 78) || (wrap_letter wrap == 87)) (Some (record {
      left = left;
      right = right;
      wrap = wrap_letter wrap == 87;
    })) None ≡ Some (record { left = left; right = right; wrap = wrap })
of_wrap left right true = refl
of_wrap left right false = refl

-- the text of an undo is read as that undo
pub undo_of-undo_text : {undo : Undo} → UndoFitsText undo → undo_of (undo_text undo) ≡ Some undo
unfolding undo_of is_undo_text
undo_of-undo_text fits = grind (arith, is_steps-steps_text, spelled_steps-steps_text, of_wrap)

-- ---- the parts of a value that is read

-- the value has 11 characters, and steps in the first four and in four from the sixth on
pub record AreUndoParts (value : List ℕ) : Type 0 where
  pub long : length value ≡ 11
  pub left : is_steps (take 4 value) ≡ true
  pub right : is_steps (take 4 (drop 5 value)) ≡ true

-- the text of an undo has these parts
pub undo_parts : {value : List ℕ} → is_undo_text value ≡ true → AreUndoParts value
unfolding is_undo_text
undo_parts {value} is =
    let three = and_parts _ _ (and_parts _ _ (and_parts _ _ is).0).0 in
    let one = and_parts _ _ (and_parts _ _ three.0).0 in
    record { long = eqb-true (length value) 11 one.0; left = one.1; right = three.1 }

-- a value that isn't such a text says no undo
pub no_undo : (value : List ℕ) → is_undo_text value ≡ false → undo_of value ≡ None
unfolding undo_of
no_undo value not = rw not refl

-- steps of three digits don't change in 16 bits
in_bits : {steps : ℤ} → unsigned_abs steps ≤ 999 → to_z w16 (of_z w16 steps) ≡ steps
in_bits {steps} most = to_z-of_z w16 steps (fits_signed_from_abs w16 steps (omega (arith, most)))

-- steps of three digits fit in 16 bits
pub most_in_bits : (steps : ℤ) → unsigned_abs steps ≤ 999
    → unsigned_abs (to_z w16 (of_z w16 steps)) ≤ 999
most_in_bits steps most = rw (in_bits most) most

-- the steps and the letter of such a text are the undo that it is read as
pub undo_read : (value : List ℕ) {left right : ℤ} → is_undo_text value ≡ true
    → left ≡ spelled_steps (take 4 value) → unsigned_abs left ≤ 999
    → right ≡ spelled_steps (take 4 (drop 5 value)) → unsigned_abs right ≤ 999 → Some (record {
      left = to_z w16 (of_z w16 left);
      right = to_z w16 (of_z w16 right);
      wrap = get_or value 10 0 == 87;
    }) ≡ undo_of value
unfolding undo_of
undo_read value {left} {right} is left_is left_most right_is right_most =
    rw (is, in_bits left_most, in_bits right_most, left_is, right_is) refl

-- ---- what is read is written again

digit_back : {b c d : ℕ} → 48 ≤ b → b ≤ 57 → 48 ≤ c → c ≤ 57 → 48 ≤ d → d ≤ 57 → {n : ℕ}
    → n ≡ (b - 48) * 100 + (c - 48) * 10 + (d - 48)
    → (48 + n / 100 ≡ b) × (48 + n / 10 % 10 ≡ c) × (48 + n % 10 ≡ d)
digit_back b_least b_most c_least c_most d_least d_most is = grind arith

-- the digits of a number, without its sign
record AreDigits (b c d n : ℕ) : Type 0 where
  pub first : 48 + n / 100 ≡ b
  pub second : 48 + n / 10 % 10 ≡ c
  pub third : 48 + n % 10 ≡ d

plus_back : {b c d n : ℕ} → AreDigits b c d n → steps_text (pos n) ≡ 43 ∷ b ∷ c ∷ d ∷ []
plus_back {n = n} are = rw (no_minus n, are.first, are.second, are.third) refl

minus_back : {b c d : ℕ} (n : ℕ) → AreDigits b c d n → (n == 0) ≡ false
    → steps_text (neg_ℤ (pos n)) ≡ 45 ∷ b ∷ c ∷ d ∷ []
minus_back zero are some = absurd (true≢false some)
minus_back (suc n) are some = rw (are.first, are.second, are.third) refl

or_false : (m : Bool) → (m || false) ≡ m
or_false true = refl
or_false false = refl

sign_cases : {a b c d : ℕ} → ((a == 43) || (a == 45)) ≡ true
    → AreDigits b c d (digits_number (a ∷ b ∷ c ∷ d ∷ []))
    → is_minus_zero (a ∷ b ∷ c ∷ d ∷ []) ≡ false → (is : Bool) → (a == 45) ≡ is
    → steps_text (spelled_steps (a ∷ b ∷ c ∷ d ∷ [])) ≡ a ∷ b ∷ c ∷ d ∷ []
sign_cases sign are whole true own = grind (arith, eqb-true, minus_back)
sign_cases sign are whole false own = grind (arith, eqb-true, or_false, plus_back)

four_back : (four : List ℕ) → length four ≡ 4 → is_steps four ≡ true → is_minus_zero four ≡ false
    → steps_text (spelled_steps four) ≡ four
four_back (a ∷ b ∷ c ∷ d ∷ []) l is whole =
    grind (arith, and_parts, digit_back, leb-true, sign_cases)
four_back (a ∷ b ∷ c ∷ d ∷ e ∷ more) l is whole = absurd (omega (arith, l))
four_back _ l is whole = absurd (omega (arith, l))

eleven : {value : List ℕ} → length value ≡ 11 → value ≡ take 4 value
    ++ (get_or value 4 0 ∷ (take 4 (drop 5 value) ++ (get_or value 9 0 ∷ (get_or value 10 0 ∷ []))))
eleven {value} l =
    grind (
      arith,
      drop_more value 10 0 (omega (arith, l)),
      nil_from_length (drop 11 value) (omega
          (arith, l, length-drop 11 value)),
      length-drop 11 value,
      drop_more value 9 0 (omega (arith, l)),
      take-append-drop 4 (drop 5 value),
      drop-drop 4 5 value,
      drop_more value 4 0 (omega (arith, l)),
      take-append-drop 4 value,
    )

letter_cases : {c : ℕ} (is : Bool) → (c == 87) ≡ is → ((c == 78) || is) ≡ true → wrap_letter is ≡ c
letter_cases {c} true own letter = sym (eqb-true c 87 own)
letter_cases {c} false own letter = sym (eqb-true c 78 (sym (or_false (c == 78)) ∙ letter))

glued : {a b g h : List ℕ} {c d e i j k : ℕ} → a ≡ g → c ≡ i → b ≡ h → d ≡ j → e ≡ k
    → a ++ (c ∷ (b ++ (d ∷ (e ∷ [])))) ≡ g ++ (i ∷ (h ++ (j ∷ (k ∷ []))))
glued first second third fourth fifth = grind (arith, first, second, third)

-- a value that is read as an undo and has no minus zero is that undo's text
pub undo_text-undo_of : (value : List ℕ) (undo : Undo) → undo_of value ≡ Some undo
    → is_minus_zero (take 4 value) ≡ false → is_minus_zero (take 4 (drop 5 value)) ≡ false
    → undo_text undo ≡ value
unfolding undo_of is_undo_text
undo_text-undo_of value undo is left_whole right_whole =
    let here = cond_some (is_undo_text value) (record {
      left = spelled_steps (take 4 value);
      right = spelled_steps (take 4 (drop 5 value));
      wrap = get_or value 10 0 == 87;
    }) undo is in
    let five = and_parts _ _ here.0 in
    let four = and_parts _ _ five.0 in
    let three = and_parts _ _ four.0 in
    let two = and_parts _ _ three.0 in
    let one = and_parts _ _ two.0 in
    let l : length value ≡ 11 = eqb-true (length value) 11 one.0 in
    let left : steps_text (spelled_steps (take 4 value)) ≡ take 4 value =
    four_back (take 4 value) (length-take-le 4 value (omega (arith, l))) one.1 left_whole in
    let right : steps_text (spelled_steps (take 4 (drop 5 value))) ≡ take 4 (drop 5 value) =
    four_back (take 4 (drop 5 value))
    (length-take-le 4 (drop 5 value) (omega (arith, l, length-drop 5 value))) three.1 right_whole in
    ap undo_text (sym here.1)
    ∙ glued left (sym (eqb-true (get_or value 4 0) 44 two.1)) right
    (sym (eqb-true (get_or value 9 0) 44 four.1))
    (letter_cases (get_or value 10 0 == 87) refl five.1)
    ∙ sym (eleven l)
