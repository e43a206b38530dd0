-- Inputs by place, and how they begin.
use Rattle.std.proofs.Common.{ap, ap₂, arith, Bool, drop, false, get_or, length, List, map, refl}
use Rattle.std.proofs.Common.{set, slice_get, slice_index_or, Some, subst, suc, sym, take, true}
use Rattle.std.proofs.Common.{zero, ℕ, [], ◌&&◌, ◌*◌, ◌++◌, ◌+◌, ◌<◌, ◌==◌, ◌^◌, ◌∙◌, ◌∷◌, ◌≡◌}
use Rattle.std.proofs.lemmas.{Bool.{and_parts, eqb-true}, List.Folds.list_all-append}
use Rattle.std.specs.List.{list_all}
use Rattle.bit_fields.proofs.BitsLemmas.{bits-append, bits-cons, bits-one, number-bits_of-below}
use Rattle.bit_fields.specs.Bits.{bits, bits_of, number}
use Rattle.joined_inputs.specs.Inputs.{input_names, InputFields}
use Rattle.laying.specs.Areas.{IsHeld}
use Rattle.outside.specs.{Files.Files, Pass.IsReadPassFault, declared.pass.PassFault.PassFault}
use Rattle.outside.specs.declared.pass.PassFault.TheVariants.{Write}
use Rattle.seamless_edits.proofs.FramePlaceLemmas.{get-index, known-at, map-get}
use Rattle.seamless_edits.specs.Beginnings.{AreBeginnings, input_without_head, IsBeginning}
use Rattle.seamless_edits.specs.{Deciding.from_places, Reading.AreHeld}
use Rattle.seamless_edits.specs.declared.beginnings.Beginning.{Beginning}

-- ---- one input

-- the first of the items from a place on is the one there
pub get-at : {X : Type 0} (xs : List X) (place : ℕ) {x : X} {rest : List X}
    → drop place xs ≡ x ∷ rest → slice_get xs place ≡ Some x
get-at [] zero e = absurd cc
get-at [] (suc place) e = absurd cc
get-at (y ∷ xs) zero e = cc
get-at (y ∷ xs) (suc place) e = get-at xs place e

-- the input at a place
pub known-here : {files : Files} (inputs : List InputFields) (place : ℕ) {i : InputFields}
    {rest : List InputFields} → AreHeld files inputs → drop place inputs ≡ i ∷ rest
    → IsHeld files i.name i.survey
known-here {files} inputs place {i} {rest} known found =
    known-at inputs place known (get-at inputs place found)

-- the name of an input, by its place
pub named-at : (inputs : List InputFields) (place : ℕ) {i : InputFields} {rest : List InputFields}
    → drop place inputs ≡ i ∷ rest → i.name ≡ slice_index_or (input_names inputs) place []
named-at inputs place {i} {rest} e = get-index (input_names inputs) place []
    (map-get (λ (j : InputFields). j.name) inputs place (get-at inputs place e))

-- the beginning of one more input
pub begun-more : {files : Files} (inputs : List InputFields) (bs : List Beginning)
    {i : InputFields} {b : Beginning} → AreBeginnings files inputs bs → IsBeginning files i b
    → AreBeginnings files (inputs ++ i ∷ []) (bs ++ b ∷ [])
begun-more [] [] are is = (is, tt)
begun-more {files} (j ∷ inputs) (c ∷ bs) {i} {b} are is = (are.0, begun-more inputs bs are.1 is)
begun-more _ _ are is = absurd are

-- a pass that doesn't write ends early only because of its input
pub reads-only : {fault : PassFault} → (fault ≡ Write → ⊥) → IsReadPassFault fault
reads-only never = grind arith

-- ---- bytes that are 0

abbrev is_zero : ℕ → Bool
is_zero bit = bit == 0

zeros-number : (bs : List ℕ) → list_all is_zero bs ≡ true → number bs ≡ 0
unfolding number
zeros-number [] none = refl
zeros-number (bit ∷ rest) zeros =
    let parts = and_parts (bit == 0) (list_all is_zero rest) zeros in
    ap₂ (λ b n. b * 2 ^ length rest + n) (eqb-true bit 0 parts.0) (zeros-number rest parts.1)
    ∙ omega arith

byte-zero : {byte : ℕ} → byte < 256 → (b : Bool) → list_all is_zero (bits_of 8 byte) ≡ b
    → (byte ≡ 0 → ⊥) → b ≡ false
byte-zero {byte} few true is some =
    absurd (some (sym (number-bits_of-below 8 few) ∙ zeros-number (bits_of 8 byte) is))
byte-zero few false is some = refl

-- the bits of one byte more
zeros-append : (xs ys : List ℕ) → list_all is_zero (bits (xs ++ ys))
    ≡ (list_all is_zero (bits xs) && list_all is_zero (bits ys))
zeros-append xs ys = grind (arith, bits-append, list_all-append)

zero-bits : list_all is_zero (bits_of 8 0) ≡ true
unfolding bits_of
zero-bits = refl

-- one more byte is 0
pub zeros-next : (xs : List ℕ) {byte : ℕ} → list_all is_zero (bits xs) ≡ true → byte ≡ 0
    → list_all is_zero (bits (xs ++ byte ∷ [])) ≡ true
zeros-next xs so_far none = grind (arith, zeros-append, bits-one, zero-bits)

none-and : (b : Bool) → (b && false) ≡ false
none-and b = grind arith

-- one of the bytes isn't 0
pub zeros-not : (xs : List ℕ) (i : ℕ) → i < length xs → get_or xs i 0 < 256
    → (get_or xs i 0 ≡ 0 → ⊥) → list_all is_zero (bits xs) ≡ false
zeros-not [] i within few some = absurd (omega (arith, within))
zeros-not (x ∷ xs) zero within few some =
    ap (list_all is_zero) (bits-cons x xs) ∙ list_all-append is_zero (bits_of 8 x) (bits xs)
    ∙ ap (λ b. b && list_all is_zero (bits xs))
    (byte-zero few (list_all is_zero (bits_of 8 x)) refl some)
zeros-not (x ∷ xs) (suc i) within few some =
    ap (list_all is_zero) (bits-cons x xs) ∙ list_all-append is_zero (bits_of 8 x) (bits xs)
    ∙ ap (λ b. list_all is_zero (bits_of 8 x) && b)
    (zeros-not xs i (omega (arith, within)) few some) ∙ none-and (list_all is_zero (bits_of 8 x))

-- ---- one more input whose head is set apart

-- when one more head is set apart, all up to it are, and the inputs after it are as they were
pub apart-next : (xs : List InputFields) {now : List InputFields} {n : ℕ} (d : InputFields)
    {new : InputFields} → n < length xs → now
    ≡ map input_without_head (take n xs) ++ drop n xs → new ≡ input_without_head (get_or now n d)
    → set now n new ≡ map input_without_head (take (n + 1) xs) ++ drop (n + 1) xs
apart-next xs {n = n} d {new} within is one =
    subst (λ (l : List InputFields). set l n new
    ≡ map input_without_head (take (n + 1) xs) ++ drop (n + 1) xs)
    (sym is)
    (at xs n within (one ∙ ap (λ (l : List InputFields). input_without_head (get_or l n d)) is))
  where
    at : (xs : List InputFields) (n : ℕ) → n < length xs
        → new ≡ input_without_head (get_or (map input_without_head (take n xs) ++ drop n xs) n d)
        → set (map input_without_head (take n xs) ++ drop n xs) n new
        ≡ map input_without_head (take (n + 1) xs) ++ drop (n + 1) xs
    at [] n within one = absurd (omega (arith, within))
    at (x ∷ xs) zero within one = ap (λ (y : InputFields). y ∷ xs) one
    at (x ∷ xs) (suc n) within one =
        let more : suc n + 1 ≡ suc (n + 1) = omega arith in
        ap (λ (l : List InputFields). input_without_head x ∷ l)
        (at xs n (omega (arith, within)) one)
        ∙ ap (λ m. map input_without_head (take m (x ∷ xs)) ++ drop m (x ∷ xs)) (sym more)

-- ---- one more input that begins behind what is left out

-- when one more input begins behind what is left out, all up to it do, and the inputs after it are
-- as they were
pub from-next : (xs : List InputFields) {now : List InputFields} (froms : List ℕ) {n : ℕ}
    (d : InputFields) {from : ℕ} → n < length xs → now ≡ from_places (take n xs) froms ++ drop n xs
    → drop n froms ≡ from ∷ drop (n + 1) froms → set now n (record (get_or now n d) { from = from })
    ≡ from_places (take (n + 1) xs) froms ++ drop (n + 1) xs
from-next xs {now} froms {n} d {from} within is next =
    subst (λ (l : List InputFields). set l n (record (get_or l n d) { from = from })
    ≡ from_places (take (n + 1) xs) froms ++ drop (n + 1) xs) (sym is) (at xs froms n within next)
  where
    at : (xs : List InputFields) (froms : List ℕ) (n : ℕ) → n < length xs
        → drop n froms ≡ from ∷ drop (n + 1) froms → (let now =
        from_places (take n xs) froms ++ drop n xs in
        set now n (record (get_or now n d) { from = from })
        ≡ from_places (take (n + 1) xs) froms ++ drop (n + 1) xs)
    at [] froms n within next = absurd (omega (arith, within))
    at (x ∷ xs) [] zero within next = absurd cc
    at (x ∷ xs) [] (suc n) within next = absurd cc
    at (x ∷ xs) (f ∷ froms) zero within next =
        let same : f ≡ from = cc in
        ap (λ m. record x { from = m } ∷ xs) (sym same)
    at (x ∷ xs) (f ∷ froms) (suc n) within next =
        let more : suc n + 1 ≡ suc (n + 1) = omega arith in
        ap (λ (l : List InputFields). record x { from = f } ∷ l)
        (at xs froms n (omega (arith, within))
        (next ∙ ap (λ m. from ∷ drop m (f ∷ froms)) more))
        ∙ ap (λ m. from_places (take m (x ∷ xs)) (f ∷ froms) ++ drop m (x ∷ xs)) (sym more)
