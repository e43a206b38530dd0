-- How many kinds there are, how far words follow them, and what they say.
use Rattle.std.proofs.Common.{ap, append-nil, arith, drop, get_or, is_some, length, length-append}
use Rattle.std.proofs.Common.{List, map, Option, refl, replicate, suc, zero, ℕ, [], ◌++◌, ◌+◌, ◌-◌}
use Rattle.std.proofs.Common.{◌<◌, ◌∷◌, ◌≡◌, ◌≤◌}
use Rattle.std.proofs.lemmas.List.{drop_all, drop_more, get_or-map, length-map, length-replicate}
use Rattle.std.specs.List.{common_prefix_len}
use Rattle.job_words.specs.Forms.{Form, form_kinds, further_words, most_further}
use Rattle.job_words.specs.Kinds.{fits_kind, Kind, Said, said_first, values_of, word_value}
use Rattle.job_words.specs.declared.forms.More.{More, TheVariants.{Pairs, Words}}

-- there are at most as many further words as there may be
pub further_words-le : (more : More) (left : ℕ) → further_words more left ≤ most_further more
further_words-le (Words most) left = omega arith
further_words-le (Pairs most) left = omega arith

-- words that may be repeated add kinds, as many as words are left for them
pub length-form_kinds : (form : Form) (count : ℕ) → length (form_kinds form count)
    ≡ length form.kinds + further_words form.more (count - length form.kinds)
length-form_kinds form count = rw (length-append, length-replicate) refl

-- what is made of one thing repeated is repeated
pub map-replicate : {X Y : Type 0} (f : X → Y) (n : ℕ) (x : X)
    → map f (replicate n x) ≡ replicate n (f x)
map-replicate f zero x = refl
map-replicate {Y = Y} f (suc n) x = ap (λ (list : List Y). f x ∷ list) (map-replicate f n x)

-- there are as many values as words that follow the kinds
pub length-values_of : (kinds : List Kind) (words : List (List ℕ))
    → length (values_of kinds words) ≡ common_prefix_len fits_kind kinds words
length-values_of [] words = refl
length-values_of (kind ∷ kinds) [] = refl
length-values_of (kind ∷ kinds) (word ∷ words) =
    grind (arith, is_some, length-values_of kinds words)

no_words : (kinds : List Kind) → values_of kinds [] ≡ []
no_words [] = refl
no_words (kind ∷ kinds) = refl

-- what the code has read so far, and what is left
module _ {K W : Type 0} (kind_of : K → Kind) (word_of : W → List ℕ) (kinds : List K)
    (words : List W) (so_far : List Said) {i : ℕ}
    (before : so_far ++ values_of (drop i (map kind_of kinds)) (drop i (map word_of words))
    ≡ values_of (map kind_of kinds) (map word_of words)) where
  -- the word at i says what its kind reads from it
  pub goes_on : (c : K) (d : W) {word : List ℕ} {o : Option Said} → i < length kinds
      → i < length words → word ≡ word_of (get_or words i d)
      → word_value (kind_of (get_or kinds i c)) word ≡ o
      → so_far ++ said_first o (values_of (drop (i + 1) (map kind_of kinds))
      (drop (i + 1) (map word_of words))) ≡ values_of (map kind_of kinds) (map word_of words)
  goes_on c d {o = o} in_kinds in_words word-is is =
      let says : word_value (get_or (map kind_of kinds) i (kind_of c))
      (get_or (map word_of words) i [])
      ≡ o = grind (arith, get_or-map) in
      rw (
        drop_more (map kind_of kinds) i (kind_of c) (rw length-map in_kinds),
        drop_more (map word_of words) i [] (rw length-map in_words),
        says,
      ) at before

  -- past the last word, all was read
  pub ends : length words ≤ i → so_far ≡ values_of (map kind_of kinds) (map word_of words)
  ends end = grind (arith, drop_all, length-map, no_words, append-nil)
