-- The first word of a line, and the words after it.
use Rattle.std.proofs.Common.{ap, arith, Bool, cond, drop, false, filter, length, List, not, refl}
use Rattle.std.proofs.Common.{subst, suc, sym, take, true, ℕ, [], ◌+◌, ◌<◌, ◌==◌, ◌∙◌, ◌∷◌, ◌≡◌}
use Rattle.std.proofs.lemmas.{Bool.ne_eqb, List.Splits.slice_split-cons_yes}
use Rattle.std.specs.List.{position_or_len, prefix_len, slice_split}
use Rattle.cue_sheet.proofs.PartsLemmas.{at_first, one_more, other_parts, parts_are, past_other}
use Rattle.cue_sheet.specs.Lines.{is_blank, words_of}

abbrev is_some_word : List ℕ → Bool
is_some_word word = not (length word == 0)

past_blank : (x : ℕ) (xs : List ℕ) → is_blank x ≡ true
    → prefix_len is_blank (x ∷ xs) ≡ suc (prefix_len is_blank xs)
past_blank x xs is =
    ap (λ b. cond b (1 + prefix_len is_blank xs) 0) is ∙ one_more (prefix_len is_blank xs)

at_letter : (x : ℕ) (xs : List ℕ) → is_blank x ≡ false → prefix_len is_blank (x ∷ xs) ≡ 0
at_letter x xs is = ap (λ b. cond b (1 + prefix_len is_blank xs) 0) is

abbrev others_at : ℕ → List ℕ → Type 0
others_at n t = filter is_some_word (other_parts is_blank (drop n t))
    ≡ filter is_some_word (slice_split is_blank (drop n t))

others_are : (t : List ℕ) → others_at (position_or_len is_blank t) t
others_are [] = refl
others_are (x ∷ xs) =
    elim (is_blank x) as (λ b. is_blank x ≡ b
    → others_at (position_or_len is_blank (x ∷ xs)) (x ∷ xs)) [
      | true ↦ λ is. subst (λ n. others_at n (x ∷ xs)) (sym (at_first is_blank {x = x} xs is))
          (ap (filter is_some_word) (sym (slice_split-cons_yes is_blank x xs is)))
      | false ↦ λ is. subst (λ n. others_at n (x ∷ xs)) (sym (past_other is_blank {x = x} xs is))
          (others_are xs)
    ] refl

-- dropping the blanks at the beginning doesn't change the words
behind_blanks : (t : List ℕ) → words_of (drop (prefix_len is_blank t) t) ≡ words_of t
unfolding words_of
behind_blanks [] = refl
behind_blanks (x ∷ xs) =
    elim (is_blank x) as (λ b. is_blank x ≡ b
    → words_of (drop (prefix_len is_blank (x ∷ xs)) (x ∷ xs)) ≡ words_of (x ∷ xs)) [
      | true ↦ λ is. ap (λ n. words_of (drop n (x ∷ xs))) (past_blank x xs is) ∙ behind_blanks xs
          ∙ ap (filter is_some_word) (sym (slice_split-cons_yes is_blank x xs is))
      | false ↦ λ is. ap (λ n. words_of (drop n (x ∷ xs))) (at_letter x xs is)
    ] refl

no_more_blanks : (t : List ℕ) → prefix_len is_blank (drop (prefix_len is_blank t) t) ≡ 0
no_more_blanks [] = refl
no_more_blanks (x ∷ xs) =
    elim (is_blank x) as (λ b. is_blank x ≡ b
    → prefix_len is_blank (drop (prefix_len is_blank (x ∷ xs)) (x ∷ xs)) ≡ 0) [
      | true ↦ λ is. ap (λ n. prefix_len is_blank (drop n (x ∷ xs))) (past_blank x xs is)
          ∙ no_more_blanks xs
      | false ↦ λ is. ap (λ n. prefix_len is_blank (drop n (x ∷ xs))) (at_letter x xs is)
          ∙ at_letter x xs is
    ] refl

-- a text that doesn't begin with a blank begins with a word
some_word : (t : List ℕ) → 0 < length t → prefix_len is_blank t ≡ 0
    → is_some_word (take (position_or_len is_blank t) t) ≡ true
some_word [] some none = absurd (omega (arith, some))
some_word (x ∷ xs) some none =
    elim (is_blank x) as (λ b. is_blank x ≡ b
    → is_some_word (take (position_or_len is_blank (x ∷ xs)) (x ∷ xs)) ≡ true) [
      | true ↦ λ is. absurd (omega (arith, past_blank x xs is, none))
      | false ↦ λ is. ap (λ n. is_some_word (take n (x ∷ xs))) (past_other is_blank {x = x} xs is)
          ∙ ap not (ne_eqb _ 0 (λ none. omega (arith, none)))
    ] refl

here : (t : List ℕ) → 0 < length t → prefix_len is_blank t ≡ 0 → words_of t
    ≡ take (position_or_len is_blank t) t ∷ words_of (drop (position_or_len is_blank t) t)
unfolding words_of
here t some none =
    ap (filter is_some_word) (parts_are is_blank t)
    ∙ ap (λ b. cond b (take (position_or_len is_blank t) t ∷ filter is_some_word
    (other_parts is_blank (drop (position_or_len is_blank t) t))) (filter is_some_word
    (other_parts is_blank (drop (position_or_len is_blank t) t)))) (some_word t some none)
    ∙ ap (λ words. take (position_or_len is_blank t) t ∷ words) (others_are t)

-- the words of a line are the first word and the words after it
pub next_word_is : (line : List ℕ) {t : List ℕ} → t ≡ drop (prefix_len is_blank line) line
    → 0 < length t → words_of line
    ≡ take (position_or_len is_blank t) t ∷ words_of (drop (position_or_len is_blank t) t)
next_word_is line {t} is some = sym (behind_blanks line) ∙ ap words_of (sym is)
    ∙ here t some (ap (prefix_len is_blank) is ∙ no_more_blanks line)

no_words : (t : List ℕ) → length t ≡ 0 → words_of t ≡ []
unfolding words_of
no_words [] none = refl
no_words (x ∷ xs) none = absurd (omega (arith, none))

-- a line of blanks has no words
pub no_next_word : (line : List ℕ) {t : List ℕ} → t ≡ drop (prefix_len is_blank line) line
    → length t ≡ 0 → words_of line ≡ []
no_next_word line {t} is none = sym (behind_blanks line) ∙ ap words_of (sym is) ∙ no_words t none
