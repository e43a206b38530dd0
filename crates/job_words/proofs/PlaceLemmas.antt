-- The reading of words as relations: the shape that they have, and the place of the bad word.
use Rattle.std.proofs.Common.{arith, drop, Err, inl, inr, List, None, Ok, refl, Result, Some, ℕ, []}
use Rattle.std.proofs.{Common.{◌+◌, ◌-◌, ◌≡◌, ◌≤◌}, lemmas.{Bool.both_ways, List.length-take}}
use Rattle.std.proofs.lemmas.List.{Elements.All-contains, Sums.common_prefix_len-le}
use Rattle.std.specs.Prelude.{Contains, IfErr, IfOk}
use Rattle.job_words.proofs.ListLemmas.{bounds, common_prefix_len-take, found, none_is, reached}
use Rattle.job_words.proofs.{ListLemmas.whole, ReadingLemmas.listed_form}
use Rattle.job_words.proofs.SoundLemmas.{shape_is_sound}
use Rattle.job_words.specs.Forms.{forms, help_form, Shape, shape_with, shapes}
use Rattle.job_words.specs.Request.{IsSoundRequest, job_request, Request, request_result}
use Rattle.job_words.specs.Words.{count_before, fitting_count, form_words, have_kinds, IsBadWord}
use Rattle.job_words.specs.Words.{IsReadingOf, IsShapePrefix, job_of, later_by, longest_fit}
use Rattle.job_words.specs.Words.{plain_job_of, shape_in, shape_kinds, shape_reading}
use Rattle.job_words.specs.declared.jobs.Job.{Job}

module _ (words : List (List ℕ)) where
  -- a shape that the words follow furthest
  nearest : (shape : Shape) × Contains (shapes forms) shape
      × (fitting_count words shape ≡ longest_fit (shapes forms) words)
  nearest =
      let first = shape_with help_form [] in
      elim (reached (fitting_count words) 0 (shapes forms)) [
        | inl nought ↦ (
          first,
          (0, omega arith, refl),
          omega (
            arith,
            nought,
            (bounds (fitting_count words) 0 (shapes forms)).1 0 first (omega arith),
          ),
        )
        | inr at ↦ at
      ]

  -- the words have as many first kinds of a shape as they follow it
  begins : (shape : Shape) → IsShapePrefix (fitting_count words shape) shape words
  begins shape = grind (arith, common_prefix_len-le, common_prefix_len-take, whole, length-take)

  begins-le : {shape : Shape} {n : ℕ} → IsShapePrefix n shape words → n ≤ fitting_count words shape
  begins-le b = grind (arith, whole, common_prefix_len-take, length-take)

  -- what holds of a reading of the words of a form
  abbrev IsPlainAnswer : Result Request ℕ → Type 0
  IsPlainAnswer (Ok asked) = IsReadingOf words asked × IsSoundRequest asked
  IsPlainAnswer (Err place) = IsBadWord words place

  -- it holds of the reading that the definition gives
  plain_job_is : IsPlainAnswer (plain_job_of words)
  unfolding plain_job_of
  plain_job_is =
      elim (shape_in (shapes forms) words) as (λ o. shape_in (shapes forms) words ≡ o
      → IsPlainAnswer (shape_reading o words (longest_fit (shapes forms) words))) [
        | Some shape ↦ λ is.
            let first =
            found (λ shape. have_kinds (shape_kinds words shape) words) (shapes forms) is in (
              record { shape = shape; listed = first.0; kinds = first.1; read = refl },
              shape_is_sound shape words (listed_form forms first.0) first.1,
            )
        | None ↦ λ none.
            let near = nearest in
            let before : (1 + longest_fit (shapes forms) words) - 1 ≡ fitting_count words near.0 =
            omega (arith, near.2) in
            record {
              none = λ shape listed all. both_ways (have_kinds (shape_kinds words shape) words)
                  (none_is (λ shape. have_kinds (shape_kinds words shape) words)
                  (shapes forms) none listed) all;
              counted = omega arith;
              nearest = near.0;
              listed = near.1;
              before = rw before (begins near.0);
              longest = λ n shape listed b. omega (
                arith,
                begins-le b,
                All-contains (λ shape. fitting_count words shape ≤ longest_fit (shapes forms) words)
                    (shapes forms) shape (bounds (fitting_count words) 0 (shapes forms)).1 listed,
              );
            }
      ] refl

module _ (words : List (List ℕ)) where
  -- what holds of a reading of the program's words
  abbrev pub IsAnswer : Result Request ℕ → Type 0
  IsAnswer (Ok asked) = IsReadingOf (form_words words) asked × IsSoundRequest asked
  IsAnswer (Err place) = IsBadWord (form_words words) (place - count_before words)

  moved : {count : ℕ} (r : Result Request ℕ) → count ≡ count_before words
      → IsPlainAnswer (form_words words) r → IsAnswer (later_by count r)
  moved (Ok asked) same is = is
  moved {count} (Err place) same is =
      let back : (place + count) - count_before words ≡ place = omega (arith, same) in
      rw back is

  -- it holds of the reading that the definition gives
  pub job_is : IsAnswer (job_of words)
  unfolding job_of
  job_is =
      moved (plain_job_of (form_words words)) refl
      (plain_job_is (form_words words))

  -- the reading of the words of the form is, later by so many places, that of all words
  pub read_later : {given : List (List ℕ)} {count : ℕ} → count ≡ count_before words
      → given ≡ drop count words
      → later_by count (plain_job_of given) ≡ job_of words
  unfolding job_of
  read_later same behind = rw (behind, same) refl

  -- it holds of what the code returns
  pub code_is : (r : Result Job ℕ) → IsAnswer (request_result r)
      → IfOk r (λ job. IsReadingOf (form_words words) (job_request job))
      × IfErr r (λ place. IsBadWord (form_words words) (place - count_before words))
      × IfOk r (λ job. IsSoundRequest (job_request job))
  code_is (Ok job) is = (is.0, tt, is.1)
  code_is (Err place) is = (tt, is, tt)
