-- The forms in order: the shape that the words have of one, and how far they follow it.
use Rattle.std.proofs.Common.{ap, append-nil, arith, Bool, cond, drop, Err, false, get_or, leb}
use Rattle.std.proofs.Common.{length, length-append, List, max, None, Ok, refl, replicate, Result}
use Rattle.std.proofs.Common.{Some, subst, suc, sym, take, true, zero, ℕ, [], ◌&&◌, ◌++◌, ◌+◌, ◌-◌}
use Rattle.std.proofs.Common.{◌<◌, ◌∙◌, ◌∷◌, ◌≡◌, ◌≤◌, ◌⊎◌}
use Rattle.std.proofs.lemmas.Bool.{and_parts, false_from_ne_true, leb-true, not-true}
use Rattle.std.proofs.lemmas.Grind.{flat_map-append}
use Rattle.std.proofs.lemmas.List.{length-drop, map-append, take-append-drop, take_more}
use Rattle.std.proofs.lemmas.List.{Elements.{All-contains, All-map, All-weaker}, Folds.find-append}
use Rattle.std.proofs.lemmas.List.Sums.{AllPass-from_list_all, common_prefix_len-le}
use Rattle.std.{proofs.lemmas.Slice.Eq.bytes_eq-Decides, specs.List.{All, common_prefix_len}}
use Rattle.std.specs.Prelude.{Contains}
use Rattle.job_words.proofs.FollowLemmas.{further_words-le, length-form_kinds, length-values_of}
use Rattle.job_words.proofs.ListLemmas.{all_flat_map, contains_map, greatest_append, greatest_is}
use Rattle.job_words.proofs.ListLemmas.{only_one, whole}
use Rattle.job_words.proofs.OrderLemmas.{after_same, given_is_order, IsClear, IsNoBetter, IsNowhere}
use Rattle.job_words.proofs.OrderLemmas.{IsOrder, kinds_by, no_better, nowhere, of_equal}
use Rattle.job_words.proofs.OrderLemmas.{orders_are}
use Rattle.job_words.specs.Flags.{first_word, leading_flags, orders}
use Rattle.job_words.specs.Forms.{Form, form_kinds, form_request, forms, front_kinds, further_words}
use Rattle.job_words.specs.Forms.{has_clear_flags, IsReadable, last_kind, most_further, most_values}
use Rattle.job_words.specs.Forms.{Shape, shape_request, shape_with, shapes, shapes_of}
use Rattle.job_words.specs.{Kinds.{fits_kind, Fixed, Kind, Name, Said, values_of}, Request.Request}
use Rattle.job_words.specs.Words.{fitting_count, have_kinds, longest_fit, shape_in, shape_kinds}
use Rattle.job_words.specs.{Words.{shape_reading, table_reading}, declared.flags.Flag.Flag}

-- ---- the shapes of one form

-- the shape with the flags that the words begin with
abbrev pub best_of : Form → List (List ℕ) → Shape
best_of form words = shape_with form (leading_flags form.flags (drop 1 words))

-- the first kind after the flags doesn't fit
no_first : (kinds : List Kind) (more : ℕ) (word : List ℕ) (words : List (List ℕ))
    → fits_kind (get_or kinds 0 Name) word ≡ false
    → IsNowhere (kinds ++ replicate more (last_kind kinds)) (word ∷ words)
no_first [] zero word words other = (refl, refl)
no_first [] (suc more) word words other = (rw other refl, rw other refl)
no_first (kind ∷ kinds) more word words other = (rw other refl, rw other refl)

clear_flags : (form : Form) → has_clear_flags form ≡ true
    → All (IsClear (form_kinds form)) form.flags
clear_flags form clear = λ k d lt word begins n words.
    let word-is = (bytes_eq-Decides word (first_word (get_or form.flags k d))).0 begins in
    no_first form.kinds (further_words form.more (n - length form.kinds)) word words
    (rw word-is (not-true _ (AllPass-from_list_all _ form.flags clear k d lt)))

shape_kinds-cons : (form : Form) (given : List Flag) (word : List ℕ) (words : List (List ℕ))
    → shape_kinds (word ∷ words) (shape_with form given)
    ≡ Fixed form.command ∷ kinds_by (form_kinds form) given words
shape_kinds-cons form given word words = grind arith

-- the words go no further with a shape than with the best, and have all kinds only with the best
abbrev IsNoBetterShape : Form → List (List ℕ) → Shape → Type 0
IsNoBetterShape form words shape = IsNoBetter (shape ≡ best_of form words)
    (shape_kinds words (best_of form words)) (shape_kinds words shape) words

no_better_with : {form : Form} → has_clear_flags form ≡ true
    → (words : List (List ℕ)) {given : List Flag} → IsOrder (length form.flags) form.flags given
    → IsNoBetterShape form words (shape_with form given)
no_better_with clear [] is = grind (arith, nowhere)
no_better_with {form} clear (word ∷ words) {given} is =
    grind (
      arith,
      no_better (form_kinds form) (length form.flags) form.flags words (clear_flags form
          clear) given is,
      clear_flags form clear,
      of_equal,
      shape_kinds-cons,
      shape_kinds-cons form given
          word words,
      after_same,
    )

-- the words are read by the best shape
table_reading-of : (form : Form) → has_clear_flags form ≡ true → (words : List (List ℕ)) {b : Bool}
    → have_kinds (shape_kinds words (best_of form words)) words ≡ b
    → table_reading (shapes_of form) words
    ≡ shape_reading (cond b (Some (best_of form words)) None) words
    (fitting_count words (best_of form words))
table_reading-of form clear words {b} is =
    let best = best_of form words in
    let n = length form.flags in
    let none_better : All (IsNoBetterShape form words) (shapes_of form) =
    All-map (IsNoBetterShape form words) (shape_with form) (orders form.flags)
    (λ k d lt. no_better_with clear words
    (orders_are n form.flags k d lt)) in
    let listed : Contains (shapes_of form) best = contains_map (shape_with form) (orders form.flags)
    (given_is_order n form.flags (drop 1 words)) in
    let shape-is : shape_in (shapes_of form) words
    ≡ cond (have_kinds (shape_kinds words best) words) (Some best) None = grind (arith, only_one) in
    let far-is : longest_fit (shapes_of form) words ≡ fitting_count words best =
    greatest_is (fitting_count words) (shapes_of form) listed
    (λ k d lt. (none_better k d lt).0) in
    ap (λ o. shape_reading o words (longest_fit (shapes_of form) words)) (shape-is
    ∙ ap (λ b. cond b (Some best) None) is)
    ∙ ap (shape_reading (cond b (Some best) None) words) far-is

-- what the code finds of a form: the flags, the kinds, how many of
-- the kinds come before those after the flags, and what the words say
pub record Found (form : Form) (words : List (List ℕ)) (given : List Flag) (front : ℕ)
    (kinds : List Kind) (values : List Said) : Type 0 where
  pub given-is : given ≡ leading_flags form.flags (drop 1 words)
  pub front-is : front ≡ length (front_kinds form.command given)
  pub kinds-is : kinds ≡ front_kinds form.command given ++ form_kinds form (length words - front)
  pub values-is : values ≡ values_of kinds words

module _ {form : Form} (readable : IsReadable form) {words : List (List ℕ)} {given : List Flag}
    {front : ℕ} {kinds : List Kind} {values : List Said}
    (f : Found form words given front kinds values) where
  kinds-are : kinds ≡ shape_kinds words (best_of form words)
  kinds-are = f.kinds-is ∙ rw (f.front-is, f.given-is) refl

  count-is : length values ≡ common_prefix_len fits_kind kinds words
  count-is = ap length f.values-is ∙ length-values_of kinds words

  -- no more values are read than the form asks for
  pub few : length (drop front values) ≤ most_values form.asks
  few =
      grind (
        arith,
        length-drop,
        count-is,
        common_prefix_len-le,
        length-append,
        length-form_kinds,
        further_words-le,
      )

  -- words and kinds that all have values are accepted
  pub accepts : {asked : Request} → length words ≤ length values → length kinds ≤ length values
      → asked ≡ form_request form.asks given (drop front values) (drop front words)
      → Ok asked ≡ table_reading (shapes_of form) words
  accepts {asked} all_words all_kinds is =
      let short = common_prefix_len-le fits_kind kinds words in
      let all : have_kinds kinds words ≡ true = grind (arith, whole, count-is) in
      let front-are : front
      ≡ length (front_kinds form.command (leading_flags form.flags (drop 1 words))) = grind arith in
      let asked-is : asked ≡ shape_request (best_of form words) words = grind (arith, kinds-are) in
      ap Ok asked-is ∙ sym (table_reading-of form readable.clear words
      (subst (λ kinds. have_kinds kinds words ≡ true) kinds-are all))

  -- otherwise the first word without a value is the bad one
  pub refuses : (length values < length words) ⊎ (length values < length kinds)
      → Err (length values + 1) ≡ table_reading (shapes_of form) words
  refuses short =
      let not_all : have_kinds kinds words ≡ false =
      grind (arith, false_from_ne_true, whole, count-is) in
      let longest : length values + 1 ≡ 1 + fitting_count words (best_of form words) =
      omega (arith, count-is, ap (λ kinds. common_prefix_len fits_kind kinds words) kinds-are) in
      ap Err longest ∙ sym (table_reading-of form readable.clear words
      (subst (λ kinds. have_kinds kinds words ≡ false) kinds-are not_all))

-- ---- the forms in order

-- the first reading that takes the words, or the further of the two places
abbrev first_of : Result Request ℕ → Result Request ℕ → Result Request ℕ
first_of (Ok asked) second = Ok asked
first_of (Err place) (Ok asked) = Ok asked
first_of (Err place) (Err bad) = Err (max place bad)

table_reading-append : (xs ys : List Shape) (words : List (List ℕ))
    → table_reading (xs ++ ys) words ≡ first_of (table_reading xs words) (table_reading ys words)
table_reading-append xs ys words = grind (arith, find-append, map-append, greatest_append)

-- the reading by the forms up to the one at i, where the forms before it don't take the words
module _ (table : List Form) (words : List (List ℕ)) {i : ℕ} (d : Form) {place : ℕ}
    (lt : i < length table) (before : table_reading (shapes (take i table)) words ≡ Err place) where
  -- one more form is tried after those before it
  pub table_reading-more : {here : Result Request ℕ}
      → here ≡ table_reading (shapes_of (get_or table i d)) words
      → table_reading (shapes (take (i + 1) table)) words ≡ first_of (Err place) here
  table_reading-more is =
      let more : shapes (take (i + 1) table)
      ≡ shapes (take i table) ++ shapes_of (get_or table i d) =
      rw (take_more table i d lt, flat_map-append shapes_of (take i table) (get_or table i d ∷ []))
      (ap (λ (last : List Shape). shapes (take i table) ++ last)
      (append-nil (shapes_of (get_or table i d)))) in
      ap (λ table. table_reading table words) more ∙ table_reading-append (shapes (take i table))
      (shapes_of (get_or table i d)) words ∙ rw (before, ← is) refl

  -- words that this form takes are accepted
  pub accepted : {asked : Request} → Ok asked ≡ table_reading (shapes_of (get_or table i d)) words
      → Ok asked ≡ table_reading (shapes table) words
  accepted {asked} here =
      let split : shapes table ≡ shapes (take (i + 1) table) ++ shapes (drop (i + 1) table) =
      ap shapes (sym (take-append-drop (i + 1) table))
      ∙ flat_map-append shapes_of (take (i + 1) table) (drop (i + 1) table) in
      sym (ap (λ table. table_reading table words) split
      ∙ table_reading-append (shapes (take (i + 1) table))
      (shapes (drop (i + 1) table)) words ∙ rw (table_reading-more here) refl)

-- ---- the table

-- each shape is one of a form of the table
pub listed_form : (table : List Form) {shape : Shape} → Contains (shapes table) shape
    → Contains table shape.form
listed_form table {shape} member =
    let P : Shape → Type 0 = λ shape. Contains table shape.form in
    All-contains P (shapes table) shape (all_flat_map P shapes_of table
    (λ form member. All-map P (shape_with form) (orders form.flags) (λ k d lt. member))) member

abbrev is_readable : Form → Bool
is_readable form = leb (length form.flags) 4 && leb (length form.kinds) 5
    && leb (most_further form.more) 98
    && leb (length form.kinds + most_further form.more) (most_values form.asks)
    && has_clear_flags form

readable_by : {form : Form} → is_readable form ≡ true → IsReadable form
readable_by all = grind (arith, and_parts, leb-true)

-- each form can be read
pub forms_are_readable : All IsReadable forms
forms_are_readable = search (arith, All-weaker, readable_by, AllPass-from_list_all)
