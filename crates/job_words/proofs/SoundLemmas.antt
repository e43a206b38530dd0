-- What is asked for is in range.
use Rattle.std.proofs.Common.{append-nil, arith, drop, get_or, length, List, map, min, neg_ℤ, None}
use Rattle.std.proofs.Common.{Option, pos, refl, Some, subst, suc, true, zero, ℕ, [], ◌++◌, ◌-◌}
use Rattle.std.proofs.Common.{◌==◌, ◌∷◌, ◌≡◌, ◌≤◌}
use Rattle.std.proofs.lemmas.{Bool.{and_parts, cond_both, eqb-false, leb-true}, Int.ints}
use Rattle.std.proofs.lemmas.List.{drop_at, length-drop, length-map}
use Rattle.std.proofs.lemmas.List.Elements.{All-contains, All-from_recursion, All-map}
use Rattle.std.{proofs.lemmas.Slice.Zip.AllZip-long, specs.{List.{All, AllZip}, Option.option_or}}
use Rattle.std.specs.Prelude.{Contains, IfSome, if◌then◌else◌, option_and_then, option_map}
use Rattle.cue_sheet.specs.Digits.{number_in, size_in, steps_in}
use Rattle.cue_sheet.specs.Places.{IsPlace, place_of, time_in, time_of}
use Rattle.exact_span.specs.Places.{exact_place_of, IsExactPlace}
use Rattle.exact_span.specs.declared.exact_place.ExactPlace.{ExactPlace}
use Rattle.job_words.proofs.FollowLemmas.{length-form_kinds}
use Rattle.job_words.proofs.ListLemmas.{All-pairs_of, length-pairs_of, zip_drop, zip_replicate}
use Rattle.job_words.proofs.ListLemmas.{zipped}
use Rattle.job_words.specs.Forms.{best_form, channel_form, constant_form, cut_form, drill_form}
use Rattle.job_words.specs.Forms.{exact_form, exact_sheet_form, exact_split_form, fade_form}
use Rattle.job_words.specs.Forms.{floor_form, Form, form_kinds, form_request, forms, front_kinds_of}
use Rattle.job_words.specs.Forms.{further_words, gain_form, help_form, info_form, join_form}
use Rattle.job_words.specs.Forms.{list_form, pack_form, remove_form, salvage_form, Shape}
use Rattle.job_words.specs.Forms.{shape_request, sheet_form, short_help_form, split_form, undo_form}
use Rattle.job_words.specs.Forms.{version_form}
use Rattle.job_words.specs.Kinds.{Channel, Count, count_in, count_said, CountSaid, Exact}
use Rattle.job_words.specs.Kinds.{exact_said, fits_kind, Fixed, Kind, Name, name_said, Place}
use Rattle.job_words.specs.Kinds.{place_said, PlaceSaid, Rate, Said, said_at, Seed, seed_said}
use Rattle.job_words.specs.Kinds.{Steps, steps_said, StepsSaid, values_of, word_value}
use Rattle.job_words.specs.Request.{IsCount, IsName, IsSeed, IsSoundRequest, IsStepCount}
use Rattle.job_words.specs.{Words.{have_kinds, shape_kinds}, declared.flags.Flag.Flag}
use Rattle.job_words.specs.declared.forms.More.TheVariants.{Pairs, Words}

-- ---- numbers and places

mapped : {A B : Type 0} (f : A → B) (P : B → Type 0) (o : Option A) → IfSome o (λ a. P (f a))
    → IfSome (option_map f o) P
mapped f P None h = tt
mapped f P (Some a) h = h

anything : {A : Type 0} (o : Option A) → IfSome o (λ a. Unit {0})
anything None = tt
anything (Some a) = tt

-- what holds of each number up to the greatest
number_within : (least most : ℕ) {greatest : ℕ} (digits : List ℕ) (P : ℕ → Type 0)
    → ((number : ℕ) → number ≤ greatest → P number)
    → IfSome (number_in least most greatest digits) P
unfolding number_in
number_within least most digits P each = grind (arith, cond_both, leb-true, and_parts)

sized : (digits : List ℕ) → IfSome (size_in digits) IsStepCount
sized digits = grind (arith, mapped, pos, number_within, ints)

sized_down : (digits : List ℕ) → IfSome (option_map neg_ℤ (size_in digits)) IsStepCount
sized_down digits = grind (arith, mapped, neg_ℤ, pos, number_within, ints)

steps_in_range : (word : List ℕ) → IfSome (steps_in word) IsStepCount
steps_in_range [] = tt
steps_in_range (first ∷ rest) = grind (arith, cond_both, sized, sized_down)

timed : (minutes seconds hundredths : Option ℕ) → IfSome (option_and_then
    (λ m. option_and_then (λ s. option_map (time_in m s) hundredths) seconds) minutes) IsPlace
timed None seconds hundredths = tt
timed (Some m) None hundredths = tt
timed (Some m) (Some s) None = tt
timed (Some m) (Some s) (Some h) = (omega arith, omega arith)

place_in_range : (word : List ℕ) → IfSome (place_of word) IsPlace
unfolding place_of time_of
place_in_range word = grind (arith, cond_both, mapped, anything, timed)

fine : (o : Option ℕ) → (f : ℕ → ExactPlace) → ((n : ℕ) → IsExactPlace (f n))
    → IfSome (option_map f o) IsExactPlace
fine None f each = tt
fine (Some n) f each = each n

either : (o rest : Option ExactPlace) → IfSome o IsExactPlace → IfSome rest IsExactPlace
    → IfSome (option_or o rest) IsExactPlace
either None rest first second = second
either (Some place) rest first second = first

exact_in_range : (word : List ℕ) → IfSome (exact_place_of word) IsExactPlace
unfolding exact_place_of
exact_in_range word = grind (arith, either, mapped, place_in_range, fine)

count_in_range : (o : Option ℕ) → IfSome o (λ count. count ≤ 20000)
    → IfSome (option_and_then (λ count. if count == 0 then None else Some count) o) IsCount
count_in_range None few = tt
count_in_range (Some count) few = grind (arith, cond_both, eqb-false)

-- ---- what words say

-- what a word of the kind says is in range
abbrev IsRight : Kind → Said → Type 0
IsRight Name value = IsName (name_said value)
IsRight Steps value = IsStepCount (steps_said value)
IsRight Place value = IsPlace (place_said value)
IsRight Exact value = IsExactPlace (exact_said value)
IsRight Seed value = IsSeed (seed_said value)
IsRight Count value = IsCount (count_said value)
IsRight _ value = Unit {0}

word_value-right : (kind : Kind) (word : List ℕ) → IfSome (word_value kind word) (IsRight kind)
word_value-right Name word = grind (arith, cond_both)
word_value-right Steps word = mapped StepsSaid (IsRight Steps) (steps_in word) (steps_in_range word)
word_value-right Place word = mapped PlaceSaid (IsRight Place) (place_of word) (place_in_range word)
word_value-right Exact word = grind (arith, mapped, exact_in_range)
word_value-right Seed word = grind (arith, mapped, number_within)
word_value-right Count word =
    mapped CountSaid (IsRight Count) (count_in word) (count_in_range (number_in 1 5 20000 word)
    (number_within 1 5 word (λ count. count ≤ 20000) (λ count le. le)))
word_value-right (Fixed text) word = anything (word_value (Fixed text) word)
word_value-right Channel word = anything (word_value Channel word)
word_value-right Rate word = anything (word_value Rate word)

abbrev Fits : Kind → List ℕ → Type 0
Fits kind word = fits_kind kind word ≡ true

values_right : (kinds : List Kind) (words : List (List ℕ)) → AllZip Fits kinds words
    → AllZip IsRight kinds (values_of kinds words)
values_right [] [] fits = tt
values_right [] (word ∷ words) fits = absurd fits
values_right (kind ∷ kinds) [] fits = absurd fits
values_right (kind ∷ kinds) (word ∷ words) fits =
    grind (arith, values_right kinds words fits.1, word_value-right kind word)

-- the value at a place, counted from 0
at_place : (kinds : List Kind) (values : List Said) → AllZip IsRight kinds values → (k : ℕ)
    → IsRight (get_or kinds k (Fixed [])) (said_at values k)
at_place [] [] all k = tt
at_place [] (value ∷ values) all k = absurd all
at_place (kind ∷ kinds) [] all k = absurd all
at_place (kind ∷ kinds) (value ∷ values) all zero = all.0
at_place (kind ∷ kinds) (value ∷ values) all (suc k) = at_place kinds values all.1 k

name_fits : (word : List ℕ) → Fits Name word → IsName word
name_fits word = grind arith

-- ---- each form

-- what words of the form, after any flags, ask for is sound
abbrev AreSound : Form → Type 0
AreSound form = (count : ℕ) (given : List Flag) (values : List Said) (words : List (List ℕ))
    → AllZip IsRight (form_kinds form count) values → AllZip Fits (form_kinds form count) words
    → IsSoundRequest (form_request form.asks given values words)

-- a form whose last kind isn't repeated is sound if its values are
once : (form : Form) → form.more ≡ Words 0
    → ((given : List Flag) (values : List Said) (words : List (List ℕ))
    → ((k : ℕ) → IsRight (get_or form.kinds k (Fixed [])) (said_at values k))
    → IsSoundRequest (form_request form.asks given values words)) → AreSound form
once form none sound count given values words right fits = grind (arith, append-nil, at_place)

split_is_sound : AreSound split_form
split_is_sound count given values words right fits =
    let kinds = form_kinds split_form count in
    let at = at_place kinds values right in
    let many : length (map place_said (drop 2 values)) ≡ length kinds - 2 =
    rw (length-map, length-drop, AllZip-long IsRight kinds values right) refl in
    let each = zip_replicate IsRight (suc (suc (min 98 (count - 4)))) Place (drop 2 values)
    (zip_drop IsRight 2 kinds values right) in (
      at 0,
      at 1,
      record {
        some = omega (arith, many, length-form_kinds split_form count);
        few = omega (arith, many, length-form_kinds split_form count);
        each = All-map IsPlace place_said (drop 2 values) each;
      },
    )

exact_split_is_sound : AreSound exact_split_form
exact_split_is_sound count given values words right fits =
    let kinds = form_kinds exact_split_form count in
    let at = at_place kinds values right in
    let many : length (map exact_said (drop 3 values)) ≡ length kinds - 3 =
    rw (length-map, length-drop, AllZip-long IsRight kinds values right) refl in
    let each = zip_replicate IsRight (suc (suc (min 98 (count - 5)))) Exact (drop 3 values)
    (zip_drop IsRight 3 kinds values right) in (
      at 1,
      at 2,
      record {
        some = omega (arith, many, length-form_kinds exact_split_form count);
        few = omega (arith, many, length-form_kinds exact_split_form count);
        each = All-map IsExactPlace exact_said (drop 3 values) each;
      },
    )

join_is_sound : AreSound join_form
join_is_sound count given values words right fits =
    grind (
      arith,
      length-drop,
      AllZip-long,
      zip_replicate,
      zip_drop,
      at_place,
      length-form_kinds
          join_form count,
      name_fits,
    )

remove_is_sound : AreSound remove_form
remove_is_sound count given values words right fits =
    let kinds = form_kinds remove_form count in
    let at = at_place kinds values right in
    let places = map exact_said (drop 2 values) in
    let many : length places ≡ length kinds - 2 =
    rw (length-map, length-drop, AllZip-long IsRight kinds values right) refl in
    let each =
    zip_replicate IsRight (suc (suc (further_words (Pairs 49) (count - 4)))) Exact (drop 2 values)
    (zip_drop IsRight 2 kinds values right) in (
      at 0,
      at 1,
      record {
        some = omega (arith, many, length-form_kinds remove_form count, length-pairs_of places);
        few = omega (arith, many, length-form_kinds remove_form count, length-pairs_of places);
        each =
            All-pairs_of IsExactPlace places (All-map IsExactPlace exact_said (drop 2 values) each);
      },
    )

also : {A B : Type 0} → A → B → A × B
also a b = (a, b)

forms_are_sound : All AreSound forms
forms_are_sound =
    All-from_recursion AreSound forms
    (also (once help_form refl (λ given values words at. tt))
    (also (once short_help_form refl (λ given values words at. tt))
    (also (once version_form refl (λ given values words at. tt))
    (also (once list_form refl (λ given values words at. at 0))
    (also (once info_form refl (λ given values words at. at 0))
    (also (once gain_form refl (λ given values words at. (at 2, at 3, at 1)))
    (also (once channel_form refl (λ given values words at. (at 3, at 4, at 2)))
    (also (once undo_form refl (λ given values words at. (at 1, at 2)))
    (also (once cut_form refl (λ given values words at. (at 0, at 3, at 1, at 2)))
    (also (once exact_form refl (λ given values words at. (at 1, at 4, at 2, at 3)))
    (also (once pack_form refl (λ given values words at. (at 0, at 1)))
    (also (once constant_form refl (λ given values words at. (at 2, at 3)))
    (also (once floor_form refl (λ given values words at. (at 2, at 3)))
    (also (once best_form refl (λ given values words at. (at 1, at 2)))
    (also split_is_sound
    (also exact_split_is_sound
    (also (once sheet_form refl (λ given values words at. (at 0, at 1, at 3)))
    (also (once exact_sheet_form refl (λ given values words at. (at 1, at 2, at 4)))
    (also join_is_sound
    (also (once drill_form refl (λ given values words at. (at 0, at 1)))
    (also (once fade_form refl (λ given values words at. (at 0, at 1, at 2)))
    (also (once salvage_form refl (λ given values words at. (at 0, at 1)))
    (also remove_is_sound tt)))))))))))))))))))))))

-- what words with all kinds of a shape ask for is in range
pub shape_is_sound : (shape : Shape) (words : List (List ℕ)) → Contains forms shape.form
    → have_kinds (shape_kinds words shape) words ≡ true → IsSoundRequest (shape_request shape words)
shape_is_sound shape words member all =
    let front = front_kinds_of shape in
    let count : ℕ = length words - length front in
    let behind = form_kinds shape.form count in
    let values = values_of (front ++ behind) words in
    let fits : AllZip Fits (front ++ behind) words = zipped fits_kind (front ++ behind) words all in
    let rest-are : drop (length front) (front ++ behind) ≡ behind = grind (arith, drop_at) in
    All-contains AreSound forms shape.form forms_are_sound member count
    shape.given (drop (length front) values) (drop (length front) words)
    (subst (λ kinds. AllZip IsRight kinds (drop (length front) values)) rest-are (zip_drop IsRight
    (length front) (front ++ behind) values (values_right (front ++ behind) words fits)))
    (subst (λ kinds. AllZip Fits kinds (drop (length front) words)) rest-are
    (zip_drop Fits (length front) (front ++ behind) words fits))
