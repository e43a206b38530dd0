-- No form takes an empty word.
use Rattle.std.proofs.Common.{arith, Bool, drop, false, length, List, None, refl, Some, suc, true}
use Rattle.std.proofs.{Common.{zero, ℕ, [], ◌-◌, ◌∷◌, ◌≡◌}, lemmas.Bool.and_parts}
use Rattle.std.proofs.lemmas.List.Elements.{All-append, All-cons, All-contains, All-from_recursion}
use Rattle.std.proofs.lemmas.List.{Elements.{All-replicate, All-weaker}, Sums.AllPass-from_list_all}
use Rattle.std.specs.List.{All, list_all}
use Rattle.std.specs.Prelude.{Contains, Err, if◌then◌else◌, IsErr, Ok, replicate, Result}
use Rattle.cue_sheet.specs.{Digits.number_in, Places.place_of}
use Rattle.exact_span.specs.Places.{back_of, clock_of, exact_place_of, instant_of, lone_seconds_of}
use Rattle.exact_span.specs.Places.{millis_of, sample_of}
use Rattle.job_words.proofs.{ListLemmas.{all_flat_map, found}, ReadingLemmas.listed_form}
use Rattle.job_words.specs.Flags.{flag_kinds, given_kinds}
use Rattle.job_words.specs.Forms.{Form, form_kinds, forms, front_kinds_of, further_words, kinds_for}
use Rattle.job_words.specs.Forms.{last_kind, Shape, shapes}
use Rattle.job_words.specs.Kinds.{Channel, Count, Exact, fits_kind, Fixed, Kind, Name, Place, Rate}
use Rattle.job_words.specs.{Kinds.{Seed, Steps}, Request.Request}
use Rattle.job_words.specs.Words.{count_before, form_words, have_kinds, job_of, keeps_of, later_by}
use Rattle.job_words.specs.Words.{longest_fit, plain_job_of, shape_in, shape_kinds, shape_reading}
use Rattle.job_words.specs.declared.flags.Flag.{Flag}
use Rattle.job_words.specs.declared.flags.Flag.TheVariants.{Back, Least, Seamless, Tagless}
use Rattle.job_words.specs.declared.flags.Flag.TheVariants.{Wrapping}

-- an empty word isn't of the kind
abbrev NeedsText : Kind → Type 0
NeedsText kind = fits_kind kind [] ≡ false

-- a fixed word isn't empty
abbrev has_text : Kind → Bool
has_text (Fixed []) = false
has_text _ = true

no_instant : instant_of [] ≡ None
unfolding instant_of millis_of clock_of number_in lone_seconds_of
no_instant = refl

needed : (kind : Kind) → has_text kind ≡ true → NeedsText kind
unfolding number_in place_of exact_place_of sample_of back_of
needed (Fixed []) all = absurd cc
needed (Fixed (first ∷ rest)) all = refl
needed Name all = refl
needed Steps all = refl
needed Channel all = refl
needed Place all = refl
needed Exact all = rw no_instant refl
needed Rate all = refl
needed Seed all = refl
needed Count all = refl

flag_needs : (flag : Flag) → All NeedsText (flag_kinds flag)
flag_needs Tagless = All-from_recursion NeedsText (flag_kinds Tagless) (refl, (refl, tt))
flag_needs Wrapping = All-from_recursion NeedsText (flag_kinds Wrapping) (refl, tt)
flag_needs Least = All-from_recursion NeedsText (flag_kinds Least) (refl, tt)
flag_needs Back = All-from_recursion NeedsText (flag_kinds Back) (refl, tt)
flag_needs Seamless = All-from_recursion NeedsText (flag_kinds Seamless) (refl, tt)

-- the kinds of a form, and the one that it repeats
abbrev own_kinds : Form → List Kind
own_kinds form = Fixed form.command ∷ last_kind form.kinds ∷ form.kinds

abbrev all_have_text : Form → Bool
all_have_text form = list_all has_text (own_kinds form)

form_needs : {form : Form} → Contains forms form → All NeedsText (own_kinds form)
form_needs {form} member =
    let passes : all_have_text form ≡ true =
    All-contains (λ form. all_have_text form ≡ true) forms form
    (AllPass-from_list_all all_have_text forms refl) member in
    All-weaker (λ kind. has_text kind ≡ true) NeedsText needed (own_kinds form)
    (AllPass-from_list_all has_text (own_kinds form) passes)

shape_needs : (shape : Shape) (count : ℕ) → Contains forms shape.form
    → All NeedsText (kinds_for shape count)
shape_needs shape count member =
    let own = form_needs member in
    let more : ℕ =
    further_words shape.form.more
    (count - length (front_kinds_of shape) - length shape.form.kinds) in
    All-append NeedsText (front_kinds_of shape)
    (form_kinds shape.form (count - length (front_kinds_of shape)))
    (All-cons NeedsText (Fixed shape.form.command) (given_kinds shape.given)
    (own 0 (Fixed []) (omega arith))
    (all_flat_map NeedsText flag_kinds shape.given (λ flag member. flag_needs flag)))
    (All-append NeedsText shape.form.kinds (replicate more (last_kind shape.form.kinds))
    (λ k d lt. own (suc (suc k)) d (omega (arith, lt)))
    (All-replicate NeedsText more (last_kind shape.form.kinds) (own 1 (Fixed []) (omega arith))))

-- words without an empty one
none_empty : (kinds : List Kind) (words : List (List ℕ)) → All NeedsText kinds
    → have_kinds kinds words ≡ true → Contains words [] → ⊥
none_empty [] [] needs all member = omega (arith, member.1)
none_empty [] (word ∷ words) needs all member = absurd cc
none_empty (kind ∷ kinds) [] needs all member = absurd cc
none_empty (kind ∷ kinds) (word ∷ words) needs all (zero, within, at) =
    let none : NeedsText kind = needs 0 (Fixed []) (omega arith) in
    let fits : fits_kind kind word ≡ true =
    (and_parts (fits_kind kind word) (have_kinds kinds words) all).0 in
    grind (arith, none, fits, at)
none_empty (kind ∷ kinds) (word ∷ words) needs all (suc k, within, at) =
    none_empty kinds words (λ k d lt. needs (suc k) d (omega (arith, lt)))
    (and_parts (fits_kind kind word) (have_kinds kinds words) all).1
    (k, omega (arith, within), at)

-- words of a form of which one is empty are bad
plain_empty_is_bad : (words : List (List ℕ)) → Contains words [] → IsErr (plain_job_of words)
unfolding plain_job_of
plain_empty_is_bad words member =
    elim (shape_in (shapes forms) words) as (λ o. shape_in (shapes forms) words ≡ o
    → IsErr (shape_reading o words (longest_fit (shapes forms) words))) [
      | Some shape ↦ λ is.
          let first =
          found (λ shape. have_kinds (shape_kinds words shape) words) (shapes forms) is in
          absurd (none_empty (shape_kinds words shape) words (shape_needs shape (length words)
          (listed_form forms first.0)) first.1 member)
      | None ↦ λ none. refl
    ] refl

later_is_bad : (count : ℕ) (r : Result Request ℕ) → IsErr r → IsErr (later_by count r)
later_is_bad count (Ok asked) bad = bad
later_is_bad count (Err place) bad = refl

both_have : (keeps : Bool) (first : List ℕ) (rest : List (List ℕ)) → Contains rest []
    → Contains (drop (if keeps then 1 else 0) (first ∷ rest)) []
both_have true first rest member = member
both_have false first rest (k, within, at) = (suc k, omega (arith, within), at)

-- the empty word isn't `-n`
behind_too : (words : List (List ℕ)) → Contains words [] → Contains (form_words words) []
behind_too [] member = member
behind_too ([] ∷ rest) member = member
behind_too ((byte ∷ more) ∷ rest) (zero, within, at) = absurd cc
behind_too ((byte ∷ more) ∷ rest) (suc k, within, at) =
    both_have (keeps_of ((byte ∷ more) ∷ rest)) (byte ∷ more) rest (k, omega (arith, within), at)

-- words of which one is empty are bad
pub empty_is_bad : (words : List (List ℕ)) → Contains words [] → IsErr (job_of words)
unfolding job_of
empty_is_bad words member =
    later_is_bad (count_before words) (plain_job_of (form_words words))
    (plain_empty_is_bad (form_words words) (behind_too words member))
