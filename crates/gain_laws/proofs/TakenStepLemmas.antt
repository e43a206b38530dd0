-- The steps that gains take: no gain of a list leaves
-- the range exactly if the least and the greatest don't.
use Rattle.std.proofs.Common.{ap, ap₂, arith, Bool, cond, false, is_some, List, ltb, None, not}
use Rattle.std.proofs.Common.{Option, pos, refl, Some, suc, sym, true, ℕ, ℤ, ◌+ℤ◌, [], ◌&&◌, ◌++◌}
use Rattle.std.proofs.{Common.{◌<◌, ◌||◌, ◌∙◌, ◌∷◌, ◌≡◌}, lemmas.Bool.{and_from, and_parts, le-ltb}}
use Rattle.std.{proofs.lemmas.List.append-nil, specs.{Option.option_or, Prelude.MatchBool}}
use Rattle.frame_header.specs.{Fields.ClassFields, Tables.{class_of, granules_of}}
use Rattle.frame_header.specs.declared.version.Version.{Version}
use Rattle.gain_laws.proofs.MovedTwiceLemmas.{gain_fits, is_stuck, wrapped-free}
use Rattle.gain_laws.specs.StepLaws.{AreSidesFitting, is_some_out_of_range, separate_steps}
use Rattle.gain_laws.specs.StepLaws.{TakeSteps}
use Rattle.moved_gains.proofs.ExtremesLemmas.{joined_extremes-append, moving-cons, moving-nil}
use Rattle.moved_gains.specs.{Course.{constant_steps, equal_steps}, Edited.row_out_of_range}
use Rattle.moved_gains.specs.GainExtremes.{extremes, extremes_of_both, gain_that_moves}
use Rattle.moved_gains.specs.GainExtremes.{joined_extremes, moving_gains, row_gains, side_gains}
use Rattle.moved_gains.specs.GainExtremes.{takes_steps}
use Rattle.moved_gains.specs.Gains.{gain_out_of_range, is_out_of_range, side_out_of_range}
use Rattle.moved_gains.specs.{Moving.AreFramesOfClass, declared.gain_extremes.Gains.Gains}
use Rattle.moved_gains.specs.declared.gains.OutOfRange.{OutOfRange}
use Rattle.requests.specs.declared.shift.Steps.{Steps}
use Rattle.side_info.specs.Granule.{GranuleFits, no_granule}
use Rattle.side_info.specs.Side.{granule_in, has_granule, SideFits}
use Rattle.side_info.specs.declared.{granule.Granule.Granule, side.Side.Side}
use Rattle.sync_survey.specs.Row.{Row}

-- ---- tests

and_true : (x : Bool) → x ≡ (x && true)
and_true x = grind arith

-- ---- one gain

-- the gain doesn't leave the range by `steps` steps
abbrev pub inside : ℤ → ℕ → Bool
inside steps gain = not (is_out_of_range (pos gain +ℤ steps))

-- none of these gains leaves the range
abbrev pub all_inside : ℤ → List ℕ → Bool
all_inside steps [] = true
all_inside steps (gain ∷ gains) = inside steps gain && all_inside steps gains

abbrev pub AreSmall : List ℕ → Type 0
AreSmall [] = Unit {0}
AreSmall (gain ∷ gains) = (gain < 256) × AreSmall gains

-- one gain takes steps exactly if it doesn't leave the range by them
pub takes_steps-one : {gain : ℕ} (steps : ℤ) → gain < 256
    → takes_steps (Some (record { least = gain; greatest = gain })) steps ≡ inside steps gain
takes_steps-one steps small = grind arith

-- ---- many gains

-- the gains of two lists together take the steps that both lists take
pub takes_steps-joined_extremes : (f g : Option Gains) (steps : ℤ)
    → takes_steps (joined_extremes f g) steps ≡ (takes_steps f steps && takes_steps g steps)
takes_steps-joined_extremes f g steps = grind arith

extremes-one : (gain : ℕ) → extremes (gain ∷ []) ≡ Some (record { least = gain; greatest = gain })
unfolding extremes
extremes-one gain = refl

takes_steps-nil : (steps : ℤ) → takes_steps (extremes []) steps ≡ true
unfolding extremes
takes_steps-nil steps = refl

-- the least and the greatest of gains take steps
-- exactly if none of the gains leaves the range by them
pub takes_steps-all : (gains : List ℕ) (steps : ℤ) → AreSmall gains
    → takes_steps (extremes gains) steps ≡ all_inside steps gains
takes_steps-all [] steps small = takes_steps-nil steps
takes_steps-all (gain ∷ gains) steps small =
    ap (λ g. takes_steps g steps) (sym (joined_extremes-append (gain ∷ []) gains))
    ∙ takes_steps-joined_extremes (extremes (gain ∷ [])) (extremes gains) steps
    ∙ ap₂ (λ (a b : Bool). a && b) (ap (λ g. takes_steps g steps) (extremes-one gain)
    ∙ takes_steps-one steps small.0) (takes_steps-all gains steps small.1)

and_assoc : (a b c : Bool) → (a && (b && c)) ≡ ((a && b) && c)
and_assoc a b c = grind arith

-- no gain of two lists together leaves the range exactly if none of either list does
pub inside-append : (steps : ℤ) (xs ys : List ℕ)
    → all_inside steps (xs ++ ys) ≡ (all_inside steps xs && all_inside steps ys)
inside-append steps [] ys = refl
inside-append steps (x ∷ xs) ys = grind (arith, and_assoc, inside-append steps xs ys)

small-append : (xs ys : List ℕ) → AreSmall xs → AreSmall ys → AreSmall (xs ++ ys)
small-append [] ys first second = second
small-append (x ∷ xs) ys first second = (first.0, small-append xs ys first.1 second)

-- by no steps no gain leaves the range
inside-none : (gains : List ℕ) → AreSmall gains → all_inside (pos 0) gains ≡ true
inside-none [] small = refl
inside-none (gain ∷ gains) small = grind (arith, and_from, pos, le-ltb, inside-none gains small.1)

-- ---- one frame

some_or : (o p : Option OutOfRange) → is_some (option_or o p) ≡ (is_some o || is_some p)
some_or o p = grind arith

some_if : (b : Bool) (x : OutOfRange) → is_some (cond b (Some x) None) ≡ b
some_if b x = grind arith

some_at : (steps : ℤ) (s : Side) (granule channel : ℕ)
    → is_some (gain_out_of_range steps s granule channel)
    ≡ is_stuck steps (granule_in s granule channel)
some_at steps s granule channel = grind (arith, some_if)

moves_inside : (steps : ℤ) (g : Granule)
    → all_inside steps (gain_that_moves g) ≡ not (is_stuck steps g)
moves_inside steps g = grind (arith, pos, and_true)

gains_inside : (steps : ℤ) (s : Side) (channel : ℕ) → all_inside steps (side_gains channel s) ≡
    (not (is_stuck steps (granule_in s 0 channel)) && not (is_stuck steps (granule_in s 1 channel)))
gains_inside steps s channel = grind (arith, inside-append, moves_inside)

one_of_four : (a b c d : Bool) → (a || (b || (c || d))) ≡ not ((not a && not c) && (not b && not d))
one_of_four a b c d = grind arith

some_of_four : (o p q r : Option OutOfRange) → is_some (option_or o (option_or p (option_or q r)))
    ≡ (is_some o || (is_some p || (is_some q || is_some r)))
some_of_four o p q r = grind (arith, some_or, is_some)

-- a gain of a frame leaves the range exactly if a gain of the left channel
-- does by the left steps, or a gain of the right channel by the right steps
side_stuck : (left right : ℤ) (s : Side) → is_some (side_out_of_range (separate_steps left right) s)
    ≡ not (all_inside left (side_gains 0 s) && all_inside right (side_gains 1 s))
unfolding side_out_of_range
side_stuck left right s = grind (arith, some_of_four, some_at, one_of_four, gains_inside)

row_stuck : (left right : ℤ) (row : Row)
    → is_some (row_out_of_range (separate_steps left right) row)
    ≡ not (all_inside left (row_gains 0 row) && all_inside right (row_gains 1 row))
row_stuck left right row = grind (arith, is_some, side_stuck)

-- ---- all frames

-- without frames no gain leaves the range
pub stuck-nil : (steps : ℕ → Steps) → is_some_out_of_range steps [] ≡ false
unfolding is_some_out_of_range
stuck-nil steps = refl

-- a gain of frames leaves the range if one of the first frame does or one of the others
pub stuck-cons : (steps : ℕ → Steps) (row : Row) (rows : List Row)
    → is_some_out_of_range steps (row ∷ rows)
    ≡ (is_some (row_out_of_range (steps row.offset) row) || is_some_out_of_range steps rows)
unfolding is_some_out_of_range
stuck-cons steps row rows = refl

first_or_other : (a b p q : Bool) → (not (a && b) || not (p && q)) ≡ not ((a && p) && (b && q))
first_or_other a b p q = grind arith

inside-nil : (channel : ℕ) (steps : ℤ) → all_inside steps (moving_gains channel []) ≡ true
inside-nil channel steps = ap (all_inside steps) (moving-nil channel)

inside-cons : (channel : ℕ) (steps : ℤ) (row : Row) (rows : List Row)
    → all_inside steps (moving_gains channel (row ∷ rows))
    ≡ (all_inside steps (row_gains channel row) && all_inside steps (moving_gains channel rows))
inside-cons channel steps row rows = grind (arith, moving-cons, inside-append)

rows_stuck : (left right : ℤ) (rows : List Row)
    → is_some_out_of_range (constant_steps (separate_steps left right)) rows
    ≡ not (all_inside left (moving_gains 0 rows) && all_inside right (moving_gains 1 rows))
rows_stuck left right [] = grind (arith, stuck-nil, inside-nil)
rows_stuck left right (row ∷ rows) =
    grind (arith, stuck-cons, row_stuck, first_or_other, inside-cons, rows_stuck left right rows)

each_stuck : (steps : ℕ → ℤ) (rows : List Row)
    → ((at : ℕ) → (all_inside (steps at) (moving_gains 0 rows) ≡ true)
    × (all_inside (steps at) (moving_gains 1 rows) ≡ true))
    → is_some_out_of_range (λ at. equal_steps (steps at)) rows ≡ false
each_stuck steps [] free = stuck-nil (λ at. equal_steps (steps at))
each_stuck steps (row ∷ rows) free =
    let parts : (channel at : ℕ) → all_inside (steps at) (moving_gains channel (row ∷ rows)) ≡ true
    → (all_inside (steps at) (row_gains channel row) ≡ true)
    × (all_inside (steps at) (moving_gains channel rows) ≡ true) =
    grind (arith, and_parts, inside-cons) in
    stuck-cons (λ at. equal_steps (steps at)) row rows
    ∙ ap₂ (λ (a b : Bool). a || b)
    (row_stuck (steps row.offset) (steps row.offset) row
    ∙ ap₂ (λ (a b : Bool). not (a && b))
    (parts 0 row.offset (free row.offset).0).0 (parts 1 row.offset (free row.offset).1).0)
    (each_stuck steps rows (λ at. ((parts 0 at (free at).0).1, (parts 1 at (free at).1).1)))

wrap_stuck : (steps : ℕ → Steps) (rows : List Row) → ((at : ℕ) → (steps at).wrap ≡ true)
    → is_some_out_of_range steps rows ≡ false
wrap_stuck steps [] wraps = stuck-nil steps
wrap_stuck steps (row ∷ rows) wraps =
    stuck-cons steps row rows
    ∙ ap₂ (λ (a b : Bool). a || b) (ap is_some (free row.lost)) (wrap_stuck steps rows wraps)
  where
    free : (lost : Bool) → cond lost None (side_out_of_range (steps row.offset) row.side) ≡ None
    free true = refl
    free false = wrapped-free (steps row.offset) row.side (wraps row.offset)

-- ---- frames that fit

small_gain : (g : Granule) → g.global_gain < 256 → AreSmall (gain_that_moves g)
small_gain g small = grind arith

small_at : (channel : ℕ) (row : Row) → SideFits (class_of row.header) row.side
    → AreSmall (row_gains channel row)
small_at channel row fits = grind (arith, small_gain, gain_fits, small-append)

small_moving : (channel : ℕ) (rows : List Row) → AreSidesFitting rows
    → AreSmall (moving_gains channel rows)
unfolding moving_gains
small_moving channel [] fits = tt
small_moving channel (row ∷ rows) fits = small-append (row_gains channel row)
    (moving_gains channel rows) (small_at channel row fits.0) (small_moving channel rows fits.1)

-- ---- one channel

lacks : {has : Bool} (version : Version) {g : Granule} → has ≡ false
    → MatchBool has (GranuleFits version g) (g ≡ no_granule) → g ≡ no_granule
lacks version none fits = grind arith

no_second : (c : ClassFields) (granule : ℕ) → c.channels ≡ 1 → has_granule c granule 1 ≡ false
no_second c granule one = by_granule (ltb granule (granules_of c.version))
  where
    few : ltb 1 c.channels ≡ false
    few = le-ltb 1 c.channels (omega (arith, one))

    by_granule : (b : Bool) → (b && ltb 1 c.channels) ≡ false
    by_granule b = grind arith

mono_at : {class : ClassFields} (row : Row) → class_of row.header ≡ class → class.channels ≡ 1
    → SideFits (class_of row.header) row.side → row_gains 1 row ≡ []
mono_at row same one fits = grind (arith, lacks, no_second)

mono_moving : {class : ClassFields} (rows : List Row) → AreFramesOfClass class rows
    → class.channels ≡ 1 → AreSidesFitting rows → moving_gains 1 rows ≡ []
mono_moving [] same one fits = moving-nil 1
mono_moving {class} (row ∷ rows) same one fits =
    moving-cons 1 row rows
    ∙ ap₂ (λ (a b : List ℕ). a ++ b) (mono_at row (same 0 row refl) one fits.0)
    (mono_moving rows (λ i r is. same (suc i) r is) one fits.1)

-- ---- the law

-- when a gain of frames that fit leaves the range
pub take_steps : (rows : List Row) → AreSidesFitting rows → TakeSteps rows
take_steps rows fits = record {
  apart_is = λ left right. rows_stuck left right rows
      ∙ sym (ap₂ (λ (a b : Bool). not (a && b))
      (takes_steps-all (moving_gains 0 rows) left left_small)
      (takes_steps-all (moving_gains 1 rows) right right_small));
  both = λ steps. rows_stuck steps steps rows ∙ ap not (sym (on_both steps));
  left = λ steps. rows_stuck steps (pos 0) rows
      ∙ ap (λ b. not (all_inside steps (moving_gains 0 rows) && b))
      (inside-none (moving_gains 1 rows) right_small)
      ∙ ap not (sym (and_true (all_inside steps (moving_gains 0 rows)))
      ∙ sym (takes_steps-all (moving_gains 0 rows) steps left_small));
  right = λ steps. rows_stuck (pos 0) steps rows
      ∙ ap (λ b. not (b && all_inside steps (moving_gains 1 rows)))
      (inside-none (moving_gains 0 rows) left_small)
      ∙ ap not (sym (takes_steps-all (moving_gains 1 rows) steps right_small));
  each = λ steps takes_all. each_stuck steps rows
      (λ at. and_parts (all_inside (steps at) (moving_gains 0 rows))
      (all_inside (steps at) (moving_gains 1 rows)) (sym (on_both (steps at)) ∙ takes_all at));
  wrap = λ steps wraps. wrap_stuck steps rows wraps;
  mono = λ class same one. ap (λ gains. extremes (moving_gains 0 rows ++ gains))
      (mono_moving rows same one fits) ∙ ap extremes (append-nil (moving_gains 0 rows));
}
  where
    left_small : AreSmall (moving_gains 0 rows)
    left_small = small_moving 0 rows fits

    right_small : AreSmall (moving_gains 1 rows)
    right_small = small_moving 1 rows fits

    on_both : (steps : ℤ) → takes_steps (extremes_of_both rows) steps
        ≡ (all_inside steps (moving_gains 0 rows) && all_inside steps (moving_gains 1 rows))
    on_both steps =
        takes_steps-all (moving_gains 0 rows ++ moving_gains 1 rows) steps
        (small-append (moving_gains 0 rows) (moving_gains 1 rows) left_small right_small)
        ∙ inside-append steps (moving_gains 0 rows) (moving_gains 1 rows)
