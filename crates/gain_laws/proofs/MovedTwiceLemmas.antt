-- Moved gains: moved twice, and not at all.
use Rattle.std.proofs.Common.{ap, ap₂, arith, Bool, cond, false, MatchBool, None, not, Option, pos}
use Rattle.std.proofs.Common.{refl, Some, sym, true, unsigned_abs, ℕ, ℤ, ◌+ℤ◌, ◌&&◌, ◌<◌, ◌||◌, ◌∙◌}
use Rattle.std.{proofs.{Common.◌≡◌, Math.IntN.{+ℤ_assoc, +ℤ_idr}}, specs.Int.int_rem_euclid}
use Rattle.std.specs.Option.{option_or}
use Rattle.frame_header.specs.Fields.{ClassFields}
use Rattle.moved_gains.proofs.MovedGainLemmas.{within}
use Rattle.moved_gains.specs.Gains.{gain_out_of_range, is_out_of_range, is_silent_granule}
use Rattle.moved_gains.specs.Gains.{moved_gain, moved_granule, moved_side, side_out_of_range}
use Rattle.moved_gains.specs.declared.gains.OutOfRange.{OutOfRange}
use Rattle.requests.specs.declared.shift.Steps.{Steps}
use Rattle.side_info.proofs.SideLemmas.{each_shaped, IsShaped, side_with}
use Rattle.side_info.specs.{Granule.{GranuleFits, no_granule}, Side.{granule_in, SideFits}}
use Rattle.side_info.specs.declared.{granule.Granule.Granule, side.Side.Side}

-- ---- one gain

abbrev pub rem : ℤ → ℕ
rem z = unsigned_abs (int_rem_euclid z (pos 256))

-- the remainder of a sum depends on the remainder of its first part
rem_sum : (z b : ℤ) → rem (pos (rem z) +ℤ b) ≡ rem (z +ℤ b)
rem_sum z b = grind arith

-- moved twice is moved by the sum
gain_twice : (a b : ℤ) (gain : ℕ) → moved_gain b (moved_gain a gain) ≡ moved_gain (a +ℤ b) gain
gain_twice a b gain = rem_sum (pos gain +ℤ a) b ∙ ap rem (+ℤ_assoc (pos gain) a b)

-- a gain is its own remainder modulo 256
pub gain_as_is : {n : ℕ} → n < 256 → rem (pos n) ≡ n
gain_as_is small = omega arith

gain_none : {gain : ℕ} → gain < 256 → moved_gain (pos 0) gain ≡ gain
gain_none {gain} small = ap rem (+ℤ_idr (pos gain)) ∙ gain_as_is small

-- after a sum within the range, the next leaves it exactly if the sum of both moves does
gain_next : (a b : ℤ) (gain : ℕ) → is_out_of_range (pos gain +ℤ a) ≡ false
    → is_out_of_range (pos (moved_gain a gain) +ℤ b) ≡ is_out_of_range (pos gain +ℤ (a +ℤ b))
gain_next a b gain inside =
    let sum = within {sum = pos gain +ℤ a} inside in
    let to : pos (moved_gain a gain) ≡ pos gain +ℤ a = grind (arith, pos, gain_as_is) in
    ap (λ z. is_out_of_range (z +ℤ b)) to ∙ ap is_out_of_range (+ℤ_assoc (pos gain) a b)

-- ---- one granule

moved_granule-silent : (steps : ℤ) {g : Granule} → is_silent_granule g ≡ true
    → moved_granule steps g ≡ g
moved_granule-silent steps silent = grind arith

-- a granule that isn't silent gets the moved gain, and keeps all other fields
pub moved_granule-loud : (steps : ℤ) (g : Granule) → is_silent_granule g ≡ false
    → moved_granule steps g ≡ record g { global_gain = moved_gain steps g.global_gain }
moved_granule-loud steps g loud = grind arith

-- the gain would leave the range
abbrev pub is_stuck : ℤ → Granule → Bool
is_stuck steps g = not (is_silent_granule g) && is_out_of_range (pos g.global_gain +ℤ steps)

granule_twice : (a b : ℤ) (g : Granule)
    → moved_granule b (moved_granule a g) ≡ moved_granule (a +ℤ b) g
granule_twice a b g = by_silence (is_silent_granule g) refl
  where
    by_silence : (silent : Bool) → is_silent_granule g ≡ silent
        → moved_granule b (moved_granule a g) ≡ moved_granule (a +ℤ b) g
    by_silence true silent =
        ap (moved_granule b) (moved_granule-silent a silent) ∙ moved_granule-silent b silent
        ∙ sym (moved_granule-silent (a +ℤ b) silent)
    by_silence false loud =
        let h : Granule = record g { global_gain = moved_gain a g.global_gain } in
        ap (moved_granule b) (moved_granule-loud a g loud)
        ∙ moved_granule-loud b h loud
        ∙ ap (λ n. record g { global_gain = n }) (gain_twice a b g.global_gain)
        ∙ sym (moved_granule-loud (a +ℤ b) g loud)

granule_none : {g : Granule} → g.global_gain < 256 → moved_granule (pos 0) g ≡ g
granule_none {g} small = by_silence (is_silent_granule g) refl
  where
    by_silence : (silent : Bool) → is_silent_granule g ≡ silent → moved_granule (pos 0) g ≡ g
    by_silence true silent = moved_granule-silent (pos 0) silent
    by_silence false loud = moved_granule-loud (pos 0) g loud
        ∙ ap (λ n. record g { global_gain = n }) (gain_none small)

-- after a change that keeps it in the range, a gain leaves the
-- range by another change exactly if it does by both together
pub granule_next : (a b : ℤ) {all : ℤ} → all ≡ a +ℤ b → (g : Granule) → is_stuck a g ≡ false
    → is_stuck b (moved_granule a g) ≡ is_stuck all g
granule_next a b sum g first =
    by_silence (is_silent_granule g) refl ∙ ap (λ z. is_stuck z g) (sym sum)
  where
    by_silence : (silent : Bool) → is_silent_granule g ≡ silent
        → is_stuck b (moved_granule a g) ≡ is_stuck (a +ℤ b) g
    by_silence true silent =
        ap (is_stuck b) (moved_granule-silent a silent)
        ∙ ap (λ s. not s && is_out_of_range (pos g.global_gain +ℤ b)) silent
        ∙ sym (ap (λ s. not s && is_out_of_range (pos g.global_gain +ℤ (a +ℤ b))) silent)
    by_silence false loud =
        let h : Granule = record g { global_gain = moved_gain a g.global_gain } in
        ap (is_stuck b) (moved_granule-loud a g loud)
        ∙ ap (λ s. not s && is_out_of_range (pos h.global_gain +ℤ b)) loud
        ∙ gain_next a b
        g.global_gain (sym (ap (λ s. not s && is_out_of_range (pos g.global_gain +ℤ a)) loud)
        ∙ first)
        ∙ sym (ap (λ s. not s && is_out_of_range (pos g.global_gain +ℤ (a +ℤ b))) loud)

-- ---- the gains of a frame

-- main_data_begin, the private bits, scfsi of both channels, and the four granules
pub record SideParts : Type 0 where
  pub m : ℕ
  pub p : ℕ
  pub a : ℕ
  pub b : ℕ
  pub g : Granule
  pub h : Granule
  pub k : Granule
  pub l : Granule

-- the side information of these parts
abbrev pub side_of : SideParts → Side
side_of x = side_with x.m x.p x.a x.b x.g x.h x.k x.l

-- what holds for the side information of any parts holds for any whose lists are long enough
pub each_of : (P : Side → Type 0) → ((x : SideParts) → P (side_of x)) → {s : Side} → IsShaped s
    → P s
each_of P each {s} shaped = each_shaped P
    (λ m p a b g h k l.
    each (record { m = m; p = p; a = a; b = b; g = g; h = h; k = k; l = l })) s shaped

-- the steps of one change and then another
abbrev pub sum_of : Steps → Steps → Steps
sum_of a b = record { left = a.left +ℤ b.left; right = a.right +ℤ b.right; wrap = a.wrap || b.wrap }

twice-with : (one two : Steps) (x : SideParts)
    → moved_side two (moved_side one (side_of x)) ≡ moved_side (sum_of one two) (side_of x)
unfolding moved_side
twice-with one two x = grind (arith, granule_twice, side_with)

-- moved by one change and then by another is moved by their sum
pub side_twice : (one two : Steps) {s : Side} → IsShaped s
    → moved_side two (moved_side one s) ≡ moved_side (sum_of one two) s
side_twice one two shaped = each_of (λ t. moved_side two (moved_side one t)
    ≡ moved_side (sum_of one two) t) (twice-with one two) shaped

-- the gains are within their bits
pub record GainsFit (s : Side) : Type 0 where
  pub first : (granule_in s 0 0).global_gain < 256
  pub second : (granule_in s 0 1).global_gain < 256
  pub third : (granule_in s 1 0).global_gain < 256
  pub fourth : (granule_in s 1 1).global_gain < 256

-- a gain that fits is below 256
pub gain_fits : (c : ClassFields) (has : Bool) (g : Granule)
    → MatchBool has (GranuleFits c.version g) (g ≡ no_granule) → g.global_gain < 256
gain_fits c has g fits = grind arith

-- all gains of side information that fits are below 256
pub gains_fit : {c : ClassFields} {s : Side} → SideFits c s → GainsFit s
gains_fit fits = grind (arith, gain_fits)

-- no step at all
abbrev pub IsNoStep : Steps → Type 0
IsNoStep steps = (steps.left ≡ pos 0) × (steps.right ≡ pos 0)

abbrev NoneGoal : Steps → Side → Type 0
NoneGoal steps s = GainsFit s → moved_side steps s ≡ s

none-with : (steps : Steps) → IsNoStep steps → (x : SideParts) → NoneGoal steps (side_of x)
unfolding moved_side
none-with steps none x fits = grind (arith, granule_none, side_with)

-- moved by no step, side information stays
pub side_none : (steps : Steps) → IsNoStep steps → {s : Side} → IsShaped s → GainsFit s
    → moved_side steps s ≡ s
side_none steps none shaped = each_of (NoneGoal steps) (none-with steps none) shaped

free_of : {b : Bool} (stuck : OutOfRange) → cond b (Some stuck) None ≡ None → b ≡ false
free_of stuck e = grind arith

none_of : {b : Bool} (stuck : OutOfRange) → b ≡ false → cond b (Some stuck) None ≡ None
none_of stuck e = ap (λ a. cond a (Some stuck) None) e

none_each : {a b : Option OutOfRange} → option_or a b ≡ None → (a ≡ None) × (b ≡ None)
none_each e = grind arith

none_both : {a b : Option OutOfRange} → a ≡ None → b ≡ None → option_or a b ≡ None
none_both p q = ap₂ option_or p q

-- the first of the four gains that would leave the range
abbrev first_out_of : Steps → Side → Option OutOfRange
first_out_of steps s =
    option_or (gain_out_of_range steps.left s 0 0)
    (option_or (gain_out_of_range steps.right s 0 1)
    (option_or (gain_out_of_range steps.left s 1 0) (gain_out_of_range steps.right s 1 1)))

-- the four gains stay within the range
pub record AreFree (left right : ℤ) (x : SideParts) : Type 0 where
  pub first : is_stuck left x.g ≡ false
  pub second : is_stuck right x.h ≡ false
  pub third : is_stuck left x.k ≡ false
  pub fourth : is_stuck right x.l ≡ false

-- the parts with the gains of each granule and channel moved by the steps of the channel
abbrev pub moved_parts : Steps → SideParts → SideParts
moved_parts steps x =
    record x {
      g = moved_granule steps.left x.g;
      h = moved_granule steps.right x.h;
      k = moved_granule steps.left x.k;
      l = moved_granule steps.right x.l;
    }

module _ (steps : Steps) (x : SideParts) where
  -- if no gain would leave the range, each of the four can move
  pub free-parts : steps.wrap ≡ false → side_out_of_range steps (side_of x) ≡ None
      → AreFree steps.left steps.right x
  unfolding side_out_of_range
  free-parts strict free =
      let s = side_of x in
      let last =
      option_or (gain_out_of_range steps.left s 1 0) (gain_out_of_range steps.right s 1 1) in
      let all = none_each
      (sym (ap (λ w. cond w None (first_out_of steps s)) strict) ∙ free) in
      let behind = none_each all.1 in
      let two = none_each behind.1 in
      record {
        first = free_of _ all.0;
        second = free_of _ behind.0;
        third = free_of _ two.0;
        fourth = free_of _ two.1;
      }

  -- if each of the four gains can move, none would leave the range
  pub free-whole : AreFree steps.left steps.right x → steps.wrap ≡ false
      → side_out_of_range steps (side_of x) ≡ None
  unfolding side_out_of_range
  free-whole free strict = grind (arith, side_with, none_both, none_of)

  -- the gains of side information are those of its moved parts
  pub moved_granule-with : moved_side steps (side_of x) ≡ side_of (moved_parts steps x)
  unfolding moved_side
  moved_granule-with = refl

-- with wrap no gain ever leaves the range
pub wrapped-free : (steps : Steps) (s : Side) → steps.wrap ≡ true → side_out_of_range steps s ≡ None
unfolding side_out_of_range
wrapped-free steps s wraps = ap (λ w. cond w None (first_out_of steps s)) wraps

abbrev ThenGoal : Steps → Steps → Steps → Side → Type 0
ThenGoal one two all s =
    side_out_of_range one s ≡ None → side_out_of_range all s ≡ None
    → side_out_of_range two (moved_side one s) ≡ None

-- all these steps are the sum of one change and of the other
pub record AreTogether (one two all : Steps) : Type 0 where
  pub left : all.left ≡ one.left +ℤ two.left
  pub right : all.right ≡ one.right +ℤ two.right

-- neither of two changes wraps, nor do both together
pub record AreStrict (one two all : Steps) : Type 0 where
  pub first : one.wrap ≡ false
  pub second : two.wrap ≡ false
  pub both : all.wrap ≡ false

then-with : {one two all : Steps} → AreStrict one two all → AreTogether one two all
    → (x : SideParts) → ThenGoal one two all (side_of x)
then-with {one} {two} {all} strict sum x first whole =
    let f = free-parts one x strict.first first in
    let w = free-parts all x strict.both whole in
    let on_left = granule_next one.left two.left sum.left in
    let on_right = granule_next one.right two.right sum.right in
    ap (side_out_of_range two) (moved_granule-with one x)
    ∙ free-whole two (moved_parts one x)
    (record {
      first = on_left x.g f.first ∙ w.first;
      second = on_right x.h f.second ∙ w.second;
      third = on_left x.k f.third ∙ w.third;
      fourth = on_right x.l f.fourth ∙ w.fourth;
    })
    strict.second

-- if no gain leaves the range by one change nor by both together, none
-- leaves it by the other change after the first; with wrap none ever does
pub side_then : {one two all : Steps} {s : Side} → IsShaped s → two.wrap ≡ one.wrap || all.wrap
    → AreTogether one two all → side_out_of_range one s ≡ None → side_out_of_range all s ≡ None
    → side_out_of_range two (moved_side one s) ≡ None
side_then {one} {two} {all} {s} shaped wraps sum first whole =
    by_wrap one.wrap all.wrap refl refl
  where
    by_wrap : (v w : Bool) → one.wrap ≡ v → all.wrap ≡ w
        → side_out_of_range two (moved_side one s) ≡ None
    by_wrap false false e d =
        let strict : AreStrict one two all =
        record { first = e; second = wraps ∙ ap₂ (λ (x y : Bool). x || y) e d; both = d } in
        each_of (ThenGoal one two all) (then-with strict sum) shaped first whole
    by_wrap _ _ e d = wrapped-free two (moved_side one s) (wraps ∙ ap₂ (λ (x y : Bool). x || y) e d)
