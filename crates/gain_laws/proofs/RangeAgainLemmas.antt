-- Two changes of gains, one after the other: if no gain leaves its range by either, none does by
-- both together, nor when the first is taken back.
use Rattle.std.proofs.Common.{ap, ap₂, arith, Bool, cond, false, List, map, None, Option, pos, refl}
use Rattle.std.proofs.Common.{sym, true, ℕ, ℤ, ◌+ℤ◌, [], ◌<◌, ◌||◌, ◌∙◌, ◌∷◌, ◌≡◌}
use Rattle.std.proofs.lemmas.Bool.{le-ltb}
use Rattle.commands.proofs.RefusingLemmas.{first-nil}
use Rattle.gain_edits.proofs.RangeFaultLemmas.{frame-none, none-frame}
use Rattle.gain_edits.specs.GainRange.{range_fault, row_range_fault}
use Rattle.gain_laws.proofs.MovedAgainLemmas.{stood}
use Rattle.gain_laws.proofs.MovedTwiceLemmas.{AreStrict, AreTogether, each_of, free-parts}
use Rattle.gain_laws.proofs.MovedTwiceLemmas.{free-whole, gains_fit, GainsFit, granule_next}
use Rattle.gain_laws.proofs.MovedTwiceLemmas.{is_stuck, IsNoStep, moved_granule-with, moved_parts}
use Rattle.gain_laws.proofs.MovedTwiceLemmas.{side_of, side_then, SideParts, wrapped-free}
use Rattle.gain_laws.proofs.WholeFrameLemmas.{AreFramesOf, frame_of, IsFrameOf, row_shaped}
use Rattle.moved_gains.{proofs.MovedFrameLemmas.whole_class, specs.Course.constant_steps}
use Rattle.moved_gains.specs.Gains.{moved_side, moved_side_unless_lost, side_out_of_range}
use Rattle.moved_gains.specs.declared.gains.OutOfRange.{OutOfRange}
use Rattle.requests.specs.declared.shift.Steps.{Steps}
use Rattle.side_info.proofs.{FrameLemmas.fits-side_in, SideLemmas.IsShaped}
use Rattle.side_info.specs.declared.{granule.Granule.Granule, side.Side.Side}
use Rattle.sync_survey.specs.Row.{Row}

-- ---- two changes together

abbrev BothGoal : Steps → Steps → Steps → Side → Type 0
BothGoal one two all s =
    side_out_of_range one s ≡ None → side_out_of_range two (moved_side one s) ≡ None
    → side_out_of_range all s ≡ None

both-with : {one two all : Steps} → AreStrict one two all → AreTogether one two all
    → (x : SideParts) → BothGoal one two all (side_of x)
both-with {one} {two} {all} strict sum x first second =
    let f = free-parts one x strict.first first in
    let y = moved_parts one x in
    let n = free-parts two y strict.second
    (sym (ap (side_out_of_range two) (moved_granule-with one x)) ∙ second) in
    let on_left = granule_next one.left two.left sum.left in
    let on_right = granule_next one.right two.right sum.right in
    free-whole all x
    (record {
      first = sym (on_left x.g f.first) ∙ n.first;
      second = sym (on_right x.h f.second) ∙ n.second;
      third = sym (on_left x.k f.third) ∙ n.third;
      fourth = sym (on_right x.l f.fourth) ∙ n.fourth;
    })
    strict.both

-- if no gain is stuck by the one change and then by the other, none is by both together
pub side_both : {one two all : Steps} {s : Side} → IsShaped s → all.wrap ≡ one.wrap || two.wrap
    → AreTogether one two all → side_out_of_range one s ≡ None
    → side_out_of_range two (moved_side one s) ≡ None → side_out_of_range all s ≡ None
side_both {one} {two} {all} {s} shaped wraps sum first second =
    by_wrap one.wrap two.wrap refl refl
  where
    by_wrap : (v w : Bool) → one.wrap ≡ v → two.wrap ≡ w → side_out_of_range all s ≡ None
    by_wrap false false e d =
        let strict : AreStrict one two all =
        record { first = e; second = d; both = wraps ∙ ap₂ (λ (x y : Bool). x || y) e d } in
        each_of (BothGoal one two all) (both-with strict sum) shaped first second
    by_wrap false true e d = wrapped-free all s (wraps ∙ ap₂ (λ (x y : Bool). x || y) e d)
    by_wrap true w e d = wrapped-free all s (wraps ∙ ap₂ (λ (x y : Bool). x || y) e d)

-- ---- no step

abbrev pub still : Steps
still = record { left = pos 0; right = pos 0; wrap = false }

still_granule : {z : ℤ} → z ≡ pos 0 → (g : Granule) → g.global_gain < 256 → is_stuck z g ≡ false
still_granule none g small = grind (arith, pos, le-ltb, is_stuck)

abbrev StillGoal : Steps → Side → Type 0
StillGoal steps s = GainsFit s → side_out_of_range steps s ≡ None

still-with : {steps : Steps} → IsNoStep steps → steps.wrap ≡ false → (x : SideParts)
    → StillGoal steps (side_of x)
still-with none strict x fits = grind (arith, free-whole, still_granule)

-- by 0 steps no gain is stuck
pub side_still : {steps : Steps} → IsNoStep steps → steps.wrap ≡ false → {s : Side} → IsShaped s
    → GainsFit s → side_out_of_range steps s ≡ None
side_still {steps} none strict shaped = each_of (StillGoal steps) (still-with none strict) shaped

-- the gains of a frame fit
pub row_fits : {file : List ℕ} {row : Row} → IsFrameOf file row → GainsFit row.side
row_fits here = grind (arith, gains_fit, fits-side_in, frame_of, whole_class)

-- ---- all frames

-- what follows for a frame none of whose gains leaves the range also follows for a lost one, whose
-- gains are never looked at
unless_both : (lost : Bool) {a b c : Option OutOfRange} → (a ≡ None → b ≡ None → c ≡ None)
    → cond lost None a ≡ None → cond lost None b ≡ None → cond lost None c ≡ None
unless_both lost three first second = grind arith

moved_or_lost : (lost : Bool) (two one : Steps) (s : Side)
    → cond lost None (side_out_of_range two (moved_side_unless_lost lost one s))
    ≡ cond lost None (side_out_of_range two (moved_side one s))
moved_or_lost lost two one s = grind arith

-- the gains of frames of a file stay in their range by one change, and then by the other
pub record AreInRange (one two : Steps) (file : List ℕ) (to : ℕ → ℕ) (rows : List Row) : Type 0
  where
    pub frames : AreFramesOf file rows
    pub first : range_fault (constant_steps one) rows ≡ None
    pub second : range_fault (constant_steps two) (map (stood to (constant_steps one)) rows) ≡ None

-- if no gain leaves its range by the first change, and then none by the second, none does by both
-- together
pub range_both : {one two all : Steps} → all.wrap ≡ one.wrap || two.wrap → AreTogether one two all
    → {file : List ℕ} {to : ℕ → ℕ} (rows : List Row) → AreInRange one two file to rows
    → range_fault (constant_steps all) rows ≡ None
range_both wraps sum [] are = grind (arith, first-nil)
range_both {one} {two} {all} wraps sum {file} {to} (row ∷ rows) are =
    let f = frame-none (constant_steps one) row rows are.first in
    let t =
    frame-none (constant_steps two) (stood to (constant_steps one) row)
    (map (stood to (constant_steps one)) rows) are.second in
    let rest : AreInRange one two file to rows =
    record { frames = are.frames.1; first = f.1; second = t.1 } in
    none-frame (constant_steps all) row rows
    (unless_both row.lost (side_both (row_shaped are.frames.0) wraps sum)
    f.0 (sym (moved_or_lost row.lost two one row.side) ∙ t.0))
    (range_both wraps sum rows rest)

-- these steps and then those are no step at all for a frame, and both changes wrap or neither does
pub record AreOpposite (one two : Steps) : Type 0 where
  pub wraps : two.wrap ≡ one.wrap
  pub left : one.left +ℤ two.left ≡ pos 0
  pub right : one.right +ℤ two.right ≡ pos 0

abbrev pub AllOpposite : (ℕ → Steps) → (ℕ → Steps) → (ℕ → ℕ) → List Row → Type 0
AllOpposite one two to [] = Unit {0}
AllOpposite one two to (row ∷ rows) =
    AreOpposite (one row.offset) (two (to row.offset)) × AllOpposite one two to rows

-- opposite steps for all frames are opposite for each
pub constant_steps-opposite : {one two : Steps} → AreOpposite one two
    → (to : ℕ → ℕ) (rows : List Row) → AllOpposite (constant_steps one) (constant_steps two) to rows
constant_steps-opposite opposite to [] = tt
constant_steps-opposite {one} {two} opposite to (row ∷ rows) =
    (opposite, constant_steps-opposite opposite to rows)

-- if both together are no step, no gain that the first moved leaves its range by the second
pub range_back : (one two : ℕ → Steps) (file : List ℕ) (to : ℕ → ℕ) (rows : List Row)
    → AllOpposite one two to rows → AreFramesOf file rows → range_fault one rows ≡ None
    → range_fault two (map (stood to one) rows) ≡ None
range_back one two file to [] opposite frames free = first-nil (row_range_fault two)
range_back one two file to (row ∷ rows) opposite frames free =
    let or_none : (b : Bool) → b ≡ b || false = grind arith in
    let a = one row.offset in
    let b = two (to row.offset) in
    let f = frame-none one row rows free in
    let shaped = row_shaped frames.0 in
    let sum : AreTogether a b still =
    record { left = sym opposite.0.left; right = sym opposite.0.right } in
    none-frame two (stood to one row) (map (stood to one) rows)
    (moved_or_lost row.lost b a row.side
    ∙ unless_both row.lost
    (λ first again. side_then shaped (opposite.0.wraps ∙ or_none a.wrap) sum first
    (side_still (refl, refl) refl shaped (row_fits frames.0)))
    f.0 f.0)
    (range_back one two file to rows opposite.1 frames.1 f.1)
