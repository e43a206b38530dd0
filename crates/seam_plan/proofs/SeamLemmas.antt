-- What becomes of an input, by the queries that decide it.
use Rattle.std.proofs.Common.{ap, ap₂, arith, Bool, drop, false, length, List, None, Option, refl}
use Rattle.std.proofs.Common.{Some, subst, sym, true, ℕ, [], ◌<◌, ◌∙◌, ◌∷◌, ◌≡◌}
use Rattle.std.proofs.lemmas.Bool.{and_from, and_left, and_parts, and_right, not_from_false}
use Rattle.std.{proofs.lemmas.{Bool.not_from_true, List.drop-map}, specs.Option.option_or}
use Rattle.std.specs.Prelude.{if◌then◌else◌, not, option_and_then, option_map, slice_get}
use Rattle.std.specs.Prelude.{slice_index_or, unwrap_or, ◌&&◌}
use Rattle.exact_span.specs.declared.overlap.Overlap.{Overlap}
use Rattle.frame_header.specs.{Fields.{ClassFields, SlotFields}, Tables.window_of}
use Rattle.seam_plan.specs.Decisions.{alike_overlap, AreJoint, IsBroughtInput, IsJoint}
use Rattle.seam_plan.specs.Decisions.{joined_needs, overlap_if_alike}
use Rattle.seam_plan.specs.Frames.{Brought, needs_of, SpliceFrame}
use Rattle.seam_plan.specs.Joins.{fits_behind, frame_in_slot, has_lead_in, is_lead_in_wanted}
use Rattle.seam_plan.specs.Joins.{join_slot, joining_frames}
use Rattle.seam_plan.specs.Seams.{following_joint, joint_of, joint_with, joint_without_lead_in}
use Rattle.seam_plan.specs.Seams.{JointFrames, left_out_count, overlap_joint, overlap_of}
use Rattle.seam_plan.specs.{Seams.whole_joint, declared.{input.Input.Input, seam.Seam.Seam}}
use Rattle.seam_plan.specs.declared.seam.Seam.TheVariants.{Follows, LeadIn, Whole}
use Rattle.seam_plan.specs.declared.splice.Joint.{Joint}
use Rattle.slot_plan.specs.{FreeBytes.needs_with_first_slot, declared.needs.Need.Need}

-- ---- an input that follows

-- the frames after the shared ones, as they join
abbrev pub follows_with : ClassFields → List SpliceFrame → Brought → Overlap → Option JointFrames
follows_with class splice brought overlap =
    option_map (joint_with (Follows overlap.frames))
    (joining_frames (window_of class.version) splice (drop overlap.frames brought.frames))

module _ (class : ClassFields) (splice : List SpliceFrame) (before brought : Brought) where
  -- an input follows if the frames that must be alike are
  pub follow-is : following_joint class splice before brought
      ≡ option_and_then (follows_with class splice brought)
      (alike_overlap class splice before brought)
  unfolding following_joint
  follow-is = at (overlap_of class before brought)
    where
      by_test : (overlap : Overlap) (b : Bool)
          → (if b then follows_with class splice brought overlap else None)
          ≡ option_and_then (follows_with class splice brought) (if b then Some overlap else None)
      by_test overlap true = refl
      by_test overlap false = refl

      at : (shared : Option Overlap)
          → option_and_then (overlap_joint class splice brought) shared ≡ option_and_then
          (follows_with class splice brought)
          (option_and_then (overlap_if_alike splice brought) shared)
      at shared = grind arith

  -- an input follows as the frames after the overlap that is alike join, if there is one
  pub follow-by : {alike overlap : Option Overlap} (result : Option Joint)
      → alike ≡ alike_overlap class splice before brought → alike ≡ overlap
      → AreJoint (option_and_then (follows_with class splice brought) overlap) result
      → AreJoint (following_joint class splice before brought) result
  follow-by result is same joins =
      subst (λ o. AreJoint o result)
      (sym (follow-is ∙ ap (option_and_then (follows_with class splice brought)) (sym is ∙ same)))
      joins

-- ---- an input without its lead-in

-- the frames after the first, as they join if the first is left out
abbrev pub without_if : ClassFields → List SpliceFrame → Brought → Bool → Option JointFrames
without_if class splice brought b =
    if b then option_map (joint_with LeadIn)
    (joining_frames (window_of class.version) splice (drop 1 brought.frames)) else None

-- the joint of an input without its lead-in, if there is one, leaves this out, and the input has it
abbrev pub IfWithout : ℕ → Brought → Option JointFrames → Type 0
IfWithout window input None = Unit {0}
IfWithout window input (Some joint) = (joint.seam ≡ LeadIn) × (has_lead_in window input ≡ true)

-- an input that joins without its lead-in has one, and its seam says that it is left out
pub without-led : (class : ClassFields) (splice : List SpliceFrame) (input : Brought)
    → IfWithout (window_of class.version) input (joint_without_lead_in class splice input)
unfolding joint_without_lead_in
without-led class splice input =
    let has : Bool = has_lead_in (window_of class.version) input in
    let wanted : Bool = is_lead_in_wanted (window_of class.version) input in
    by_test (has && wanted) (λ both. (and_parts has wanted both).0)
  where
    by_joined : (o : Option (List SpliceFrame)) → has_lead_in (window_of class.version) input ≡ true
        → IfWithout (window_of class.version) input (option_map (joint_with LeadIn) o)
    by_joined None has = tt
    by_joined (Some frames) has = (refl, has)

    by_test : (b : Bool) → (b ≡ true → has_lead_in (window_of class.version) input ≡ true)
        → IfWithout (window_of class.version) input (without_if class splice input b)
    by_test b has = grind arith

module _ (class : ClassFields) (splice : List SpliceFrame) {input : Input} {brought : Brought}
    {has : Bool} (is : IsBroughtInput input brought)
    (leads : has ≡ has_lead_in (window_of class.version) brought) where
  -- an input joins without its lead-in if it has one that the others want, and the others can join
  without-by : {alone b : Bool} (result : Option Joint)
      → alone ≡ fits_behind (window_of class.version) 0 (drop 1 input.needs.now)
      → (has && not alone) ≡ b → AreJoint (without_if class splice brought b) result
      → AreJoint (joint_without_lead_in class splice brought) result
  unfolding joint_without_lead_in
  without-by {alone} result fits left joins =
      let same : alone
      ≡ fits_behind (window_of class.version) 0 (needs_of (drop 1 brought.frames)) =
      grind (arith, drop-map) in
      subst (λ o. AreJoint o result) (sym (ap₂ (λ h a. without_if class splice brought (h && not a))
      (sym leads) (sym same) ∙ ap (without_if class splice brought) left)) joins

  -- no lead-in is left out of an input that has none
  pub without-lead : has ≡ false → AreJoint (joint_without_lead_in class splice brought) None
  without-lead none =
      let alone : Bool = fits_behind (window_of class.version) 0 (drop 1 input.needs.now) in
      without-by None refl (and_left has (not alone) none) tt

  -- an input whose lead-in isn't wanted doesn't join without it
  pub without-want : {alone : Bool}
      → alone ≡ fits_behind (window_of class.version) 0 (drop 1 input.needs.now) → alone ≡ true
      → AreJoint (joint_without_lead_in class splice brought) None
  without-want {alone} fits true_is =
      without-by None fits (and_right has (not alone) (not_from_true alone true_is)) tt

  -- a lead-in that the others want is left out if the others can join
  pub without-some : {alone : Bool} (result : Option Joint)
      → alone ≡ fits_behind (window_of class.version) 0 (drop 1 input.needs.now)
      → has ≡ true → alone ≡ false → AreJoint (without_if class splice brought true) result
      → AreJoint (joint_without_lead_in class splice brought) result
  without-some {alone} result fits has_is alone_is joins =
      without-by result fits
      (and_from has (not alone) has_is (not_from_false alone alone_is)) joins

-- the frames of an input except the first k need what is left of its needs
pub needs-drop : (k : ℕ) {input : Input} {brought : Brought} → IsBroughtInput input brought
    → drop k input.needs.now ≡ needs_of (drop k brought.frames)
needs-drop k {brought = brought} is =
    ap (drop k) is.needs ∙ drop-map (λ (f : SpliceFrame). f.need) k brought.frames

-- ---- what is decided

-- what becomes of an input is the first choice, if there is one
pub joint-first : (x y : Option JointFrames) (z : JointFrames) {result : Joint}
    → AreJoint x (Some result) → IsJoint (unwrap_or (option_or x y) z) result
joint-first x y z is = grind arith

-- if there is no first choice, it is the second
pub joint-second : (x y : Option JointFrames) (z : JointFrames) {result : Joint}
    → AreJoint x None → AreJoint y (Some result) → IsJoint (unwrap_or (option_or x y) z) result
joint-second x y z first is = grind arith

-- if there is neither, it is the last
pub joint-last : (x y : Option JointFrames) {z : JointFrames} {result : Joint} → AreJoint x None
    → AreJoint y None → IsJoint z result → IsJoint (unwrap_or (option_or x y) z) result
joint-last x y first second is = grind arith

-- ---- a property of what becomes of an input

module _ (class : ClassFields) (splice : List SpliceFrame) (before brought : Brought)
    (P : JointFrames → Type 0)
    (joins : (seam : Seam) (frames : List SpliceFrame)
    → joining_frames (window_of class.version) splice (drop (left_out_count seam) brought.frames)
    ≡ Some frames → P (joint_with seam frames)) (all : P (whole_joint brought)) where
  abbrev HoldsIf : Option JointFrames → Type 0
  HoldsIf None = Unit {0}
  HoldsIf (Some joint) = P joint

  by-joining_frames : (seam : Seam) (o : Option (List SpliceFrame))
      → joining_frames (window_of class.version) splice (drop (left_out_count seam) brought.frames)
      ≡ o → HoldsIf (option_map (joint_with seam) o)
  by-joining_frames seam None is = tt
  by-joining_frames seam (Some frames) is = joins seam frames is

  of-following_joint : HoldsIf (following_joint class splice before brought)
  of-following_joint = subst HoldsIf (sym (follow-is class splice before brought))
      (at (alike_overlap class splice before brought))
    where
      at : (o : Option Overlap) → HoldsIf (option_and_then (follows_with class splice brought) o)
      at None = tt
      at (Some overlap) =
          by-joining_frames (Follows overlap.frames)
          (joining_frames (window_of class.version) splice (drop overlap.frames brought.frames))
          refl

  of-without : HoldsIf (joint_without_lead_in class splice brought)
  unfolding joint_without_lead_in
  of-without = at _
    where
      at : (b : Bool) → HoldsIf (without_if class splice brought b)
      at true =
          by-joining_frames LeadIn
          (joining_frames (window_of class.version) splice (drop 1 brought.frames)) refl
      at false = tt

  -- a property of frames that join, with any seam, and of the
  -- whole input, is a property of what becomes of the input
  pub joint-by : P (joint_of class splice before brought)
  joint-by =
      at (following_joint class splice before brought)
      (joint_without_lead_in class splice brought) of-following_joint
      of-without
    where
      at : (x y : Option JointFrames) → HoldsIf x → HoldsIf y
          → P (unwrap_or (option_or x y) (whole_joint brought))
      at None None first second = all
      at None (Some joint) first second = second
      at (Some joint) y first second = first

-- ---- the frames that are added

-- what is decided adds the frames that are left, the first in its slot
abbrev pub Adds : Brought → JointFrames → Type 0
Adds brought joint =
    (result : Joint) → IsJoint joint result → needs_of joint.frames
    ≡ joined_needs result.slot (drop (left_out_count joint.seam) (needs_of brought.frames))

-- the frames that join, with any seam
abbrev Moves : Seam → List SpliceFrame → Option (List SpliceFrame) → Type 0
Moves seam rest None = Unit {0}
Moves seam rest (Some frames) = (result : Joint) → IsJoint (joint_with seam frames) result
    → needs_of frames ≡ joined_needs result.slot (needs_of rest)

joining_frames-moves : (window : ℕ) (seam : Seam) (splice rest : List SpliceFrame)
    → Moves seam rest (joining_frames window splice rest)
unfolding joining_frames needs_with_first_slot
joining_frames-moves window seam splice [] = λ result is. ap (λ o. joined_needs o []) (sym is.slot)
joining_frames-moves window seam splice (f ∷ fs) =
    at (join_slot window (needs_of splice) f.need (needs_of fs))
  where
    at : (o : Option SlotFields) → Moves seam (f ∷ fs) (option_map (λ s. frame_in_slot s f ∷ fs) o)
    at None = tt
    at (Some s) = λ result is. ap (λ o. joined_needs o (f.need ∷ needs_of fs)) (sym is.slot)

all-moves : (frames : List SpliceFrame) (result : Joint) → IsJoint (joint_with Whole frames) result
    → needs_of frames ≡ joined_needs result.slot (needs_of frames)
unfolding needs_with_first_slot
all-moves [] result is = ap (λ o. joined_needs o []) (sym is.slot)
all-moves (f ∷ fs) result is = ap (λ o. joined_needs o (f.need ∷ needs_of fs)) (sym is.slot)

-- what becomes of an input adds its frames except those that are left out
pub joint-adds : (class : ClassFields) (splice : List SpliceFrame) (before brought : Brought)
    → Adds brought (joint_of class splice before brought)
joint-adds class splice before brought =
    joint-by class splice before brought (Adds brought)
    (λ seam frames is result joined.
    let rest : List SpliceFrame = drop (left_out_count seam) brought.frames in
    let window = window_of class.version in
    subst (Moves seam rest) is (joining_frames-moves window seam splice rest) result joined
    ∙ ap (joined_needs result.slot)
    (sym (drop-map (λ (f : SpliceFrame). f.need) (left_out_count seam) brought.frames)))
    (all-moves brought.frames)

-- as many frames join as are left
pub length-moved : (slot : Option SlotFields) (needs : List Need)
    → length (joined_needs slot needs) ≡ length needs
unfolding needs_with_first_slot
length-moved slot needs = grind arith

-- ---- a whole input

-- an input that is left whole joins in the slot of its first frame
pub whole_joint-is : {input : Input} {brought : Brought} {first : Need}
    → IsBroughtInput input brought → 0 < length input.needs.now
    → first ≡ slice_index_or input.needs.now 0 first
    → IsJoint (whole_joint brought) (record { seam = Whole; slot = Some first.header.slot })
whole_joint-is {brought = brought} {first = first} is some at = record {
  seam = refl;
  slot = first-slot brought.frames first (subst (λ l. 0 < length l) is.needs some)
      (subst (λ l. first ≡ slice_index_or l 0 first) is.needs at);
}
  where
    first-slot : (frames : List SpliceFrame) (n : Need) → 0 < length (needs_of frames)
        → n ≡ slice_index_or (needs_of frames) 0 n → Some n.header.slot
        ≡ option_map (λ (f : SpliceFrame). f.need.header.slot) (slice_get frames 0)
    first-slot [] n some at = absurd (omega (arith, some))
    first-slot (f ∷ fs) n some at = ap (λ (m : Need). Some m.header.slot) at
