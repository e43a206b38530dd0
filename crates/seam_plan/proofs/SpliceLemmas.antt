-- What is known of an input, and of what a splice leaves.
use Rattle.std.proofs.Common.{arith, drop, length, List, Option, Some, subst, ℕ, ◌++◌, ◌-◌, ◌<◌}
use Rattle.std.proofs.Common.{◌∷◌, ◌≡◌, ◌≤◌}
use Rattle.std.proofs.lemmas.List.{length-append, length-drop, length-map, map-append}
use Rattle.std.proofs.lemmas.List.FromFn.{length-map-range_with_len}
use Rattle.std.specs.Prelude.{IfSome, option_map, slice_index_or}
use Rattle.exact_span.specs.{Overlaps.{IsOverlap, IsOverlapShort}, PlayedPositions.rest_of}
use Rattle.exact_span.specs.declared.overlap.Overlap.{Overlap}
use Rattle.frame_header.specs.{Fields.{ClassFields, SlotFields}, Tables.window_of}
use Rattle.seam_plan.proofs.SeamLemmas.{joint-adds, length-moved}
use Rattle.seam_plan.specs.Decisions.{AddedFramesFit, CanFollow, frame_places, IsBroughtInput}
use Rattle.seam_plan.specs.Decisions.{IsJoinableInput, IsJoint, IsSplice, joined_needs, JoinsSplice}
use Rattle.seam_plan.specs.Decisions.{last_seven, SpliceGoesOn}
use Rattle.seam_plan.specs.Frames.{Brought, needs_of, SpliceFrame}
use Rattle.seam_plan.specs.Seams.{joint_of, JointFrames, left_out_count}
use Rattle.seam_plan.specs.declared.{input.Input.Input, splice.{FramePlace.FramePlace, Joint.Joint}}
use Rattle.seam_plan.specs.declared.splice.Run.{Run}
use Rattle.slot_plan.proofs.{FreeByteLemmas.{fits-drop, more-behind}, PartLemmas.class-drop}
use Rattle.slot_plan.specs.FreeBytes.{FitBehindFree, FitBehindWindow, FitsBehind, IsMostLeft}
use Rattle.slot_plan.specs.FreeBytes.{need_in_slot, needs_with_first_slot}
use Rattle.slot_plan.specs.declared.needs.Need.{Need}

-- an input that can be joined fits after a whole window
pub fits-window : {class : ClassFields} {input : Input} → IsJoinableInput class input
    → FitsBehind (window_of class.version) (window_of class.version) input.needs.now
fits-window can = grind (arith, more-behind)

-- all frames of an input except the first k fit after a whole window
pub drop-window : {class : ClassFields} {input : Input} (k : ℕ) → IsJoinableInput class input
    → FitBehindWindow (drop k input.needs.now)
drop-window {class} {input} k can = record {
  class = class;
  same = class-drop class input.needs.now k can.same;
  fits = fits-drop (window_of class.version) 0 k input.needs.now can.fits;
}

-- all frames of an input fit after a whole window
pub all-window : {class : ClassFields} {input : Input} → IsJoinableInput class input
    → FitBehindWindow input.needs.now
all-window can = grind (arith, fits-window)

-- all frames of an input fit after as many bytes as the window of the class
pub all-free : {class : ClassFields} {input : Input} → IsJoinableInput class input
    → FitBehindFree (window_of class.version) input.needs.now
all-free can = grind (arith, fits-window)

-- ---- a splice with more frames

-- whatever is alike, if these frames are added, the splice continues with them
module _ {class : ClassFields} (number : ℕ) {frames : List SpliceFrame} (more : List SpliceFrame)
    {places : List FramePlace}
    {before brought : Brought}
    {input : Input} {old : Run} (new : Run) (result : Joint)
    (is : IsSplice class frames places before old)
    (brings : IsBroughtInput input brought)
    (adds : needs_of more
    ≡ joined_needs result.slot (drop (left_out_count result.seam) input.needs.now)) where
  abbrev out : ℕ
  out = left_out_count result.seam

  all-needs : needs_of frames ++ joined_needs result.slot (drop out input.needs.now)
      ≡ needs_of (frames ++ more)
  all-needs = grind (arith, map-append)

  added : length input.needs.now - out ≡ length more
  added = grind (arith, length-drop, length-moved, length-map)

  all-length : length (places ++ frame_places number out (length more)) ≡ length (frames ++ more)
  all-length = grind (arith, length-append, length-map-range_with_len)

  -- a splice to which the frames of the joint were added is a splice of all these frames
  pub splice-goes : new.class ≡ old.class
      → IsMostLeft (window_of old.class.version) (window_of old.class.version) (needs_of frames
      ++ joined_needs result.slot (drop out input.needs.now)) new.left → new.last.items
      ≡ last_seven (places ++ frame_places number out (length input.needs.now - out))
      → new.rest ≡ option_map (λ p. rest_of old.class (length input.needs.now) p) input.played →
      IsSplice class (frames ++ more) (places ++ frame_places number out (length more)) brought new
  splice-goes same left last rest = grind (arith, all-needs, added, all-length, length-map)

-- a splice that goes on with what is decided is the splice of the definition
pub splice-joins : {class : ClassFields} {number : ℕ} {frames : List SpliceFrame}
    {places : List FramePlace} {before brought : Brought} {input : Input} {old new : Run}
    {result : Joint} → IsSplice class frames places before old → IsBroughtInput input brought
    → IsJoint (joint_of class frames before brought) result
    → SpliceGoesOn number input result old new
    → JoinsSplice class number frames places before brought result new
splice-joins {class} {number} {frames} {places} {before}
    {brought} {input} {new = new} {result = result} is brings decided goes =
    let joint : JointFrames = joint_of class frames before brought in
    let out : left_out_count result.seam ≡ left_out_count joint.seam = grind arith in
    let adds : needs_of joint.frames
    ≡ joined_needs result.slot (drop (left_out_count result.seam) input.needs.now) =
    grind (arith, joint-adds) in
    record {
      joint = decided;
      goes_on = subst (λ n. IsSplice class (frames ++ joint.frames)
          (places ++ frame_places number n (length joint.frames)) brought new) out
          (goes class frames joint.frames places before brought is brings adds);
    }

-- what a splice that begins with an input leaves
pub splice-begins : {class : ClassFields} {input : Input} {first : Brought} {splice : Run}
    → IsBroughtInput input first → splice.class ≡ class
    → IsMostLeft (window_of class.version) (window_of class.version) input.needs.now splice.left
    → splice.last.items ≡ last_seven (frame_places 0 0 (length input.needs.now))
    → splice.rest ≡ option_map (λ p. rest_of class (length input.needs.now) p) input.played
    → IsSplice class first.frames (frame_places 0 0 (length first.frames)) first splice
splice-begins brings same left last rest = grind (arith, length-map, length-map-range_with_len)

-- ---- frames that are added

-- frames that are added with the first in a slot fit with it after what is left
pub in-window : (class : ClassFields) (left : ℕ) (needs : List Need) (slot : SlotFields)
    → AddedFramesFit class left needs (Some slot)
    → FitsBehind (window_of class.version) left (needs_with_first_slot slot needs)
in-window class left needs slot fit = grind arith

-- the frames with the first in a slot are this one and the others
pub first-moved : (needs : List Need) (slot : SlotFields) {first : Need} → 0 < length needs
    → first ≡ slice_index_or needs 0 first
    → needs_with_first_slot slot needs ≡ need_in_slot slot first ∷ drop 1 needs
unfolding needs_with_first_slot
first-moved needs slot some at = grind arith

-- if frames fit with the first in a slot, there is a frame
pub some-in : (class : ClassFields) (left : ℕ) (needs : List Need) (slot : SlotFields)
    → AddedFramesFit class left needs (Some slot) → 0 < length needs
some-in class left needs slot fit = grind arith

-- ---- frames of a slice

-- if frames fit after a whole window, so do those after the first k
pub drop-fits : (k : ℕ) {needs : List Need} → FitBehindWindow needs → FitBehindWindow (drop k needs)
drop-fits k fit = grind (arith, class-drop, fits-drop)

-- ---- the frames that are shared

-- the input can follow by an overlap that is short and within the input
pub can-follow : (class : ClassFields) (input : Input) (shared : Option Overlap)
    → IfSome shared IsOverlap → IfSome shared (λ o. o.frames ≤ length input.needs.now)
    → IfSome shared (IsOverlapShort class) → IfSome shared (CanFollow input)
can-follow class input shared overlap within short = grind arith
