-- What is known of the splice and of the next input when their seam is decided.
use Rattle.std.specs.List.{range_with_len}
use Rattle.std.specs.Prelude.{drop, IfSome, if◌then◌else◌, length, List, map, nat_le, None, Option}
use Rattle.std.specs.Prelude.{option_and_then, option_map, slice_get, Some, ℕ, [], ◌++◌, ◌+◌, ◌-◌}
use Rattle.std.specs.Prelude.{◌<◌, ◌∷◌, ◌≡◌, ◌≤◌}
use Rattle.exact_span.specs.Overlaps.{IsOverlap}
use Rattle.exact_span.specs.PlayedPositions.{AreCounted, longest_rest, rest_of}
use Rattle.exact_span.specs.declared.overlap.Overlap.{Overlap}
use Rattle.frame_header.specs.{Fields.{ClassFields, IsClass, SlotFields}, Tables.window_of}
use Rattle.seam_plan.specs.{Frames.{Brought, needs_of, SpliceFrame}, Joins.joining_frames}
use Rattle.seam_plan.specs.Seams.{compared_frames, ends_alike, joint_of, joint_with, JointFrames}
use Rattle.seam_plan.specs.{Seams.{left_out_count, overlap_of}, declared.input.Input.Input}
use Rattle.seam_plan.specs.declared.{seam.Seam.Seam, splice.{FramePlace.FramePlace, Joint.Joint}}
use Rattle.seam_plan.specs.declared.splice.Run.{Run}
use Rattle.slot_plan.specs.FreeBytes.{FitsBehind, IsMostLeft, needs_with_first_slot}
use Rattle.slot_plan.specs.{Parts.AreNeedsOfClass, declared.needs.Need.Need}

-- frames of an input of this class, each in its own slot; they fit after
-- no bytes, as the frames of every file do when its head is set apart
pub record IsJoinableInput (class : ClassFields) (input : Input) : Type 0 where
  pub some : 0 < length input.needs.now
  pub few : length input.needs.now < 4294967296
  pub same : AreNeedsOfClass class input.needs.now
  pub fits : FitsBehind (window_of class.version) 0 input.needs.now
  pub counted : IfSome input.played (AreCounted class (length input.needs.now))

-- this is what the input brings
pub record IsBroughtInput (input : Input) (brought : Brought) : Type 0 where
  pub needs : input.needs.now ≡ needs_of brought.frames
  pub blank : input.blank ≡ brought.blank
  pub played : input.played ≡ brought.played

-- the last frames of a list, at most seven
abbrev pub last_seven : {X : Type 0} → List X → List X
last_seven xs = drop (length xs - 7) xs

-- the positions after the last played one, if the head has counts
abbrev pub brought_rest : ClassFields → Brought → Option ℕ
brought_rest class brought =
    option_map (λ p. rest_of class (length brought.frames) p) brought.played

-- The splice has these frames, which are at these places; the last input so far is `before`.
pub record IsSplice (class : ClassFields) (frames : List SpliceFrame) (places : List FramePlace)
    (before : Brought) (splice : Run) : Type 0 where
  pub of_class : splice.class ≡ class
  pub left : IsMostLeft (window_of class.version) (window_of class.version)
      (needs_of frames) splice.left
  pub last : splice.last.items ≡ last_seven places
  pub same : length places ≡ length frames
  pub rest : splice.rest ≡ brought_rest class before

-- this holds of all frames that the splice can have, their class and their places,
-- of the last input so far, and of all that the next input can bring
abbrev pub HoldsOfSplice : Run → Input
    → (ClassFields → List SpliceFrame → List FramePlace → Brought → Brought → Type 0) → Type 0
HoldsOfSplice splice input P =
    (class : ClassFields) (frames : List SpliceFrame) (places : List FramePlace)
    (before brought : Brought) → IsSplice class frames places before splice
    → IsBroughtInput input brought → P class frames places before brought

-- at most the window of the splice's class is left
pub record IsSpliceInWindow (splice : Run) : Type 0 where
  pub known : IsClass splice.class
  pub most : splice.left ≤ window_of splice.class.version

-- no more positions are after the last played one than
-- a head can count, and at most the window is left
pub record IsSoundSplice (splice : Run) : Type 0 where
  pub within : IsSpliceInWindow splice
  pub rest : IfSome splice.rest (λ rest. rest ≤ longest_rest)

-- the shared frames are all in the input, and one to seven of them must be alike
pub record CanFollow (input : Input) (overlap : Overlap) : Type 0 where
  pub some : IsOverlap overlap
  pub within : overlap.frames ≤ length input.needs.now
  pub few : overlap.frames ≤ overlap.first_alike + 7

-- the overlap, if its frames that must be alike are
abbrev pub overlap_if_alike : List SpliceFrame → Brought → Overlap → Option Overlap
overlap_if_alike splice brought overlap =
    if ends_alike splice (compared_frames overlap brought) then Some overlap else None

-- the frames that the input shares with the one before it, if those that must be alike are
abbrev pub alike_overlap : ClassFields → List SpliceFrame → Brought → Brought → Option Overlap
alike_overlap class splice before brought =
    option_and_then (overlap_if_alike splice brought) (overlap_of class before brought)

-- the place of a frame: its input and its number there
abbrev pub frame_place : ℕ → ℕ → FramePlace
frame_place input frame = record { input = input; frame = frame }

-- the places of `count` frames of an input, from `from` on
abbrev pub frame_places : ℕ → ℕ → ℕ → List FramePlace
frame_places input from count = map (frame_place input) (range_with_len from count)

-- this is decided: the seam, and the slot of the first
-- frame that the input adds to the splice, if it adds one
pub record IsJoint (joint : JointFrames) (result : Joint) : Type 0 where
  pub seam : result.seam ≡ joint.seam
  pub slot : result.slot
      ≡ option_map (λ (f : SpliceFrame). f.need.header.slot) (slice_get joint.frames 0)

-- a place is added after the last seven; the first of them is dropped if there are seven
pub record IsSlid (old : List FramePlace) (place : FramePlace) (new : List FramePlace)
    : Type 0 where
  pub few : length old ≤ 7
  pub room : length old < 7 → new ≡ old ++ place ∷ []
  pub full : length old ≡ 7 → new ≡ drop 1 old ++ place ∷ []

-- the last `count` of these places; none if there are fewer
abbrev pub last_places : List FramePlace → ℕ → Option (List FramePlace)
last_places places count =
    if nat_le count (length places) then Some (drop (length places - count) places) else None

-- this is what becomes of the input, and the splice continues with the frames that it adds
pub record JoinsSplice (class : ClassFields) (number : ℕ) (frames : List SpliceFrame)
    (places : List FramePlace)
    (before brought : Brought) (result : Joint) (splice : Run) : Type 0 where
  pub joint : IsJoint (joint_of class frames before brought) result
  pub goes_on :
      let joint = joint_of class frames before brought in
      IsSplice class (frames ++ joint.frames)
      (places ++ frame_places number (left_out_count joint.seam) (length joint.frames)) brought
      splice

-- these frames with the first in this slot, if there is one
abbrev pub joined_needs : Option SlotFields → List Need → List Need
joined_needs None needs = needs
joined_needs (Some slot) needs = needs_with_first_slot slot needs

-- the splice continues with the frames of the input
-- that this joint leaves, whatever they sound like
abbrev pub SpliceGoesOn : ℕ → Input → Joint → Run → Run → Type 0
SpliceGoesOn number input joint old new =
    (class : ClassFields) (frames more : List SpliceFrame) (places : List FramePlace)
    (before brought : Brought) → IsSplice class frames places before old
    → IsBroughtInput input brought
    → needs_of more ≡ joined_needs joint.slot (drop (left_out_count joint.seam) input.needs.now)
    → IsSplice class (frames ++ more)
    (places ++ frame_places number (left_out_count joint.seam) (length more)) brought new

-- The frames of an input that are added to a splice fit after the bytes that
-- it leaves, each in its own slot except the first, which has this slot.
abbrev pub AddedFramesFit : ClassFields → ℕ → List Need → Option SlotFields → Type 0
AddedFramesFit class left [] None = Unit {0}
AddedFramesFit class left [] (Some slot) = ⊥
AddedFramesFit class left (first ∷ needs) None = ⊥
AddedFramesFit class left (first ∷ needs) (Some slot) =
    FitsBehind (window_of class.version) left (needs_with_first_slot slot (first ∷ needs))

-- the frames of the input that aren't left out fit after the bytes that the splice leaves
pub record AddedInputFits (class : ClassFields) (left : ℕ) (input : Input)
    (joint : Joint) : Type 0 where
  pub out : left_out_count joint.seam ≤ length input.needs.now
  pub fit : AddedFramesFit class left (drop (left_out_count joint.seam) input.needs.now) joint.slot

-- the same joint is decided, or none
abbrev pub AreJoint : Option JointFrames → Option Joint → Type 0
AreJoint None None = Unit {0}
AreJoint (Some joint) (Some result) = IsJoint joint result
AreJoint _ _ = ⊥

-- frames join with this seam, or can't
abbrev pub IsJointOfFrames : Seam → Option (List SpliceFrame) → Option Joint → Type 0
IsJointOfFrames seam frames result = AreJoint (option_map (joint_with seam) frames) result

-- the result is how frames of an input with these needs
-- join the splice with this seam, or that they can't
abbrev pub JoinSplice : Seam → List Need → Run → Option Joint → Type 0
JoinSplice seam needs splice result =
    (class : ClassFields) (frames rest : List SpliceFrame) (places : List FramePlace)
    (before : Brought) → IsSplice class frames places before splice → needs ≡ needs_of rest
    → IsJointOfFrames seam (joining_frames (window_of class.version) frames rest) result
