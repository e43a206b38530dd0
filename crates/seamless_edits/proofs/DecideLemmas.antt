-- What becomes of inputs, one more at a time.
use Rattle.std.proofs.Common.{ap, append-nil, append_assoc, ap₂, arith, Bool, bytes_eq, cond, drop}
use Rattle.std.proofs.Common.{false, flat_map, length, List, map, None, Option, refl, slice_get}
use Rattle.std.proofs.Common.{Some, suc, sym, take, true, zero, ℕ, [], ◌&&◌, ◌++◌, ◌+◌, ◌-◌, ◌<◌}
use Rattle.std.proofs.{Common.{◌∙◌, ◌∷◌, ◌≡◌, ◌≤◌}, lemmas.Bool.leb-true}
use Rattle.std.proofs.lemmas.List.{drop-map, length-drop, length-take-le, map-append}
use Rattle.std.specs.{List.AllZip, Prelude.{nat_le, option_and_then}}
use Rattle.exact_span.specs.declared.overlap.Overlap.{Overlap}
use Rattle.frame_header.specs.Fields.{ClassFields, SlotFields}
use Rattle.seam_plan.specs.Decisions.{alike_overlap, frame_place, IsJoint, joined_needs}
use Rattle.seam_plan.specs.Decisions.{last_places, overlap_if_alike}
use Rattle.seam_plan.specs.Frames.{Brought, SpliceFrame}
use Rattle.seam_plan.specs.Seams.{are_frames_alike, compared_frames, ends_alike, joint_of}
use Rattle.seam_plan.specs.Seams.{JointFrames, joints_from, joints_of, left_out_count, overlap_of}
use Rattle.seam_plan.specs.{Seams.splice_with, declared.splice.{FramePlace.FramePlace, Joint.Joint}}
use Rattle.seamless_edits.specs.Deciding.{AreMovedNeeds, last_brought, left_out_counts}
use Rattle.seamless_edits.specs.Sounds.{same_sounds, sound_at}
use Rattle.slot_plan.specs.{FreeBytes.needs_with_first_slot, Parts.AreNeedsOfClass}
use Rattle.slot_plan.specs.declared.needs.Need.{Need}

-- ---- one more joint

module _ (class : ClassFields) where
  abbrev frames-in : List JointFrames → List SpliceFrame
  frames-in joints = flat_map (λ (j : JointFrames). j.frames) joints

  joints-more : (splice : List SpliceFrame) (before : Brought) (others : List Brought)
      (next : Brought) → joints_from class splice before (others ++ next ∷ [])
      ≡ joints_from class splice before others ++ joint_of class (splice
      ++ frames-in (joints_from class splice before others)) (last_brought before others) next ∷ []
  unfolding joints_from
  joints-more splice before [] next = grind (arith, append-nil)
  joints-more splice before (b ∷ others) next =
      let joint = joint_of class splice before b in
      let later = joints_from class (splice ++ joint.frames) b others in
      ap (λ (l : List JointFrames). joint ∷ l) (joints-more (splice ++ joint.frames) b others next)
      ∙ ap (λ (r : List SpliceFrame). joint
      ∷ (later ++ joint_of class r (last_brought b others) next
      ∷ [])) (append_assoc splice joint.frames (frames-in later))

  -- one more input has one more joint
  pub joints-next : (first : Brought) (others : List Brought) (next : Brought)
      → joints_of class first (others ++ next ∷ [])
      ≡ joints_of class first others ++ joint_of class
      (splice_with first (joints_of class first others)) (last_brought first others) next ∷ []
  joints-next first others next = joints-more first.frames first others next

  frames-more : (joints : List JointFrames) (joint : JointFrames)
      → frames-in (joints ++ joint ∷ []) ≡ frames-in joints ++ joint.frames
  frames-more [] joint = append-nil joint.frames
  frames-more (j ∷ joints) joint = grind (arith, append_assoc, frames-more joints joint)

  -- one more input adds its frames to the splice
  pub splice-next : (first : Brought) (others : List Brought) (next : Brought)
      → splice_with first (joints_of class first (others ++ next ∷ []))
      ≡ splice_with first (joints_of class first others)
      ++ (joint_of class (splice_with first (joints_of class first others))
      (last_brought first others) next).frames
  splice-next first others next = grind (arith, joints-next, frames-more, append_assoc)

-- with one more input, that input is the last
pub last-next : (first : Brought) (others : List Brought) (next : Brought)
    → last_brought first (others ++ next ∷ []) ≡ next
last-next first [] next = refl
last-next first (b ∷ others) next = last-next b others next

-- one more joint and its result
pub zip-more : (joints : List JointFrames) (results : List Joint) {joint : JointFrames}
    {result : Joint} → AllZip IsJoint joints results → IsJoint joint result
    → AllZip IsJoint (joints ++ joint ∷ []) (results ++ result ∷ [])
zip-more [] [] are is = (is, tt)
zip-more (j ∷ joints) (r ∷ results) {joint} {result} are is =
    (are.0, zip-more joints results are.1 is)
zip-more _ _ are is = absurd are

-- the number of frames left out by one more joint comes last
pub outs-more : (joints : List Joint) (joint : Joint)
    → left_out_counts (joints ++ joint ∷ [])
    ≡ left_out_counts joints ++ left_out_count joint.seam ∷ []
outs-more joints joint = map-append (λ (j : Joint). left_out_count j.seam) joints (joint ∷ [])

-- ---- the needs of frames in other slots

-- needs are the same needs, each in its own slot
pub moved-same : (needs : List Need) → AreMovedNeeds needs needs
moved-same [] = tt
moved-same (n ∷ needs) = ((refl, refl), moved-same needs)

-- two lists of needs in other slots, joined
pub moved-append : (ns ms xs ys : List Need) → AreMovedNeeds ns ms → AreMovedNeeds xs ys
    → AreMovedNeeds (ns ++ xs) (ms ++ ys)
moved-append [] [] xs ys front back = back
moved-append (n ∷ ns) (m ∷ ms) xs ys front back = (front.0, moved-append ns ms xs ys front.1 back)
moved-append _ _ xs ys front back = absurd front

-- the needs after the first k are in other slots, too
pub moved-drop : (k : ℕ) (ns ms : List Need) → AreMovedNeeds ns ms
    → AreMovedNeeds (drop k ns) (drop k ms)
moved-drop zero ns ms are = are
moved-drop (suc k) [] [] are = tt
moved-drop (suc k) (n ∷ ns) (m ∷ ms) are = moved-drop k ns ms are.1
moved-drop (suc k) _ _ are = absurd are

-- the first may have another slot
pub moved-joined : (slot : Option SlotFields) (needs : List Need)
    → AreMovedNeeds (joined_needs slot needs) needs
unfolding needs_with_first_slot
moved-joined slot needs = grind (arith, moved-same)

-- needs are still of the class when the first is in another slot
pub class-moved : (class : ClassFields) (slot : Option SlotFields) (needs : List Need)
    → AreNeedsOfClass class needs → AreNeedsOfClass class (joined_needs slot needs)
unfolding AreNeedsOfClass needs_with_first_slot
class-moved class slot needs same = grind arith

-- ---- frames that are alike

-- whether the frames at these places sound like the frames of an input from one on
abbrev pub sounds_from : List (List SpliceFrame) → ℕ → ℕ → List FramePlace → Bool
sounds_from lists number frame [] = true
sounds_from lists number frame (p ∷ ps) =
    same_sounds lists p (frame_place number frame) && sounds_from lists number (frame + 1) ps

-- the items from a place on are the item there and those after it
pub drop-cons : {X : Type 0} (n : ℕ) (xs : List X) → n < length xs
    → (x : X) × (slice_get xs n ≡ Some x) × (drop n xs ≡ x ∷ drop (n + 1) xs)
drop-cons n [] within = absurd (omega (arith, within))
drop-cons zero (x ∷ xs) within = (x, refl, refl)
drop-cons (suc n) (x ∷ xs) within = grind (arith, drop-cons n xs (omega (arith, within)))

-- the sound at a place is the sound of the frame there
pub sound-here : (lists : List (List SpliceFrame)) (number frame : ℕ) {all : List SpliceFrame}
    {x : SpliceFrame} → slice_get lists number ≡ Some all → slice_get all frame ≡ Some x
    → sound_at lists (frame_place number frame) ≡ x.sound
sound-here lists number frame has is = grind arith

-- the frames at these places sound like the input's frames exactly if they are alike
sounds-alike : (lists : List (List SpliceFrame)) (number from : ℕ) {all : List SpliceFrame}
    (ps : List FramePlace) (xs : List SpliceFrame) → slice_get lists number ≡ Some all
    → from + length ps ≤ length all
    → map (sound_at lists) ps ≡ map (λ (x : SpliceFrame). x.sound) xs
    → sounds_from lists number from ps ≡ are_frames_alike xs (take (length ps) (drop from all))
unfolding are_frames_alike
sounds-alike lists number from [] [] has within same = refl
sounds-alike lists number from [] (x ∷ xs) has within same = absurd cc
sounds-alike lists number from (p ∷ ps) [] has within same = absurd cc
sounds-alike lists number from {all} (p ∷ ps) (x ∷ xs) has within same =
    let next = drop-cons from all (omega (arith, within)) in
    let head : sound_at lists p ≡ x.sound = cc in
    let tail : map (sound_at lists) ps ≡ map (λ (y : SpliceFrame). y.sound) xs = cc in
    ap₂ (λ (a b : List ℕ). bytes_eq a b && sounds_from lists number (from + 1) ps) head
    (sound-here lists number from has next.1)
    ∙ ap (λ (b : Bool). bytes_eq x.sound next.0.sound && b)
    (sounds-alike lists number (from + 1) ps xs has (omega (arith, within)) tail)
    ∙ sym
    (ap (λ (l : List SpliceFrame). are_frames_alike (x ∷ xs) (take (suc (length ps)) l)) next.2)

-- ---- the overlap

module _ (class : ClassFields) (lists : List (List SpliceFrame)) (number : ℕ)
    (frames : List SpliceFrame)
    (places : List FramePlace) (before brought : Brought) {overlap : Overlap}
    (same : length places ≡ length frames) (within : overlap.frames ≤ length brought.frames)
    (some : overlap.first_alike < overlap.frames)
    (sounds : map (sound_at lists) places ≡ map (λ (x : SpliceFrame). x.sound) frames)
    (has : slice_get lists number ≡ Some brought.frames)
    (found : Some overlap ≡ overlap_of class before brought) where
  abbrev count : ℕ
  count = overlap.frames - overlap.first_alike

  length-compared_frames : length (compared_frames overlap brought) ≡ count
  length-compared_frames = grind (arith, length-take-le, length-drop)

  decided : alike_overlap class frames before brought ≡ overlap_if_alike frames brought overlap
  decided = ap (option_and_then (overlap_if_alike frames brought)) (sym found)

  -- if the splice has fewer frames, the overlap isn't alike
  pub alike-few : None ≡ last_places places count → None ≡ alike_overlap class frames before brought
  alike-few few =
      sym (decided ∙ at (nat_le (length (compared_frames overlap brought)) (length frames)) refl)
    where
      none-some : (b : Bool) → nat_le count (length places) ≡ b
          → None ≡ cond b (Some (drop (length places - count) places)) None
          → nat_le count (length places) ≡ false
      none-some true is e = absurd cc
      none-some false is e = is

      fewer : nat_le (length (compared_frames overlap brought)) (length frames) ≡ false
      fewer =
          ap₂ nat_le length-compared_frames (sym same)
          ∙ none-some (nat_le count (length places)) refl few

      at : (b : Bool) → nat_le (length (compared_frames overlap brought)) (length frames) ≡ b
          → cond (nat_le (length (compared_frames overlap brought)) (length frames)
          && are_frames_alike
          (drop (length frames - length (compared_frames overlap brought)) frames)
          (compared_frames overlap brought)) (Some overlap) None ≡ None
      at b is =
          ap (λ x. cond (x
          && are_frames_alike (drop (length frames - length (compared_frames overlap brought))
          frames) (compared_frames overlap brought)) (Some overlap) None) fewer

  -- the last frames of the splice are compared
  module _ {last : List FramePlace} (is : Some last ≡ last_places places count) where
    last-sounds : map (sound_at lists) last
        ≡ map (λ (x : SpliceFrame). x.sound) (drop (length frames - count) frames)
    last-sounds = grind (arith, drop-map (sound_at lists) (length places - count) places, drop-map)

    last-length : length last ≡ count
    last-length = grind (arith, leb-true, length-drop)

    tested : ends_alike frames (compared_frames overlap brought)
        ≡ sounds_from lists number overlap.first_alike last
    tested = grind (arith, length-compared_frames, last-length, sounds-alike, last-sounds)

    -- the overlap is alike exactly if these frames sound the same
    pub alike-tested : {b : Bool} → sounds_from lists number overlap.first_alike last ≡ b
        → alike_overlap class frames before brought ≡ cond b (Some overlap) None
    alike-tested test = decided ∙ ap (λ (x : Bool). cond x (Some overlap) None) (tested ∙ test)
