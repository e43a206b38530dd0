-- How frames join a splice, by what it leaves.
use Rattle.std.proofs.Common.{arith, Bool, Contains, length, List, None, Option, refl, Some, true}
use Rattle.std.proofs.Common.{ℕ, [], ◌++◌, ◌<◌, ◌∷◌, ◌≡◌}
use Rattle.std.{proofs.lemmas.Bool.{and_from, and_parts, le-leb, leb-true}, specs.Bool.Decides}
use Rattle.std.specs.Prelude.{option_map, slice_index_or, ◌&&◌}
use Rattle.frame_header.proofs.SlotLemmas.{areas-ascend}
use Rattle.frame_header.specs.{Fields.{ClassFields, IsClass, SlotFields}, Slots.all_slots}
use Rattle.frame_header.specs.Tables.{class_of, window_of}
use Rattle.seam_plan.proofs.{FitLemmas.fits-tested, PlaceLemmas.drop-front}
use Rattle.seam_plan.proofs.SlotLemmas.{find-least, find-none}
use Rattle.seam_plan.specs.Decisions.{AddedFramesFit, IsJointOfFrames}
use Rattle.seam_plan.specs.Frames.{needs_of, SpliceFrame}
use Rattle.seam_plan.specs.Joins.{fits_behind, is_area_no_less, join_slot, joining_frames}
use Rattle.seam_plan.specs.declared.{seam.Seam.Seam, splice.Joint.Joint}
use Rattle.slot_plan.proofs.AreaLemmas.{class-ascend}
use Rattle.slot_plan.proofs.FreeByteLemmas.{behind-left, fits-drop, fits-wanted, leaves-fit}
use Rattle.slot_plan.proofs.FreeByteLemmas.{more-behind, one-left, own-wanted}
use Rattle.slot_plan.specs.FreeBytes.{FitsBehind, IsJoinSlot, IsMostLeft, JoinsInSlot, need_in_slot}
use Rattle.slot_plan.specs.{FreeBytes.needs_with_first_slot, Parts.AreNeedsOfClass}
use Rattle.slot_plan.specs.declared.needs.Need.{Need}

module _ {window left : ℕ} {splice : List Need} (is : IsMostLeft window window splice left) where
  splice-fits : FitsBehind window window splice
  splice-fits = (leaves-fit splice (omega arith) is.leaves).0

  behind-splice : (needs : List Need) → FitsBehind window window (splice ++ needs)
      → FitsBehind window left needs
  behind-splice needs fits =
      grind (
        arith,
        drop-front splice needs,
        fits-drop window window (length splice) (splice ++ needs) fits,
        own-wanted,
        behind-left,
        fits-wanted,
      )

  splice-behind : (needs : List Need) → FitsBehind window left needs
      → FitsBehind window window (splice ++ needs)
  splice-behind needs fits = grind (arith, behind-left, more-behind, splice-fits, one-left)

  -- the splice and then frames fit after a whole window
  -- exactly if the frames fit after what the splice leaves
  pub behind-tested : (needs : List Need)
      → Decides (fits_behind window window (splice ++ needs)) (FitsBehind window left needs)
  behind-tested needs = grind (arith, behind-splice, fits-tested, splice-behind)

  module _ (first : Need) (needs : List Need) (known : IsClass (class_of first.header)) where
    abbrev joins_in : SlotFields → Bool
    joins_in slot =
        is_area_no_less first slot
        && fits_behind window window (splice ++ need_in_slot slot first ∷ needs)

    joins-passes : {slot : SlotFields} → JoinsInSlot window left first needs slot
        → joins_in slot ≡ true
    joins-passes joins = grind (arith, and_from, le-leb, behind-tested)

    passes-joins : {slot : SlotFields} → Contains all_slots slot → joins_in slot ≡ true
        → JoinsInSlot window left first needs slot
    passes-joins has passes = grind (arith, and_parts, leb-true, behind-tested)

    -- if the frames join in a slot, the search finds it
    pub join-found : {slot : SlotFields} → IsJoinSlot window left (first ∷ needs) (Some slot)
        → join_slot window splice first needs ≡ Some slot
    unfolding IsJoinSlot
    join-found {slot} joins =
        let c : ClassFields = class_of first.header in
        let p : Bool = first.header.protected in
        find-least c p joins_in all_slots
        (class-ascend p refl refl (areas-ascend c known p)) joins.joins.chosen
        (joins-passes joins.joins)
        (λ other has passes. joins.least other (passes-joins has passes))

    -- if the frames join in no slot, the search finds none
    pub join-none : IsJoinSlot window left (first ∷ needs) None
        → join_slot window splice first needs ≡ None
    unfolding IsJoinSlot
    join-none none = grind (arith, find-none, passes-joins)

-- the joint with this seam and this slot
abbrev pub joint_in : Seam → SlotFields → Joint
joint_in seam slot = record { seam = seam; slot = Some slot }

-- frames join as `joins` says: in a slot, or in none
joining-as : {window left : ℕ} (seam : Seam) (splice : List SpliceFrame) (first : SpliceFrame)
    (frames : List SpliceFrame) (slot : Option SlotFields)
    → IsMostLeft window window (needs_of splice) left → IsClass (class_of first.need.header)
    → IsJoinSlot window left (needs_of (first ∷ frames)) slot
    → IsJointOfFrames seam (joining_frames window splice (first ∷ frames))
    (option_map (joint_in seam) slot)
unfolding joining_frames
joining-as seam splice first frames (Some slot) is known joins = grind (arith, join-found)
joining-as seam splice first frames None is known none = grind (arith, join-none)

-- ---- what `joins` returns

-- an empty list of frames joins any splice, without a slot
pub joining_frames-empty : (window : ℕ) (seam : Seam) (splice rest : List SpliceFrame)
    {needs : List Need} → needs ≡ needs_of rest → length needs ≡ 0 → IsJointOfFrames seam
    (joining_frames window splice rest) (Some (record { seam = seam; slot = None }))
unfolding joining_frames
joining_frames-empty window seam splice rest is none = grind arith

first-known : (class : ClassFields) (first : SpliceFrame) (frames : List SpliceFrame)
    {needs : List Need} → needs ≡ needs_of (first ∷ frames) → AreNeedsOfClass class needs
    → IsClass class → IsClass (class_of first.need.header)
unfolding AreNeedsOfClass
first-known class first frames is same known = grind arith

-- if the frames join in a slot, they join the splice in it; if they don't join, there is no seam
pub joins-as : (class : ClassFields) (seam : Seam) (splice rest : List SpliceFrame) {left : ℕ}
    {needs : List Need} (slot : Option SlotFields) → AreNeedsOfClass class needs → IsClass class
    → IsMostLeft (window_of class.version) (window_of class.version) (needs_of splice) left
    → needs ≡ needs_of rest → IsJoinSlot (window_of class.version) left needs slot
    → IsJointOfFrames seam (joining_frames (window_of class.version) splice rest)
    (option_map (joint_in seam) slot)
unfolding IsJoinSlot
joins-as class seam splice [] slot same known before is joins = grind arith
joins-as class seam splice (f ∷ fs) slot same known before is joins =
    grind (arith, joining-as, first-known)

-- frames that join in a slot fit there
pub join-fit : (class : ClassFields) (left : ℕ) (needs : List Need) (slot : SlotFields)
    → IsJoinSlot (window_of class.version) left needs (Some slot)
    → AddedFramesFit class left needs (Some slot)
unfolding IsJoinSlot needs_with_first_slot
join-fit class left needs slot joins = grind arith

-- frames that fit after no bytes fit in their own slots after what a splice leaves
pub whole-fit : (class : ClassFields) (left : ℕ) (needs : List Need) {first : Need}
    → 0 < length needs → first ≡ slice_index_or needs 0 first
    → FitsBehind (window_of class.version) 0 needs
    → AddedFramesFit class left needs (Some first.header.slot)
unfolding needs_with_first_slot
whole-fit class left needs some at fits = grind (arith, more-behind)
