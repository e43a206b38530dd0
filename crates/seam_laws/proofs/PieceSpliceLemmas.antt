-- Pieces of one recording are joined to all their frames without their lead-ins.
use Rattle.std.proofs.Common.{ap, append_assoc, ap₂, arith, Bool, drop, false, flat_map, List, map}
use Rattle.std.proofs.Common.{None, refl, Some, subst, sym, true, ℕ, [], ◌++◌, ◌∙◌, ◌∷◌, ◌≡◌}
use Rattle.std.proofs.lemmas.Bool.{and_from, and_left, and_parts, both_ways, le-leb, leb-true}
use Rattle.std.{proofs.lemmas.List.map-append, specs.Prelude.{if◌then◌else◌, not, ◌&&◌, ◌⊎◌}}
use Rattle.frame_header.proofs.HeaderLemmas.{IsClass-class_of}
use Rattle.frame_header.proofs.SlotLemmas.{areas-ascend, Contains-all_slots}
use Rattle.frame_header.specs.{Fields.{ClassFields, IsHeader, SlotFields}, Slots.all_slots}
use Rattle.frame_header.specs.Tables.{class_of, window_of}
use Rattle.seam_laws.specs.SpliceLaws.{AreHeadersKnown, AreOneSplice, ArePiecesOf, concat_frames}
use Rattle.seam_laws.specs.SpliceLaws.{IsLedPiece, IsPieceOf, IsUnledPiece, piece_seam}
use Rattle.seam_laws.specs.SpliceLaws.{PiecesAreOneSplice}
use Rattle.seam_plan.proofs.{FitLemmas.fits-tested, SeamLemmas.without-led, SlotLemmas.find-least}
use Rattle.seam_plan.specs.Frames.{Brought, needs_of, SpliceFrame}
use Rattle.seam_plan.specs.Joins.{fits_behind, has_lead_in, is_area_no_less, join_slot}
use Rattle.seam_plan.specs.Joins.{joining_frames}
use Rattle.seam_plan.specs.Seams.{following_joint, front_left_out_count, joint_of, joint_with}
use Rattle.seam_plan.specs.Seams.{joint_without_lead_in, JointFrames, joints_from, seamless_join}
use Rattle.seam_plan.specs.Seams.{SeamlessJoin, splice_of}
use Rattle.seam_plan.specs.declared.seam.Seam.TheVariants.{LeadIn, Whole}
use Rattle.slot_plan.proofs.{AreaLemmas.class-ascend, FreeByteLemmas.{cons-fits, fits-front}}
use Rattle.slot_plan.specs.{FreeBytes.{FitsBehind, need_in_slot}, Parts.own_slot_area}
use Rattle.slot_plan.specs.{Reserve.free_bytes_behind, declared.needs.Need.Need}

-- ---- whether frames fit

needs-append : (xs ys : List SpliceFrame) → needs_of (xs ++ ys) ≡ needs_of xs ++ needs_of ys
needs-append xs ys = map-append (λ (f : SpliceFrame). f.need) xs ys

-- if frames and then others fit, so do the first
pub front-fits : (window free : ℕ) (xs ys : List SpliceFrame)
    → fits_behind window free (needs_of (xs ++ ys)) ≡ true
    → fits_behind window free (needs_of xs) ≡ true
front-fits window free xs ys fits = grind (arith, needs-append, fits-tested, fits-front)

-- if the first frames don't fit, they don't fit with others after them
pub front-lacks : (window free : ℕ) (xs ys : List SpliceFrame)
    → fits_behind window free (needs_of xs)
    ≡ false → fits_behind window free (needs_of (xs ++ ys)) ≡ false
front-lacks window free xs ys lacks = grind (arith, both_ways, front-fits)

-- with a frame without main data before them, frames still fit
pub empty-fits : (window : ℕ) (f : SpliceFrame) (xs : List SpliceFrame) → f.need.bytes ≡ 0
    → fits_behind window window (needs_of xs) ≡ true
    → fits_behind window window (needs_of (f ∷ xs)) ≡ true
empty-fits window f xs empty fits =
    let free : window ≡ free_bytes_behind window window f.need.bytes (own_slot_area f.need) =
    omega (arith, empty) in
    let behind =
    subst (λ n. FitsBehind window n (needs_of xs)) free
    ((fits-tested window window (needs_of xs)).0 fits) in
    (fits-tested window window (needs_of (f ∷ xs))).1
    (cons-fits f.need (needs_of xs) (omega arith) (omega (arith, empty)) behind)

-- the headers of the first of known frames are known
pub known-front : (xs ys : List SpliceFrame) → AreHeadersKnown (xs ++ ys) → AreHeadersKnown xs
known-front [] ys are = tt
known-front (x ∷ xs) ys are = (are.0, known-front xs ys are.1)

-- the headers of the frames after the first of known ones are known
pub known-behind : (xs ys : List SpliceFrame) → AreHeadersKnown (xs ++ ys) → AreHeadersKnown ys
known-behind [] ys are = are
known-behind (x ∷ xs) ys are = known-behind xs ys are.1

-- ---- frames that fit as they are join as they are

own-slot : (window : ℕ) (splice : List Need) (first : Need) (needs : List Need)
    → IsHeader first.header → fits_behind window window (splice ++ first ∷ needs) ≡ true
    → join_slot window splice first needs ≡ Some first.header.slot
own-slot window splice first needs known fits =
    let c = class_of first.header in
    let p = first.header.protected in
    let test : SlotFields → Bool =
    λ slot. is_area_no_less first slot && fits_behind window window
    (splice ++ need_in_slot slot first ∷ needs) in
    find-least c p test all_slots
    (class-ascend p refl refl
    (areas-ascend c (IsClass-class_of known) p))
    (Contains-all_slots first.header.slot known.slot)
    (and_from _ _ (le-leb (own_slot_area first) (own_slot_area first) (omega arith)) fits)
    (λ other has passes.
    leb-true (own_slot_area first) (own_slot_area (need_in_slot other first))
    (and_parts (is_area_no_less first other)
    (fits_behind window window (splice ++ need_in_slot other first ∷ needs)) passes).0)

-- frames that fit as they are join as they are
pub joining_frames-own : (window : ℕ) (splice : List SpliceFrame) {frames : List SpliceFrame}
    → AreHeadersKnown frames → fits_behind window window (needs_of (splice ++ frames)) ≡ true
    → joining_frames window splice frames ≡ Some frames
unfolding joining_frames
joining_frames-own window splice known fits = grind (arith, needs-append, own-slot)

-- ---- what becomes of a piece

module _ (class : ClassFields) where
  abbrev window : ℕ
  window = window_of class.version

  module _ (splice : List SpliceFrame) (before input : Brought) where
    -- an input whose head has no counts follows none
    pub none-follows : input.played ≡ None → following_joint class splice before input ≡ None
    unfolding following_joint
    none-follows none = grind arith

    led-without : {frames : List SpliceFrame} → IsLedPiece window frames input
        → fits_behind window 0 (needs_of frames) ≡ false
        → joining_frames window splice frames ≡ Some frames
        → joint_without_lead_in class splice input ≡ Some (joint_with LeadIn frames)
    unfolding joint_without_lead_in
    led-without led lacks joins = grind (arith, and_from)

    -- an input without a lead-in can't join without one
    pub unled-without : has_lead_in window input ≡ false
        → joint_without_lead_in class splice input ≡ None
    unfolding joint_without_lead_in
    unled-without none = grind (arith, and_left)

    piece-joint : {frames : List SpliceFrame} → IsPieceOf window frames input
        → AreHeadersKnown frames → fits_behind window window (needs_of (splice ++ frames)) ≡ true
        → joint_of class splice before input ≡ joint_with (piece_seam window frames) frames
    piece-joint piece known fits =
        grind (arith, none-follows, unled-without, led-without, joining_frames-own)

  -- ---- all later pieces

  abbrev joint_by : List SpliceFrame → JointFrames
  joint_by frames = joint_with (piece_seam window frames) frames

  pieces-joints : (splice : List SpliceFrame) (before : Brought) (more : List (List SpliceFrame))
      (inputs : List Brought) → ArePiecesOf window more inputs
      → AreHeadersKnown (concat_frames more)
      → fits_behind window window (needs_of (splice ++ concat_frames more)) ≡ true
      → joints_from class splice before inputs ≡ map joint_by more
  unfolding joints_from
  pieces-joints splice before [] [] are known fits = refl
  pieces-joints splice before [] (input ∷ inputs) are known fits = absurd are
  pieces-joints splice before (frames ∷ more) [] are known fits = absurd are
  pieces-joints splice before (frames ∷ more) (input ∷ inputs) are known fits =
      let fit =
      subst (λ l. fits_behind window window (needs_of l) ≡ true)
      (sym (append_assoc splice frames (concat_frames more))) fits in
      let here =
      piece-joint splice before input are.0 (known-front frames (concat_frames more) known)
      (front-fits window window (splice ++ frames) (concat_frames more) fit) in
      ap (λ (j : JointFrames). j ∷ joints_from class (splice ++ j.frames) input inputs) here
      ∙ ap (joint_by frames ∷◌)
      (pieces-joints (splice ++ frames) input more inputs are.1
      (known-behind frames (concat_frames more) known) fit)

  joints-frames : (more : List (List SpliceFrame))
      → flat_map (λ (j : JointFrames). j.frames) (map joint_by more) ≡ concat_frames more
  joints-frames [] = refl
  joints-frames (frames ∷ more) = ap (frames ++◌) (joints-frames more)

  joints-seams : (more : List (List SpliceFrame))
      → map (λ (j : JointFrames). j.seam) (map joint_by more) ≡ map (piece_seam window) more
  joints-seams [] = refl
  joints-seams (frames ∷ more) = grind (arith, joints-seams more)

  -- ---- the first piece

  -- if the splice begins with these frames and all of it fits, only lead-ins are left out
  pieces-joined : {begin : List SpliceFrame} (more : List (List SpliceFrame)) (first : Brought)
      (inputs : List Brought) {front : ℕ} → ArePiecesOf window more inputs
      → AreHeadersKnown (concat_frames more) → first.frames ≡ begin
      → fits_behind window window (needs_of (begin ++ concat_frames more)) ≡ true
      → front ≡ front_left_out_count class first (begin ++ concat_frames more)
      → seamless_join class first inputs ≡ record { front = front; joints = map joint_by more }
  unfolding seamless_join
  pieces-joined more first inputs are known is fits gives =
      grind (arith, pieces-joints, joints-frames)

  abbrev IsSpliceOf : List SpliceFrame → List (List SpliceFrame) → Brought → Bool → SeamlessJoin
      → Type 0
  IsSpliceOf frames more first fits joined =
      (splice_of first joined ≡ frames ++ concat_frames more)
      × (joined.front ≡ (if fits then 0 else 1))
      × (map (λ (j : JointFrames). j.seam) joined.joints ≡ map (piece_seam window) more)

  module _ (frames : List SpliceFrame) (more : List (List SpliceFrame)) (first : Brought)
      (inputs : List Brought) (are : ArePiecesOf window more inputs)
      (known : AreHeadersKnown (frames ++ concat_frames more))
      (fits : fits_behind window window (needs_of (frames ++ concat_frames more)) ≡ true) where
    abbrev IsSplice : Bool → Type 0
    IsSplice b = IsSpliceOf frames more first b (seamless_join class first inputs)

    unled-splice : IsUnledPiece window frames first → IsSplice true
    unfolding front_left_out_count
    unled-splice unled =
        let all = frames ++ concat_frames more in
        let none = ap (λ b. if b then 1 else 0)
        (and_left (has_lead_in window first)
        (not (fits_behind window 0 (needs_of (drop 1 all)))) unled.none) in
        let joined =
        pieces-joined more first inputs are
        (known-behind frames (concat_frames more) known)
        unled.frames_are fits (sym none) in
        subst (IsSpliceOf frames more first true) (sym joined) (
          ap₂ ◌++◌ unled.frames_are (joints-frames more),
          refl,
          joints-seams more,
        )

    led-splice : fits_behind window 0 (needs_of frames) ≡ false → IsLedPiece window frames first
        → IsSplice false
    unfolding front_left_out_count
    led-splice lacks led =
        let all = frames ++ concat_frames more in
        let begin = led.lead_in ∷ frames in
        let one = ap (λ b. if b then 1 else 0)
        (and_from (has_lead_in window first) (not (fits_behind window 0 (needs_of all))) led.has
        (ap not (front-lacks window 0 frames (concat_frames more) lacks))) in
        let joined =
        pieces-joined more first inputs are (known-behind frames (concat_frames more) known)
        led.frames_are
        (empty-fits window led.lead_in all led.empty fits) (sym one) in
        subst (IsSpliceOf frames more first false) (sym joined) (
          ap (drop 1) (ap₂ ◌++◌ led.frames_are (joints-frames more)),
          refl,
          joints-seams more,
        )

    one-splice : IsPieceOf window frames first
        → AreOneSplice window frames more first (seamless_join class first inputs)
    one-splice piece = grind (arith, unled-splice, led-splice)

-- such pieces are joined to one splice, if all frames fit after a whole window
pub pieces-one-splice : PiecesAreOneSplice
pieces-one-splice class frames more first inputs piece are known fits =
    one-splice class frames more first inputs are known fits piece

-- ---- an input whose head has no counts, whatever its frames

-- the input is whole, or its lead-in is left out
abbrev pub IsWithoutLeadIn : ℕ → Brought → JointFrames → Type 0
IsWithoutLeadIn window input joint =
    (joint.seam ≡ Whole) ⊎ ((joint.seam ≡ LeadIn) × (has_lead_in window input ≡ true))

module _ (class : ClassFields) (splice : List SpliceFrame) (before input : Brought) where
  -- an input whose head has no counts is whole, or its lead-in is left out
  pub uncounted-joint : input.played ≡ None
      → IsWithoutLeadIn (window_of class.version) input (joint_of class splice before input)
  uncounted-joint none = grind (arith, none-follows, without-led)
