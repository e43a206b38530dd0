-- The splice fits after a whole window, and its frames are those of the inputs except some at
-- the front of each. The first frame of each may be in another slot: they sound the same.
use Rattle.std.proofs.Common.{append-nil, append_assoc, arith, Bool, cond, Contains, drop, false}
use Rattle.std.proofs.Common.{inl, inr, length, List, None, Option, refl, Some, subst, suc, sym}
use Rattle.std.proofs.{Common.{true, ℕ, [], ◌++◌, ◌<◌, ◌∷◌, ◌≡◌, ◌⊎◌}, lemmas.Bool.and_parts}
use Rattle.std.proofs.lemmas.List.{drop-append-le, drop-map, map-append}
use Rattle.std.specs.Prelude.{find, not, option_map, ◌&&◌}
use Rattle.frame_header.specs.{Fields.{ClassFields, SlotFields}, Slots.all_slots, Tables.window_of}
use Rattle.seam_plan.proofs.{FitLemmas.fits-tested, FollowLemmas.{added, sounds}}
use Rattle.seam_plan.{proofs.SeamLemmas.joint-by, specs.Frames.{Brought, needs_of, SpliceFrame}}
use Rattle.seam_plan.specs.Joins.{fits_behind, frame_in_slot, has_lead_in, is_area_no_less}
use Rattle.seam_plan.specs.Joins.{join_slot, joining_frames, lead_in_header, leads_others}
use Rattle.seam_plan.specs.Seams.{front_left_out_count, joint_of, JointFrames, joints_from}
use Rattle.seam_plan.specs.Seams.{joints_of, left_out_count, seamless_join, SeamlessJoin, splice_of}
use Rattle.seam_plan.specs.Seams.{splice_with, whole_joint}
use Rattle.slot_plan.proofs.FreeByteLemmas.{fits-drop, more-behind, own-left, then-fits}
use Rattle.slot_plan.specs.FreeBytes.{FitsBehind, IsMostLeft, need_in_slot}
use Rattle.slot_plan.specs.declared.needs.Need.{Need}

-- ---- frames in other slots

-- the frame is in its own slot, or in another
pub record IsMoved (need moved : Need) : Type 0 where
  pub is : moved ≡ need_in_slot moved.header.slot need
  pub slot : (moved.header.slot ≡ need.header.slot) ⊎ Contains all_slots moved.header.slot

-- these are the same frames, each in its own slot or in another
abbrev pub AreMoved : List Need → List Need → Type 0
AreMoved [] [] = Unit {0}
AreMoved (need ∷ needs) (moved ∷ others) = IsMoved need moved × AreMoved needs others
AreMoved _ _ = ⊥

-- frames are the same frames, each in its own slot
pub moved-same : (needs : List Need) → AreMoved needs needs
moved-same [] = tt
moved-same (need ∷ needs) = (record { is = refl; slot = inl refl }, moved-same needs)

-- two lists of frames that may be in other slots make one list of such frames
pub moved-append : (xs ys others more : List Need) → AreMoved xs others → AreMoved ys more
    → AreMoved (xs ++ ys) (others ++ more)
moved-append [] ys [] more front behind = behind
moved-append [] ys (other ∷ others) more front behind = absurd front
moved-append (x ∷ xs) ys [] more front behind = absurd front
moved-append (x ∷ xs) ys (other ∷ others) more front behind =
    (front.0, moved-append xs ys others more front.1 behind)

-- ---- the slot of the first

-- the slot passes the test, and is one of the slots
abbrev pub Passes : (SlotFields → Bool) → List SlotFields → SlotFields → Type 0
Passes test slots slot = (test slot ≡ true) × Contains slots slot

found-first : (test : SlotFields → Bool) {s : SlotFields} (slots : List SlotFields)
    {slot : SlotFields} (b : Bool) → test s ≡ b
    → (find test slots ≡ Some slot → Passes test slots slot)
    → cond b (Some s) (find test slots) ≡ Some slot → Passes test (s ∷ slots) slot
found-first test slots {slot} true passes later e = grind (arith, slot)
found-first test slots false passes later e =
    let more = later e in
    (more.0, (suc more.1.0, omega (arith, more.1.1), more.1.2))

-- the slot that is found passes the test, and is one of the slots
pub found-passes : (test : SlotFields → Bool) (slots : List SlotFields) {slot : SlotFields}
    → find test slots ≡ Some slot → Passes test slots slot
found-passes test [] e = absurd cc
found-passes test (s ∷ slots) {slot} e =
    found-first test slots (test s) refl (λ later. found-passes test slots later) e

-- ---- frames that join a splice

-- these are frames of an input, the first of which may be in another slot
pub record AreOwn (own frames : List SpliceFrame) : Type 0 where
  pub moved : AreMoved (needs_of own) (needs_of frames)
  pub sounding : sounds frames ≡ sounds own

-- with these frames the splice fits after a whole window
abbrev JoinIn : ℕ → List SpliceFrame → List SpliceFrame → Option (List SpliceFrame) → Type 0
JoinIn window splice rest None = Unit {0}
JoinIn window splice rest (Some frames) =
    FitsBehind window window (needs_of (splice ++ frames)) × AreOwn rest frames

abbrev joins_by : ℕ → List SpliceFrame → SpliceFrame → List SpliceFrame → SlotFields → Bool
joins_by window splice f fs slot =
    is_area_no_less f.need slot
    && fits_behind window window (needs_of splice ++ need_in_slot slot f.need ∷ needs_of fs)

joins-in : (window : ℕ) (splice rest : List SpliceFrame)
    → FitsBehind window window (needs_of splice)
    → JoinIn window splice rest (joining_frames window splice rest)
unfolding joining_frames
joins-in window splice [] fits =
    let same = sym (append-nil splice) in (
      subst (λ (l : List SpliceFrame). FitsBehind window window (needs_of l)) same fits,
      record { moved = tt; sounding = refl },
    )
joins-in window splice (f ∷ fs) fits =
    at (join_slot window (needs_of splice) f.need (needs_of fs)) refl
  where
    at : (o : Option SlotFields) → join_slot window (needs_of splice) f.need (needs_of fs) ≡ o
        → JoinIn window splice (f ∷ fs) (option_map (λ slot. frame_in_slot slot f ∷ fs) o)
    at None e = tt
    at (Some slot) e =
        let found = found-passes (joins_by window splice f fs) all_slots e in
        let all : List Need = needs_of splice ++ need_in_slot slot f.need ∷ needs_of fs in
        let both =
        and_parts (is_area_no_less f.need slot) (fits_behind window window all) found.0 in
        let needs : needs_of (splice ++ frame_in_slot slot f ∷ fs) ≡ all =
        map-append (λ (g : SpliceFrame). g.need) splice (frame_in_slot slot f ∷ fs) in (
          subst (FitsBehind window window) (sym needs) ((fits-tested window window all).0 both.1),
          record {
            moved = (record { is = refl; slot = inr found.1 }, moved-same (needs_of fs));
            sounding = refl;
          },
        )

-- frames that fit after no bytes fit after a splice
then-alone : (window : ℕ) (first others : List Need) → FitsBehind window window first
    → FitsBehind window 0 others → FitsBehind window window (first ++ others)
then-alone window first others fits alone = at _ (own-left (omega arith) fits)
  where
    at : (left : ℕ) → IsMostLeft window window first left
        → FitsBehind window window (first ++ others)
    at left is =
        then-fits others (omega arith) is
        (more-behind window others (omega arith) alone)

-- ---- an input

-- the input fits after no bytes, as every file does when its head is set apart
abbrev pub FitsAlone : ClassFields → Brought → Type 0
FitsAlone class input = FitsBehind (window_of class.version) 0 (needs_of input.frames)

-- frames fit after a whole window
abbrev pub FitsWindow : ClassFields → List SpliceFrame → Type 0
FitsWindow class frames =
    FitsBehind (window_of class.version) (window_of class.version) (needs_of frames)

-- the frames that an input adds to a splice: its own except some at the front
pub record IsAdded (class : ClassFields) (splice : List SpliceFrame) (input : Brought)
    (joint : JointFrames)
    : Type 0 where
  pub fits : FitsWindow class (splice ++ joint.frames)
  pub own : AreOwn (drop (left_out_count joint.seam) input.frames) joint.frames

module _ (class : ClassFields) (splice : List SpliceFrame) (before input : Brought)
    (fits : FitsWindow class splice) where
  abbrev window : ℕ
  window = window_of class.version

  whole_joint-added : FitsAlone class input → IsAdded class splice input (whole_joint input)
  whole_joint-added alone =
      let needs = map-append (λ (f : SpliceFrame). f.need) splice input.frames in
      record {
        fits = subst (FitsBehind window window) (sym needs)
            (then-alone window (needs_of splice) (needs_of input.frames) fits alone);
        own = record { moved = moved-same (needs_of input.frames); sounding = refl };
      }

  -- an input that fits alone is added: the splice with its frames still fits
  pub joint-added : FitsAlone class input
      → IsAdded class splice input (joint_of class splice before input)
  joint-added alone =
      joint-by class splice before input (IsAdded class splice input)
      (λ seam frames is.
      let rest : List SpliceFrame = drop (left_out_count seam) input.frames in
      let joins = subst (JoinIn window splice rest) is (joins-in window splice rest fits) in
      record { fits = joins.0; own = joins.1 }) (whole_joint-added alone)

-- ---- all inputs

abbrev pub AllFitAlone : ClassFields → List Brought → Type 0
AllFitAlone class [] = Unit {0}
AllFitAlone class (input ∷ inputs) = FitsAlone class input × AllFitAlone class inputs

-- each input adds its own frames except some at the front
abbrev pub AddOwn : List JointFrames → List Brought → Type 0
AddOwn [] [] = Unit {0}
AddOwn (joint ∷ joints) (input ∷ inputs) =
    AreOwn (drop (left_out_count joint.seam) input.frames) joint.frames × AddOwn joints inputs
AddOwn _ _ = ⊥

-- the splice with the frames of such inputs fits after a whole window, and each input adds its own
pub joints-added : (class : ClassFields) (splice : List SpliceFrame) (before : Brought)
    (inputs : List Brought) → FitsWindow class splice → AllFitAlone class inputs
    → AddOwn (joints_from class splice before inputs) inputs
    × FitsWindow class (splice ++ added (joints_from class splice before inputs))
unfolding joints_from
joints-added class splice before [] fits alone = grind (arith, append-nil, splice, fits)
joints-added class splice before (input ∷ inputs) fits alone =
    let joint = joint_of class splice before input in
    let here = joint-added class splice before input fits alone.0 in
    let more = joints-added class (splice ++ joint.frames) input inputs here.fits alone.1 in
    let later = added (joints_from class (splice ++ joint.frames) input inputs) in (
      (here.own, more.0),
      subst (FitsWindow class) (append_assoc splice joint.frames later) more.1,
    )

-- ---- the front

-- an input that begins with a lead-in has a frame after it
leads-two : (window : ℕ) (input : Brought) → has_lead_in window input ≡ true
    → 1 < length input.frames
unfolding has_lead_in lead_in_header
leads-two window input e =
    let leads : Bool = leads_others window (needs_of input.frames) in
    at input.frames (and_parts input.blank leads e).1
  where
    at : (frames : List SpliceFrame) → leads_others window (needs_of frames) ≡ true
        → 1 < length frames
    at [] e = absurd cc
    at (f ∷ []) e = absurd cc
    at (f ∷ g ∷ frames) e = omega arith

-- not all frames of the first input are left out
front-within : (class : ClassFields) (first : Brought) (splice : List SpliceFrame)
    → 0 < length first.frames → front_left_out_count class first splice < length first.frames
unfolding front_left_out_count
front-within class first splice some =
    at (has_lead_in (window_of class.version) first) refl
    (not (fits_behind (window_of class.version) 0 (needs_of (drop 1 splice))))
  where
    at : (has : Bool) → has_lead_in (window_of class.version) first ≡ has → (wants : Bool)
        → cond (has && wants) 1 0 < length first.frames
    at false is wants = some
    at true is false = some
    at true is true = leads-two (window_of class.version) first is

-- ---- the splice

-- what becomes of the inputs, and that the splice fits
pub record IsJoined (class : ClassFields) (first : Brought) (inputs : List Brought)
    (joined : SeamlessJoin) : Type 0 where
  pub front : joined.front < length first.frames
  pub own : AddOwn joined.joints inputs
  pub splice : splice_of first joined ≡ drop joined.front first.frames ++ added joined.joints
  pub fits : FitsWindow class (splice_of first joined)

-- inputs that fit alone are joined to a splice that fits after a whole window
pub inputs-joined : {class : ClassFields} {first : Brought} {inputs : List Brought}
    → 0 < length first.frames → FitsAlone class first → AllFitAlone class inputs
    → IsJoined class first inputs (seamless_join class first inputs)
unfolding seamless_join
inputs-joined {class} {first} {inputs} some alone all =
    let window = window_of class.version in
    let begins = more-behind window (needs_of first.frames) (omega arith) alone in
    let all_added = joints-added class first.frames first inputs begins all in
    let joints = joints_of class first inputs in
    let front = front_left_out_count class first (splice_with first joints) in
    let within = front-within class first (splice_with first joints) some in
    record {
      front = within;
      own = all_added.0;
      splice = drop-append-le front first.frames (added joints) (omega (arith, within));
      fits = subst (FitsBehind window window)
          (drop-map (λ (f : SpliceFrame). f.need) front (splice_with first joints))
          (fits-drop window window front (needs_of (splice_with first joints)) all_added.1);
    }
