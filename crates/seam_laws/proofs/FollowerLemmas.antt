-- The frames of an input that follows the one before it are the
-- last of the splice, from the frame of its first played position on.
use Rattle.std.proofs.Common.{ap, append-nil, append_assoc, ap₂, arith, Bool, drop, eqb, false}
use Rattle.std.proofs.Common.{length, List, min, None, Option, refl, Some, subst, suc, sym, take}
use Rattle.std.proofs.Common.{true, zero, ℕ, [], ◌%◌, ◌*◌, ◌++◌, ◌+◌, ◌-◌, ◌/◌, ◌∙◌, ◌∷◌, ◌≡◌, ◌≤◌}
use Rattle.std.proofs.lemmas.Bool.{and_parts, leb-true}
use Rattle.std.proofs.lemmas.List.{drop-append-le, drop-drop, length-append, length-drop}
use Rattle.std.proofs.lemmas.List.{length-map, length-take-le, map-append, take-append-drop}
use Rattle.std.proofs.lemmas.{Option.slice_get-map, Slice.Eq.bytes_eq-Decides}
use Rattle.std.specs.Option.{option_or}
use Rattle.std.specs.Prelude.{bytes_eq, if◌then◌else◌, nat_le, option_and_then, option_map}
use Rattle.std.specs.Prelude.{slice_get, unwrap_or, ◌&&◌}
use Rattle.exact_span.specs.{Overlaps.shared_overlap, PlayedPositions.{rest_of, samples_in}}
use Rattle.exact_span.specs.declared.{overlap.Overlap.Overlap, played.Played.Played}
use Rattle.frame_header.specs.{Fields.ClassFields, Tables.window_of}
use Rattle.seam_laws.specs.SpliceLaws.{FollowersGoOn, InputGoesOn, splice_after}
use Rattle.seam_plan.proofs.FollowLemmas.{added, joining_frames-sounds, sounds}
use Rattle.seam_plan.proofs.SeamLemmas.{IfWithout, without-led}
use Rattle.seam_plan.specs.{Frames.{Brought, SpliceFrame}, Joins.joining_frames}
use Rattle.seam_plan.specs.Seams.{are_frames_alike, compared_frames, ends_alike, following_joint}
use Rattle.seam_plan.specs.Seams.{joint_of, joint_with, joint_without_lead_in, JointFrames}
use Rattle.seam_plan.specs.Seams.{joints_from, joints_of, overlap_joint, whole_joint}
use Rattle.seam_plan.specs.declared.seam.Seam.TheVariants.{Follows, LeadIn}

-- ---- lists

-- an item of a list without its first n is the item n places further on in the list
pub get-drop : {X : Type 0} (n : ℕ) (xs : List X) (i : ℕ)
    → slice_get (drop n xs) i ≡ slice_get xs (n + i)
get-drop zero xs i = ap (slice_get xs) (omega arith)
get-drop (suc n) [] i = refl
get-drop (suc n) (x ∷ xs) i = grind (arith, get-drop n xs i)

pub record IsSoundOf (frames : List SpliceFrame) (i : ℕ) (sound : List ℕ) : Type 0 where
  pub frame : SpliceFrame
  pub found : slice_get frames i ≡ Some frame
  pub is : frame.sound ≡ sound

-- a sound in the list of sounds is the sound of the frame at the same place
pub sound-of : (frames : List SpliceFrame) (i : ℕ) {sound : List ℕ}
    → slice_get (sounds frames) i ≡ Some sound → IsSoundOf frames i sound
sound-of frames i {sound} is =
    at (slice_get frames i) refl (sym (slice_get-map (λ (f : SpliceFrame). f.sound) frames i) ∙ is)
  where
    at : (o : Option SpliceFrame) → slice_get frames i ≡ o
        → option_map (λ (f : SpliceFrame). f.sound) o ≡ Some sound → IsSoundOf frames i sound
    at None found none = absurd cc
    at (Some f) found some = record { frame = f; found = found; is = cc }

-- ---- frames that are alike, and frames that join

alike-sounds : (fs gs : List SpliceFrame) → are_frames_alike fs gs ≡ true → sounds fs ≡ sounds gs
unfolding are_frames_alike
alike-sounds [] [] is = refl
alike-sounds [] (g ∷ gs) is = absurd cc
alike-sounds (f ∷ fs) [] is = absurd cc
alike-sounds (f ∷ fs) (g ∷ gs) is =
    let parts = and_parts (bytes_eq f.sound g.sound) (are_frames_alike fs gs) is in
    ap₂ (λ (x : List ℕ) (xs : List (List ℕ)). x ∷ xs) ((bytes_eq-Decides f.sound g.sound).0 parts.0)
    (alike-sounds fs gs parts.1)

-- ---- what is shared

-- the shared frames are whole and in the input, and those that
-- must be alike begin with the frame of the first played position
record IsShared (class : ClassFields) (rest start frames : ℕ) (overlap : Overlap) : Type 0 where
  whole : start + rest ≡ overlap.frames * samples_in class
  there : overlap.frames ≤ frames
  early : overlap.first_alike ≤ start / samples_in class
  within : overlap.first_alike ≤ overlap.frames

module _ (class : ClassFields) (rest start frames : ℕ) where
  abbrev samples : ℕ
  samples = samples_in class

  abbrev whole_frames : ℕ
  whole_frames = (start + rest) / samples

  abbrev made : Overlap
  made = record { frames = whole_frames; first_alike = min (start / samples) (whole_frames - 1) }

  shared-test : {overlap : Overlap} {b : Bool}
      → (eqb ((start + rest) % samples) 0 && nat_le whole_frames frames) ≡ b
      → (if b then Some made else None) ≡ Some overlap
      → IsShared class rest start frames overlap
  shared-test test none = grind arith

  is-shared : {overlap : Overlap} → shared_overlap class rest start frames ≡ Some overlap
      → IsShared class rest start frames overlap
  unfolding shared_overlap
  is-shared is = grind (arith, shared-test, frames, is)

-- ---- an input that follows

record IsFollowing (class : ClassFields) (splice : List SpliceFrame) (before input : Brought)
    (joint : JointFrames) : Type 0 where
  ended : Played
  played : Played
  ended_is : before.played ≡ Some ended
  played_is : input.played ≡ Some played
  overlap : Overlap
  shared : IsShared class (rest_of class (length before.frames) ended) played.start
      (length input.frames) overlap
  alike : ends_alike splice (compared_frames overlap input) ≡ true
  frames : joining_frames (window_of class.version) splice (drop overlap.frames input.frames)
      ≡ Some joint.frames
  seam : joint.seam ≡ Follows overlap.frames

module _ (class : ClassFields) (splice : List SpliceFrame) (before input : Brought) where
  abbrev shared_by : Played → Played → Option Overlap
  shared_by p q =
      shared_overlap class (rest_of class (length before.frames) p) q.start (length input.frames)

  abbrev joined_by : Overlap → Option (List SpliceFrame)
  joined_by overlap =
      joining_frames (window_of class.version) splice (drop overlap.frames input.frames)

-- the overlap of an input that is played with the one before it
record IsOverlap (class : ClassFields) (before input : Brought) (p q : Played) (overlap : Overlap)
    : Type 0 where
  ended_is : before.played ≡ Some p
  played_is : input.played ≡ Some q
  is : shared_overlap class (rest_of class (length before.frames) p) q.start (length input.frames)
      ≡ Some overlap

by_joined : (out : ℕ) (o : Option (List SpliceFrame)) {joint : JointFrames}
    → option_map (joint_with (Follows out)) o ≡ Some joint
    → (o ≡ Some joint.frames) × (joint.seam ≡ Follows out)
by_joined out o some = grind arith

module _ {class : ClassFields} {splice : List SpliceFrame} {before input : Brought}
    {joint : JointFrames}
  where
    by_alike : {p q : Played} {overlap : Overlap} → IsOverlap class before input p q overlap
        → (b : Bool) → ends_alike splice (compared_frames overlap input) ≡ b
        → (if b then option_map (joint_with (Follows overlap.frames))
        (joined_by class splice before input overlap) else None)
        ≡ Some joint
        → IsFollowing class splice before input joint
    by_alike shared false test none = absurd cc
    by_alike {p} {q} {overlap} shared true test some =
        let joined = by_joined overlap.frames (joined_by class splice before input overlap) some in
        record {
          ended = p;
          played = q;
          ended_is = shared.ended_is;
          played_is = shared.played_is;
          overlap = overlap;
          shared = is-shared class (rest_of class (length before.frames) p) q.start
              (length input.frames) shared.is;
          alike = test;
          frames = joined.0;
          seam = joined.1;
        }

    by_shared : {p q : Played} (o : Option Overlap) → before.played ≡ Some p → input.played ≡ Some q
        → shared_by class splice before input p q ≡ o
        → option_and_then (overlap_joint class splice input) o ≡ Some joint
        → IsFollowing class splice before input joint
    by_shared None ended_is played_is shared none = absurd cc
    by_shared {p} {q} (Some overlap) ended_is played_is shared some =
        let here : IsOverlap class before input p q overlap =
        record { ended_is = ended_is; played_is = played_is; is = shared } in
        by_alike here (ends_alike splice (compared_frames overlap input)) refl some

    by_played : {p : Played} (o : Option Played) → before.played ≡ Some p → input.played ≡ o
        → option_and_then (overlap_joint class splice input)
        (option_and_then (shared_by class splice before input p) o)
        ≡ Some joint → IsFollowing class splice before input joint
    by_played None ended_is played_is none = absurd cc
    by_played {p} (Some q) ended_is played_is some =
        by_shared (shared_by class splice before input p q) ended_is played_is refl some

    by_ended : (o : Option Played) → before.played ≡ o
        → option_and_then (overlap_joint class splice input)
        (option_and_then
        (λ p. option_and_then (shared_by class splice before input p) input.played) o)
        ≡ Some joint
        → IsFollowing class splice before input joint
    by_ended None ended_is none = absurd cc
    by_ended (Some p) ended_is some = by_played input.played ended_is refl some

    following_joint-is : following_joint class splice before input ≡ Some joint
        → IsFollowing class splice before input joint
    unfolding following_joint
    following_joint-is is = by_ended before.played refl is

follows-first : (window : ℕ) (input : Brought) (x y : Option JointFrames) {out : ℕ}
    → IfWithout window input y
    → (unwrap_or (option_or x y) (whole_joint input)).seam ≡ Follows out
    → x ≡ Some (unwrap_or (option_or x y) (whole_joint input))
follows-first window input (Some joint) y without seam = refl
follows-first window input None (Some joint) {out} without seam =
    let never : LeadIn ≡ Follows out = grind (arith, seam) in
    absurd cc
follows-first window input None None without seam = absurd cc

-- what becomes of an input that follows is the joint with which it can follow
joint-follows : (class : ClassFields) (splice : List SpliceFrame) (before input : Brought) {out : ℕ}
    → (joint_of class splice before input).seam ≡ Follows out
    → following_joint class splice before input ≡ Some (joint_of class splice before input)
joint-follows class splice before input is =
    follows-first (window_of class.version) input (following_joint class splice before input)
    (joint_without_lead_in class splice input) (without-led class splice input) is

-- ---- the frames of the splice

module _ {class : ClassFields} {splice : List SpliceFrame} {before input : Brought}
    {joint : JointFrames}
    (is : IsFollowing class splice before input joint) where
  abbrev shared : ℕ
  shared = is.overlap.frames

  abbrev first : ℕ
  first = is.overlap.first_alike

  abbrev from_end : ℕ
  from_end = length splice - (shared - first)

  abbrev new : List SpliceFrame
  new = splice ++ joint.frames

  length-compared_frames : length (compared_frames is.overlap input) ≡ shared - first
  length-compared_frames = grind (arith, length-take-le, shared, length-drop)

  enough : shared - first ≤ length splice
  enough = grind (arith, length-compared_frames, leb-true)

  last-sounds : sounds (drop from_end splice) ≡ sounds (compared_frames is.overlap input)
  last-sounds = grind (arith, length-compared_frames, alike-sounds)

  added-sounds : sounds joint.frames ≡ sounds (drop shared input.frames)
  added-sounds = grind (arith, joining_frames-sounds, shared)

  -- the frames that are alike and the added ones are the input's from the first of these on
  input-parts : compared_frames is.overlap input ++ drop shared input.frames
      ≡ drop first input.frames
  input-parts =
      let at : first + (shared - first) ≡ shared = omega (arith, is.shared.within) in
      ap (compared_frames is.overlap input ++◌)
      (ap (λ n. drop n input.frames) (sym at)
      ∙ sym (drop-drop (shared - first) first input.frames))
      ∙ take-append-drop (shared - first) (drop first input.frames)

  new-sounds : sounds (drop from_end new) ≡ sounds (drop first input.frames)
  new-sounds =
      grind (arith, drop-append-le, map-append, last-sounds, added-sounds, shared, input-parts)

  added-length : length joint.frames ≡ length input.frames - shared
  added-length = grind (arith, length-map, added-sounds, shared, length-drop)

  new-length : length new + shared ≡ length splice + length input.frames
  new-length = omega (arith, length-append splice joint.frames, added-length, is.shared.there)

  abbrev from : ℕ
  from = is.played.start / samples_in class

  alike-at : (i : ℕ) (f : SpliceFrame) → from ≤ i → slice_get input.frames i ≡ Some f
      → (g : SpliceFrame) × (slice_get new (i + length new - length input.frames) ≡ Some g)
      × (g.sound ≡ f.sound)
  alike-at i f late found =
      let in_input : first + (i - first) ≡ i = omega (arith, late, is.shared.early) in
      let in_splice : from_end + (i - first) ≡ i + length new - length input.frames =
      omega (
        arith,
        late,
        is.shared.early,
        is.shared.within,
        is.shared.there,
        new-length,
        enough,
      ) in
      let own : slice_get (sounds (drop first input.frames)) (i - first) ≡ Some f.sound =
      grind (arith, slice_get-map, get-drop, found) in
      let there =
      sound-of (drop from_end new) (i - first)
      (ap (λ l. slice_get l (i - first)) new-sounds ∙ own) in (
        there.frame,
        sym (get-drop from_end new (i - first) ∙ ap (slice_get new) in_splice)
            ∙ there.found,
        there.is,
      )

  goes-on : (out : ℕ) → joint.seam ≡ Follows out → InputGoesOn class before input splice new out
  goes-on out seam =
      let both = sym is.seam ∙ seam in
      let same : shared ≡ out = cc in
      subst (InputGoesOn class before input splice new) same
      (record {
        ended = is.ended;
        played = is.played;
        ended_is = is.ended_is;
        played_is = is.played_is;
        meets = is.shared.whole;
        has = is.shared.there;
        longer = new-length;
        alike = record {
          within = omega
              (arith, is.shared.early, is.shared.within, is.shared.there, new-length, enough);
          alike = alike-at;
        };
      })

-- ---- the joints of a splice

added-next : (joints : List JointFrames) (n : ℕ) {joint : JointFrames} → slice_get joints n
    ≡ Some joint → added (take (suc n) joints) ≡ added (take n joints) ++ joint.frames
added-next [] n is = absurd cc
added-next (j ∷ joints) zero is = grind (arith, append-nil)
added-next (j ∷ joints) (suc n) {joint} is = grind (arith, is, append_assoc, added-next joints n is)

-- the joint of an input after the one before it
record IsJointAt (class : ClassFields) (splice : List SpliceFrame) (first : Brought)
    (inputs : List Brought) (n : ℕ) (before input : Brought) (joint : JointFrames) : Type 0 where
  before_at : slice_get (first ∷ inputs) n ≡ Some before
  own_at : slice_get inputs n ≡ Some input
  joint_at : slice_get (joints_from class splice first inputs) n ≡ Some joint

joint-at : {class : ClassFields} (inputs : List Brought) {splice : List SpliceFrame}
    {first : Brought}
    (n : ℕ) {before input : Brought} {joint : JointFrames}
    → IsJointAt class splice first inputs n before input joint → joint
    ≡ joint_of class (splice ++ added (take n (joints_from class splice first inputs))) before
    input
unfolding joints_from
joint-at [] n at =
    let own = at.own_at in
    absurd cc
joint-at (i ∷ inputs) zero at =
    let is_before = at.before_at in
    let is_input = at.own_at in
    let is_joint = at.joint_at in
    grind (arith, append-nil)
joint-at {class} (i ∷ inputs) {splice} {first} (suc n) {before} {input} {joint} at =
    let here = joint_of class splice first i in
    let next : IsJointAt class (splice ++ here.frames) i inputs n before input joint =
    record { before_at = at.before_at; own_at = at.own_at; joint_at = at.joint_at } in
    joint-at inputs n next
    ∙ ap (λ l. joint_of class l before input)
    (append_assoc splice here.frames
    (added (take n (joints_from class (splice ++ here.frames) i inputs))))

-- each input that follows continues where the one before it ends
pub followers-on : FollowersGoOn
followers-on class first inputs number before input joint out is_before is_input is_joint seam =
    let joints = joints_of class first inputs in
    let splice = splice_after first joints number in
    let at : IsJointAt class first.frames first inputs number before input joint =
    record { before_at = is_before; own_at = is_input; joint_at = is_joint } in
    let here : joint ≡ joint_of class splice before input = joint-at inputs number at in
    let follows =
    joint-follows class splice before input (sym (ap (λ (j : JointFrames). j.seam) here) ∙ seam) in
    let is : IsFollowing class splice before input joint =
    following_joint-is (follows ∙ ap (λ j. Some j) (sym here)) in
    let next : number + 1 ≡ suc number = omega arith in
    let after : splice ++ joint.frames ≡ splice_after first joints (number + 1) =
    grind (arith, append_assoc, added-next) in
    subst (λ l. InputGoesOn class before input splice l out) after
    (goes-on is out seam)
