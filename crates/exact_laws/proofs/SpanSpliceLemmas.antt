-- Spans of one recording whose neighbours share frames
-- follow each other, and are joined to all their frames.
use Rattle.std.proofs.Common.{ap, append-nil, append_assoc, ap₂, arith, drop, eqb, length, List}
use Rattle.std.proofs.Common.{min, None, refl, Some, subst, sym, take, true, ℕ, [], ◌%◌, ◌*◌, ◌++◌}
use Rattle.std.proofs.{Common.{◌+◌, ◌-◌, ◌/◌, ◌<◌, ◌∙◌, ◌∷◌, ◌≡◌, ◌≤◌}, Math.Seq.drop-append-add}
use Rattle.std.proofs.lemmas.Bool.{and_from, le-leb}
use Rattle.std.proofs.lemmas.List.{drop-map, length-append, take-append-drop, take-take}
use Rattle.std.{proofs.lemmas.Slice.Eq.bytes_eq-Decides, specs.{List.list_all, Option.option_or}}
use Rattle.std.specs.Prelude.{if◌then◌else◌, nat_le, option_and_then, option_map, slice_range}
use Rattle.std.specs.Prelude.{unwrap_or, ◌&&◌}
use Rattle.exact_laws.specs.SpanLaws.{AreEmptyFrames, AreSpansOf, is_following_seam, IsSpanOf}
use Rattle.exact_laws.specs.SpanLaws.{spans_end, SpansAreOneSplice}
use Rattle.exact_span.specs.{Overlaps.shared_overlap, PlayedPositions.{rest_of, samples_in}}
use Rattle.exact_span.specs.declared.overlap.Overlap.{Overlap}
use Rattle.frame_header.specs.{Fields.ClassFields, Tables.{samples_of, window_of}}
use Rattle.frame_header.specs.declared.version.Version.{Version}
use Rattle.seam_laws.proofs.FrameRangeLemmas.{range-append, range-drop, range-length}
use Rattle.seam_laws.proofs.PieceSpliceLemmas.{empty-fits, front-fits, joining_frames-own}
use Rattle.seam_laws.proofs.PieceSpliceLemmas.{known-behind, known-front}
use Rattle.seam_laws.specs.SpliceLaws.{AreHeadersKnown}
use Rattle.seam_plan.proofs.{FitLemmas.fits-tested, FollowLemmas.added}
use Rattle.seam_plan.specs.Frames.{Brought, needs_of, SpliceFrame}
use Rattle.seam_plan.specs.Joins.{fits_behind, joining_frames}
use Rattle.seam_plan.specs.Seams.{are_frames_alike, compared_frames, ends_alike, following_joint}
use Rattle.seam_plan.specs.Seams.{joint_of, joint_with, joint_without_lead_in, JointFrames}
use Rattle.seam_plan.specs.Seams.{joints_from, joints_of, overlap_joint, overlap_of, whole_joint}
use Rattle.seam_plan.specs.declared.seam.Seam.TheVariants.{Follows}
use Rattle.slot_plan.proofs.FreeByteLemmas.{fits-drop}

-- ---- ranges of frames

module _ (all : List SpliceFrame) where
  take-range : (from to : ℕ) {k : ℕ} → k ≤ to - from
      → take k (slice_range all from to) ≡ slice_range all from (from + k)
  take-range from to few = grind (arith, take-take)

  range-known : (from to : ℕ) → AreHeadersKnown all → AreHeadersKnown (slice_range all from to)
  range-known from to known =
      let behind = known-behind (take from all) (drop from all)
      (subst AreHeadersKnown (sym (take-append-drop from all)) known) in
      known-front (take (to - from) (drop from all)) (drop (to - from) (drop from all))
      (subst AreHeadersKnown (sym (take-append-drop (to - from) (drop from all))) behind)

  range-fits : (window from to : ℕ) → fits_behind window window (needs_of all) ≡ true
      → fits_behind window window (needs_of (slice_range all from to)) ≡ true
  range-fits window from to fits =
      let behind = fits-drop window window from (needs_of all)
      ((fits-tested window window (needs_of all)).0 fits) in
      let behind_is : fits_behind window window (needs_of (drop from all)) ≡ true =
      grind (arith, drop-map, fits-tested) in
      front-fits window window (take (to - from) (drop from all))
      (drop (to - from) (drop from all))
      (ap (λ l. fits_behind window window (needs_of l))
      (take-append-drop (to - from) (drop from all)) ∙ behind_is)

leads-fit : (window : ℕ) (leads xs : List SpliceFrame) → AreEmptyFrames leads
    → fits_behind window window (needs_of xs) ≡ true
    → fits_behind window window (needs_of (leads ++ xs)) ≡ true
leads-fit window [] xs empty fits = fits
leads-fit window (f ∷ leads) xs empty fits =
    empty-fits window f (leads ++ xs) empty.0 (leads-fit window leads xs empty.1 fits)

-- frames are like themselves
alike-same : (fs : List SpliceFrame) → are_frames_alike fs fs ≡ true
unfolding are_frames_alike
alike-same [] = refl
alike-same (f ∷ fs) = grind (arith, and_from, bytes_eq-Decides, alike-same fs)

-- ---- how many frames are shared

record AreShared (v : Version) (start rest shared frames : ℕ) : Type 0 where
  test : (eqb ((start + rest) % samples_of v) 0 && nat_le ((start + rest) / samples_of v) frames)
      ≡ true
  whole : (start + rest) / samples_of v ≡ shared

module _ (start rest : ℕ) {shared frames : ℕ} (there : shared ≤ frames) where
  are-shared : {v : Version} → start + rest ≡ shared * samples_of v
      → AreShared v start rest shared frames
  are-shared same = grind arith

-- the sum of what is before the first played position of a
-- span and what is after the last one of the span before it
sum-is : (v : Version) (start end leads leads_before : ℕ) {from from_before last mid : ℕ}
    → start + from * samples_of v ≡ mid + leads * samples_of v
    → end + from_before * samples_of v ≡ mid + leads_before * samples_of v
    → mid ≤ last * samples_of v → from < last → from_before ≤ last
    → start + ((leads_before + (last - from_before)) * samples_of v - end)
    ≡ (leads + last - from) * samples_of v
sum-is v start end leads leads_before starts ends most some before = grind arith

first-late : (v : Version) (start : ℕ) {leads : ℕ} (from : ℕ) {mid : ℕ}
    → start + from * samples_of v ≡ mid + leads * samples_of v → from * samples_of v ≤ mid
    → leads ≤ start / samples_of v
first-late v start from starts before = grind arith

-- a span whose first frame begins before a position begins before the frame after it
pub below-last : (v : Version) {from last mid : ℕ} → from * samples_of v < mid
    → mid ≤ last * samples_of v → from < last
below-last v early most = grind arith

-- the frames of a span are its lead-ins and those of the recording
pub span-many : {class : ClassFields} {all : List SpliceFrame} {begin end : ℕ} {input : Brought}
    (is : IsSpanOf class all begin end input)
    → length input.frames ≡ length is.lead_ins + (is.to - is.from)
span-many {all = all} is =
    ap length is.frames_are
    ∙ length-append is.lead_ins (slice_range all is.from is.to)
    ∙ ap (λ n. length is.lead_ins + n) (range-length all is.from is.within)

-- ---- what becomes of spans

module _ (class : ClassFields) (all : List SpliceFrame) (low : ℕ) where
  -- each follows the one before it, without its frames up to the last frame of that one
  abbrev pub spans_joints : (last begin : ℕ) (inputs : List Brought) (points : List ℕ)
      → AreSpansOf class all low last begin inputs points → List JointFrames
  spans_joints last begin (input ∷ inputs) (end ∷ points) are =
      joint_with (Follows (length are.0.lead_ins + last - are.0.from))
      (slice_range all last are.0.to)
      ∷ spans_joints are.0.to end inputs points are.4
  spans_joints last begin _ _ are = []

  spans-follow : (last begin : ℕ) (inputs : List Brought) (points : List ℕ)
      (are : AreSpansOf class all low last begin inputs points)
      → list_all (λ (j : JointFrames). is_following_seam j.seam)
      (spans_joints last begin inputs points are) ≡ true
  spans-follow last begin (input ∷ inputs) (end ∷ points) are =
      spans-follow are.0.to end inputs points are.4
  spans-follow last begin _ _ are = refl

  spans-added : (last begin : ℕ) (inputs : List Brought) (points : List ℕ)
      (are : AreSpansOf class all low last begin inputs points) → low ≤ last
      → slice_range all low last ++ added (spans_joints last begin inputs points are)
      ≡ slice_range all low (spans_end class all low last begin inputs points are)
  spans-added last begin (input ∷ inputs) (end ∷ points) are late =
      let later = added (spans_joints are.0.to end inputs points are.4) in
      sym (append_assoc (slice_range all low last) (slice_range all last are.0.to) later)
      ∙ ap (λ l. l ++ later) (range-append all late are.3)
      ∙ spans-added are.0.to end inputs points are.4 (omega (arith, late, are.3))
  spans-added last begin [] [] are late = append-nil (slice_range all low last)
  spans-added last begin [] (end ∷ points) are late = absurd are
  spans-added last begin (input ∷ inputs) [] are late = absurd are

-- ---- a span after the one before it

-- frames of a recording: their headers are known, and they fit behind a whole window
pub record IsFittingRecording (class : ClassFields) (all : List SpliceFrame) : Type 0 where
  pub known : AreHeadersKnown all
  pub fits : fits_behind (window_of class.version) (window_of class.version) (needs_of all) ≡ true

-- two spans of a recording that share frames: those of the first are written from frame `low` on,
-- after lead-ins
record IsNextSpan (class : ClassFields) (all leads : List SpliceFrame) (low begin mid end : ℕ)
    (before input : Brought) : Type 0 where
  empty : AreEmptyFrames leads
  one : IsSpanOf class all begin mid before
  is : IsSpanOf class all mid end input
  late : low ≤ is.from
  low_last : low ≤ one.to
  early : is.from * samples_in class < mid
  on : one.to ≤ is.to

module _ {class : ClassFields} {all : List SpliceFrame} (recording : IsFittingRecording class all)
  where
    open recording use {known, fits}

    abbrev window : ℕ
    window = window_of class.version

    module _ {leads : List SpliceFrame} {low begin mid end : ℕ} {before input : Brought}
        (next : IsNextSpan class all leads low begin mid end before input) where
      open next use {empty, one, is, late, low_last, early, on}

      abbrev last : ℕ
      last = one.to

      abbrev splice : List SpliceFrame
      splice = leads ++ slice_range all low last

      abbrev z : ℕ
      z = length is.lead_ins

      abbrev shared : ℕ
      shared = z + last - is.from

      abbrev first : ℕ
      first = min (is.played.start / samples_in class) (shared - 1)

      abbrev made : ℕ → Overlap
      made n = record {
        frames = n;
        first_alike = min (is.played.start / samples_in class) (n - 1);
      }

      abbrev overlap : Overlap
      overlap = made shared

      some : is.from < last
      some = below-last class.version early one.behind

      sum : is.played.start + rest_of class (length before.frames) one.played
          ≡ shared * samples_in class
      sum =
          ap (λ n. is.played.start + rest_of class n one.played)
          (span-many one)
          ∙ sum-is class.version is.played.start one.played.end z
          (length one.lead_ins) is.start one.ended one.behind some (omega (arith, one.some))

      input-many : length input.frames ≡ z + (is.to - is.from)
      input-many = span-many is

      within : shared ≤ length input.frames
      within = omega (arith, input-many, on, some)

      overlap-is : overlap_of class before input ≡ Some overlap
      unfolding shared_overlap
      overlap-is =
          let rest = rest_of class (length before.frames) one.played in
          let are = are-shared is.played.start rest within sum in
          grind (
            arith,
            before.frames,
            input.frames,
            one.counted,
            is.counted,
            is.played.start,
            rest,
            are.test,
            are.whole,
          )

      leads-before : z ≤ first
      leads-before =
          omega (
            arith,
            first-late class.version is.played.start is.from is.start is.before,
            some,
          )

      -- the frames of the input from one after its lead-ins on
      input-drop : {k : ℕ} → z ≤ k → k ≤ length input.frames
          → drop k input.frames ≡ slice_range all (is.from + (k - z)) is.to
      input-drop {k} behind few =
          let there : k ≡ z + (k - z) = omega (arith, behind) in
          grind (
            arith,
            there,
            is.frames_are,
            drop-append-add,
            is.lead_ins,
            is.from,
            is.to,
            range-drop,
            input-many,
          )

      abbrev alike_from : ℕ
      alike_from = is.from + (first - z)

      compared_frames-is : compared_frames overlap input ≡ slice_range all alike_from last
      compared_frames-is =
          let end_is : alike_from + (shared - first) ≡ last = omega (arith, leads-before, some) in
          ap (take (shared - first)) (input-drop leads-before (omega (arith, within)))
          ∙ take-range all alike_from is.to (omega (arith, leads-before, some, on))
          ∙ ap (slice_range all alike_from) end_is

      compared_frames-many : length (compared_frames overlap input) ≡ last - alike_from
      compared_frames-many =
          ap length compared_frames-is
          ∙ range-length all alike_from one.within

      splice-many : length splice ≡ length leads + (last - low)
      splice-many =
          length-append leads (slice_range all low last)
          ∙ ap (λ n. length leads + n) (range-length all low one.within)

      splice-drop : drop (length splice - length (compared_frames overlap input)) splice
          ≡ slice_range all alike_from last
      splice-drop =
          let there : length splice - length (compared_frames overlap input)
          ≡ length leads + (alike_from - low) =
          omega (arith, splice-many, compared_frames-many, late, low_last, leads-before, some) in
          let from_is : low + (alike_from - low) ≡ alike_from = omega (arith, late) in
          ap (λ n. drop n splice) there
          ∙ drop-append-add leads (slice_range all low last) (alike_from - low)
          ∙ range-drop all low last (omega (arith, leads-before, some, late))
          ∙ ap (λ n. slice_range all n last) from_is

      alike : ends_alike splice (compared_frames overlap input) ≡ true
      alike =
          grind (
            arith,
            le-leb,
            splice-many,
            compared_frames-many,
            splice-drop,
            compared_frames-is,
            alike-same,
          )

      added-is : drop shared input.frames ≡ slice_range all last is.to
      added-is =
          let there : is.from + (shared - z) ≡ last = omega (arith, some) in
          input-drop (omega (arith, some)) within ∙ ap (λ n. slice_range all n is.to) there

      splice-on : splice ++ slice_range all last is.to ≡ leads ++ slice_range all low is.to
      splice-on =
          append_assoc leads (slice_range all low last) (slice_range all last is.to)
          ∙ ap (leads ++◌) (range-append all low_last on)

      joins : joining_frames window splice (drop shared input.frames)
          ≡ Some (slice_range all last is.to)
      joins =
          grind (
            arith,
            added-is,
            joining_frames-own,
            is.to,
            range-known,
            splice-on,
            leads-fit,
            range-fits,
          )

      span-joint : joint_of class splice before input
          ≡ joint_with (Follows shared) (slice_range all last is.to)
      unfolding following_joint
      span-joint =
          ap (λ o. unwrap_or
          (option_or (option_and_then (overlap_joint class splice input) o)
          (joint_without_lead_in class splice input))
          (whole_joint input)) overlap-is
          ∙ ap (λ b. unwrap_or
          (option_or
          (if b then option_map (joint_with (Follows shared))
          (joining_frames window splice (drop shared input.frames))
          else None) (joint_without_lead_in class splice input)) (whole_joint input)) alike
          ∙ ap (λ o. unwrap_or
          (option_or (option_map (joint_with (Follows shared)) o)
          (joint_without_lead_in class splice input))
          (whole_joint input)) joins

    -- ---- all spans

    spans-joints : (leads : List SpliceFrame) → AreEmptyFrames leads → {low begin mid : ℕ}
        {before : Brought} (one : IsSpanOf class all begin mid before) → low ≤ one.to
        → (inputs : List Brought) (points : List ℕ)
        (are : AreSpansOf class all low one.to mid inputs points)
        → joints_from class (leads ++ slice_range all low one.to) before inputs
        ≡ spans_joints class all low one.to mid inputs points are
    unfolding joints_from
    spans-joints leads empty {low} {begin} {mid} {before} one low_last
        (input ∷ inputs) (end ∷ points) are =
        let is = are.0 in
        let next : IsNextSpan class all leads low begin mid end before input =
        record {
          empty = empty;
          one = one;
          is = is;
          late = are.1;
          low_last = low_last;
          early = are.2;
          on = are.3;
        } in
        let made =
        joint_with (Follows (length is.lead_ins + one.to - is.from)) (slice_range all one.to is.to)
        in
        ap (λ (j : JointFrames).
        j ∷ joints_from class ((leads ++ slice_range all low one.to) ++ j.frames) input inputs)
        (span-joint next)
        ∙ ap (λ l. made ∷ joints_from class l input inputs)
        (splice-on next)
        ∙ ap (made ∷◌)
        (spans-joints leads empty is (omega (arith, low_last, are.3)) inputs
        points are.4)
    spans-joints leads empty one low_last (input ∷ inputs) [] are = absurd are
    spans-joints leads empty one low_last [] points are = refl

    -- what becomes of the spans after the first
    pub spans-are : {begin end : ℕ} {first : Brought} (inputs : List Brought) (points : List ℕ)
        (is : IsSpanOf class all begin end first)
        (are : AreSpansOf class all is.from is.to end inputs points)
        → joints_of class first inputs ≡ spans_joints class all is.from is.to end inputs points are
    spans-are {begin} {end} {first} inputs points is are =
        ap (λ l. joints_from class l first inputs) is.frames_are
        ∙ spans-joints is.lead_ins is.empty is (omega (arith, is.some))
        inputs points are

-- each span follows, and the splice has all frames once
pub spans-one-splice : SpansAreOneSplice
spans-one-splice class all begin end first inputs points is are known fits =
    let joints = spans-are (record { known = known; fits = fits }) inputs points is are in
    let more = spans_joints class all is.from is.to end inputs points are in (
      ap (λ js. list_all (λ (j : JointFrames). is_following_seam j.seam) js)
          joints
          ∙ spans-follow class all is.from is.to end inputs points are,
      ap₂ (λ (l : List SpliceFrame) (js : List JointFrames). l ++ added js) is.frames_are joints
          ∙ append_assoc is.lead_ins (slice_range all is.from is.to) (added more)
          ∙ ap (is.lead_ins ++◌)
          (spans-added class all is.from is.to end inputs points are (omega (arith, is.some))),
    )
