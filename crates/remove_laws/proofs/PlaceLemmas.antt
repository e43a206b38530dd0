-- Each frame that is written between heard positions is one of a part, or a lead-in.
use Rattle.std.proofs.Common.{ap, arith, Bool, cond, drop, false, inl, inr, length, List, refl}
use Rattle.std.proofs.Common.{slice_get, subst, suc, sym, true, zero, ℕ, [], ◌*◌, ◌+◌, ◌-◌, ◌/◌}
use Rattle.std.proofs.{Common.{◌<◌, ◌∙◌, ◌∷◌, ◌≡◌, ◌≤◌, ◌⊎◌}, lemmas.Bool.{ltb-false, ltb-true}}
use Rattle.std.specs.Prelude.{nat_lt}
use Rattle.exact_span.specs.{Heard.place_in, PlayedPositions.samples_in}
use Rattle.exact_span.specs.declared.{played.Played.Played, written.Heard.Heard}
use Rattle.exact_span.specs.declared.written.WrittenFrames.{WrittenFrames}
use Rattle.frame_header.specs.{Fields.ClassFields, Tables.samples_of}
use Rattle.frame_header.specs.declared.version.Version.{Version, TheVariants.{One, Two, TwoFive}}
use Rattle.remove_edits.{proofs.CommandLemmas.left-parts, specs.Ready.ArePartsLeft}
use Rattle.remove_edits.specs.Removed.{all_parts_written, items_left, lead_in_count, parts_written}
use Rattle.remove_edits.specs.Removed.{places_before, plan_of_items, removal_plan}
use Rattle.remove_laws.proofs.LeadInLemmas.{IsLeadIn, lead-planned}
use Rattle.remove_laws.proofs.OrderLemmas.{AreInFile, frame-times, HasPositions, parts-in_file}
use Rattle.remove_laws.proofs.{OrderLemmas.positions-are, PlayLemmas.{of-played, read-as}}
use Rattle.remove_laws.proofs.WrittenLemmas.{AreWrittenFrom, parts-from}
use Rattle.remove_laws.specs.NumberLaws.{IsFirstToLast, IsHeardAt}
use Rattle.remove_laws.specs.PlayLaws.{IsBetweenHeard, IsInLeadIn, NothingElseIsPlayed}
use Rattle.remove_laws.specs.PlayLaws.{PlaysNothingElse}
use Rattle.seam_plan.specs.{PartSplices.SpliceItem, declared.stretches.Part.Part}
use Rattle.sync_survey.specs.Faults.{SurveyFields}

-- ---- frames that are written

-- frame n of what is written is one of these
abbrev IsFrameOf : ℕ → List WrittenFrames → Type 0
IsFrameOf n [] = ⊥
IsFrameOf n (w ∷ written) = ((w.at ≤ n) × (n < w.at + (w.to - w.from))) ⊎ IsFrameOf n written

-- frame n of what is written is before the end of some of these
abbrev IsBeforeEnd : ℕ → List WrittenFrames → Type 0
IsBeforeEnd n [] = ⊥
IsBeforeEnd n (w ∷ written) = (n < w.at + (w.to - w.from)) ⊎ IsBeforeEnd n written

get-drop : (m n : ℕ) (items : List SpliceItem)
    → slice_get (drop m items) n ≡ slice_get items (m + n)
get-drop zero n items = ap (slice_get items) (omega arith)
get-drop (suc m) n [] = refl
get-drop (suc m) n (item ∷ items) =
    let next : suc m + n ≡ suc (m + n) = omega arith in
    get-drop m n items ∙ sym (ap (slice_get (item ∷ items)) next)

lead-first : (items : List SpliceItem) {n : ℕ} → n < lead_in_count items → IsLeadIn items n
lead-first [] lead = absurd (omega (arith, lead))
lead-first (item ∷ items) {n} lead = by item.lead_in refl n lead
  where
    by : (b : Bool) → item.lead_in ≡ b → (m : ℕ) → m < cond b 1 0 → IsLeadIn (item ∷ items) m
    by true is zero one = (item, refl, is)
    by true is (suc m) one = absurd (omega (arith, one))
    by false is m none = absurd (omega (arith, none))

module _ (at : ℕ) (items : List SpliceItem) (part : Part) (parts : List Part) (n : ℕ) where
  abbrev lead : ℕ
  lead = lead_in_count items

  abbrev count : ℕ
  count = lead + (part.to - part.from)

  abbrev others : List WrittenFrames
  others = parts_written (at + count) (drop count items) parts

  abbrev IsHere : Type 0
  IsHere = (at + lead ≤ n) × (n < at + lead + (part.to - part.from))

  abbrev IsHereOr : Type 0
  IsHereOr = (IsHere ⊎ IsFrameOf n others) ⊎ IsLeadIn items (n - at)

  abbrev IsLater : Type 0
  IsLater = IsFrameOf n others ⊎ IsLeadIn (drop count items) (n - (at + count))

  later : at + count ≤ n → (n < at + lead + (part.to - part.from)) ⊎ IsBeforeEnd n others
      → IsBeforeEnd n others
  later behind (inl here) = absurd (omega (arith, behind, here))
  later behind (inr other) = other

  from-later : at + count ≤ n → IsLater → IsHereOr
  from-later behind (inl frame) = inl (inr frame)
  from-later behind (inr led) =
      let number : n - at ≡ count + (n - (at + count)) = omega (arith, behind) in
      inr (
        led.0,
        ap (slice_get items) number ∙ sym (get-drop count (n - (at + count)) items) ∙ led.1,
        led.2,
      )

  here-or : at ≤ n → (n < at + lead + (part.to - part.from)) ⊎ IsBeforeEnd n others
      → (at + count ≤ n → IsBeforeEnd n others → IsLater) → IsHereOr
  here-or least before rest = by (nat_lt n (at + lead)) refl (nat_lt n (at + count)) refl
    where
      by : (b : Bool) → nat_lt n (at + lead) ≡ b → (c : Bool) → nat_lt n (at + count) ≡ c → IsHereOr
      by true led c is = inr (lead-first items (omega (arith, least, ltb-true n (at + lead) led)))
      by false own true within = inl (inl (
        ltb-false n (at + lead) own,
        omega (arith, ltb-true n (at + count) within),
      ))
      by false own false behind =
          let le = ltb-false n (at + count) behind in
          from-later le (rest le (later le before))

-- each frame before the end of the parts is one of a part, or a lead-in among their items
frame-or-lead : (at : ℕ) (items : List SpliceItem) (parts : List Part) {n : ℕ} → at ≤ n
    → IsBeforeEnd n (parts_written at items parts)
    → IsFrameOf n (parts_written at items parts) ⊎ IsLeadIn items (n - at)
unfolding parts_written
frame-or-lead at items [] least before = absurd before
frame-or-lead at items (part ∷ parts) {n} least before =
    let count = lead_in_count items + (part.to - part.from) in
    here-or at items part parts n least before
    (λ behind rest. frame-or-lead (at + count) (drop count items) parts behind rest)

-- ---- positions and places

-- the frame of a position
frame-of : (v : Version) (position : ℕ)
    → (n : ℕ) × (n * samples_of v ≤ position) × (position < (n + 1) * samples_of v)
frame-of One position = (position / 1152, omega arith, omega arith)
frame-of Two position = (position / 576, omega arith, omega arith)
frame-of TwoFive position = (position / 576, omega arith, omega arith)

-- a frame whose samples are all before those of another is before it
times-frame : (v : Version) {a b : ℕ} → a * samples_of v < b * samples_of v → a < b
times-frame One lt = omega (arith, lt)
times-frame Two lt = omega (arith, lt)
times-frame TwoFive lt = omega (arith, lt)

module _ (class : ClassFields) where
  abbrev samples : ℕ
  samples = samples_in class

  -- a position of the file is in these frames, and has this place where they are written
  record IsIn (w : WrittenFrames) (position place : ℕ) : Type 0 where
    from : w.from * samples ≤ position
    to : position < w.to * samples
    is : place ≡ place_in samples w position

  -- it is in some of these
  abbrev IsAt : List WrittenFrames → ℕ → ℕ → Type 0
  IsAt [] position place = ⊥
  IsAt (w ∷ written) position place = IsIn w position place ⊎ IsAt written position place

  -- these are in the file from frame `least` on, and are written from frame n on
  record AreInBoth (least n : ℕ) (written : List WrittenFrames) : Type 0 where
    file : AreInFile least written
    own : AreWrittenFrom n written

  module _ {least n : ℕ} {w : WrittenFrames} {written : List WrittenFrames}
      (both : AreInBoth least n (w ∷ written)) where
    has : HasPositions samples least n w
    has = positions-are class.version both.file.0 both.file.1 both.own.0

    both-later : AreInBoth w.to (w.at + (w.to - w.from)) written
    both-later = record { file = both.file.2; own = both.own.2 }

  lowest : (least : ℕ) {n : ℕ} (written : List WrittenFrames) → AreInBoth least n written
      → {position place : ℕ} → IsAt written position place
      → (least * samples ≤ position) × (n * samples ≤ place)
  lowest least [] both at = absurd at
  lowest least {n} (w ∷ written) both (inl is) =
      let seen = has both in
      (omega (arith, seen.late, is.from), omega (arith, seen.at, is.is))
  lowest least {n} (w ∷ written) both {position} {place} (inr at) =
      let seen = has both in
      let rest = lowest w.to written (both-later both) at in
      (omega (arith, seen.late, seen.some, rest.0), omega (arith, seen.at, seen.next, rest.1))

  -- a later place is that of a later position
  rises : (least : ℕ) {n : ℕ} (written : List WrittenFrames) → AreInBoth least n written
      → {p q place other : ℕ} → IsAt written p place → IsAt written q other → place ≤ other → p ≤ q
  rises least [] both first second le = absurd first
  rises least (w ∷ written) both (inl first) (inl second) le =
      omega (arith, first.from, first.is, second.from, second.is, le)
  rises least {n} (w ∷ written) both {q = q} {other = other} (inl first) (inr second) le =
      let rest = lowest w.to written (both-later both) second in
      omega (arith, first.to, rest.0)
  rises least {n} (w ∷ written) both {p} {place = place} (inr first) (inl second) le =
      let seen = has both in
      let rest = lowest w.to written (both-later both) first in
      absurd (omega (arith, seen.next, rest.1, second.from, second.to, second.is, le))
  rises least {n} (w ∷ written) both {p} {q} {place} {other} (inr first)
      (inr second) le =
      rises w.to written
      (both-later both)
      first second le

  -- a place in a frame of these is that of a position
  place-at : {least n : ℕ} (written : List WrittenFrames) → AreInBoth least n written
      → (frame : ℕ) {place : ℕ} → frame * samples ≤ place → place < (frame + 1) * samples
      → IsFrameOf frame written → (position : ℕ) × IsAt written position place
  place-at [] both frame from to is = absurd is
  place-at {least} {n} (w ∷ written) both frame {place} from to (inl is) =
      let seen = has both in
      let low = frame-times class.version {a = w.at} {b = frame} is.0 in
      let high = frame-times class.version {a = frame + 1} {b = w.at + (w.to - w.from)}
      (omega (arith, is.1)) in (
        w.from * samples + (place - w.at * samples),
        inl (record {
          from = omega arith;
          to = omega (arith, low, high, seen.next, seen.some, from, to);
          is = omega (arith, low, from);
        }),
      )
  place-at {least} {n} (w ∷ written) both frame {place} from to (inr is) =
      let at = place-at {least = w.to} {n = w.at + (w.to - w.from)} written
      (both-later both)
      frame {place = place} from to is in
      (at.0, inr at.1)

  -- a frame that begins at the place of a position or before it is before the end of these
  at-before : (least : ℕ) {n : ℕ} (written : List WrittenFrames) → AreInBoth least n written
      → (frame position : ℕ) {place : ℕ} → frame * samples ≤ place → IsAt written position place
      → IsBeforeEnd frame written
  at-before least [] both frame position from at = absurd at
  at-before least {n} (w ∷ written) both frame position from (inl is) =
      let seen = has both in
      inl (times-frame class.version
      (omega (arith, seen.next, is.from, is.to, is.is, from)))
  at-before least {n} (w ∷ written) both frame position {place} from (inr at) =
      inr (at-before w.to written (both-later both) frame
      position from at)

  -- ---- heard positions

  module _ (played : Played) where
    heard-at : (written : List WrittenFrames) (position place : ℕ)
        → IsHeardAt class played written position place → IsAt written position place
    heard-at [] position place heard = absurd heard
    heard-at (w ∷ written) position place (inl is) =
        inl (record { from = is.from; to = is.to; is = is.is })
    heard-at (w ∷ written) position place (inr heard) = inr (heard-at written position place heard)

    heard-played : (written : List WrittenFrames) {position : ℕ} (place : ℕ)
        → IsHeardAt class played written position place
        → (played.start ≤ position) × (position < played.end)
    heard-played [] place heard = absurd heard
    heard-played (w ∷ written) place (inl is) = (is.start, is.end)
    heard-played (w ∷ written) {position} place (inr heard) = heard-played written place heard

    at-heard : (written : List WrittenFrames) {position : ℕ} (place : ℕ) → played.start ≤ position
        → position < played.end → IsAt written position place
        → IsHeardAt class played written position place
    at-heard [] place start end at = absurd at
    at-heard (w ∷ written) place start end (inl is) =
        inl (record { from = is.from; to = is.to; start = start; end = end; is = is.is })
    at-heard (w ∷ written) {position} place start end (inr at) =
        inr (at-heard written place start end at)

-- ---- the parts

module _ {s : SurveyFields} {first : Part} {later : List Part}
    (can : ArePartsLeft s (first ∷ later)) where
  abbrev parts : List Part
  parts = first ∷ later

  abbrev items : List SpliceItem
  items = items_left s parts

  abbrev before : ℕ
  before = places_before items (plan_of_items s items)

  abbrev written : List WrittenFrames
  written = all_parts_written s parts

  both : AreInBoth s.class 0 before written
  both = record {
    file = parts-in_file before items (length s.frames) parts (omega arith) can.order;
    own = parts-from parts before items 0 (length s.frames) can.order;
  }

  module _ {played : Played} {heard : Heard} (is : IsFirstToLast s.class played written heard)
      {place : ℕ} (low : heard.first ≤ place) (high : place < heard.end) where
    abbrev IsHeardPlace : Type 0
    IsHeardPlace = (position : ℕ) × IsHeardAt s.class played written position place

    abbrev IsLeadBetween : Type 0
    IsLeadBetween =
        IsInLeadIn (samples_in s.class) (removal_plan s parts) place
        × IsBetweenHeard s.class played written place

    frame : (n : ℕ) × (n * samples_in s.class ≤ place) × (place < (n + 1) * samples_in s.class)
    frame = frame-of s.class.version place

    first-at : IsAt s.class written is.first.0 heard.first
    first-at = heard-at s.class played written is.first.0 heard.first is.first.1

    last-at : IsAt s.class written is.last.0 is.last.1
    last-at = heard-at s.class played written is.last.0 is.last.1 is.last.2

    from : before ≤ frame.0
    from =
        let least = (lowest s.class 0 {n = before} written both
        {position = is.first.0} {place = heard.first} first-at).1 in
        let next = times-frame s.class.version {a = before} {b = frame.0 + 1}
        (omega (arith, least, low, frame.2)) in
        omega (arith, next)

    of-frame : IsFrameOf frame.0 written → IsHeardPlace
    of-frame in_part =
        let at = place-at s.class written both frame.0 frame.1 frame.2 in_part in
        let start = rises s.class 0 written both first-at
        at.1 low in
        let end = rises s.class 0 written both at.1 last-at
        (omega (arith, is.last.3, high)) in
        let first_played =
        heard-played s.class played written heard.first is.first.1 in
        let last_played = heard-played s.class played written is.last.1 is.last.2 in (
          at.0,
          at-heard s.class played written place (omega (arith, start, first_played.0))
              (omega (arith, end, last_played.1)) at.1,
        )

    of-lead : IsLeadIn items (frame.0 - before)
        → IsInLeadIn (samples_in s.class) (removal_plan s parts) place
    of-lead lead =
        let planned = lead-planned can (frame.0 - before) lead in
        let number : frame.0 ≡ before + (frame.0 - before) = omega (arith, from) in
        record {
          number = frame.0;
          placed = planned.0;
          is = ap (slice_get (removal_plan s parts)) number ∙ planned.1;
          lead_in = planned.2;
          from = frame.1;
          to = frame.2;
        }

    heard-as : (position : ℕ) {other : ℕ} → other ≡ place
        → IsHeardAt s.class played written position other → IsHeardPlace
    heard-as position same at =
        (position, subst (IsHeardAt s.class played written position) same at)

    lead-between : IsInLeadIn (samples_in s.class) (removal_plan s parts) place
        → IsHeardPlace ⊎ IsLeadBetween
    lead-between lead = by (nat_lt heard.first place) refl (nat_lt place is.last.1) refl
      where
        by : (b : Bool) → nat_lt heard.first place ≡ b → (c : Bool) → nat_lt place is.last.1 ≡ c
            → IsHeardPlace ⊎ IsLeadBetween
        by false none c e =
            inl (heard-as is.first.0
            (omega (arith, low, ltb-false heard.first place none)) is.first.1)
        by true behind false none =
            inl (heard-as is.last.0
            (omega (arith, is.last.3, high, ltb-false place is.last.1 none)) is.last.2)
        by true behind true ahead = inr (
          lead,
          record {
            behind = (is.first.0, heard.first, is.first.1, ltb-true heard.first place behind);
            before = (is.last.0, is.last.1, is.last.2, ltb-true place is.last.1 ahead);
          },
        )

    -- a place from the first heard position to the last is that of a heard one, or is in a lead-in
    -- between two of them
    pub nothing-else : IsHeardPlace ⊎ IsLeadBetween
    nothing-else =
        by (frame-or-lead before items parts from
        (at-before s.class 0 written both frame.0 is.last.0
        (omega (arith, frame.1, is.last.3, high)) last-at))
      where
        by : IsFrameOf frame.0 written ⊎ IsLeadIn items (frame.0 - before)
            → IsHeardPlace ⊎ IsLeadBetween
        by (inl in_part) = inl (of-frame in_part)
        by (inr lead) = lead-between (of-lead lead)

-- the law of what else is played
pub plays-nothing_else : NothingElseIsPlayed
plays-nothing_else stretches file s [] kept allowed o is left keeps e =
    absurd (omega (arith, (left-parts stretches file is left).some))
plays-nothing_else stretches file s (first ∷ later) kept allowed o is left keeps e =
    let read = read-as file s (first ∷ later) o stretches allowed is left keeps e in
    of-played file s (first ∷ later) o PlaysNothingElse read (λ place at.
    nothing-else
    (left-parts stretches file is left) read.at
    (omega (arith, at.0)) at.1)
