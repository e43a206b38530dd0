-- Exact pieces, joined in order: each follows the one before it, and the
-- stream is at most one empty frame and then the recording's frames from
-- the first frame of the first piece to the last frame of the last.
use Rattle.std.proofs.Common.{ap, append_assoc, ap₂, arith, Bool, cond, drop, false, flat_map, inl}
use Rattle.std.proofs.Common.{inr, length, List, map, not, refl, subst, sym, true, ℕ, [], ◌&&◌, ◌*◌}
use Rattle.std.proofs.{Common.{◌++◌, ◌+◌, ◌-◌, ◌<◌, ◌∙◌, ◌∷◌, ◌≡◌, ◌≤◌}, Math.Seq.drop-append-add}
use Rattle.std.proofs.lemmas.{Bool.cases_lt, List.{drop-append-le, length-append}}
use Rattle.std.specs.{List.list_all, Prelude.slice_range}
use Rattle.exact_laws.proofs.ExactFileLemmas.{all-range, all_splice, AreExact, exact_cuts, has-own}
use Rattle.exact_laws.proofs.ExactFileLemmas.{IsExact, IsFound, own, position, span}
use Rattle.exact_laws.proofs.ExactSpanLemmas.{first-early, first-is, first-rises, has-led-span}
use Rattle.exact_laws.proofs.ExactSpanLemmas.{has-own-span, has-span, HasSpan, last-behind, last-is}
use Rattle.exact_laws.proofs.ExactSpanLemmas.{last-rises}
use Rattle.exact_laws.proofs.SpanSpliceLemmas.{below-last, spans-are, spans-one-splice}
use Rattle.exact_laws.proofs.SpanSpliceLemmas.{spans_joints}
use Rattle.exact_laws.specs.SpanLaws.{AreSpansOf, is_following_seam, spans_end}
use Rattle.exact_span.specs.{PlayedPositions.samples_in, Spans.{frames_before, warm_up_frame}}
use Rattle.exact_span.specs.declared.{exact_place.ExactPlace.ExactPlace, span.Span.Span}
use Rattle.frame_header.specs.{Tables.window_of, declared.version.Version.Version}
use Rattle.laying.specs.Relaid.{FilePart, part_stream, silent_lead_in}
use Rattle.seam_laws.proofs.FrameRangeLemmas.{all_stream, between-fits, between-known, range-append}
use Rattle.seam_laws.proofs.FrameRangeLemmas.{range-drop, range-length, range-none, splice_between}
use Rattle.seam_laws.proofs.FrameRangeLemmas.{stream-many}
use Rattle.seam_laws.proofs.PieceListLemmas.{first-at, later-at, no_pieces, piece_then, pieces-join}
use Rattle.seam_laws.proofs.PieceListLemmas.{Recording}
use Rattle.seam_laws.proofs.PiecePartLemmas.{IsLed, leads, own_stream, ways}
use Rattle.seam_laws.proofs.SeamlessFrontLemmas.{front-silent}
use Rattle.seam_laws.proofs.SeamlessInputLemmas.{Joins, stream-from}
use Rattle.seam_laws.proofs.SeamlessSpliceLemmas.{front-few, front-is, front-parts, joints-are}
use Rattle.seam_laws.proofs.SeamlessSpliceLemmas.{leads-many, seamless-is, splice, splice-is}
use Rattle.seam_laws.proofs.SeamlessSpliceLemmas.{splice-leads, stream}
use Rattle.seam_laws.proofs.SplitFullLemmas.{silent-empty}
use Rattle.seam_laws.specs.{SeamlessLaws.{is_empty_frame, last_place}, SpliceLaws.AreHeadersKnown}
use Rattle.seam_plan.{proofs.FitLemmas.fits-tested, specs.Frames.{needs_of, SpliceFrame}}
use Rattle.seam_plan.specs.Joins.{fits_behind, has_lead_in}
use Rattle.seam_plan.specs.Seams.{front_left_out_count, JointFrames, joints_of, splice_with}
use Rattle.seamless_edits.specs.Seamless.{join_of_parts, later_parts, part_brought, seamless_stream}
use Rattle.seamless_edits.specs.Seamless.{splice_lead_ins}
use Rattle.slot_plan.{proofs.FreeByteLemmas.{cons-fits, more-behind}, specs.FreeBytes.FitsBehind}
use Rattle.slot_plan.specs.declared.needs.Need.{Need}
use Rattle.sync_survey.specs.{Faults.SurveyFields, MainData.StreamFrame}

-- ---- pieces of one recording

module _ {file : List ℕ} {s : SurveyFields} (r : Recording file s) where
  abbrev v : Version
  v = s.class.version

  -- the frame after the last one that is needed before a place
  abbrev pub ended_at : ExactPlace → ℕ
  ended_at place = frames_before (samples_in s.class) (position r place)

  -- the first frame that is needed from a place on
  abbrev pub begun_at : ExactPlace → ℕ
  begun_at place = warm_up_frame (samples_in s.class) (position r place)

  abbrev pub all : List SpliceFrame
  all = all_splice r

  abbrev pub st : List StreamFrame
  st = all_stream file (own r)

  -- where the span between two places begins
  pub begins : (from to : ExactPlace) → (span r from to).first ≡ begun_at from
  begins from to = first-is s.class (position r from) (position r to) refl

  -- and where it ends
  pub ends : (from to : ExactPlace) → (span r from to).last ≡ ended_at to
  ends from to = last-is s.class (position r from) (position r to) refl

  rises : {from to : ExactPlace} → IsFound r from to → ended_at from ≤ ended_at to
  rises {from} {to} found = last-rises v (omega (arith, found.some))

  -- no later piece ends earlier
  ends-rise : {from : ExactPlace} {tos : List ExactPlace} {parts : List FilePart}
      → AreExact r from tos parts → ended_at from ≤ ended_at (last_place from tos)
  ends-rise no_pieces = omega arith
  ends-rise (piece_then here more) = omega (arith, rises here.there, ends-rise more)

  -- ---- spans, each from where the one before it ends

  -- the pieces are such spans, and what is left of them is the stream up to the end of the last
  record AreSpans (low last : ℕ) (from : ExactPlace) (tos : List ExactPlace)
      (parts : List FilePart) : Type 0 where
    are : AreSpansOf s.class all low last (position r from) (map part_brought parts)
        (map (position r) tos)
    to_is : spans_end s.class all low last (position r from) (map part_brought parts)
        (map (position r) tos) are
        ≡ ended_at (last_place from tos)
    left : flat_map part_stream (later_parts
        (spans_joints s.class all low last (position r from) (map part_brought parts)
        (map (position r) tos) are) parts)
        ≡ slice_range st last (ended_at (last_place from tos))

  are-spans : {low : ℕ} (last : ℕ) {from : ExactPlace} {tos : List ExactPlace}
      {parts : List FilePart} → AreExact r from tos parts → low ≤ begun_at from
      → 0 < position r from → last ≡ ended_at from → AreSpans low last from tos parts
  are-spans last no_pieces late some is = record {
    are = tt;
    to_is = is;
    left = sym (ap (λ n. slice_range st last n) (sym is) ∙ range-none st last);
  }
  are-spans {low} last
      {from} (piece_then {to = to} {tos = tos} {p = p} here more) late some is =
      let sp = has-span r here in
      let t = span r from to in
      let first = sp.from_is ∙ begins from to in
      let to_is = sp.to_is ∙ ends from to in
      let later : position r from ≤ position r to = omega (arith, here.there.some) in
      let on =
      are-spans sp.spans.to more
      (omega (arith, late, first-rises v later))
      (omega (arith, here.there.some)) to_is in
      let early = subst (λ n. n * samples_in s.class < position r from) (sym first)
      (first-early v some) in
      let inside = below-last v early
      (subst (λ n. position r from ≤ n * samples_in s.class) (sym is)
      (last-behind v (position r from))) in
      let out = last - sp.spans.from in
      let on_to : last ≤ ended_at to = omega (arith, is, rises here.there) in
      record {
        are = (
          sp.spans,
          subst (λ n. low ≤ n) (sym first) late,
          early,
          omega (arith, to_is, on_to),
          on.are,
        );
        to_is = on.to_is;
        left =
            ap₂ ◌++◌
            (stream-from here.piece.is (length sp.spans.lead_ins + last - sp.spans.from)
            ∙ ap₂ (λ (n : ℕ) (l : List StreamFrame). drop n l)
            (omega (arith, inside, sp.same)) sp.stream_is
            ∙ drop-append-add sp.leads (own_stream here.piece) out
            ∙ range-drop st t.first t.last
            (omega (arith, inside, on_to, ends from to, sp.from_is))
            ∙ ap₂ (λ i j. slice_range st i j) (omega (arith, inside, sp.from_is))
            (ends from to))
            (on.left ∙ ap (λ n. slice_range st n (ended_at (last_place to tos))) to_is)
            ∙ range-append st on_to
            (ends-rise more);
      }

-- ---- the join of all pieces

no-front : {b : Bool} {n : ℕ} → cond b 1 0 ≡ n → n ≡ 0 → b ≡ false
no-front is none = grind arith

not-both : {x y : Bool} → (x && not y) ≡ false → x ≡ true → y ≡ true
not-both is first = grind arith

-- a frame without main data, followed by frames that
-- fit with no free bytes before them, fits so too
empty-before : (window : ℕ) (need : Need) (needs : List Need) → need.bytes ≡ 0
    → FitsBehind window 0 needs → FitsBehind window 0 (need ∷ needs)
empty-before window need needs empty fits = grind (arith, cons-fits, empty, more-behind)

module _ {file : List ℕ} {s : SurveyFields} (r : Recording file s) {place next : ExactPlace}
    {places : List ExactPlace} {first : FilePart} {parts : List FilePart}
    (pieces : AreExact r place (next ∷ places) (first ∷ parts)) where
  -- the first piece
  abbrev pub at : IsExact r place next first
  at = first-at pieces

  abbrev later : AreExact r next places parts
  later = later-at pieces

  -- the pieces are the inputs of a join
  pub inputs : Joins s.class first parts
  inputs = pieces-join (exact_cuts r) file (own r) pieces

  abbrev window : ℕ
  window = window_of s.class.version

  -- its span, where it begins and ends, and where the last one ends
  abbrev pub first_of : Span
  first_of = span r place next

  abbrev pub low : ℕ
  low = first_of.first

  abbrev pub mid : ℕ
  mid = first_of.last

  abbrev pub high : ℕ
  high = ended_at r (last_place next places)

  -- the frames of the recording from the first frame of the first piece to the last of the last
  abbrev pub splice_frames : List SpliceFrame
  splice_frames = splice_between file (own r) low high

  abbrev pub whole : List StreamFrame
  whole = slice_range (st r) low high

  abbrev front : ℕ
  front = (join_of_parts first parts).front

  -- the first piece as a span
  abbrev pub FirstSpan : Type 0
  FirstSpan = HasSpan r at

  -- the joints of all later pieces
  abbrev joints : List JointFrames
  joints = joints_of s.class (part_brought first) (map part_brought parts)

  -- by the span of the first piece, each later one follows, and the
  -- splice is the lead-ins of the first and the frames of the recording
  pub record IsOneSplice (sp : FirstSpan) : Type 0 where
    pub follow : list_all (λ (j : JointFrames). is_following_seam j.seam) joints ≡ true
    pub splice_is : splice_with (part_brought first) joints ≡ sp.spans.lead_ins ++ splice_frames

  spans : (sp : FirstSpan)
      → AreSpans r sp.spans.from sp.spans.to next places parts
  spans sp =
      let later_begins =
      first-rises s.class.version {p = position r place} {q = position r next}
      (omega (arith, at.there.some)) in
      are-spans r {low = sp.spans.from} sp.spans.to later
      (omega (arith, sp.from_is, begins r place next, later_begins))
      (omega (arith, at.there.some)) (sp.to_is ∙ ends r place next)

  all-known : AreHeadersKnown (all r)
  all-known = between-known (has-own r) 0 (length (own r).frames)

  all-fit : fits_behind window window (needs_of (all r)) ≡ true
  all-fit = between-fits (has-own r) 0 (length (own r).frames)

  -- the inputs are one splice
  pub one-splice : (sp : FirstSpan) → IsOneSplice sp
  one-splice sp =
      let both =
      spans-one-splice s.class (all r) (position r place) (position r next) (part_brought first)
      (map part_brought parts) (map (position r) places) sp.spans (spans sp).are all-known all-fit
      in
      record {
        follow = both.0;
        splice_is =
            both.1
            ∙ ap₂ (λ i j. sp.spans.lead_ins ++ slice_range (all r) i j) sp.from_is
            (spans sp).to_is
            ∙ ap (sp.spans.lead_ins ++◌) (all-range r low high);
      }

  -- each later piece follows the one before it
  pub all-follow : list_all (λ (j : JointFrames). is_following_seam j.seam)
      (join_of_parts first parts).joints
      ≡ true
  all-follow =
      ap (λ js. list_all (λ (j : JointFrames). is_following_seam j.seam) js)
      (joints-are inputs)
      ∙ (one-splice (has-span r at)).follow

  -- ---- the stream of the splice

  -- the first piece ends no later than the last
  pub ends-later : mid ≤ high
  ends-later = omega (arith, ends r place next, ends-rise r later)

  -- the frames of the first piece and those after it
  pub stream-parts : slice_range (st r) low mid ++ slice_range (st r) mid high ≡ whole
  stream-parts = range-append (st r) (omega (arith, at.there.there.some)) ends-later

  later-stream : (sp : FirstSpan)
      → flat_map part_stream (later_parts (join_of_parts first parts).joints parts)
      ≡ slice_range (st r) mid high
  later-stream sp =
      ap (λ js. flat_map part_stream (later_parts js parts))
      (joints-are inputs
      ∙ spans-are (record { known = all-known; fits = all-fit }) (map part_brought parts)
      (map (position r) places) sp.spans
      (spans sp).are)
      ∙ (spans sp).left ∙ ap (λ n. slice_range (st r) n high) sp.to_is

  first-some : 0 < length (slice_range (st r) low mid)
  first-some = grind (arith, at.there.there, range-length, stream-many, has-own)

  -- the stream of the splice is the lead-ins of the first piece and the
  -- frames of the recording, but for what leaves the splice at the end
  pub splice-stream : (sp : FirstSpan) → stream inputs ≡ drop front (sp.leads ++ whole)
  splice-stream sp =
      let one_stream = slice_range (st r) low mid in
      let behind = slice_range (st r) mid high in
      ap₂ ◌++◌
      (stream-from at.piece.is front ∙ ap (drop front) sp.stream_is)
      (later-stream sp)
      ∙ sym (drop-append-le front (sp.leads ++ one_stream) behind
      (omega (arith, front-few inputs, first-some, length-append sp.leads one_stream)))
      ∙ ap (drop front)
      (append_assoc sp.leads one_stream behind
      ∙ ap (sp.leads ++◌) stream-parts)

  -- the splice itself is these frames too
  pub splice-frames : (sp : FirstSpan)
      → splice inputs ≡ drop front (sp.spans.lead_ins ++ splice_frames)
  splice-frames sp = splice-is inputs ∙ ap (drop front) (one-splice sp).splice_is

  -- ---- the stream of the join

  -- The stream is at most one empty frame, and then the frames of the recording. There is one where
  -- the first piece has a lead-in that stays, or the splice gets one.
  pub record IsJoined (first_leads : ℕ) : Type 0 where
    pub leads : List StreamFrame
    pub one : length leads ≤ 1
    pub empty : list_all (is_empty_frame s.class) leads ≡ true
    pub stream_is : seamless_stream (first ∷ parts) ≡ leads ++ whole
    pub many : length leads + front ≡ first_leads + splice_lead_ins first parts
    pub led : first_leads ≤ length leads

  splice-lead : (out : 0 < front) → (f : StreamFrame) × (fs : List StreamFrame)
      × (stream inputs ≡ f ∷ fs)
      × ((splice-leads inputs).leads ≡ silent_lead_in f ∷ [])
  splice-lead out = (splice-leads inputs).led (front-parts inputs out).1

  -- by the lead-ins that the splice gets, and the stream that is left
  module _ {got left : List StreamFrame} (got_is : (splice-leads inputs).leads ≡ got)
      (left_is : stream inputs ≡ left) where
    got-left : seamless_stream (first ∷ parts) ≡ got ++ left
    got-left = grind (arith, seamless-is)

    many-got : splice_lead_ins first parts ≡ length got
    many-got = leads-many inputs ∙ ap length got_is

    joined-without : got ++ left ≡ whole → front ≡ length got → IsJoined 0
    joined-without same out = record {
      leads = [];
      one = omega arith;
      led = omega arith;
      empty = refl;
      stream_is = got-left ∙ same;
      many = omega (arith, out, many-got);
    }

    joined-with : (f : StreamFrame) {given : ℕ} → given ≤ 1
        → got ++ left ≡ silent_lead_in f ∷ whole → 1 + front ≡ given + length got → IsJoined given
    joined-with f few same out = record {
      leads = silent_lead_in f ∷ [];
      one = omega arith;
      led = omega (arith, few);
      empty = ap (λ b. b && true) (silent-empty s.class r.known f);
      stream_is = got-left ∙ same;
      many = omega (arith, out, many-got);
    }

  -- no lead-in was given, and none leaves the splice
  joined-own : (sp : FirstSpan) → sp.leads ≡ [] → front ≡ 0 → IsJoined 0
  joined-own sp none stays =
      by_fit (fits_behind window 0 (needs_of (splice inputs))) refl
    where
      here : stream inputs ≡ whole
      here =
          splice-stream sp
          ∙ ap₂ (λ (n : ℕ) (l : List StreamFrame). drop n (l ++ whole)) stays none

      by_fit : (b : Bool)
          → fits_behind window 0 (needs_of (splice inputs)) ≡ b
          → IsJoined 0
      by_fit true fits = joined-without ((splice-leads inputs).own fits) here refl stays
      by_fit false lacks =
          let led = (splice-leads inputs).led lacks in
          joined-with led.3 here led.0 (omega arith) refl
          (omega (arith, stays))

  -- no lead-in was given, but a frame that looks like one leaves the splice, which gets it again
  joined-alike : (sp : FirstSpan) → sp.leads ≡ [] → 0 < front → IsJoined 0
  joined-alike sp none out =
      let led = splice-lead out in
      let one : front ≡ 1 = omega (arith, out, front-few inputs) in
      let silent = front-silent inputs out led.2 in
      let one_stream = slice_range (st r) low mid in
      let behind = slice_range (st r) mid high in
      let begins = sym (sp.stream_is ∙ ap (λ l. l ++ one_stream) none) ∙ silent.1 in
      let whole_is = sym stream-parts
      ∙ ap (λ l. l ++ behind) begins in
      let here = splice-stream sp
      ∙ ap₂ (λ (n : ℕ) (l : List StreamFrame). drop n (l ++ whole)) one none
      ∙ ap (drop 1) whole_is in
      joined-without led.3 here (sym whole_is) one

  module _ (led : IsLed at.piece) where
    -- with its lead-in the first piece is a span
    abbrev pub led-span : FirstSpan
    led-span = has-led-span r at led

    abbrev all_frames : List SpliceFrame
    all_frames = led.brings.lead_in ∷ splice_frames

    all-frames : splice_with (part_brought first) (joints_of s.class (part_brought first)
        (map part_brought parts)) ≡ all_frames
    all-frames = (one-splice led-span).splice_is

    -- where the lead-in stays, the frames after it need none
    pub stays-fit : front ≡ 0 → fits_behind window 0 (needs_of splice_frames) ≡ true
    unfolding front_left_out_count
    stays-fit stays =
        let fits : List SpliceFrame → Bool =
        λ fs. fits_behind window 0 (needs_of (drop 1 fs)) in
        let leads_here = has_lead_in window (part_brought first) in
        not-both
        (no-front
        (ap (λ fs. cond (leads_here && not (fits fs)) 1 0) (sym all-frames)
        ∙ sym (front-is inputs)) stays)
        led.brings.has

    splice-whole : front ≡ 0 → splice inputs ≡ all_frames
    splice-whole stays = splice-frames led-span ∙ ap (λ n. drop n all_frames) stays

    -- with its lead-in, the splice then fits with no free bytes before it
    pub splice-fits : front ≡ 0
        → fits_behind window 0 (needs_of (splice inputs)) ≡ true
    splice-fits stays =
        grind (
          arith,
          splice-whole,
          fits-tested,
          empty-before,
          led.brings.lead_in.need,
          led.brings.empty,
          stays-fit,
        )

    after : {n : ℕ} → front ≡ n
        → stream inputs ≡ drop n (silent_lead_in led.brings.first ∷ whole)
    after {n} is =
        splice-stream led-span ∙ ap (λ n. drop n (silent_lead_in led.brings.first ∷ whole)) is

    -- a lead-in was given, and stays
    joined-led : front ≡ 0 → IsJoined 1
    joined-led stays =
        joined-with
        ((splice-leads inputs).own (splice-fits stays)) (after stays) led.brings.first
        (omega arith) refl (omega (arith, stays))

    -- a lead-in was given and leaves the splice, which gets another
    joined-again : 0 < front → IsJoined 1
    joined-again out =
        let led = splice-lead out in
        let one : front ≡ 1 = omega (arith, out, front-few inputs) in
        joined-with led.3 (after one) led.0 (omega arith) refl
        (omega (arith, one))

  abbrev pub first_leads : ℕ
  first_leads = leads at.piece

  -- the join has the frames of the recording after at most one empty frame
  pub joined-is : IsJoined first_leads
  joined-is =
      elim (ways at.piece) [
        | inl own ↦
            let sp = has-own-span r at own in
            subst IsJoined (sym own.none)
            (elim (cases_lt 0 front) [
              | inl out ↦ joined-alike sp refl out
              | inr stays ↦ joined-own sp refl (omega (arith, stays))
            ])
        | inr led ↦
            subst IsJoined (sym led.one)
            (elim (cases_lt 0 front) [
              | inl out ↦ joined-again led out
              | inr stays ↦ joined-led led (omega (arith, stays))
            ])
      ]
