-- The numbers in the Info frame of exact pieces that are joined in
-- order: the numbers of the span from the first place to the last.
use Rattle.std.proofs.Common.{ap, arith, length, List, refl, Some, subst, sym, ℕ, ◌*◌, ◌+◌, ◌-◌}
use Rattle.std.proofs.{Common.{◌<◌, ◌∙◌, ◌∷◌, ◌≡◌, ◌≤◌}, lemmas.Bool.le-leb}
use Rattle.std.{proofs.lemmas.List.{length-append, length-map}, specs.Prelude.nat_lt}
use Rattle.cut_edits.{proofs.SealedLemmas.for-whole, specs.Exact.quality_of}
use Rattle.exact_laws.proofs.ExactFileLemmas.{AreExact, has-own, inside, IsExact, IsFound, position}
use Rattle.exact_laws.proofs.ExactFileLemmas.{sample, span, span-of-places}
use Rattle.exact_laws.proofs.ExactSpanLemmas.{first-before, has-span, HasSpan, leads-are, places-of}
use Rattle.exact_laws.proofs.ExactSpliceLemmas.{at, begins, ended_at, ends, first_leads, high}
use Rattle.exact_laws.proofs.ExactSpliceLemmas.{inputs, IsJoined, joined-is, low, st}
use Rattle.exact_laws.proofs.SpanSpliceLemmas.{span-many}
use Rattle.exact_span.proofs.{SealLemmas.frames-sealed, SpanLemmas.span-in_range}
use Rattle.exact_span.specs.Laws.{IsPieceHead, KeepsPlaces, SaysNumbers}
use Rattle.exact_span.specs.PlayedPositions.{decoder_delay, length_of_played, played_of, rest_of}
use Rattle.exact_span.specs.PlayedPositions.{samples_in}
use Rattle.exact_span.specs.Spans.{AreLeads, delay_of, frames_before, padding_of, span_of}
use Rattle.exact_span.specs.{Spans.warm_up_frame, declared.exact_place.ExactPlace.ExactPlace}
use Rattle.exact_span.specs.declared.{played.Played.Played, span.Span.Span}
use Rattle.frame_header.specs.{Fields.ClassFields, Tables.samples_of}
use Rattle.frame_header.specs.declared.version.Version.{Version}
use Rattle.laying.specs.{Relaid.FilePart, Written.info_for}
use Rattle.seam_laws.proofs.FrameRangeLemmas.{range-length, stream-many}
use Rattle.seam_laws.proofs.JoinNumberLemmas.{splice-long, splice-says}
use Rattle.seam_laws.proofs.PieceListLemmas.{later-at, no_pieces, piece_then, Recording}
use Rattle.seam_laws.proofs.SeamlessInputLemmas.{brought-many, input-whole, inputs-whole, own-class}
use Rattle.seam_laws.specs.{PlayedParts.input_played, SeamlessLaws.last_place}
use Rattle.seamless_edits.proofs.{NumberLemmas.rest-counted, SplicePartLemmas.splice-laid}
use Rattle.seamless_edits.specs.Seamless.{delay_of_splice, join_of_parts, last_part, part_head}
use Rattle.seamless_edits.specs.Seamless.{part_rest, seamless_delay, seamless_frames, seamless_info}
use Rattle.seamless_edits.specs.Seamless.{seamless_padding, seamless_stream, splice_extension}
use Rattle.seamless_edits.specs.Seamless.{splice_lead_ins}
use Rattle.sync_survey.specs.{Faults.SurveyFields, Row.Row}

-- ---- positions

-- the delay of the span by the played positions of the first piece
delay-same : (v : Version) (start first : ℕ) {p : ℕ} (given leads front many : ℕ)
    → start + first * samples_of v ≡ p + given * samples_of v → first * samples_of v ≤ p
    → many + front ≡ given + leads
    → start + leads * samples_of v - front * samples_of v - decoder_delay
    ≡ many * samples_of v + (p - first * samples_of v) - decoder_delay
delay-same v start first given h front many starts before same = grind arith

-- what is left after the last position of a piece
rest-same : (v : Version) {frames : ℕ} (leads : ℕ) {from to : ℕ} (end : ℕ) {q : ℕ}
    → frames ≡ leads + (to - from) → end + from * samples_of v ≡ q + leads * samples_of v
    → from < to → q ≤ to * samples_of v → frames * samples_of v - end ≡ to * samples_of v - q
rest-same v h end same ends some most = grind arith

from-is : (class : ClassFields) (p q : ℕ)
    → (span_of class p q).from ≡ p - warm_up_frame (samples_in class) p * samples_in class
unfolding span_of
from-is class p q = refl

to-is : (class : ClassFields) (p q : ℕ)
    → (span_of class p q).to ≡ frames_before (samples_in class) q * samples_in class - q
unfolding span_of
to-is class p q = refl

led-is : (class : ClassFields) (p q : ℕ) → (span_of class p q).led ≡ nat_lt p decoder_delay
unfolding span_of
led-is class p q = refl

-- ---- one piece after another

module _ {file : List ℕ} {s : SurveyFields} (r : Recording file s) where
  piece-rest : {from to : ExactPlace} {p : FilePart}
      → IsExact r from to p
      → part_rest p ≡ ended_at r to * samples_in s.class - position r to
  piece-rest {from} {to} {p} at =
      let n = length p.survey.frames in
      let sp = has-span r at in
      let many = sym (brought-many at.piece.is)
      ∙ span-many sp.spans in
      rest-counted (part_head p) p.survey.class n (sym sp.spans.counted)
      ∙ ap (λ d. rest_of d n sp.spans.played) at.piece.is.of_class
      ∙ rest-same s.class.version (length sp.spans.lead_ins)
      sp.spans.played.end many sp.spans.ended sp.spans.some sp.spans.behind
      ∙ ap (λ k. k * samples_in s.class - position r to) (sp.to_is ∙ ends r from to)

  last-rest : {from to : ExactPlace} {p : FilePart}
      → IsExact r from to p
      → {tos : List ExactPlace} {parts : List FilePart} → AreExact r to tos parts
      → part_rest (last_part p parts)
      ≡ ended_at r (last_place to tos) * samples_in s.class - position r (last_place to tos)
  last-rest at no_pieces = piece-rest at
  last-rest at (piece_then here more) = last-rest here more

  -- the samples rise, and all are played
  places-within : (from : ExactPlace) {mid : ExactPlace} {tos : List ExactPlace}
      {parts : List FilePart} → AreExact r mid tos parts → sample r from < sample r mid
      → sample r mid ≤ length_of_played (input_played file s)
      → (sample r from < sample r (last_place mid tos))
      × (sample r (last_place mid tos) ≤ length_of_played (input_played file s))
  places-within from no_pieces some most = (some, most)
  places-within from (piece_then here more) some most =
      places-within from more (omega (arith, some, here.there.some)) here.there.within

-- ---- the join

module _ {file : List ℕ} {s : SurveyFields} (r : Recording file s) {place next : ExactPlace}
    {places : List ExactPlace} {first : FilePart} {parts : List FilePart}
    (pieces : AreExact r place (next ∷ places) (first ∷ parts)) where
  abbrev joined : IsJoined r pieces (first_leads r pieces)
  joined = joined-is r pieces

  -- how many lead-ins come first
  abbrev pub many : ℕ
  many = length joined.leads

  abbrev pub goal : ExactPlace
  goal = last_place next places

  abbrev p : ℕ
  p = position r place

  abbrev q : ℕ
  q = position r goal

  -- the span from the first place to the last
  abbrev pub whole_span : Span
  whole_span = span r place goal

  -- the span is what `cut --exact` needs
  pub whole-found : IsFound r place goal
  whole-found =
      let here = (at r pieces).there in
      let within =
      places-within r place (later-at pieces) here.some
      here.within in
      span-of-places r within.0 within.1

  -- its first frame is the first frame of the first piece
  pub whole-first : low r pieces ≡ whole_span.first
  whole-first = begins r place next ∙ sym (begins r place goal)

  -- its last frame is the last frame of the last piece
  pub whole-last : high r pieces ≡ whole_span.last
  whole-last = sym (ends r place goal)

  first-span : HasSpan r (at r pieces)
  first-span = has-span r (at r pieces)

  -- both the span and the first piece must have a lead-in, or neither
  pub led-same : (span r place next).led ≡ whole_span.led
  led-same = led-is s.class p (position r next) ∙ sym (led-is s.class p q)

  -- the lead-ins are those that the span must have
  pub many-leads : AreLeads whole_span many
  many-leads = record {
    one = joined.one;
    led = λ led.
        omega
        (arith, (leads-are r (at r pieces)).led (led-same ∙ led), joined.led, joined.one);
  }

  -- the delay of the span
  abbrev pub delay : ℕ
  delay = delay_of s.class many whole_span

  abbrev played : Played
  played = first-span.spans.played

  delay-value : seamless_delay played first parts ≡ delay
  delay-value =
      let v = s.class.version in
      let starts = ap (λ n. played.start + n * samples_in s.class)
      (sym (first-span.from_is
      ∙ begins r place next))
      ∙ first-span.spans.start in
      ap (λ d.
      played.start + splice_lead_ins first parts * samples_in d
      - (join_of_parts first parts).front * samples_in d - decoder_delay)
      (at r pieces).piece.is.of_class
      ∙ delay-same v played.start (warm_up_frame (samples_in s.class) p)
      (length first-span.spans.lead_ins) (splice_lead_ins first parts)
      (join_of_parts first parts).front many
      starts (first-before v p) (omega (arith, joined.many, first-span.many_is))
      ∙ ap (λ n. many * samples_in s.class + n - decoder_delay) (sym (from-is s.class p q))

  -- the delay is in range
  pub delay-most : delay ≤ 2830
  delay-most = (span-in_range whole-found.there.is many-leads).delay_most

  -- it is the delay of the join
  pub delay-is : delay_of_splice first parts ≡ Some delay
  delay-is = grind (arith, delay-value, le-leb, delay-most)

  -- the padding of the join is the padding of the span
  pub padding-is : seamless_padding first parts ≡ padding_of whole_span
  padding-is =
      ap (λ n. n + decoder_delay)
      (last-rest r (at r pieces) (later-at pieces)
      ∙ sym (to-is s.class p q))

  -- the padding is no less than the decoder's delay
  pub padding-least : 529 ≤ padding_of whole_span
  padding-least = grind (arith, span-in_range, many-leads)

  -- the padding is at most a frame more than that
  pub padding-most : padding_of whole_span ≤ 1680
  padding-most = (span-in_range whole-found.there.is many-leads).padding_most

  -- ---- the Info frame

  -- the stream has this many frames
  pub frames-many : length (seamless_frames first parts)
      ≡ many + (whole_span.last - whole_span.first)
  unfolding seamless_stream
  frames-many =
      let raw = own-class (inputs r pieces) in
      let laid =
      splice-laid parts (input-whole raw.head)
      (inputs-whole first.survey.class parts raw.others) in
      let all = st r in
      let there = inside r whole-found.there in
      let last = high r pieces in
      grind (
        arith,
        length-map,
        laid.stream_is,
        joined.stream_is,
        length-append,
        joined.leads,
        all,
        last,
        whole-first,
        whole-last,
        range-length,
        whole_span.first,
        whole_span.last,
        stream-many,
        has-own,
        there.within,
      )

  splice-numbers : SaysNumbers delay (padding_of whole_span) (splice_extension delay first parts)
  splice-numbers =
      subst (λ n. SaysNumbers delay n (splice_extension delay first parts)) padding-is
      (splice-says first parts delay (omega (arith, delay-most))
      (omega (arith, padding-is, padding-most)))

  -- the Info frame describes the span
  pub info-head : (row : Row)
      → IsPieceHead s.class many whole_span (seamless_info (Some delay) row first parts)
  info-head row =
      let info = info_for first.survey.class (seamless_frames first parts)
      (quality_of (part_head first)) (splice_extension delay first parts) in
      let sealed = frames-sealed row.header
      (for-whole first.survey.class (seamless_frames first parts) (quality_of (part_head first))
      (splice-long first parts delay)) in
      record {
        frames = ap Some frames-many;
        numbers = sealed.says delay (padding_of whole_span) splice-numbers;
      }

  -- the join plays the samples from the first place to the last
  pub join-plays : (row : Row)
      → KeepsPlaces s.class many whole_span.first (sample r place) (sample r goal)
      (played_of (Some (seamless_info (Some delay) row first parts)) s.class
      (many + (whole_span.last - whole_span.first))) (input_played file s)
  join-plays row = places-of r whole-found many-leads (info-head row)
