-- Exact pieces as inputs of a seamless join: each is a span of the recording.
use Rattle.std.proofs.Common.{ap, ap₂, arith, inl, inr, length, List, refl, Some, subst, sym, ℕ, []}
use Rattle.std.proofs.Common.{◌*◌, ◌++◌, ◌+◌, ◌-◌, ◌<◌, ◌^◌, ◌∙◌, ◌∷◌, ◌≡◌, ◌≤◌}
use Rattle.std.{proofs.lemmas.List.{length-append, length-map}, specs.Prelude.slice_range}
use Rattle.cut_edits.{proofs.HeadLemmas.survey_without_head-length, specs.Exact.span_lead_ins}
use Rattle.exact_laws.proofs.ExactFileLemmas.{all-many, all-range, all_splice, counted-is, has-own}
use Rattle.exact_laws.proofs.ExactFileLemmas.{head, inside, IsExact, IsFound, laid, own, piece-is}
use Rattle.exact_laws.proofs.{ExactFileLemmas.{position, sample, span}, PlayLemmas.pieces-play}
use Rattle.exact_laws.specs.{SampleLaws.PlaysItsSamples, SpanLaws.{AreEmptyFrames, IsSpanOf}}
use Rattle.exact_span.proofs.PlayedLemmas.{places-kept}
use Rattle.exact_span.specs.Laws.{IsPieceHead, KeepsPlaces, SaysNumbers}
use Rattle.exact_span.specs.PlayedPositions.{counted_positions, played_of, samples_in}
use Rattle.exact_span.specs.Spans.{AreLeads, delay_of, frames_before, padding_of, span_of}
use Rattle.exact_span.specs.{Spans.warm_up_frame, declared.exact_place.ExactPlace.ExactPlace}
use Rattle.exact_span.specs.declared.span.Span.{Span}
use Rattle.frame_header.specs.{Fields.ClassFields, Tables.samples_of}
use Rattle.frame_header.specs.declared.version.Version.{Version}
use Rattle.info_header.specs.declared.fields.Info.{Info}
use Rattle.laying.specs.{Laid.{info_laid, LaidPart}, Needs.need_of}
use Rattle.laying.specs.Relaid.{FilePart, silent_lead_in}
use Rattle.seam_laws.proofs.FrameRangeLemmas.{between-needs, range-length, splice_between}
use Rattle.seam_laws.proofs.PieceListLemmas.{Recording}
use Rattle.seam_laws.proofs.PiecePartLemmas.{IsLed, IsUnled, leads, own_frames, own_stream, read}
use Rattle.seam_laws.proofs.PiecePartLemmas.{read-count, read-extension, read-is, ways}
use Rattle.seam_laws.proofs.SeamlessInputLemmas.{brought-many, whole_stream}
use Rattle.seam_laws.specs.PlayedParts.{input_played}
use Rattle.seam_plan.specs.Frames.{SpliceFrame}
use Rattle.seamless_edits.specs.Seamless.{part_brought}
use Rattle.sync_survey.specs.{Faults.SurveyFields, MainData.StreamFrame}

-- ---- the first and the last frame of a span

-- the first frame of a span
pub first-is : (class : ClassFields) (p q : ℕ) {span : Span} → span_of class p q ≡ span
    → span.first ≡ warm_up_frame (samples_in class) p
unfolding span_of
first-is class p q is = sym (ap (λ (t : Span). t.first) is)

-- the frame after the last frame of a span
pub last-is : (class : ClassFields) (p q : ℕ) {span : Span} → span_of class p q ≡ span
    → span.last ≡ frames_before (samples_in class) q
unfolding span_of
last-is class p q is = sym (ap (λ (t : Span). t.last) is)

-- a span begins no later than its first position
pub first-before : (v : Version) (p : ℕ) → warm_up_frame (samples_of v) p * samples_of v ≤ p
first-before v p = grind arith

-- it begins earlier, if that isn't the first position of all
pub first-early : (v : Version) {p : ℕ} → 0 < p → warm_up_frame (samples_of v) p * samples_of v < p
first-early v some = grind arith

-- a span ends no earlier than its last position
pub last-behind : (v : Version) (q : ℕ) → q ≤ frames_before (samples_of v) q * samples_of v
last-behind v q = grind arith

-- a later span begins no earlier
pub first-rises : (v : Version) {p q : ℕ} → p ≤ q
    → warm_up_frame (samples_of v) p ≤ warm_up_frame (samples_of v) q
first-rises v later = grind arith

-- a later span ends no earlier
pub last-rises : (v : Version) {p q : ℕ} → p ≤ q
    → frames_before (samples_of v) p ≤ frames_before (samples_of v) q
last-rises v later = grind arith

-- ---- one piece

module _ {file : List ℕ} {s : SurveyFields} (r : Recording file s) where
  -- the splice between two numbers has as many frames as their difference
  pub splice-many : (i : ℕ) {j : ℕ} → j ≤ length (own r).frames
      → length (splice_between file (own r) i j) ≡ j - i
  splice-many i {j} within =
      let splice = splice_between file (own r) i j in
      sym (length-map splice (λ (f : SpliceFrame). f.need))
      ∙ ap length (between-needs (has-own r) i j)
      ∙ length-map (slice_range (own r).frames i j) need_of
      ∙ range-length (own r).frames i within

  -- a head that describes the span between two places
  -- plays its samples where the recording has them
  pub places-of : {from to : ExactPlace} → IsFound r from to → {many : ℕ} {fields : Info}
      → AreLeads (span r from to) many
      → IsPieceHead s.class many (span r from to) fields
      → KeepsPlaces s.class many (span r from to).first (sample r from) (sample r to)
      (played_of (Some fields) s.class (many + ((span r from to).last - (span r from to).first)))
      (input_played file s)
  places-of found are is = grind (arith, sample, places-kept)

  module _ {from to : ExactPlace} {p : FilePart}
      (at : IsExact r from to p) where
    abbrev t : Span
    t = span r from to

    abbrev info : Info
    info = info_laid (laid r t) file (own r)

    abbrev many : ℕ
    many = leads at.piece

    -- what is laid plays the samples of the span
    plays : PlaysItsSamples (head r) s (sample r from) (sample r to) t many info
    plays =
        subst (λ (l : LaidPart).
        PlaysItsSamples (head r) s (sample r from) (sample r to) t
        (span_lead_ins t l.placed) (info_laid l file (own r)))
        (piece-is r at.there.there)
        (pieces-play file s from to t r.has at.there.found)

    -- the lead-ins are those that the span must have
    pub leads-are : AreLeads t many
    leads-are = plays.leads

    count-small : many + (t.last - t.first) < 256 ^ 4
    count-small =
        omega (
          arith,
          plays.leads.one,
          (inside r at.there.there).within,
          survey_without_head-length s,
          r.few,
        )

    -- what is read of the head describes the span
    pub read-head : IsPieceHead s.class many t (read at.piece)
    read-head = record {
      frames = read-count at.piece plays.head.frames count-small;
      numbers =
          subst (SaysNumbers (delay_of s.class many t) (padding_of t))
          (sym (read-extension at.piece))
          plays.head.numbers;
    }

    -- the samples are played where the recording has them
    pub kept : KeepsPlaces s.class many t.first (sample r from) (sample r to)
        (played_of (Some (read at.piece)) s.class (many + (t.last - t.first))) (input_played file s)
    kept = places-of at.there leads-are read-head

    abbrev pub all : List SpliceFrame
    all = all_splice r

    abbrev pub start : ℕ
    start = position r from

    abbrev pub end : ℕ
    end = position r to

    -- The input is the span, and its stream is its lead-ins and then the frames of the span.
    pub record HasSpan : Type 0 where
      pub spans : IsSpanOf s.class all start end (part_brought p)
      pub from_is : spans.from ≡ t.first
      pub to_is : spans.to ≡ t.last
      pub many_is : length spans.lead_ins ≡ many
      pub leads : List StreamFrame
      pub stream_is : whole_stream at.piece.is ≡ leads ++ own_stream at.piece
      pub same : length leads ≡ length spans.lead_ins

    module _ (lead_ins : List SpliceFrame)
        (frames_are : (part_brought p).frames ≡ lead_ins ++ own_frames at.piece)
        (empty : AreEmptyFrames lead_ins) (same : length lead_ins ≡ many) where
      -- the head of the input counts what is played by it
      pub counted : (part_brought p).played
          ≡ Some (played_of (Some (read at.piece)) s.class (many + (t.last - t.first)))
      counted =
          let count = sym (brought-many at.piece.is)
          ∙ ap length frames_are
          ∙ length-append lead_ins (own_frames at.piece)
          ∙ ap₂ (λ m n. m + n) same (splice-many t.first (inside r at.there.there).within) in
          ap (λ h. counted_positions h p.survey.class (length p.survey.frames)) (read-is at.piece)
          ∙ ap₂ (λ (d : ClassFields) (n : ℕ). counted_positions (Some (read at.piece)) d n)
          at.piece.is.of_class count
          ∙ counted-is
          (many + (t.last - t.first)) at.there.there.some
          read-head

      -- an input with these lead-ins is a span of the recording
      abbrev pub span-by : IsSpanOf s.class all start end (part_brought p)
      span-by =
          let first = first-is s.class start end refl in
          let last = last-is s.class start end refl in
          record {
            lead_ins = lead_ins;
            from = t.first;
            to = t.last;
            frames_are =
                frames_are
                ∙ ap (lead_ins ++◌) (sym (all-range r t.first t.last));
            some = at.there.there.some;
            within = subst (λ n. t.last ≤ n) (sym (all-many r)) (inside r at.there.there).within;
            empty = empty;
            played = played_of (Some (read at.piece)) s.class (many + (t.last - t.first));
            counted = counted;
            start = kept.start ∙ ap (λ n. start + n * samples_in s.class) (sym same);
            ended = kept.end ∙ ap (λ n. end + n * samples_in s.class) (sym same);
            before =
                subst (λ n. n * samples_in s.class ≤ start) (sym first)
                (first-before s.class.version start);
            behind =
                subst (λ n. end ≤ n * samples_in s.class) (sym last)
                (last-behind s.class.version end);
          }

    -- the input is the span, without a lead-in
    abbrev pub has-own-span : IsUnled at.piece → HasSpan
    has-own-span own = record {
      spans = span-by [] own.brings.frames_are tt (sym own.none);
      from_is = refl;
      to_is = refl;
      many_is = sym own.none;
      leads = [];
      stream_is = own.brings.stream_is;
      same = refl;
    }

    -- the input is the span, after a lead-in
    abbrev pub has-led-span : IsLed at.piece → HasSpan
    has-led-span led = record {
      spans =
          span-by (led.brings.lead_in ∷ []) led.brings.frames_are (led.brings.empty, tt)
          (sym led.one);
      from_is = refl;
      to_is = refl;
      many_is = sym led.one;
      leads = silent_lead_in led.brings.first ∷ [];
      stream_is = led.brings.stream_is;
      same = refl;
    }

    -- the input is the span, in both ways
    pub has-span : HasSpan
    has-span =
        elim (ways at.piece) [
          | inl own ↦ has-own-span own
          | inr led ↦ has-led-span led
        ]
