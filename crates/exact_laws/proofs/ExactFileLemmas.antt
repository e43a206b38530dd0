-- What is laid of a span, as a piece of the recording whose head is set apart.
use Rattle.std.proofs.Common.{ap, arith, IsTrue, length, List, map, None, Ok, Option, refl, Some}
use Rattle.std.proofs.Common.{subst, sym, true, ℕ, ◌&&◌, ◌+◌, ◌<◌, ◌∙◌, ◌≡◌, ◌≤◌}
use Rattle.std.proofs.lemmas.Bool.{and_from, le-leb, lt-ltb}
use Rattle.std.proofs.lemmas.List.{drop-map, length-map, take-map}
use Rattle.std.specs.Prelude.{if◌then◌else◌, slice_get, slice_range}
use Rattle.commands.proofs.RefusingLemmas.{refusal_or-ok, then_ok}
use Rattle.cut_edits.proofs.ChosenLemmas.{IsRight}
use Rattle.cut_edits.proofs.HeadLemmas.{survey_without_head-had, survey_without_head-placed}
use Rattle.cut_edits.proofs.PieceLemmas.{head_long, plain-long, samples_there}
use Rattle.cut_edits.proofs.PieceLemmas.{span-survey_without_head, span-there}
use Rattle.cut_edits.{proofs.SealedLemmas.for-whole, specs.Chosen.Chosen}
use Rattle.cut_edits.specs.Exact.{exact_part, file_span, IsSpanIn, quality_of, row_sealed_part}
use Rattle.cut_edits.specs.Exact.{span_part, span_piece, survey_without_head}
use Rattle.exact_span.proofs.SealLemmas.{sealed-whole}
use Rattle.exact_span.specs.Extensions.{counts_of, counts_with_frames, delay_in, has_encoder}
use Rattle.exact_span.specs.{Extensions.padding_in, Laws.IsPieceHead}
use Rattle.exact_span.specs.PlayedPositions.{counted_positions, length_of_played, played_of}
use Rattle.exact_span.specs.{Spans.span_of, TagWord.sealed_info}
use Rattle.exact_span.specs.declared.exact_place.ExactPlace.{ExactPlace}
use Rattle.exact_span.specs.declared.{extensions.HeadCounts.HeadCounts, span.Span.Span}
use Rattle.frame_header.specs.Fields.{ClassFields}
use Rattle.info_header.specs.declared.fields.Info.{Info}
use Rattle.laying.proofs.{LaidLemmas.first-there, PlacesLemmas.range-whole}
use Rattle.laying.specs.{KeptFields.fields_of_head, Laid.{frames_laid, info_laid, LaidPart}}
use Rattle.laying.specs.{Needs.need_of, Relaid.FilePart, Surveys.CanBeRelaid}
use Rattle.seam_laws.proofs.FrameRangeLemmas.{all_stream, between-needs, between-sounds}
use Rattle.seam_laws.proofs.FrameRangeLemmas.{splice_between, stream-many}
use Rattle.seam_laws.proofs.LaidInputLemmas.{frames-same}
use Rattle.seam_laws.proofs.PieceListLemmas.{AreAt, Cuts, IsAt, IsLaidAs, Recording}
use Rattle.seam_laws.proofs.PiecePartLemmas.{laid_piece}
use Rattle.seam_laws.specs.PlayedParts.{input_played, sample_named}
use Rattle.seam_plan.{proofs.FollowLemmas.sounds, specs.Frames.{needs_of, SpliceFrame}}
use Rattle.seamless_edits.specs.Seamless.{sound_of}
use Rattle.sync_survey.specs.{Faults.SurveyFields, Row.Row}

-- ---- heads that count

counts-there : (fields : Info) {many : ℕ} → fields.frames ≡ Some many → 1 ≤ many
    → IsTrue (has_encoder fields.extension)
    → (counts : HeadCounts) × (counts_of (Some fields) ≡ Some counts)
counts-there fields {many} is some encoder =
    let counts : HeadCounts =
    record {
      frames = many;
      delay = delay_in fields.extension;
      padding = padding_in fields.extension;
    } in (
      counts,
      ap (counts_with_frames fields) is
          ∙ ap (λ b. if b && has_encoder fields.extension then Some counts else None)
          (le-leb 1 many some)
          ∙ ap (λ b. if true && b then Some counts else None) encoder,
    )

-- a head of a span counts what is played by it
pub counted-is : {class : ClassFields} {leads : ℕ} {span : Span} {fields : Info} (frames : ℕ)
    → span.first < span.last → IsPieceHead class leads span fields
    → counted_positions (Some fields) class frames ≡ Some (played_of (Some fields) class frames)
unfolding counted_positions played_of
counted-is frames some is = grind (arith, counts-there, some)

-- ---- a span of the recording

module _ {file : List ℕ} {s : SurveyFields} (r : Recording file s) where
  abbrev pub head : Option Info
  head = fields_of_head file s.head

  -- the survey whose head is set apart
  abbrev pub own : SurveyFields
  own = survey_without_head s

  -- frames can be laid by this survey
  pub has-own : CanBeRelaid file own
  has-own = survey_without_head-had r.has (survey_without_head-placed s r.has.placed)

  -- the number of the sample that a place names
  abbrev pub sample : ExactPlace → ℕ
  sample place = sample_named file s place

  -- its position in the recording
  abbrev pub position : ExactPlace → ℕ
  position place = (input_played file s).start + sample place

  -- the span between two places
  abbrev pub span : ExactPlace → ExactPlace → Span
  span from to = span_of s.class (position from) (position to)

  -- what is laid of a span, but for music length and tag CRC
  abbrev pub plain : Span → LaidPart
  plain span = span_part head span own

  -- the frames of a span, and the fields of the Info frame of its piece
  abbrev pub choice : Span → Chosen
  choice span = record {
    from = span.first;
    to = span.last;
    quality = quality_of head;
    extension = (span_piece head span file own).extension;
  }

  -- what is laid of a span
  abbrev pub laid : Span → LaidPart
  laid span = laid_piece span.led (choice span) own

  -- there is a sample between two places, all are played, and the frames of their span are there
  pub record IsFound (from to : ExactPlace) : Type 0 where
    pub some : sample from < sample to
    pub within : sample to ≤ length_of_played (input_played file s)
    pub there : IsSpanIn s (span from to)
    pub found : file_span from to head s ≡ Ok (span from to)

  -- the pieces of an exact split: the frames of the span between two places
  abbrev pub exact_cuts : Cuts ExactPlace
  exact_cuts = record {
    led = λ from to. (span from to).led;
    chosen = λ from to. choice (span from to);
    IsThere = IsFound;
  }

  -- the part is the piece between two places
  abbrev pub IsExact : ExactPlace → ExactPlace → FilePart → Type 0
  IsExact from to p = IsAt exact_cuts file own s.class from to p

  -- these parts are the pieces between these places
  abbrev pub AreExact : ExactPlace → List ExactPlace → List FilePart → Type 0
  AreExact from tos parts = AreAt exact_cuts file own s.class from tos parts

  -- a span that is found
  pub span-found : {from to : ExactPlace} {found : Span} → file_span from to head s ≡ Ok found
      → IsFound from to × (span from to ≡ found)
  unfolding file_span
  span-found {from} {to} {found} e =
      let samples = length_of_played (input_played file s) in
      let ok = refusal_or-ok
      e in
      let inside =
      samples_there refl ok.0 in (
        record {
          some = inside.0;
          within = inside.1;
          there = subst (IsSpanIn s) (sym ok.1) (span-there from to head e);
          found = e ∙ ap Ok (sym ok.1);
        },
        ok.1,
      )

  -- two places whose samples rise and are played have a span
  pub span-of-places : {from to : ExactPlace} → sample from < sample to
      → sample to ≤ length_of_played (input_played file s) → IsFound from to
  unfolding file_span
  span-of-places {from} {to} some most =
      let e : file_span from to head s ≡ Ok (span from to) =
      grind (arith, sample, position, and_from, lt-ltb, le-leb) in
      (span-found e).0

  module _ {span : Span} (there : IsSpanIn s span) where
    -- the frames of the span are there when the head is set apart
    pub inside : IsSpanIn own span
    inside = span-survey_without_head there

    -- the piece by the row of its first frame
    pub piece-by : {row : Row} → slice_get own.frames span.first ≡ Some row
        → span_piece head span file own
        ≡ record (plain span) {
          extension = (sealed_info row.header (info_laid (plain span) file own)).extension;
        }
    unfolding span_piece
    piece-by found = ap (λ o. row_sealed_part o (plain span) file own) found

    first-row : (row : Row) × (slice_get own.frames span.first ≡ Some row)
    first-row = first-there own.frames span.first (omega (arith, inside.some, inside.within))

    -- it is what is laid of the span
    pub piece-is : span_piece head span file own ≡ laid span
    piece-is =
        let by = piece-by first-row.1 in
        grind (arith, by)

    -- what is laid of the span can be laid
    pub span-right : IsRight (choice span) own
    span-right = record {
      some = inside.some;
      within = inside.within;
      extension =
          ap (λ (l : LaidPart). length l.extension) (piece-by first-row.1)
          ∙ (sealed-whole first-row.0.header
          (for-whole s.class (frames_laid (plain span) file own) (plain span).quality
          (plain-long head (head_long file s.head) has-own inside))).extension;
    }

  -- what is cut exactly from one place to another is their piece
  pub exact-laid : (from to : ExactPlace) (l : LaidPart) → exact_part from to file s ≡ Ok l
      → IsLaidAs exact_cuts file own from to l
  unfolding exact_part
  exact-laid from to l e =
      let one =
      then_ok e in
      let found = span-found one.1 in
      let same : span_piece head one.0 file own ≡ l = cc in
      record {
        there = found.0;
        right = span-right found.0.there;
        is =
            sym same ∙ ap (λ sp. span_piece head sp file own) (sym found.1)
            ∙ piece-is found.0.there;
      }

  -- ---- the frames of the recording

  -- all frames of the recording, as frames of a splice
  abbrev pub all_splice : List SpliceFrame
  all_splice = splice_between file own 0 (length own.frames)

  range-map : {X Y : Type 0} (f : X → Y) (from to : ℕ) (xs : List X)
      → map f (slice_range xs from to) ≡ slice_range (map f xs) from to
  range-map f from to xs = grind (arith, drop-map, take-map)

  all-needs : needs_of all_splice ≡ map need_of own.frames
  all-needs =
      between-needs has-own 0 (length own.frames)
      ∙ ap (map need_of) (range-whole own.frames)

  all-sounds : sounds all_splice ≡ map (sound_of s.class) (all_stream file own)
  all-sounds =
      between-sounds has-own 0 (length own.frames)
      ∙ ap (λ n. map (sound_of s.class) (slice_range (all_stream file own) 0 n))
      (sym (stream-many has-own))
      ∙ ap (map (sound_of s.class)) (range-whole (all_stream file own))

  -- the splice has a frame for each frame of the recording
  pub all-many : length all_splice ≡ length own.frames
  all-many = grind (arith, length-map, all-needs)

  -- a range of these frames is the splice between the two numbers
  pub all-range : (i j : ℕ) → slice_range all_splice i j ≡ splice_between file own i j
  all-range i j =
      grind (
        arith,
        frames-same,
        range-map,
        all-needs,
        own.frames,
        between-needs,
        has-own,
        all-sounds,
        s.class,
        between-sounds,
      )
