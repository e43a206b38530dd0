-- Exact pieces: the frames of their spans, by the survey whose head is set apart.
use Rattle.std.proofs.Common.{arith, Bool, false, inl, length, List, None, Ok, Option, refl, subst}
use Rattle.std.{proofs.Common.{sym, true, ℕ, [], ◌+◌, ◌∷◌, ◌≡◌}, specs.Prelude.slice_range}
use Rattle.chosen_streams.proofs.CaseLemmas.{had-exact, had-part}
use Rattle.chosen_streams.proofs.ExactLemmas.{IsSized, led-exact, part-sized}
use Rattle.chosen_streams.specs.{Exact.IsExactly, Laws.HoldsChosen}
use Rattle.command_table.specs.Chosen.{file_bytes_of, frames_needed, span_frames}
use Rattle.commands.proofs.{MadeLemmas.{made-of, makes-parts}, RefusingLemmas.refusal_or-ok}
use Rattle.commands.specs.SingleOutput.{most_frames}
use Rattle.cut_edits.proofs.PieceLemmas.{piece-parts, span-survey_without_head, span-there}
use Rattle.cut_edits.proofs.{PieceLemmas.survey_without_head-relaid, SpanLemmas.led-is}
use Rattle.cut_edits.specs.Chosen.{Chosen, chosen_file_part, chosen_needs}
use Rattle.cut_edits.specs.Exact.{exact_making, exact_task, file_span, IsSpanIn, row_sealed_part}
use Rattle.cut_edits.specs.Exact.{span_needs, span_piece, span_plan, survey_without_head}
use Rattle.exact_span.specs.{Places.sample_at, PlayedPositions.{length_of_played, played_of}}
use Rattle.exact_span.specs.{Spans.span_of, declared.exact_place.ExactPlace.ExactPlace}
use Rattle.exact_span.specs.declared.{played.Played.Played, span.Span.Span}
use Rattle.frame_header.specs.{Slots.all_slots, Tables.{class_of, window_of}}
use Rattle.info_header.specs.declared.fields.Info.{Info}
use Rattle.job_words.specs.Request.{CutExact}
use Rattle.laying.specs.{KeptFields.fields_of_head, Laid.{LaidPart, stream_laid}}
use Rattle.laying.specs.{NeedsFit.own_choice, Relaid.{part_stream, stream_with_lead_ins}}
use Rattle.laying.specs.Surveys.{CanBeRelaid}
use Rattle.slot_plan.specs.{LeastPlan.led_plan, Parts.{lead_in_item, led_items}, Plans.AreItemSlots}
use Rattle.slot_plan.specs.declared.needs.{Need.Need, Placed.Placed}
use Rattle.sync_survey.proofs.SurveyPartsLemmas.{survey_fields-allowed}
use Rattle.sync_survey.proofs.SurveyedFileLemmas.{survey_of-parts}
use Rattle.sync_survey.specs.{Faults.{stream_of_survey, SurveyFields}, MainData.StreamFrame}
use Rattle.sync_survey.specs.{Row.Row, Survey.survey_of}

-- ---- in the slots of their plan

-- frames after a lead-in
led-frames : (needs : List Need) {fs : List StreamFrame} (placed : List Placed) → IsSized needs fs
    → AreItemSlots (led_items own_choice needs) placed
    → IsExactly (fs ∷ []) (stream_with_lead_ins placed fs)
unfolding led_items
led-frames [] placed sized for_items = absurd (omega (arith, sized.some))
led-frames (first ∷ needs) {fs} placed sized for_items = led-exact own_choice (first ∷ needs)
    (lead_in_item (class_of first.header) all_slots) refl fs placed sized for_items

-- the frames of a span as a choice
abbrev frames_chosen : Span → Chosen
frames_chosen span = record { from = span.first; to = span.last; quality = None; extension = [] }

module _ {span : Span} {file : List ℕ} {s : SurveyFields} (had : CanBeRelaid file s)
    (there : IsSpanIn s span) where
  abbrev chosen : Chosen
  chosen = frames_chosen span

  abbrev fs : List StreamFrame
  fs = part_stream (chosen_file_part chosen file s)

  span-exact : (led : Bool)
      → IsExactly (fs ∷ []) (stream_with_lead_ins (span_plan led s.class (span_needs span s)) fs)
  span-exact false = had-exact chosen had there.some there.within (inl refl)
  span-exact true =
      let needs = chosen_needs chosen s in
      let plan = led_plan (window_of s.class.version) own_choice needs in
      led-frames needs plan (part-sized
      (had-part chosen had there.some there.within))
      ((led-is chosen s had.placed there.some there.within plan).1 refl).slots

  -- music length and tag CRC leave the stream as it is
  sealed-stream : (o : Option Row) (laid : LaidPart)
      → stream_laid (row_sealed_part o laid file s) file s ≡ stream_laid laid file s
  sealed-stream o laid = grind arith

  -- the stream of a piece is exactly the frames of its span
  pub piece-exact : (head : Option Info)
      → IsExactly (slice_range (stream_of_survey file s) span.first span.last ∷ [])
      (stream_laid (span_piece head span file s) file s)
  unfolding span_piece
  piece-exact head = grind (arith, sealed-stream, span-exact)

-- ---- the span of the samples

module _ (from to : ExactPlace) (file : List ℕ) (s : SurveyFields) where
  abbrev head : Option Info
  head = fields_of_head file s.head

  abbrev played : Played
  played = played_of head s.class (length s.frames)

  abbrev number : ExactPlace → ℕ
  number place = sample_at s.class (length_of_played played) place

  span-is : {span : Span} → file_span from to head s ≡ Ok span
      → span_of s.class (played.start + number from) (played.start + number to) ≡ span
  unfolding file_span
  span-is e = grind (arith, refusal_or-ok)

  -- the frames of the job are the frames of the span
  pub frames-are : {span : Span} → file_span from to head s ≡ Ok span → span_frames from to file s
      ≡ slice_range (stream_of_survey file (survey_without_head s)) span.first span.last
  frames-are e = grind (arith, span-is)

  -- the frames of the span are the frames that are needed by the file's survey
  pub needed-is : survey_of file most_frames ≡ Ok s
      → frames_needed from to file ≡ span_frames from to file s
  needed-is is = search (arith, survey_fields-allowed, survey_of-parts)

-- ---- the command

-- an exact cut holds the frames of its span
pub exact-holds : (input : List ℕ) (from to : ExactPlace) (output : List ℕ)
    → HoldsChosen (CutExact input from to output)
exact-holds input from to output files made e =
    let bytes = makes-parts (exact_task from to input) output {files = files} {made = made} e in
    let is = made-of {make = exact_making from to} {files = files} {name = input} {bytes =
    bytes.1} bytes.2 in
    let by = piece-parts from to {file = is.file} {s = is.survey} {made = is.bytes} is.made in
    let head = fields_of_head is.file is.survey.head in
    let own = survey_without_head is.survey in
    let there =
    span-survey_without_head {s = is.survey} {span = by.span}
    (span-there from to head {s = is.survey} {span = by.span} by.span_is) in
    let exact =
    piece-exact
    (survey_without_head-relaid {file = is.file} {s = is.survey} is.surveyed) there head in
    let stream : (exact_task from to input).stream files
    ≡ stream_laid (span_piece head by.span is.file own) is.file own = grind arith in
    let frames : slice_range (stream_of_survey is.file own) by.span.first by.span.last
    ≡ frames_needed from to (file_bytes_of files input) =
    grind (
      arith,
      needed-is from to is.file is.survey is.surveyed,
      frames-are from to is.file
          is.survey {span = by.span} by.span_is,
    ) in (
      subst (λ (l : List StreamFrame). IsExactly (l ∷ []) ((exact_task from to input).stream files))
          frames
          (subst (λ (l : List StreamFrame). IsExactly (slice_range (stream_of_survey is.file own)
          by.span.first by.span.last ∷ []) l) (sym stream) exact),
      tt,
    )
