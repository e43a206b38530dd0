-- Exact pieces: the frames that a decoder needs for some samples of a file, repacked after an Info
-- frame with which players play exactly these.
use Rattle.std.specs.Prelude.{Bool, Err, false, if◌then◌else◌, length, List, map, nat_le, nat_lt}
use Rattle.std.specs.Prelude.{None, Ok, Option, option_and_then, Result, slice_get, slice_range}
use Rattle.std.specs.Prelude.{Some, true, ℕ, [], ◌&&◌, ◌+◌, ◌-◌, ◌<◌, ◌≤◌}
use Rattle.commands.specs.{Command.Command, Refusing.{refusal_or, then_made}}
use Rattle.commands.specs.SingleOutput.{file_task, Making, most_frames, one_command, Task}
use Rattle.commands.specs.declared.fault.{EditFault.EditFault, Refusal.Refusal}
use Rattle.commands.specs.declared.fault.Refusal.TheVariants.{Span as NoSpan}
use Rattle.cut_edits.specs.Chosen.{first_plan}
use Rattle.exact_span.specs.{Extensions.extension_of, Places.sample_at}
use Rattle.exact_span.specs.PlayedPositions.{length_of_played, played_of}
use Rattle.exact_span.specs.{Spans.{delay_of, IsSpan, padding_of, span_of}, TagWord.sealed_info}
use Rattle.exact_span.specs.declared.{exact_place.ExactPlace.ExactPlace, played.Played.Played}
use Rattle.exact_span.specs.declared.span.Span.{Span}
use Rattle.frame_header.specs.{Fields.ClassFields, Tables.window_of}
use Rattle.info_header.specs.declared.fields.Info.{Info}
use Rattle.laying.specs.KeptFields.{fields_of_head}
use Rattle.laying.specs.{Laid.{file_laid, info_laid, LaidPart, stream_laid}, Needs.need_of}
use Rattle.laying.specs.NeedsFit.{own_choice}
use Rattle.slot_plan.specs.{LeastPlan.led_plan, declared.needs.{Need.Need, Placed.Placed}}
use Rattle.sync_survey.specs.{Faults.SurveyFields, HeadApart.{emptied_survey, head_apart}}
use Rattle.sync_survey.specs.{MainData.StreamFrame, Row.Row, Survey.survey_of}
use Rattle.sync_survey.specs.declared.survey_fault.SurveyFault.{SurveyFault}

-- ---- which samples

-- there is no sample from the first number on and before the second, or not all of them are played
abbrev pub samples_fault : ℕ → ℕ → ℕ → Option Refusal
samples_fault a b samples =
    if nat_lt a b && nat_le b samples then None else Some (NoSpan a b samples)

-- the span of the samples from one place to another, if these positions are played
abbrev pub span_between : ClassFields → Played → ExactPlace → ExactPlace → Result Span EditFault
span_between class played from to =
    let samples = length_of_played played in
    let a = sample_at class samples from in
    let b = sample_at class samples to in
    refusal_or (samples_fault a b samples) (span_of class (played.start + a) (played.start + b))

-- the span of the samples in a file with this head and this survey
unfoldable pub file_span : ExactPlace → ExactPlace → Option Info → SurveyFields
    → Result Span EditFault
file_span from to head s = span_between s.class (played_of head s.class (length s.frames)) from to

-- the frames of the span are there
pub record IsSpanIn (s : SurveyFields) (span : Span) : Type 0 where
  pub is : IsSpan s.class span
  pub some : span.first < span.last
  pub within : span.last ≤ length s.frames

-- ---- the stream whose head is set apart

-- The head's area isn't main data here, since players leave the head out: a frame whose main data
-- begin in it is lost too, if every frame before it is silent or lost. Lost frames are written as
-- empty ones, and are empty here.
abbrev pub survey_without_head : SurveyFields → SurveyFields
survey_without_head s = emptied_survey (head_apart s)

-- ---- the piece

-- the needs of the frames of a span
abbrev pub span_needs : Span → SurveyFields → List Need
span_needs span s = map need_of (slice_range s.frames span.first span.last)

-- The plan in their own slots: of all lists the first for which there is a layout. A lead-in comes
-- before them if the span has to have one, otherwise only if there is no layout without.
abbrev pub span_plan : Bool → ClassFields → List Need → List Placed
span_plan led class needs = if led then led_plan (window_of class.version) own_choice needs
    else first_plan own_choice class needs

-- how many lead-ins are among these slots
abbrev pub span_lead_ins : Span → List Placed → ℕ
span_lead_ins span placed = length placed - (span.last - span.first)

-- the quality of the head, if there is one
abbrev pub quality_of : Option Info → Option ℕ
quality_of head = option_and_then (λ (info : Info). info.quality) head

-- the extension for the Info frame: the head's extension with the delay and the padding of the span
abbrev pub span_extension : Option Info → ClassFields → Span → List Placed → List ℕ
span_extension head class span placed =
    extension_of head (delay_of class (span_lead_ins span placed) span) (padding_of span)

-- the frames of a span in their slots, and the fields for their Info frame
abbrev pub span_part : Option Info → Span → SurveyFields → LaidPart
span_part head span s =
    let placed = span_plan span.led s.class (span_needs span s) in
    record {
      from = span.first;
      to = span.last;
      placed = placed;
      quality = quality_of head;
      extension =
          span_extension head s.class span placed;
    }

-- the same part with music length and tag CRC in the extension, given the header of the first
-- chosen frame
abbrev pub row_sealed_part : Option Row → LaidPart → List ℕ → SurveyFields → LaidPart
row_sealed_part None laid file s = laid
row_sealed_part (Some first) laid file s =
    record laid { extension = (sealed_info first.header (info_laid laid file s)).extension }

-- the same part with music length and tag CRC in the extension
abbrev pub sealed_part : LaidPart → List ℕ → SurveyFields → LaidPart
sealed_part laid file s = row_sealed_part (slice_get s.frames laid.from) laid file s

-- the piece of a span, given the survey whose head is set apart
unfoldable pub span_piece : Option Info → Span → List ℕ → SurveyFields → LaidPart
span_piece head span file s = sealed_part (span_part head span s) file s

-- ---- the command

-- what is laid from a file with this survey, or why it is refused
unfoldable pub exact_part : ExactPlace → ExactPlace → List ℕ → SurveyFields
    → Result LaidPart EditFault
exact_part from to file s =
    let head = fields_of_head file s.head in
    then_made (file_span from to head s)
    (λ span. Ok (span_piece head span file (survey_without_head s)))

-- the file of the piece
abbrev pub exact_making : ExactPlace → ExactPlace → Making
exact_making from to file s =
    then_made (exact_part from to file s) (λ laid. Ok (file_laid laid file (survey_without_head s)))

-- its stream: at most one lead-in, and the frames of the span as they are in the stream whose head
-- is set apart
abbrev pub exact_stream_or_none : List ℕ → SurveyFields → Result LaidPart EditFault
    → List StreamFrame
exact_stream_or_none file s (Err fault) = []
exact_stream_or_none file s (Ok laid) = stream_laid laid file (survey_without_head s)

-- the stream of the piece of a file with this survey; empty if the survey has a fault
abbrev pub exact_surveyed_stream : ExactPlace → ExactPlace → List ℕ
    → Result SurveyFields SurveyFault → List StreamFrame
exact_surveyed_stream from to file (Err fault) = []
exact_surveyed_stream from to file (Ok s) = exact_stream_or_none file s (exact_part from to file s)

-- the stream of the piece of a file; empty if the file is refused
abbrev pub exact_stream : ExactPlace → ExactPlace → List ℕ → List StreamFrame
exact_stream from to file = exact_surveyed_stream from to file (survey_of file most_frames)

-- the command may refuse its places
abbrev pub exact_refuses : Refusal → Bool
exact_refuses (NoSpan a b samples) = true
exact_refuses _ = false

-- it makes the piece
abbrev pub exact_task : ExactPlace → ExactPlace → List ℕ → Task
exact_task from to input =
    file_task (exact_making from to) (exact_stream from to) exact_refuses input

-- the output is the piece of the input between two places
abbrev pub exact_command : ExactPlace → ExactPlace → List ℕ → List ℕ → Command
exact_command from to input output = one_command (exact_task from to input) output
