-- Exact pieces: the frames of their spans are there, and the file of a piece holds the stream that
-- the command says.
use Rattle.std.proofs.Common.{ap, arith, Bool, cond, Err, length, List, None, Ok, Option, refl}
use Rattle.std.proofs.Common.{Result, rules, Some, subst, sym, ℕ, [], ◌&&◌, ◌*◌, ◌+◌, ◌∙◌, ◌≡◌}
use Rattle.std.specs.Prelude.{IfErr, IfSome, nat_le, nat_lt, slice_get, ◌<◌, ◌≤◌}
use Rattle.bit_fields.specs.Bits.{AreBytes}
use Rattle.commands.proofs.InputLemmas.{file_makes, file_proper, IsProperMaking}
use Rattle.commands.proofs.RefusingLemmas.{refusal_or-late, refusal_or-ok, then_late, then_ok}
use Rattle.commands.specs.{AfterCall.IsLateFault, Refusing.then_made}
use Rattle.commands.specs.SingleOutput.{IsMaking, IsProperTask, most_frames}
use Rattle.commands.specs.declared.fault.{EditFault.EditFault, Refusal.Refusal}
use Rattle.commands.specs.declared.fault.Refusal.TheVariants.{Span as NoSpan}
use Rattle.cut_edits.proofs.ChosenLemmas.{head-extension}
use Rattle.cut_edits.proofs.HeadLemmas.{survey_without_head-had, survey_without_head-length}
use Rattle.cut_edits.proofs.{HeadLemmas.survey_without_head-placed, SealedLemmas.for-whole}
use Rattle.cut_edits.{proofs.SpanLemmas.with-fitting, specs.Chosen.Chosen}
use Rattle.cut_edits.specs.Exact.{exact_making, exact_part, exact_refuses, exact_stream}
use Rattle.cut_edits.specs.Exact.{exact_stream_or_none, exact_surveyed_stream, exact_task}
use Rattle.cut_edits.specs.Exact.{file_span, IsSpanIn, quality_of, row_sealed_part, span_part}
use Rattle.cut_edits.specs.Exact.{span_piece, survey_without_head}
use Rattle.exact_span.proofs.ExtensionLemmas.{extension-length}
use Rattle.exact_span.proofs.{PlayedLemmas.{played-within, spans-fit}, SealLemmas.sealed-whole}
use Rattle.exact_span.specs.Places.{sample_at}
use Rattle.exact_span.specs.PlayedPositions.{length_of_played, played_of, samples_in}
use Rattle.exact_span.specs.{Spans.{AreLeads, span_of}, declared.exact_place.ExactPlace.ExactPlace}
use Rattle.exact_span.specs.declared.span.Span.{Span}
use Rattle.frame_header.specs.{Fields.ClassFields, Tables.{samples_of, window_of}}
use Rattle.frame_header.specs.declared.version.Version.{Version}
use Rattle.info_header.specs.declared.fields.Info.{Info}
use Rattle.laying.proofs.{LaidLemmas.{first-there, laid-holds}, SurveyFrameLemmas.survey-had}
use Rattle.laying.specs.{Fits.IsFittingPlan, KeptFields.fields_of_head}
use Rattle.laying.specs.Laid.{file_laid, frames_laid, LaidPart, needs_laid, stream_laid}
use Rattle.laying.specs.Surveys.{CanBeRelaid}
use Rattle.outside.specs.Files.{Files, Holds, IsFileThere}
use Rattle.sync_survey.specs.{Faults.{HoldsStream, SurveyFields}, Row.Row, Survey.survey_of}
use Rattle.sync_survey.specs.declared.{places.Head.Head, survey_fault.SurveyFault.SurveyFault}

-- ---- the span

abbrev no_fault : Option Refusal
no_fault = None

-- samples that aren't refused are at least one, and within the file
pub samples_there : {a b samples : ℕ} {test : Bool} → (nat_lt a b && nat_le b samples) ≡ test
    → cond test None (Some (NoSpan a b samples)) ≡ no_fault → (a < b) × (b ≤ samples)
samples_there is e = grind arith

most_by : (version : Version) {frames end : ℕ} → end ≤ frames * samples_of version
    → frames ≤ most_frames → end ≤ most_frames * samples_of version
most_by version within few = grind arith

-- no played position is after the last frame that a file may have
pub played-most : (head : Option Info) (class : ClassFields) {frames : ℕ} → frames ≤ most_frames
    → (played_of head class frames).end ≤ most_frames * samples_in class
played-most head class few = grind (arith, most_by, played-within)

-- the frames of the span are there
pub span-there : (from to : ExactPlace) (head : Option Info) {s : SurveyFields} {span : Span}
    → file_span from to head s ≡ Ok span → IsSpanIn s span
unfolding file_span
span-there from to head {s} {span} e =
    let played = played_of head s.class (length s.frames) in
    let samples = length_of_played played in
    let a = sample_at s.class samples from in
    let b = sample_at s.class samples to in
    let ok = refusal_or-ok e in
    let there = samples_there refl ok.0 in
    let one : AreLeads (span_of s.class (played.start + a) (played.start + b)) 1 = grind arith in
    let fits = spans-fit head s.class (length s.frames) a b 1
    (record { some = there.0; most = there.1 }) one in
    subst (IsSpanIn s) ok.1
    (record {
      is = record {
        p = played.start + a;
        q = played.start + b;
        some = omega (arith, there.0);
        is = refl;
      };
      some = fits.some;
      within = fits.most;
    })

-- ---- the piece

abbrev pub span_chosen : Option Info → Span → Chosen
span_chosen head span =
    record { from = span.first; to = span.last; quality = quality_of head; extension = [] }

-- the extension of a head has 36 bytes
pub head_long : (file : List ℕ) (head : Option Head)
    → IfSome (fields_of_head file head) (λ (i : Info). length i.extension ≡ 36)
head_long file head = search (rules, head-extension)

-- a span stays within the file when the head is set apart
pub span-survey_without_head : {s : SurveyFields} {span : Span} → IsSpanIn s span
    → IsSpanIn (survey_without_head s) span
span-survey_without_head is = grind (arith, is, survey_without_head-length)

-- a file without fault can be relaid once its head is set apart
pub survey_without_head-relaid : {file : List ℕ} {s : SurveyFields}
    → survey_of file most_frames ≡ Ok s → CanBeRelaid file (survey_without_head s)
survey_without_head-relaid {file} {s} is = let had = survey-had most_frames is in
    survey_without_head-had had (survey_without_head-placed s had.placed)

-- what is laid of a span holds its stream
module _ (head : Option Info) (long : IfSome head (λ (i : Info). length i.extension ≡ 36))
    {span : Span} {file : List ℕ} {s : SurveyFields} (is : CanBeRelaid file s)
    (there : IsSpanIn s span) where
  abbrev plain : LaidPart
  plain = span_part head span s

  -- the extension with delay and padding has 36 bytes
  pub plain-long : length plain.extension ≡ 36
  plain-long = grind (arith, extension-length, span)

  piece_fits : IsFittingPlan (window_of s.class.version) (needs_laid plain s) plain.placed
  piece_fits = with-fitting (span_chosen head span) s is.placed there.some there.within span.led

  sealed_long : (first : Row) → length (row_sealed_part (Some first) plain file s).extension ≡ 36
  sealed_long first =
      (sealed-whole first.header (for-whole s.class
      (frames_laid plain file s) plain.quality plain-long)).extension

  -- the span has a first frame, so what holds of every part that is sealed holds of the piece
  piece_all : (P : LaidPart → Type 0)
      → ((first : Row) → P (row_sealed_part (Some first) plain file s))
      → P (span_piece head span file s)
  unfolding span_piece
  piece_all P sealed = at (slice_get s.frames span.first) refl
    where
      at : (o : Option Row) → slice_get s.frames span.first ≡ o → P (row_sealed_part o plain file s)
      at None found = let some =
          (first-there s.frames span.first (omega (arith, there.some, there.within))).1 in absurd cc
      at (Some first) found = sealed first

  -- the file of the piece holds its stream
  pub piece-holds : HoldsStream (file_laid (span_piece head span file s) file s)
      (stream_laid (span_piece head span file s) file s)
  piece-holds = piece_all (λ l. HoldsStream (file_laid l file s) (stream_laid l file s))
      (λ first. laid-holds (row_sealed_part (Some first) plain file s) is
      there.some there.within piece_fits (sealed_long first))

-- ---- the command

module _ (from to : ExactPlace) where
  late : (file : List ℕ) (s : SurveyFields) → IfErr (exact_making from to file s) IsLateFault
  unfolding exact_part file_span
  late file s = grind (arith, then_late, refusal_or-late)

  -- what is made, given its steps
  pub record IsPieceBy (file : List ℕ) (s : SurveyFields) (made : List ℕ) : Type 0 where
    pub span : Span
    pub span_is : file_span from to (fields_of_head file s.head) s ≡ Ok span
    pub laid : exact_part from to file s
        ≡ Ok (span_piece (fields_of_head file s.head) span file (survey_without_head s))
    pub is : file_laid (span_piece (fields_of_head file s.head) span file (survey_without_head s))
        file (survey_without_head s)
        ≡ made

  -- a piece that was made has a span, and is made from it
  pub piece-parts : {file : List ℕ} {s : SurveyFields} {made : List ℕ}
      → exact_making from to file s ≡ Ok made → IsPieceBy file s made
  unfolding exact_part
  piece-parts {file} {s} {made} e =
      let head = fields_of_head file s.head in
      let whole =
      then_ok e in
      let chose = then_ok whole.1 in
      let same : span_piece head chose.0 file (survey_without_head s) ≡ whole.0 = cc in
      let bytes : file_laid whole.0 file (survey_without_head s) ≡ made = cc in
      record {
        span = chose.0;
        span_is = chose.1;
        laid = whole.1 ∙ ap Ok (sym same);
        is = grind arith;
      }

  -- what is made of the span, or why none is found
  abbrev made_by : List ℕ → SurveyFields → Result Span EditFault → Result (List ℕ) EditFault
  made_by file s r =
      let head = fields_of_head file s.head in
      then_made
      (then_made r (λ span. Ok (span_piece head span file (survey_without_head s))))
      (λ laid. Ok (file_laid laid file (survey_without_head s)))

  -- the piece of a span that was found is made
  pub exact-is : (file : List ℕ) (s : SurveyFields) {span : Span}
      → file_span from to (fields_of_head file s.head) s ≡ Ok span → exact_making from to file s
      ≡ Ok (file_laid (span_piece (fields_of_head file s.head) span file (survey_without_head s))
      file (survey_without_head s))
  unfolding exact_part
  exact-is file s found = ap (made_by file s) found

  -- if no piece is made, no span was found
  pub exact-refused : (file : List ℕ) (s : SurveyFields) {fault : EditFault}
      → file_span from to (fields_of_head file s.head) s ≡ Err fault
      → exact_making from to file s ≡ Err fault
  unfolding exact_part
  exact-refused file s found = ap (made_by file s) found

  made_stream : {file : List ℕ} {s : SurveyFields} {made : List ℕ}
      → survey_of file most_frames ≡ Ok s → IsPieceBy file s made
      → HoldsStream made (exact_stream_or_none file s (exact_part from to file s))
  made_stream {file} {s} {made} is by =
      let head = fields_of_head file s.head in
      let piece = span_piece head by.span file (survey_without_head s) in
      let had = survey_without_head-relaid is in
      subst (λ (r : Result LaidPart EditFault). HoldsStream made (exact_stream_or_none file s r))
      (sym by.laid)
      (subst (λ (n : List ℕ). HoldsStream n (stream_laid piece file (survey_without_head s))) by.is
      (piece-holds head (head_long file s.head) had
      (span-survey_without_head (span-there from to head by.span_is))))

  proper : IsProperMaking (exact_making from to) (exact_stream from to)
  proper = record {
    late = late;
    streams = λ file s new all is made.
        subst (λ (r : Result SurveyFields SurveyFault). HoldsStream new
        (exact_surveyed_stream from to file r))
        (sym is) (made_stream is (piece-parts made));
  }

  -- the command is proper
  pub exact-proper : (input : List ℕ) → IsProperTask (exact_task from to input)
  exact-proper input = search (arith, file_proper, proper)

  -- what was laid of the span is what the command makes
  pub exact-makes : {input : List ℕ} {s : SurveyFields} {span : Span} {laid : LaidPart}
      {files : Files} → IsFileThere files input
      → ((bytes : List ℕ) → Holds files input bytes → survey_of bytes most_frames ≡ Ok s)
      → ((bytes : List ℕ) → Holds files input bytes → AreBytes bytes) → ((bytes : List ℕ)
      → Holds files input bytes → file_span from to (fields_of_head bytes s.head) s ≡ Ok span)
      → ((bytes : List ℕ) → Holds files input bytes
      → laid ≡ span_piece (fields_of_head bytes s.head) span bytes (survey_without_head s))
      → IsMaking (exact_task from to input)
      (λ file. file_laid laid file (survey_without_head s)) files
  exact-makes {input} {s} {span} {laid} {files} there surveyed
      octets found is =
      file_makes (exact_making from to)
      (exact_stream from to) exact_refuses input there surveyed octets
      (λ bytes holds. exact-is bytes s (found bytes holds)
      ∙ ap (λ (l : LaidPart). Ok (file_laid l bytes (survey_without_head s)))
      (sym (is bytes holds)))
