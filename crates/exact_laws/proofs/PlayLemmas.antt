-- From the Info frame of an exact piece, players play exactly the samples of its span.
use Rattle.std.proofs.Common.{ap, arith, Bool, cond, drop, false, length, List, None, Option, refl}
use Rattle.std.proofs.Common.{Some, subst, sym, take, true, ℕ, ◌&&◌, ◌+◌, ◌-◌, ◌≡◌}
use Rattle.std.proofs.lemmas.Bool.{and_parts, leb-true}
use Rattle.std.proofs.lemmas.List.{length-drop, length-map, length-take-le}
use Rattle.std.specs.Prelude.{IfSome, nat_le, nat_lt, slice_get}
use Rattle.commands.proofs.RefusingLemmas.{refusal_or-ok}
use Rattle.cut_edits.proofs.ChosenLemmas.{head-extension}
use Rattle.cut_edits.proofs.HeadLemmas.{survey_without_head-had, survey_without_head-placed}
use Rattle.cut_edits.proofs.PieceLemmas.{head_long, plain-long, samples_there}
use Rattle.cut_edits.proofs.PieceLemmas.{span-survey_without_head, span-there, span_chosen}
use Rattle.cut_edits.proofs.SealedLemmas.{for-whole}
use Rattle.cut_edits.proofs.SpanLemmas.{with-fitting, with-leads, with-many}
use Rattle.cut_edits.specs.Exact.{file_span, IsSpanIn, row_sealed_part, samples_fault}
use Rattle.cut_edits.specs.Exact.{span_lead_ins, span_part, span_piece, survey_without_head}
use Rattle.exact_laws.specs.SampleLaws.{PiecesPlayTheirSamples}
use Rattle.exact_span.proofs.{ExtensionLemmas.extension-says, PlayedLemmas.places-kept}
use Rattle.exact_span.proofs.{SealLemmas.frames-sealed, SpanLemmas.span-in_range}
use Rattle.exact_span.specs.{Laws.{AreInfoFields, IsPieceHead}, Places.sample_at}
use Rattle.exact_span.specs.PlayedPositions.{length_of_played, played_of}
use Rattle.exact_span.specs.Spans.{AreLeads, delay_of, padding_of, span_of}
use Rattle.exact_span.specs.declared.span.Span.{Span}
use Rattle.info_header.specs.{Info.{field_in, info_in}, declared.fields.Info.Info}
use Rattle.laying.{proofs.LaidLemmas.{first-there, laid-slots}, specs.KeptFields.fields_of_head}
use Rattle.laying.specs.{Laid.{frames_laid, info_laid, LaidPart}, Surveys.CanBeRelaid}
use Rattle.laying.specs.Written.{head_info, slot_in}
use Rattle.slot_plan.specs.declared.needs.Placed.{Placed}
use Rattle.sync_survey.specs.{Faults.SurveyFields, Row.Row, declared.places.Head.Head}

-- ---- the fields that a head can have

table_by : (place : ℕ) (bytes : List ℕ) (flagged : Bool) (test : Bool)
    → (flagged && nat_le (place + 100) (length bytes)) ≡ test
    → IfSome (cond test (Some (take 100 (drop place bytes))) None) (λ t. length t ≡ 100)
table_by place bytes flagged false is = tt
table_by place bytes flagged true is =
    let far = leb-true (place + 100) (length bytes)
    (and_parts flagged (nat_le (place + 100) (length bytes)) is).1 in
    length-take-le 100 (drop place bytes) (omega (arith, far, length-drop place bytes))

table-many : (bytes : List ℕ) → IfSome (info_in bytes).table (λ t. length t ≡ 100)
unfolding info_in field_in
table-many bytes = grind (arith, table_by)

table-of : (file : List ℕ) (head : Head)
    → IfSome (head_info file (Some head)).table (λ t. length t ≡ 100)
unfolding head_info
table-of file head = table-many _

head_whole : (file : List ℕ) (head : Option Head) → IfSome (fields_of_head file head) AreInfoFields
head_whole file head = grind (arith, table-of, head-extension)

-- ---- the head of a piece

module _ (head : Option Info) (whole : IfSome head AreInfoFields)
    (long : IfSome head (λ (i : Info). length i.extension ≡ 36)) {span : Span} {file : List ℕ}
    {s : SurveyFields} (is : CanBeRelaid file s) (there : IsSpanIn s span) where
  abbrev plain : LaidPart
  plain = span_part head span s

  abbrev leads : ℕ
  leads = span_lead_ins span plain.placed

  -- the piece has the lead-ins that its span has to have
  pub leads-are : AreLeads span leads
  leads-are = with-leads (span_chosen head span) s is.placed there.some there.within refl refl

  count : length (frames_laid plain file s) ≡ leads + (span.last - span.first)
  count =
      let chosen = span_chosen head span in
      let slots = laid-slots plain is
      there.some there.within (with-fitting chosen s is.placed there.some there.within span.led) in
      omega (
        arith,
        length-map (frames_laid plain file s) slot_in,
        ap length slots,
        length-map plain.placed (λ (p : Placed). p.slot),
        with-many chosen s is.placed there.some there.within span.led,
      )

  says : (o : Option Row) → slice_get s.frames span.first ≡ o
      → IsPieceHead s.class leads span (info_laid (row_sealed_part o plain file s) file s)
  says None found = let some =
      (first-there s.frames span.first (omega (arith, there.some, there.within))).1 in absurd cc
  says (Some first) found =
      let in_range = span-in_range there.is leads-are in
      let fields = info_laid plain file s in
      let sealed = frames-sealed first.header (for-whole s.class (frames_laid plain file s)
      plain.quality (plain-long head long is there)) in
      let said = extension-says head whole
      (omega (arith, in_range.delay_most)) (omega (arith, in_range.padding_most)) in
      record {
        frames = ap Some count;
        numbers = sealed.says (delay_of s.class leads span) (padding_of span) said;
      }

  -- the fields of the piece's Info frame give the span
  pub piece-head : IsPieceHead s.class leads span (info_laid (span_piece head span file s) file s)
  unfolding span_piece
  piece-head = says (slice_get s.frames span.first) refl

-- ---- sealing changes neither the slots nor which frames are laid

module _ (head : Option Info) (span : Span) (file : List ℕ) (s : SurveyFields) where
  abbrev unsealed : LaidPart
  unsealed = span_part head span s

  piece_same : {X : Type 0} (of : LaidPart → X)
      → ((first : Row) → of (row_sealed_part (Some first) unsealed file s) ≡ of unsealed)
      → of (span_piece head span file s) ≡ of unsealed
  unfolding span_piece
  piece_same of same = at (slice_get s.frames span.first)
    where
      at : (o : Option Row) → of (row_sealed_part o unsealed file s) ≡ of unsealed
      at None = refl
      at (Some first) = same first

  piece_placed : (span_piece head span file s).placed ≡ unsealed.placed
  piece_placed = piece_same (λ l. l.placed) (λ first. refl)

  -- the first frame of a piece is the first of its span
  pub piece-from : (span_piece head span file s).from ≡ span.first
  piece-from = piece_same (λ l. l.from) (λ first. refl)

  -- the last frame of a piece is the last of its span
  pub piece-to : (span_piece head span file s).to ≡ span.last
  piece-to = piece_same (λ l. l.to) (λ first. refl)

-- of a piece exactly the samples of its span are played
pub pieces-play : PiecesPlayTheirSamples
unfolding file_span
pieces-play file s from to span is e =
    let head = fields_of_head file s.head in
    let played = played_of head s.class (length s.frames) in
    let samples = length_of_played played in
    let a = sample_at s.class samples from in
    let b = sample_at s.class samples to in
    let piece = span_piece head span file (survey_without_head s) in
    let fields = info_laid piece file (survey_without_head s) in
    let ok = refusal_or-ok {o = samples_fault a b samples}
    {a = span_of s.class (played.start + a) (played.start + b)} {b = span} e in
    let inside = samples_there {a = a} {b = b} {samples = samples} {test =
    nat_lt a b && nat_le b samples} refl ok.0 in
    let had =
    survey_without_head-had {file = file} {s = s} is (survey_without_head-placed s is.placed) in
    let there = span-survey_without_head {s = s} {span =
    span} (span-there from to head {s = s} {span = span} e) in
    let placed = piece_placed head span file (survey_without_head s) in
    let leads = subst (λ p. AreLeads span (span_lead_ins span p)) (sym placed) (leads-are head
    (head_whole file s.head) (head_long file s.head) had there) in
    let of : IsPieceHead s.class (span_lead_ins span piece.placed) span fields =
    grind (
      arith,
      piece-head head (head_whole file s.head) (head_long file s.head) had there,
      head_whole file s.head,
      head_long file s.head,
    )
    in
    let many = span_lead_ins span piece.placed in
    record {
      leads = leads;
      head = of;
      places = grind (arith, places-kept);
    }
