-- The pieces of a split at places of samples, played in order, are the samples from the first place
-- to the last.
use Rattle.std.proofs.Common.{ap, ap₂, arith, length, List, map, Ok, Option, refl, Some, subst, suc}
use Rattle.std.proofs.Common.{sym, zero, ℕ, [], ◌*◌, ◌+◌, ◌-◌, ◌<◌, ◌∙◌, ◌∷◌, ◌≡◌, ◌≤◌}
use Rattle.std.specs.List.{range_with_len}
use Rattle.commands.{proofs.RefusingLemmas.{refusal_or-ok, then_ok}, specs.SingleOutput.most_frames}
use Rattle.cut_edits.proofs.PieceLemmas.{samples_there}
use Rattle.cut_edits.specs.Exact.{exact_part, file_span, span_lead_ins, span_piece}
use Rattle.cut_edits.specs.Exact.{survey_without_head}
use Rattle.exact_laws.proofs.PlayLemmas.{piece-from, piece-to, pieces-play}
use Rattle.exact_laws.specs.Recording.{all_piece_samples, piece_played, piece_samples}
use Rattle.exact_laws.specs.Recording.{PiecesAreTheRecording, PlayInTurn, PlaysBetween}
use Rattle.exact_laws.specs.SampleLaws.{PlaysItsSamples}
use Rattle.exact_span.proofs.SplitLemmas.{pieces-whole}
use Rattle.exact_span.specs.Laws.{pieces_samples, PointsAscend, samples_between}
use Rattle.exact_span.specs.PlayedPositions.{length_of_played, played_of, samples_in}
use Rattle.exact_span.specs.declared.{exact_place.ExactPlace.ExactPlace, span.Span.Span}
use Rattle.info_header.specs.declared.fields.Info.{Info}
use Rattle.laying.{proofs.SurveyFrameLemmas.survey-had, specs.KeptFields.fields_of_head}
use Rattle.laying.specs.{Laid.{info_laid, LaidPart}, Surveys.CanBeRelaid}
use Rattle.seam_laws.specs.PlayedParts.{input_played, piece_lead_ins, sample_named}
use Rattle.split_edits.{proofs.CommandLemmas.first-parts, specs.Cutting.piece_parts_from}
use Rattle.split_edits.specs.{Split.exact_cutting_of, declared.exact_points.ExactPoints.ExactPoints}
use Rattle.sync_survey.specs.Faults.{SurveyFields}

-- ---- the samples of one piece

-- consecutive numbers, each mapped to the number as far from another start
numbers-moved : (f : ℕ → ℕ) (x a n : ℕ) → ((k : ℕ) → k < n → f (x + k) ≡ a + k)
    → map f (range_with_len x n) ≡ range_with_len a n
numbers-moved f x a zero same = refl
numbers-moved f x a (suc n) same =
    let none : x + 0 ≡ x = omega arith in
    let none_more : a + 0 ≡ a = omega arith in
    let first = ap f (sym none) ∙ same 0 (omega arith) ∙ none_more in
    ap₂ ◌∷◌ first
    (numbers-moved f (x + 1) (a + 1) n (λ k few.
    let there : x + 1 + k ≡ x + suc k = omega arith in
    let next : a + suc k ≡ a + 1 + k = omega arith in
    ap f there ∙ same (suc k) (omega (arith, few)) ∙ next))

moved-by : (x first leads start a k : ℕ) → x + first ≡ start + a + leads
    → x + k + first - (leads + start) ≡ a + k
moved-by x first leads start a k same = omega (arith, same)

module _ {file : List ℕ} {s : SurveyFields} (is : CanBeRelaid file s) where
  abbrev head : Option Info
  head = fields_of_head file s.head

  abbrev sample : ExactPlace → ℕ
  sample place = sample_named file s place

  -- the samples of a piece, given the equations of its start and its length
  played-samples : (laid : LaidPart) (a b : ℕ)
      → (piece_played file (survey_without_head s) laid).start + laid.from * samples_in s.class
      ≡ (input_played file s).start + a + piece_lead_ins laid * samples_in s.class
      → length_of_played (piece_played file (survey_without_head s) laid) ≡ b - a
      → piece_samples file s laid ≡ samples_between a b
  unfolding piece_samples
  played-samples laid a b start long = search (arith, numbers-moved, moved-by)

  module _ (from to : ExactPlace) {span : Span} (found : file_span from to head s ≡ Ok span) where
    abbrev piece : LaidPart
    piece = span_piece head span file (survey_without_head s)

    plays : PlaysItsSamples head s (sample from) (sample to) span (span_lead_ins span piece.placed)
        (info_laid piece file (survey_without_head s))
    plays = pieces-play file s from to span is found

    -- the first and the last frame of a piece are those of its span
    abbrev StartsBy : ℕ → ℕ → Type 0
    StartsBy first last =
        let many = length piece.placed - (last - first) in
        let played =
        played_of (Some (info_laid piece file (survey_without_head s)))
        s.class (many + (last - first)) in
        (played.start + first * samples_in s.class
        ≡ (input_played file s).start + sample from + many * samples_in s.class)
        × (length_of_played played ≡ sample to - sample from)

    starts : StartsBy piece.from piece.to
    starts =
        grind (
          arith,
          piece-from head span file (survey_without_head s),
          piece-to head span file
              (survey_without_head s),
          piece.to,
          span.first,
          plays.places.start,
          plays.places.length,
        )

    -- the piece plays the samples from the one place to the other
    pub between-plays : PlaysBetween file s from to piece
    between-plays =
        grind (arith, plays, played-samples piece (sample from) (sample to) starts.0 starts.1)

  -- a piece that was laid plays its samples
  laid-plays : {from to : ExactPlace} {laid : LaidPart} → exact_part from to file s ≡ Ok laid
      → PlaysBetween file s from to laid
  unfolding exact_part
  laid-plays e = grind (arith, then_ok, between-plays)

  -- the places of a piece are in order
  laid-ascends : {from to : ExactPlace} {laid : LaidPart} → PlaysBetween file s from to laid
      → sample from ≤ sample to
  unfolding file_span
  laid-ascends is = grind (arith, refusal_or-ok, samples_there)

  -- ---- all pieces

  turns-ascend : (from : ExactPlace) (tos : List ExactPlace) (laid : List LaidPart)
      → PlayInTurn file s from tos laid → PointsAscend (sample from) (map sample tos)
  turns-ascend from [] [] are = tt
  turns-ascend from [] (l ∷ laid) are = absurd are
  turns-ascend from (to ∷ tos) [] are = absurd are
  turns-ascend from (to ∷ tos) (l ∷ laid) are = (laid-ascends are.0, turns-ascend to tos laid are.1)

  turns-samples : (from : ExactPlace) (tos : List ExactPlace) (laid : List LaidPart)
      → PlayInTurn file s from tos laid
      → all_piece_samples file s laid ≡ pieces_samples (sample from) (map sample tos)
  unfolding pieces_samples
  turns-samples from [] [] are = refl
  turns-samples from [] (l ∷ laid) are = absurd are
  turns-samples from (to ∷ tos) [] are = absurd are
  turns-samples from (to ∷ tos) (l ∷ laid) are = grind (arith, turns-samples to tos laid are.1)

  module _ (points : ExactPoints) where
    from-turns : (from : ExactPlace) (tos : List ExactPlace) {laid : List LaidPart}
        → piece_parts_from (exact_cutting_of points) file s from tos ≡ Ok laid
        → PlayInTurn file s from tos laid
    from-turns from [] e = grind arith
    from-turns from (to ∷ tos) {laid} e =
        let parts = then_ok
        e in
        let more =
        first-parts
        parts.2 in
        subst (PlayInTurn file s from (to ∷ tos))
        more.2 (laid-plays parts.1, from-turns to tos more.1)

-- the pieces, in order, play the samples from the first place to the last
pub pieces-recording : PiecesAreTheRecording
pieces-recording points file s place places laid surveyed e =
    let is = survey-had most_frames surveyed in
    let each = from-turns is points place places e in
    record {
      each = each;
      all = grind (arith, turns-samples, pieces-whole, turns-ascend);
    }
