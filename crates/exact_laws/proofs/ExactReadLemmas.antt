-- What is played of the join of exact pieces by the head of its file, as it is read.
use Rattle.std.proofs.Common.{ap₂, arith, List, Ok, Some, subst, sym, ℕ, ◌+◌, ◌-◌, ◌<◌, ◌^◌, ◌∙◌}
use Rattle.std.proofs.Common.{◌∷◌, ◌≡◌}
use Rattle.cut_edits.proofs.HeadLemmas.{survey_without_head-length}
use Rattle.exact_laws.proofs.ExactFileLemmas.{AreExact, inside, sample}
use Rattle.exact_laws.proofs.ExactNumberLemmas.{delay, delay-is, frames-many, goal, info-head, many}
use Rattle.exact_laws.proofs.ExactNumberLemmas.{many-leads, whole-found, whole_span}
use Rattle.exact_laws.proofs.{ExactSpanLemmas.places-of, ExactSpliceLemmas.{at, inputs}}
use Rattle.exact_span.specs.{Laws.{IsPieceHead, KeepsPlaces}, PlayedPositions.played_of}
use Rattle.exact_span.specs.declared.{exact_place.ExactPlace.ExactPlace, span.Span.Span}
use Rattle.frame_header.specs.Fields.{ClassFields}
use Rattle.info_header.specs.declared.fields.Info.{Info}
use Rattle.laying.specs.Relaid.{FilePart}
use Rattle.seam_laws.proofs.JoinReadLemmas.{front-row, read-count, read-played, read-says}
use Rattle.seam_laws.proofs.{JoinReadLemmas.{read_info, written_info}, PieceListLemmas.Recording}
use Rattle.seam_laws.{proofs.SeamlessInputLemmas.{Joins, own-class}, specs.PlayedParts.input_played}
use Rattle.seamless_edits.specs.Seamless.{delay_of_splice, seamless_file}
use Rattle.sync_survey.specs.{Faults.SurveyFields, Survey.survey_of}

module _ {file : List ℕ} {s : SurveyFields} (r : Recording file s) {place next : ExactPlace}
    {places : List ExactPlace} {first : FilePart} {parts : List FilePart}
    (pieces : AreExact r place (next ∷ places) (first ∷ parts)) where
  abbrev t : Span
  t = whole_span r pieces

  abbrev leads : ℕ
  leads = many r pieces

  abbrev written : ℕ
  written = delay r pieces

  written-is : delay_of_splice first parts ≡ Some written
  written-is = delay-is r pieces

  raw : Joins first.survey.class first parts
  raw = own-class (inputs r pieces)

  abbrev read : Info
  read = read_info raw written-is

  says : IsPieceHead s.class leads t (written_info raw written-is)
  says =
      info-head r pieces
      (front-row raw written-is).0

  count-small : leads + (t.last - t.first) < 256 ^ 4
  count-small =
      omega (
        arith,
        (inside r (whole-found r pieces).there).within,
        (many-leads r pieces).one,
        survey_without_head-length s,
        r.few,
      )

  -- the head as it is read describes the span
  read-head : IsPieceHead s.class leads t read
  read-head = record {
    frames =
        read-count raw written-is
        says.frames count-small;
    numbers =
        read-says raw written-is says.numbers;
  }

  -- by this head the join plays the samples from the first place to the last
  pub read-plays : (allowed : ℕ) {j : SurveyFields}
      → survey_of (seamless_file (first ∷ parts)) allowed ≡ Ok j
      → KeepsPlaces s.class leads t.first (sample r place) (sample r (goal r pieces))
      (input_played (seamless_file (first ∷ parts)) j) (input_played file s)
  read-plays allowed {j} e =
      let played = read-played raw written-is allowed e
      ∙ ap₂ (λ (d : ClassFields) (n : ℕ). played_of (Some read) d n)
      (at r pieces).piece.is.of_class
      (frames-many r pieces) in
      subst (λ u. KeepsPlaces s.class leads t.first (sample r place) (sample r (goal r pieces)) u
      (input_played file s)) (sym played)
      (places-of r (whole-found r pieces)
      (many-leads r pieces) read-head)
