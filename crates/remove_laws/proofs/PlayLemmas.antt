-- What is played where numbers are written is what is heard, each position at its place.
use Rattle.std.proofs.Common.{ap, arith, length, List, max, None, Ok, Option, refl, Some, subst}
use Rattle.std.{proofs.Common.{sym, ℕ, ◌∙◌, ◌≡◌}, specs.Prelude.option_and_then}
use Rattle.commands.specs.SingleOutput.{most_frames}
use Rattle.cut_edits.{proofs.HeadLemmas.survey_without_head-length, specs.Exact.survey_without_head}
use Rattle.exact_span.specs.{Heard.heard_of, PlayedPositions.{counted_positions, decoder_delay}}
use Rattle.exact_span.specs.declared.{exact_place.ExactPlace.ExactPlace, played.Played.Played}
use Rattle.exact_span.specs.declared.written.{Heard.Heard, WrittenFrames.WrittenFrames}
use Rattle.frame_header.specs.Fields.{ClassFields}
use Rattle.info_header.specs.declared.fields.Info.{Info}
use Rattle.laying.specs.{KeptFields.fields_of_head, declared.info.Kept.Kept}
use Rattle.remove_edits.specs.Removed.{all_parts_written, parts_left, removal_file, removal_kept}
use Rattle.remove_laws.proofs.{HeardPlaceLemmas.first-to-last, NumberLemmas.keep-numbers}
use Rattle.remove_laws.specs.NumberLaws.{AreHeard, IsFirstToLast}
use Rattle.remove_laws.specs.PlayLaws.{HeardIsPlayed, HoldsOfPlayed, PlayLaw, PlaysTheHeard}
use Rattle.remove_laws.specs.PlayLaws.{positions_counted}
use Rattle.seam_plan.specs.declared.stretches.Part.{Part}
use Rattle.sync_survey.specs.{Faults.SurveyFields, Survey.survey_of}

-- what is played where this is heard: no head names an earlier start than that of the decoder
abbrev pub played_as : Heard → Played
played_as heard = record { start = max decoder_delay heard.first; end = heard.end }

-- what is played of a file and of what is written of parts of it, which has the second survey
pub record IsReadAs (file : List ℕ) (s : SurveyFields) (parts : List Part)
    (o : SurveyFields) : Type 0 where
  pub before : Played
  pub was : positions_counted file s ≡ Some before
  pub heard : Heard
  pub are : heard_of s.class before (all_parts_written (survey_without_head s) parts) ≡ Some heard
  pub at : IsFirstToLast s.class before (all_parts_written (survey_without_head s) parts) heard
  pub is : positions_counted
      (removal_file parts (fields_of_head file s.head) file (survey_without_head s)) o
      ≡ Some (played_as heard)

-- something is played of a file of which something is heard
heard-counted : (class : ClassFields) (written : List WrittenFrames) {heard : Heard}
    (o : Option Played)
    → option_and_then (λ (p : Played). heard_of class p written) o ≡ Some heard
    → (p : Played) × (o ≡ Some p) × (heard_of class p written ≡ Some heard)
heard-counted class written None none = absurd cc
heard-counted class written (Some p) some = (p, refl, some)

module _ (file : List ℕ) (s : SurveyFields) (parts : List Part) (o : SurveyFields) where
  abbrev apart : SurveyFields
  apart = survey_without_head s

  abbrev head : Option Info
  head = fields_of_head file s.head

  -- where numbers are written, what is played of both files is known
  pub read-as : (stretches : List (ExactPlace × ExactPlace)) {kept : Kept} (allowed : ℕ)
      → survey_of file most_frames ≡ Ok s → parts_left stretches s ≡ Ok parts
      → removal_kept head apart parts ≡ Some kept
      → survey_of (removal_file parts head file apart) allowed ≡ Ok o → IsReadAs file s parts o
  read-as stretches {kept} allowed is left keeps e =
      let written = all_parts_written apart parts in
      let numbers = keep-numbers stretches file s parts kept is left keeps in
      let counts = numbers.counts allowed o e in
      let was = heard-counted apart.class written
      (counted_positions head apart.class (length apart.frames)) numbers.is in
      record {
        before = was.0;
        was = ap (counted_positions head s.class) (sym (survey_without_head-length s)) ∙ was.1;
        heard = numbers.heard;
        are = was.2;
        at = subst (AreHeard apart.class was.0 written) was.2
            (first-to-last stretches file s parts was.0 is left);
        is = ap (λ i. counted_positions i o.class (length o.frames)) counts.head ∙ counts.played;
      }

  -- a law holds of what is played if it holds of what is heard
  pub of-played : (Law : PlayLaw) (read : IsReadAs file s parts o)
      → Law apart parts read.before (played_as read.heard) → HoldsOfPlayed Law file s parts o
  of-played Law read holds = record {
    before = read.before;
    was = read.was;
    after = played_as read.heard;
    is = read.is;
    holds = holds;
  }

-- the law of what is heard
pub plays-heard : HeardIsPlayed
plays-heard stretches file s parts kept allowed o is left keeps e =
    let read = read-as file s parts o stretches allowed is left keeps e in
    of-played file s parts o PlaysTheHeard read (λ position place at least.
    let within = read.at.all position place at in
    (omega (arith, within.0, least), within.1))
