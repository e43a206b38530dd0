-- What is read of the head of a written file in whose Info frame numbers are.
use Rattle.std.proofs.Common.{ap, arith, length, List, Ok, Option, refl, Some, subst, sym, ℕ, ◌*◌}
use Rattle.std.proofs.{Common.{◌+◌, ◌-◌, ◌<◌, ◌^◌, ◌∙◌, ◌≡◌, ◌≤◌}, Math.Nat.min-eq_right}
use Rattle.std.{proofs.lemmas.Bool.{le-leb, le-ltb}, specs.{List.concat, Prelude.IfSome}}
use Rattle.cut_edits.proofs.SealedLemmas.{for-whole}
use Rattle.exact_span.proofs.ExtensionLemmas.{extension-length}
use Rattle.exact_span.proofs.SealLemmas.{frames-sealed, sealed-whole}
use Rattle.exact_span.specs.{Extensions.extension_of, Laws.{AreInfoFields, SaysNumbers}}
use Rattle.exact_span.specs.PlayedPositions.{counted_positions, decoder_delay, samples_in}
use Rattle.exact_span.specs.TagWord.{sealed_info}
use Rattle.frame_header.specs.Fields.{ClassFields, HeaderFields}
use Rattle.frame_writer.specs.Frames.{Frame}
use Rattle.info_header.specs.declared.fields.Info.{Info}
use Rattle.laying.proofs.{LaidFileLemmas.laid-survey, LaidFrameLemmas.rows-length}
use Rattle.laying.specs.KeptFields.{fields_of_head}
use Rattle.laying.specs.LaidFiles.{frames_offset, head_at, IsLaidFile, laid_fields, laid_file}
use Rattle.laying.specs.Written.{head_info, info_for}
use Rattle.seam_laws.proofs.JoinNumberLemmas.{made-says}
use Rattle.seam_laws.proofs.PieceHeadLemmas.{laid-count, laid-extension}
use Rattle.sync_survey.proofs.SurveyPartsLemmas.{survey_fields-allowed}
use Rattle.sync_survey.{proofs.SurveyedFileLemmas.survey_of-parts, specs.Faults.SurveyFields}
use Rattle.sync_survey.specs.Survey.{survey_of}

-- the positions that a head with these numbers counts
pub counted-by : (class : ClassFields) (info : Info) {frames delay padding : ℕ}
    → info.frames ≡ Some frames → 1 ≤ frames → 529 ≤ padding
    → SaysNumbers delay padding info.extension
    → counted_positions (Some info) class frames ≡ Some (record {
      start = delay + decoder_delay;
      end = frames * samples_in class + decoder_delay - padding;
    })
unfolding counted_positions
counted-by class info is some enough says = grind (arith, le-leb, le-ltb, min-eq_right)

-- the head of a written file, as it is read: it has the number of the frames, and these numbers
pub record IsHeadRead (frames : List Frame) (delay padding : ℕ) (class : ClassFields)
    (file : List ℕ) (s : SurveyFields) : Type 0 where
  pub fields : Info
  pub head : fields_of_head file s.head ≡ Some fields
  pub frames_are : length s.frames ≡ length frames
  pub class_is : s.class ≡ class
  pub count : fields.frames ≡ Some (length frames)
  pub says : SaysNumbers delay padding fields.extension

module _ (class : ClassFields) (front : List (List ℕ)) (first : HeaderFields)
    (frames : List Frame) (back : List (List ℕ)) where
  module _ (quality : Option ℕ) (head : Option Info) {delay padding : ℕ}
      (long : IfSome head (λ (info : Info). length info.extension ≡ 36)) (short : delay < 4096)
      (small : padding < 4096) where
    abbrev unsealed : Info
    unsealed = info_for class frames quality (extension_of head delay padding)

    -- the fields of its Info frame
    abbrev pub written_info : Info
    written_info = sealed_info first unsealed

    unsealed-whole : AreInfoFields unsealed
    unsealed-whole =
        for-whole class frames quality
        (extension-length head delay padding long)

    whole : AreInfoFields written_info
    whole = sealed-whole first unsealed-whole

    abbrev file : List ℕ
    file = laid_file front first written_info frames back

    abbrev read : Info
    read = head_info file (Some (head_at (length (concat front)) first))

    module _ (is : IsLaidFile class front first written_info frames back)
        (few : length frames < 256 ^ 4) where
      read-says : SaysNumbers delay padding read.extension
      read-says =
          subst (SaysNumbers delay padding)
          (sym (laid-extension is.header whole front frames back))
          ((frames-sealed first unsealed-whole).says delay padding
          (made-says head long short small))

      -- the head is read as it was written
      pub head-read : (allowed : ℕ) {s : SurveyFields} → survey_of file allowed ≡ Ok s
          → IsHeadRead frames delay padding class file s
      unfolding laid_fields
      head-read allowed {s} e =
          let most = length file + length frames + 1 in
          let told : laid_fields front first written_info frames back ≡ s =
          (let both = sym (survey_fields-allowed file allowed (omega arith)
          (survey_of-parts file allowed e).1)
          ∙ laid-survey class front first written_info frames back most is (omega arith) in
          cc) in
          record {
            fields = read;
            head = ap (λ (t : SurveyFields). fields_of_head file t.head) (sym told);
            frames_are = ap (λ (t : SurveyFields). length t.frames) (sym told)
                ∙ rows-length (frames_offset front first written_info) frames;
            class_is = ap (λ (t : SurveyFields). t.class) (sym told) ∙ is.class;
            count =
                laid-count is.header whole front frames back refl
                few;
            says = read-says;
          }
