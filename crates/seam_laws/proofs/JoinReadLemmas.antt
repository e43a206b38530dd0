-- What is read of the head of a join without seams in whose Info frame numbers are written.
use Rattle.std.proofs.Common.{ap, ap₂, arith, length, List, Ok, Some, subst, sym, ℕ, [], ◌+◌, ◌<◌}
use Rattle.std.proofs.{Common.{◌^◌, ◌∙◌, ◌∷◌, ◌≡◌}, lemmas.List.length-map}
use Rattle.std.proofs.lemmas.List.FromFn.{length-range_with_len}
use Rattle.std.specs.{List.{concat, range_with_len}, Prelude.slice_get}
use Rattle.cut_edits.{proofs.SealedLemmas.for-whole, specs.Exact.quality_of}
use Rattle.exact_span.proofs.SealLemmas.{frames-sealed, sealed-whole}
use Rattle.exact_span.specs.{Laws.{AreInfoFields, SaysNumbers}, PlayedPositions.played_of}
use Rattle.frame_header.specs.Fields.{ClassFields, HeaderFields}
use Rattle.frame_writer.specs.Frames.{Frame}
use Rattle.info_header.specs.declared.fields.Info.{Info}
use Rattle.laying.proofs.{HoldLemmas.blocks-kept, LaidFileLemmas.laid-survey}
use Rattle.laying.proofs.{LaidFrameLemmas.rows-length, LaidLemmas.first-there}
use Rattle.laying.specs.KeptFields.{fields_of_head}
use Rattle.laying.specs.LaidFiles.{frames_offset, head_at, IsLaidFile, laid_fields, laid_file}
use Rattle.laying.specs.{Relaid.FilePart, Written.{front_blocks, head_info, info_for, table_entry}}
use Rattle.seam_laws.proofs.JoinNumberLemmas.{splice-long}
use Rattle.seam_laws.proofs.PieceHeadLemmas.{laid-count, laid-extension}
use Rattle.seam_laws.proofs.SeamlessInputLemmas.{input-whole, inputs-whole, Joins}
use Rattle.seam_laws.specs.PlayedParts.{input_played}
use Rattle.seamless_edits.proofs.SplicePartLemmas.{front-within, splice-laid}
use Rattle.seamless_edits.specs.Seamless.{delay_of_splice, join_of_parts, part_head, seamless_file}
use Rattle.seamless_edits.specs.Seamless.{seamless_frames, seamless_info, seamless_row_file}
use Rattle.seamless_edits.specs.Seamless.{splice_extension}
use Rattle.sync_survey.proofs.SurveyPartsLemmas.{survey_fields-allowed}
use Rattle.sync_survey.proofs.SurveyedFileLemmas.{survey_of-parts}
use Rattle.sync_survey.specs.{Faults.{survey_fields, SurveyFields}, Row.Row, Survey.survey_of}

module _ {first : FilePart} {parts : List FilePart}
    (inputs : Joins first.survey.class first parts) {delay : ℕ}
    (delay_is : delay_of_splice first parts ≡ Some delay) where
  abbrev c : ClassFields
  c = first.survey.class

  -- the row of the first frame of the first input that stays
  pub front-row : (row : Row)
      × (slice_get first.survey.frames (join_of_parts first parts).front ≡ Some row)
  front-row = grind (arith, first-there, front-within, input-whole, inputs-whole)

  abbrev header : HeaderFields
  header = front-row.0.header

  abbrev frames : List Frame
  frames = seamless_frames first parts

  abbrev blocks : List (List ℕ)
  blocks = front_blocks first.file first.survey

  -- the fields of its Info frame
  abbrev pub written_info : Info
  written_info = seamless_info (Some delay) front-row.0 first parts

  abbrev laid : List ℕ
  laid = laid_file blocks header written_info frames []

  -- the file is laid with this Info frame
  join-is : seamless_file (first ∷ parts) ≡ laid
  unfolding seamless_file
  join-is =
      ap (λ o. seamless_row_file o first parts) front-row.1
      ∙ ap (λ o. laid_file blocks header (seamless_info o front-row.0 first parts) frames [])
      delay_is

  abbrev unsealed : Info
  unsealed = info_for c frames (quality_of (part_head first)) (splice_extension delay first parts)

  unsealed-whole : AreInfoFields unsealed
  unsealed-whole =
      for-whole c frames (quality_of (part_head first))
      (splice-long first parts delay)

  whole : AreInfoFields written_info
  whole = sealed-whole header unsealed-whole

  file-is : IsLaidFile c blocks header written_info frames []
  file-is =
      let row = inputs.head.has.placed (join_of_parts first parts).front front-row.0 front-row.1 in
      let are =
      splice-laid parts (input-whole inputs.head) (inputs-whole c parts inputs.others) in
      record {
        blocks_before = (blocks-kept first.file first.survey inputs.head.has).0;
        header = row.known;
        class = row.class_is;
        sizes = record {
          table = length-map (range_with_len 0 100) (table_entry c frames)
              ∙ length-range_with_len 0 100;
          extension = whole.extension;
        };
        some = are.some;
        entries = are.entries;
        laid = are.fit;
        blocks_behind = tt;
      }

  -- ---- its head as it is read

  -- the fields of its head
  abbrev pub read_info : Info
  read_info = head_info laid (Some (head_at (length (concat blocks)) header))

  -- the head has the number of frames that the Info frame has
  pub read-count : {n : ℕ} → written_info.frames ≡ Some n → n < 256 ^ 4
      → read_info.frames ≡ Some n
  read-count {n} is small = laid-count file-is.header whole blocks frames [] is small

  -- the head says the numbers that the Info frame says
  pub read-says : {d p : ℕ} → SaysNumbers d p written_info.extension
      → SaysNumbers d p read_info.extension
  read-says {d} {p} says =
      subst (SaysNumbers d p)
      (sym (laid-extension file-is.header whole blocks frames [])) says

  -- the Info frame says the numbers of the extension
  pub written-says : {d p : ℕ} → SaysNumbers d p (splice_extension delay first parts)
      → SaysNumbers d p written_info.extension
  written-says {d} {p} says = (frames-sealed header unsealed-whole).says d p says

  module _ (allowed : ℕ) {j : SurveyFields}
      (e : survey_of (seamless_file (first ∷ parts)) allowed ≡ Ok j) where
    told : laid_fields blocks header written_info frames [] ≡ j
    told =
        let most = length laid + length frames + 1 in
        let is = subst (λ l. survey_fields l allowed ≡ Ok j) join-is
        (survey_of-parts (seamless_file (first ∷ parts)) allowed e).1 in
        let both = sym (survey_fields-allowed laid allowed (omega arith) is)
        ∙ laid-survey c blocks header written_info frames [] most file-is (omega arith) in
        cc

    -- what is played of the file is what is played by this head
    pub read-played : input_played (seamless_file (first ∷ parts)) j
        ≡ played_of (Some read_info) c (length frames)
    unfolding laid_fields
    read-played =
        ap₂ (λ (l : List ℕ) (t : SurveyFields).
        played_of (fields_of_head l t.head) t.class (length t.frames)) join-is (sym told)
        ∙ ap₂ (λ (d : ClassFields) (n : ℕ). played_of (Some read_info) d n) file-is.class
        (rows-length (frames_offset blocks header written_info) frames)
