-- The text about a file that was laid: its head gives the numbers of what is there.
use Rattle.std.proofs.Common.{ap, ap₂, arith, Bool, cond, false, length, List, Ok, Option, refl}
use Rattle.std.proofs.Common.{Some, subst, sym, true, ℕ, [], ◌*◌, ◌++◌, ◌+◌, ◌<◌, ◌^◌, ◌∙◌, ◌∷◌}
use Rattle.std.proofs.{Common.{◌≡◌, ◌≤◌}, lemmas.{Bool.{and_from, eq-eqb}, List.Sums.sum_by-cons}}
use Rattle.std.specs.{List.concat, Prelude.{slice_get, ◌==◌}}
use Rattle.commands.specs.SingleOutput.{most_frames}
use Rattle.exact_span.specs.{Extensions.counts_of, Laws.AreInfoFields}
use Rattle.file_laws.{proofs.WrittenFrameLemmas.all-written, specs.WrittenLaws.IsCountedFile}
use Rattle.frame_header.proofs.{HeaderLemmas.IsClass-class_of, LengthLemmas.length-most}
use Rattle.frame_header.specs.{Fields.{ClassFields, IsHeader}, Tables.{class_of, length_of}}
use Rattle.frame_writer.specs.Frames.{Frame}
use Rattle.info_header.specs.FileInfo.{all_bytes, frames_length, info_length}
use Rattle.info_header.specs.{InfoFrame.{info_header_of, info_slot_of}, declared.fields.Info.Info}
use Rattle.info_laws.specs.WrittenText.{CountedTextsAgree, NeverSaysOther, SaysNoOther, text_lines}
use Rattle.info_laws.specs.WrittenText.{WrittenTextsAgree}
use Rattle.laying.proofs.{LaidFileLemmas.laid-survey, LaidFrameLemmas.rows-length}
use Rattle.laying.{proofs.SurveyFrameLemmas.survey-had, specs.KeptFields.fields_of_head}
use Rattle.laying.specs.LaidFiles.{AreStreamEntries, frame_length, frames_offset, head_at}
use Rattle.laying.specs.{LaidFiles.{laid_fields, laid_file, rows_from}, Surveys.HasWholeHead}
use Rattle.laying.specs.Written.{head_info, slot_in}
use Rattle.list_edits.specs.InfoText.{agrees, but_line, class_line, counts_text, frames_line}
use Rattle.list_edits.specs.InfoText.{gain_lines, head_line, info_lines, is_as_said, main_data_line}
use Rattle.list_edits.specs.InfoText.{played_line, rates_line}
use Rattle.list_edits.specs.Totals.{file_areas, greatest_rate, header_frame_length, least_rate}
use Rattle.list_edits.specs.Totals.{lost_count, main_data_in, row_lengths, stream_length}
use Rattle.moved_gains.specs.GainExtremes.{extremes_of, extremes_of_both}
use Rattle.moved_gains.specs.declared.gain_extremes.Gains.{Gains}
use Rattle.seam_laws.proofs.{JoinEndLemmas.frames-few, PieceHeadLemmas.{laid-bytes, laid-count}}
use Rattle.sync_survey.proofs.SurveyPartsLemmas.{survey_fields-allowed}
use Rattle.sync_survey.proofs.SurveyedFileLemmas.{survey_of-parts}
use Rattle.sync_survey.specs.{Faults.{survey_fields, SurveyFields}, Row.Row, Survey.survey_of}

-- ---- the text of a file whose head gives the numbers of what is there

gains-many : (channels : ℕ) (left right both : Option Gains)
    → length (gain_lines channels left right both) ≡ cond (channels == 1) 1 3
gains-many channels left right both = grind arith

lines-many : (one : Bool) {lines : List (List ℕ)} {a b c d e f : List ℕ} {gains : List (List ℕ)}
    → lines ≡ a ∷ b ∷ c ∷ d ∷ e ∷ f ∷ gains → length gains ≡ cond one 1 3
    → length lines ≡ cond one 7 9
lines-many one is few = grind arith

-- its lines are the six about the file and those about gains
pub says-no-other : {file : List ℕ} {s : SurveyFields}
    → is_as_said (fields_of_head file s.head) (length s.frames) (stream_length s) ≡ true
    → SaysNoOther file s
unfolding info_lines
says-no-other {file} {s} said =
    let head = fields_of_head file s.head in
    let rows = s.frames in
    let count = length rows in
    let gains : List (List ℕ) =
    gain_lines s.class.channels (extremes_of 0 rows) (extremes_of 1 rows) (extremes_of_both rows) in
    let lines : text_lines file s ≡ class_line s.class ∷ frames_line s.class count (lost_count rows)
    ∷ rates_line (least_rate rows) (greatest_rate rows)
    ∷ main_data_line (main_data_in rows) (file_areas s)
    ∷ head_line head ∷ played_line head s.class count ∷ gains =
    ap (λ b. class_line s.class ∷ frames_line s.class count (lost_count rows)
    ∷ rates_line (least_rate rows) (greatest_rate rows)
    ∷ main_data_line (main_data_in rows) (file_areas s)
    ∷ head_line head ∷ (cond b [] (but_line count (stream_length s) ∷ [])
    ++ (played_line head s.class count ∷ gains))) said in
    record {
      many = lines-many (s.class.channels == 1) lines
          (gains-many s.class.channels (extremes_of 0 rows) (extremes_of 1 rows)
          (extremes_of_both rows));
      plays = record {
        before = counts_text (counts_of head);
        sixth = ap (λ (l : List (List ℕ)). slice_get l 5) lines;
      };
    }

-- ---- the frames of a laid file

-- the rows of laid frames are as long as their slots
row-lengths : (c : ClassFields) (at : ℕ) (fs : List Frame) → AreStreamEntries c fs
    → row_lengths (rows_from at fs) ≡ frames_length c slot_in fs
row-lengths c at [] entries = refl
row-lengths c at (f ∷ fs) entries =
    let more = rows_from (at + frame_length f) fs in
    let row : Row = record {
      offset = at;
      header = f.kept.header;
      side = f.kept.side;
      lost = false;
    } in
    omega (
      arith,
      sum_by-cons (λ (r : Row). header_frame_length r.header) row more,
      sum_by-cons (λ (g : Frame). length_of c (slot_in g)) f fs,
      ap (λ d. length_of d f.kept.header.slot) entries.0.class,
      row-lengths c (at + frame_length f) fs entries.1,
    )

-- no frame is longer than 1,441 bytes
few-bytes : (c : ClassFields) (fs : List Frame) → AreStreamEntries c fs
    → frames_length c slot_in fs ≤ 1441 * length fs
few-bytes c [] entries = omega arith
few-bytes c (f ∷ fs) entries =
    let h = f.kept.header in
    omega (
      arith,
      sum_by-cons (λ (g : Frame). length_of c (slot_in g)) f fs,
      ap (λ d. length_of d h.slot) entries.0.class,
      length-most (class_of h) h.slot (IsClass-class_of entries.0.header) entries.0.header.slot,
      few-bytes c fs entries.1,
    )

agree-by : {o : Option ℕ} {n m : ℕ} → o ≡ Some n → m ≡ n → agrees o m ≡ true
agree-by {n = n} {m = m} is same = ap (λ x. agrees x m) is ∙ eq-eqb n m (sym same)

module _ {file : List ℕ} (is : IsCountedFile file) where
  abbrev laid : List ℕ
  laid = laid_file is.front is.first is.info is.frames is.back

  abbrev read : Info
  read = head_info laid (Some (head_at (length (concat is.front)) is.first))

  whole : AreInfoFields is.info
  whole = record { table = is.laid.sizes.table; extension = is.laid.sizes.extension }

  module _ {s : SurveyFields} (e : survey_of laid most_frames ≡ Ok s) where
    survey-is : survey_fields laid most_frames ≡ Ok s
    survey-is = (survey_of-parts laid most_frames e).1

    told : laid_fields is.front is.first is.info is.frames is.back ≡ s
    told =
        let most : ℕ = length laid + length is.frames + 1 in
        let both : Ok s ≡ Ok (laid_fields is.front is.first is.info is.frames is.back) =
        sym (survey_fields-allowed laid most_frames (omega arith) survey-is)
        ∙ laid-survey is.class is.front is.first is.info is.frames is.back most
        is.laid (omega arith) in
        cc

    head-is : fields_of_head laid s.head ≡ Some read
    unfolding laid_fields
    head-is = ap (λ (t : SurveyFields). fields_of_head laid t.head) (sym told)

    many : length s.frames ≡ length is.frames
    unfolding laid_fields
    many = ap (λ (t : SurveyFields). length t.frames) (sym told)
        ∙ rows-length (frames_offset is.front is.first is.info) is.frames

    long : stream_length s ≡ all_bytes is.class slot_in is.frames
    unfolding laid_fields
    long =
        ap stream_length (sym told)
        ∙ ap₂ (λ (m n : ℕ). m + n) (ap info_length is.laid.class)
        (row-lengths is.class (frames_offset is.front is.first is.info) is.frames is.laid.entries)

    few : length is.frames ≤ most_frames
    few = omega (arith, many, frames-few laid survey-is)

    head-known : IsHeader (info_header_of is.first)
    unfolding laid_fields
    head-known =
        let head-as : s.head ≡ Some (head_at (length (concat is.front)) is.first) =
        ap (λ (t : SurveyFields). t.head) (sym told) in
        (subst (HasWholeHead laid) head-as (survey-had most_frames e).head).header

    few-all : all_bytes is.class slot_in is.frames < 256 ^ 4
    few-all =
        omega (
          arith,
          few,
          few-bytes is.class is.frames is.laid.entries,
          ap info_length is.laid.class,
          length-most (class_of is.first) (info_slot_of (class_of is.first))
              (IsClass-class_of is.laid.header) head-known.slot,
        )

    said : is_as_said (fields_of_head laid s.head) (length s.frames) (stream_length s) ≡ true
    said =
        ap (λ h. is_as_said h (length s.frames) (stream_length s)) head-is
        ∙ and_from (agrees read.frames (length s.frames)) (agrees read.bytes (stream_length s))
        (agree-by
        (laid-count is.laid.header whole
        is.front is.frames is.back is.frames_are
        (omega (arith, few)))
        many)
        (agree-by
        (laid-bytes is.laid.header whole
        is.front is.frames is.back is.bytes_are few-all)
        long)

  laid-agrees : NeverSaysOther laid
  laid-agrees s e = says-no-other (said e)

-- the text of a file of frames behind an Info frame that gives their numbers says nothing else
pub counted-agree : CountedTextsAgree
counted-agree file is = subst NeverSaysOther (sym is.is) (laid-agrees is)

-- neither does that of a file that a command writes
pub written-agree : WrittenTextsAgree
written-agree = all-written counted-agree
