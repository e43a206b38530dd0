-- The file of a join: the frames of its splice, in the slots of its plan, are those
-- of the whole that was cut, and so are its Info frame and the blocks before it.
use Rattle.std.proofs.Common.{ap, ap₂, arith, drop, false, flat_map, List, map, None, refl}
use Rattle.std.proofs.Common.{replicate, slice_get, Some, suc, sym, take, zero, ℕ, [], ◌++◌, ◌∙◌}
use Rattle.std.proofs.{Common.{◌∷◌, ◌≡◌}, lemmas.List.{drop-map, map-append, take-map}}
use Rattle.std.specs.Prelude.{if◌then◌else◌, nat_le, option_and_then}
use Rattle.cue_sheet.specs.declared.place.Place.{Place}
use Rattle.cut_edits.specs.Exact.{survey_without_head}
use Rattle.frame_header.specs.{Fields.{ClassFields, HeaderFields, IsClass}, Limits.most_frames}
use Rattle.frame_writer.specs.Frames.{Frame}
use Rattle.info_header.specs.{InfoFrame.info_frame, declared.fields.Info.Info}
use Rattle.laying.proofs.{HoldLemmas.{part-entries, part-stream}, LaidLemmas.first-there}
use Rattle.laying.proofs.SurveyFrameLemmas.{frames-of}
use Rattle.laying.specs.Laid.{frames_laid, info_laid, LaidPart}
use Rattle.laying.specs.LaidFiles.{AreStreamEntries, laid_file, stream_entry}
use Rattle.laying.specs.Relaid.{all_frames, FilePart, IsPart, part_frames, part_stream}
use Rattle.laying.specs.{Relaid.relaid_frames, Written.{front_blocks, info_for}}
use Rattle.seam_laws.proofs.BareFrameLemmas.{bare-same, relaid_frames-same}
use Rattle.seam_laws.proofs.{LaidInputLemmas.front-same, PieceListLemmas.{pieces-join, Recording}}
use Rattle.seam_laws.proofs.PiecePartLemmas.{IsPiece, laid-input, row-after}
use Rattle.seam_laws.proofs.SeamlessInputLemmas.{AreInputs, has-apart, input-whole, inputs-whole}
use Rattle.seam_laws.proofs.SeamlessInputLemmas.{IsInput, Joins, own-class}
use Rattle.seam_laws.proofs.SeamlessSpliceLemmas.{stream}
use Rattle.seam_laws.proofs.SplitJoinLemmas.{ArePlain, begin, chosen_between, cut_whole, front-is}
use Rattle.seam_laws.proofs.SplitJoinLemmas.{number, pieces-are, plan-is, splice-stream, uncounted}
use Rattle.seam_laws.proofs.SplitJoinLemmas.{whole-right, whole_cuts}
use Rattle.seam_laws.specs.SeamlessLaws.{bare_file}
use Rattle.seam_plan.specs.Seams.{JointFrames, left_out_count}
use Rattle.seamless_edits.proofs.SplicePartLemmas.{front-within}
use Rattle.seamless_edits.specs.Seamless.{delay_of_splice, join_of_parts, later_parts, part_from}
use Rattle.seamless_edits.specs.Seamless.{seamless_delay, seamless_file, seamless_frames}
use Rattle.seamless_edits.specs.Seamless.{seamless_info, splice_parts, splice_plan}
use Rattle.slot_plan.specs.declared.needs.{Need.Need, Placed.Placed}
use Rattle.sync_survey.specs.{Faults.SurveyFields, MainData.StreamFrame, Row.Row}

-- ---- the frames of an input as they are read

entries-take : (c : ClassFields) (n : ℕ) (fs : List Frame) → AreStreamEntries c fs
    → AreStreamEntries c (take n fs)
entries-take c zero fs are = tt
entries-take c (suc n) [] are = tt
entries-take c (suc n) (f ∷ fs) are = (are.0, entries-take c n fs are.1)

entries-drop : (c : ClassFields) (n : ℕ) (fs : List Frame) → AreStreamEntries c fs
    → AreStreamEntries c (drop n fs)
entries-drop c zero fs are = are
entries-drop c (suc n) [] are = tt
entries-drop c (suc n) (f ∷ fs) are = entries-drop c n fs are.1

entries-append : (c : ClassFields) (fs gs : List Frame) → AreStreamEntries c fs
    → AreStreamEntries c gs → AreStreamEntries c (fs ++ gs)
entries-append c [] gs first second = second
entries-append c (f ∷ fs) gs first second = (first.0, entries-append c fs gs first.1 second)

-- frames that are read, and what they are in their stream
pub record AreRead (c : ClassFields) (fs : List Frame) (stream : List StreamFrame) : Type 0
  where
    pub entries : AreStreamEntries c fs
    pub is : map stream_entry fs ≡ stream

read-append : {c : ClassFields} {fs gs : List Frame} {xs ys : List StreamFrame}
    → AreRead c fs xs → AreRead c gs ys → AreRead c (fs ++ gs) (xs ++ ys)
read-append {c} {fs} {gs} first second = record {
  entries = entries-append c fs gs first.entries second.entries;
  is = map-append stream_entry fs gs ∙ ap₂ ◌++◌ first.is second.is;
}

module _ (c : ClassFields) where
  part-read : {p : FilePart} (is : IsInput c p) (k : ℕ)
      → AreRead c (part_frames (part_from k p)) (part_stream (part_from k p))
  part-read {p} is k =
      let are = frames-of (has-apart is) in
      let all = all_frames p.file (survey_without_head p.survey) in
      record {
        entries = grind (arith, entries-take, entries-drop);
        is = grind (arith, take-map, drop-map);
      }

  parts-read : (joints : List JointFrames) (parts : List FilePart) → AreInputs c parts
      → AreRead c (flat_map part_frames (later_parts joints parts))
      (flat_map part_stream (later_parts joints parts))
  parts-read [] parts are = record { entries = tt; is = refl }
  parts-read (j ∷ joints) [] are = record { entries = tt; is = refl }
  parts-read (j ∷ joints) (p ∷ parts) are =
      read-append (part-read are.0 (left_out_count j.seam)) (parts-read joints parts are.1)

  -- the frames of the splice are read as its stream
  splice-read : {first : FilePart} {parts : List FilePart} (are : Joins c first parts)
      → AreRead c (flat_map part_frames (splice_parts first parts)) (stream are)
  splice-read {first} {parts} are =
      read-append (part-read are.head (join_of_parts first parts).front)
      (parts-read (join_of_parts first parts).joints parts are.others)

-- ---- the file

module _ {c : ClassFields} (known : IsClass c) {first : FilePart} {parts : List FilePart}
    (are : Joins c first parts) where
  abbrev splice_frames_in : List Frame
  splice_frames_in = flat_map part_frames (splice_parts first parts)

  -- frames with the stream of the splice are laid alike by its plan
  pub frames-by : (fs : List Frame) → AreStreamEntries c fs → stream are ≡ map stream_entry fs
      → seamless_frames first parts ≡ relaid_frames fs (splice_plan first parts)
  frames-by fs entries streams =
      let read = splice-read c are in
      relaid_frames-same splice_frames_in fs (splice_plan first parts)
      (bare-same c known splice_frames_in fs read.entries entries (read.is ∙ streams))

  -- if the splice has the stream and the plan of a
  -- part, the frames of the join are those of the part
  pub frames-of-part : {part : FilePart} → IsPart c part → stream are ≡ part_stream part
      → {placed : List Placed} → splice_plan first parts ≡ placed
      → seamless_frames first parts ≡ relaid_frames (part_frames part) placed
  frames-of-part {part} is streams plans =
      frames-by (part_frames part) (part-entries is)
      (streams ∙ sym (part-stream is))
      ∙ ap (relaid_frames (part_frames part)) plans

  -- a row after what leaves the splice
  pub front-row : (r : Row)
      × (slice_get first.survey.frames (join_of_parts first parts).front ≡ Some r)
  front-row =
      let own = own-class are in
      first-there first.survey.frames (join_of_parts first parts).front
      (front-within parts (input-whole own.head)
      (inputs-whole first.survey.class parts own.others))

  module _ (whole : LaidPart) (file : List ℕ) (s : SurveyFields) {row : Row}
      (row_is : slice_get s.frames whole.from ≡ Some row) where
    -- the join is the file of the whole without the blocks after its frames, if its frames, its
    -- Info frame and the blocks before it are those of the whole
    pub file-same : seamless_frames first parts ≡ frames_laid whole file s
        → ((r : Row) → slice_get first.survey.frames (join_of_parts first parts).front ≡ Some r
        → info_frame r.header (seamless_info (delay_of_splice first parts) r first parts)
        ≡ info_frame row.header (info_laid whole file s))
        → front_blocks first.file first.survey ≡ front_blocks file s
        → seamless_file (first ∷ parts) ≡ bare_file whole file s
    unfolding seamless_file laid_file
    file-same frames infos fronts = grind (arith, front-row.1, front-row.0, row.header)

-- ---- whole pieces

module _ {file : List ℕ} {s : SurveyFields} (r : Recording file s) {from to : Place}
    {tos : List Place} {first : FilePart} {parts : List FilePart}
    (plain : ArePlain file s from (to ∷ tos) (first ∷ parts)) where
  abbrev cut : LaidPart
  cut = cut_whole r plain

  abbrev one : IsPiece false (chosen_between (number s from) (number s to)) file s s.class first
  one = (begin r plain).0.piece

  inputs : Joins s.class first parts
  inputs = pieces-join (whole_cuts s) file s (pieces-are r plain)

  frames-are : seamless_frames first parts ≡ frames_laid cut file s
  frames-are =
      let right = whole-right r (pieces-are r plain) in
      frames-of-part r.known inputs
      (record { has = r.has; class = refl; some = right.some; within = right.within })
      (splice-stream r plain) (plan-is r plain)

  -- no numbers are written
  none-counted : delay_of_splice first parts ≡ None
  none-counted =
      ap
      (option_and_then (λ played.
      let delay = seamless_delay played first parts in
      if nat_le delay 4095 then Some delay else None))
      (uncounted one refl)

  infos-are : {row : Row} → slice_get first.survey.frames (join_of_parts first parts).front
      ≡ Some row
      → info_frame row.header (seamless_info (delay_of_splice first parts) row first parts)
      ≡ info_frame one.made.row.header (info_laid cut file s)
  infos-are {row} found =
      let need = row-after one (front-is r plain) found in
      ap₂ (λ (h : HeaderFields) (i : Info). info_frame h i) (ap (λ (n : Need). n.header) need)
      (ap (λ o. seamless_info o row first parts) none-counted
      ∙ ap₂ (λ (d : ClassFields) (fs : List Frame). info_for d fs None (replicate 36 0))
      one.is.of_class frames-are)

  -- the join of the pieces is the file of the whole without the blocks after its frames
  pub seamless-file : seamless_file (first ∷ parts) ≡ bare_file cut file s
  seamless-file =
      file-same r.known inputs cut file s one.made.row_is frames-are
      (λ row. infos-are {row = row})
      (front-same (laid-input one) most_frames {t = s} r.told refl)
