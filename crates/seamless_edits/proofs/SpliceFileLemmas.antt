-- The file of inputs that are joined without seams: it is well-formed and holds its stream.
use Rattle.std.proofs.Common.{ap, arith, Bool, cond, drop, length, List, None, Ok, Option, refl}
use Rattle.std.proofs.Common.{Result, Some, subst, sym, take, ℕ, [], ◌++◌, ◌+◌, ◌-◌, ◌∙◌, ◌∷◌, ◌≡◌}
use Rattle.std.proofs.{Common.◌≤◌, lemmas.List.{length-map, FromFn.length-range_with_len}}
use Rattle.std.specs.Prelude.{flat_map, replicate, slice_get}
use Rattle.commands.proofs.{MadeLemmas.some-frames, RefusingLemmas.then_ok}
use Rattle.commands.specs.{Refusing.then_made, SingleOutput.most_frames}
use Rattle.commands.specs.declared.fault.EditFault.{EditFault}
use Rattle.cut_edits.proofs.{PieceLemmas.head_long, SealedLemmas.for-whole}
use Rattle.cut_edits.specs.Exact.{quality_of}
use Rattle.exact_span.proofs.{ExtensionLemmas.extension-length, SealLemmas.sealed-whole}
use Rattle.frame_header.specs.Fields.{ClassFields}
use Rattle.frame_writer.specs.Frames.{Frame}
use Rattle.info_header.specs.declared.fields.Info.{Info}
use Rattle.joined_inputs.proofs.PartLemmas.{part-is}
use Rattle.joined_inputs.specs.Parts.{join_part, join_parts, join_parts_from}
use Rattle.laying.proofs.{HoldLemmas.blocks-kept, LaidFileLemmas.laid-stream}
use Rattle.laying.proofs.{LaidLemmas.first-there, SurveyFrameLemmas.survey-had}
use Rattle.laying.specs.{LaidFiles.{HasInfoSizes, IsLaidFile, laid_file}, Laws.AreFramesOfStream}
use Rattle.laying.specs.{Relaid.{FilePart, part_stream, stream_with_lead_ins}, Written.front_blocks}
use Rattle.outside.specs.Files.{Contents}
use Rattle.seamless_edits.proofs.SplicePartLemmas.{AreWholeFiles, front-within, IsWholeFile}
use Rattle.seamless_edits.proofs.SplicePartLemmas.{splice-laid}
use Rattle.seamless_edits.specs.Seamless.{delay_of_splice, join_of_parts, part_head, seamless_file}
use Rattle.seamless_edits.specs.Seamless.{seamless_frames, seamless_info, seamless_row_file}
use Rattle.seamless_edits.specs.Seamless.{seamless_stream, splice_extension, splice_parts}
use Rattle.seamless_edits.specs.Seamless.{splice_plan}
use Rattle.sync_survey.specs.{Faults.HoldsStream, MainData.StreamFrame, Row.Row}

-- ---- the Info frame

extension-by : (b : Bool) (extension : List ℕ) → length extension ≡ 36
    → length (cond b extension (take 11 extension ++ (replicate 8 0 ++ drop 19 extension))) ≡ 36
extension-by b extension long = grind arith

module _ (first : FilePart) (parts : List FilePart) where
  abbrev class : ClassFields
  class = first.survey.class

  abbrev frames : List Frame
  frames = seamless_frames first parts

  splice-long : (delay : ℕ) → length (splice_extension delay first parts) ≡ 36
  splice-long delay = grind (arith, first, extension-length, head_long, extension-by)

  info-sizes : (row : Row) (delay : Option ℕ) → HasInfoSizes (seamless_info delay row first parts)
  info-sizes row None = grind (arith, length-map, length-range_with_len)
  info-sizes row (Some delay) =
      let extension = splice_extension delay first parts in
      let whole =
      for-whole class frames (quality_of (part_head first)) (splice-long delay) in
      let sealed = sealed-whole row.header whole in
      record { table = sealed.table; extension = sealed.extension }

  -- ---- the file

  module _ (is : IsWholeFile first.survey.class first)
      (are : AreWholeFiles first.survey.class parts) where
    abbrev front : ℕ
    front = (join_of_parts first parts).front

    abbrev pub blocks : List (List ℕ)
    blocks = front_blocks first.file first.survey

    abbrev stream : List StreamFrame
    stream =
        stream_with_lead_ins (splice_plan first parts)
        (flat_map part_stream (splice_parts first parts))

    -- the first frame of the splice
    pub found : (row : Row) × (slice_get first.survey.frames front ≡ Some row)
    found = first-there first.survey.frames front (front-within parts is are)

    abbrev pub info : Info
    info = seamless_info (delay_of_splice first parts) found.0 first parts

    laid : AreFramesOfStream class frames stream
    laid = splice-laid parts is are

    -- its frames can be laid behind this Info frame
    pub file-is : IsLaidFile class blocks found.0.header info frames []
    file-is =
        let row = is.had.placed front found.0 found.1 in
        record {
          blocks_before = (blocks-kept first.file first.survey is.had).0;
          header = row.known;
          class = row.class_is;
          sizes = info-sizes found.0 (delay_of_splice first parts);
          some = laid.some;
          entries = laid.entries;
          laid = laid.fit;
          blocks_behind = tt;
        }

    abbrev pub file : List ℕ
    file = laid_file blocks found.0.header info frames []

    -- the join is the file of them
    pub seamless-is : seamless_file (first ∷ parts) ≡ file
    unfolding seamless_file
    seamless-is = ap (λ (o : Option Row). seamless_row_file o first parts) found.1

    -- the seamless join holds its stream
    pub seamless-holds : HoldsStream (seamless_file (first ∷ parts))
        (seamless_stream (first ∷ parts))
    unfolding seamless_stream
    seamless-holds =
        subst (λ (f : List ℕ). HoldsStream f stream) (sym seamless-is)
        (subst (HoldsStream file) laid.stream_is
        (laid-stream class blocks found.0.header info frames [] file-is))

-- ---- inputs that aren't refused

part-whole : (files : Contents) {c : ClassFields} (place : ℕ) (first : Option ClassFields)
    (allowed : ℕ) (name : List ℕ) {part : FilePart} → join_part place first allowed (files name)
    ≡ Ok part → part.survey.class ≡ c → IsWholeFile c part
part-whole files {c} place first allowed name {part} e same =
    let is = part-is place (files name) e in
    subst (IsWholeFile c) is.whole
    (record {
      had = survey-had allowed is.surveyed;
      same = ap (λ (p : FilePart). p.survey.class) is.whole ∙ same;
      from = refl;
      to = refl;
      some = some-frames is.file allowed is.surveyed;
    })

then-parts : {part : FilePart} {r : Result (List FilePart) EditFault} {parts : List FilePart}
    → then_made r (λ later. Ok (part ∷ later)) ≡ Ok parts
    → (later : List FilePart) × (r ≡ Ok later) × (part ∷ later ≡ parts)
then-parts e = grind arith

-- the inputs after the first, which are of its class
later-whole : (files : Contents) (c : ClassFields) (place allowed : ℕ) (names : List (List ℕ))
    {parts : List FilePart} → join_parts_from place (Some c) allowed files names ≡ Ok parts
    → AreWholeFiles c parts
unfolding join_parts_from
later-whole files c place allowed [] e = grind arith
later-whole files c place allowed (name ∷ names) {parts} e =
    let one =
    then_ok {r = join_part place (Some c) allowed (files name)} {make = _} {b = parts} e in
    let part : FilePart = one.0 in
    let left : ℕ = allowed - length part.survey.frames in
    let more =
    then-parts {part = part} {r = join_parts_from (place + 1) (Some c) left files names} {parts =
    parts} one.2 in
    let is = part-is place {first = Some c} {allowed = allowed} (files name) {part = part} one.1 in
    let same = ap (λ (p : FilePart). p.survey.class) (sym is.whole) ∙ is.follows in
    subst (AreWholeFiles c) more.2 (
      part-whole files {c = c} place (Some c) allowed name {part = part} one.1 same,
      later-whole files c (place + 1) left names {parts = more.0} more.1,
    )

-- all inputs are whole files
pub record AreInputFiles (parts : List FilePart) : Type 0 where
  pub first : FilePart
  pub more : List FilePart
  pub is : first ∷ more ≡ parts
  pub whole : IsWholeFile first.survey.class first
  pub all : AreWholeFiles first.survey.class more

-- the parts that were made from the files are whole files
pub parts-whole : (files : Contents) (names : List (List ℕ)) {parts : List FilePart}
    → 1 ≤ length names → join_parts files names ≡ Ok parts → AreInputFiles parts
unfolding join_parts_from
parts-whole files [] some e = absurd (omega (arith, some))
parts-whole files (name ∷ names) {parts} some e =
    let one = then_ok e in
    let part : FilePart = one.0 in
    let left : ℕ = most_frames - length part.survey.frames in
    let later = join_parts_from (0 + 1) (Some part.survey.class) left files names in
    let more = then-parts one.2 in
    record {
      first = part;
      more = more.0;
      is = more.2;
      whole = part-whole files 0 None most_frames name one.1 refl;
      all = later-whole files part.survey.class (0 + 1) left names more.1;
    }

-- the file made from them holds its stream
pub files-hold : (files : Contents) (names : List (List ℕ)) {parts : List FilePart}
    → 1 ≤ length names → join_parts files names ≡ Ok parts
    → HoldsStream (seamless_file parts) (seamless_stream parts)
files-hold files names {parts} some e =
    grind (arith, parts-whole files names some e, seamless-holds)
