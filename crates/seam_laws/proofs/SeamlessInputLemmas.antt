-- What the inputs of a seamless join bring.
use Rattle.std.proofs.Common.{ap, arith, drop, length, List, map, Ok, Option, refl, Some, subst}
use Rattle.std.proofs.Common.{sym, zip, ℕ, [], ◌*◌, ◌+◌, ◌-◌, ◌<◌, ◌∙◌, ◌∷◌, ◌≡◌, ◌≤◌}
use Rattle.std.proofs.lemmas.List.{length-drop, length-map, take_all}
use Rattle.std.specs.Prelude.{option_map, slice_range}
use Rattle.chosen_streams.proofs.JoinCaseLemmas.{more-inputs}
use Rattle.commands.proofs.{MadeLemmas.some-frames, RefusingLemmas.then_ok}
use Rattle.cut_edits.proofs.HeadLemmas.{survey_without_head-had, survey_without_head-length}
use Rattle.cut_edits.{proofs.HeadLemmas.survey_without_head-placed, specs.Exact.survey_without_head}
use Rattle.exact_span.specs.PlayedPositions.{counted_played, counted_positions, samples_in}
use Rattle.exact_span.specs.declared.{extensions.HeadCounts.HeadCounts, played.Played.Played}
use Rattle.frame_header.specs.Fields.{ClassFields}
use Rattle.joined_inputs.proofs.PartLemmas.{part-is}
use Rattle.joined_inputs.specs.Parts.{join_part, join_parts, join_parts_from}
use Rattle.laying.proofs.{HoldLemmas.all-length, NeedsFitLemmas.part-fits, PlacesLemmas.range-whole}
use Rattle.laying.{proofs.SurveyFrameLemmas.{frames-of, survey-had}, specs.LaidFiles.stream_entry}
use Rattle.laying.specs.{Needs.need_of, Relaid.{all_frames, FilePart, part_rows, part_stream}}
use Rattle.laying.specs.Surveys.{CanBeRelaid}
use Rattle.outside.specs.Files.{Contents}
use Rattle.seam_plan.proofs.{FollowLemmas.sounds, SpliceSoundLemmas.{AreFit, IsFit}}
use Rattle.seam_plan.specs.Frames.{needs_of}
use Rattle.seamless_edits.proofs.SplicePartLemmas.{AreWholeFiles, brought-alone}
use Rattle.seamless_edits.proofs.SplicePartLemmas.{brought-many as file-many, IsWholeFile}
use Rattle.seamless_edits.proofs.SplicePartLemmas.{needs-are}
use Rattle.seamless_edits.specs.Seamless.{part_brought, part_from, part_without_head, sound_of}
use Rattle.seamless_edits.specs.Seamless.{splice_frame}
use Rattle.slot_plan.specs.Parts.{AreNeedsOfClass}
use Rattle.sync_survey.specs.{Faults.{stream_of_survey, SurveyFields}, MainData.StreamFrame}
use Rattle.sync_survey.specs.{Row.Row, Survey.survey_of}

-- ---- the inputs that a join takes

-- an input of this class: all frames of a file with this survey
pub record IsInput (class : ClassFields) (p : FilePart) : Type 0 where
  pub allowed : ℕ
  pub surveyed : survey_of p.file allowed ≡ Ok p.survey
  pub has : CanBeRelaid p.file p.survey
  pub of_class : p.survey.class ≡ class
  pub from : p.from ≡ 0
  pub to : p.to ≡ length p.survey.frames
  pub some : 0 < length p.survey.frames

abbrev pub AreInputs : ClassFields → List FilePart → Type 0
AreInputs class [] = Unit {0}
AreInputs class (p ∷ parts) = IsInput class p × AreInputs class parts

-- the inputs of a join, which are of this class
pub record Joins (class : ClassFields) (first : FilePart) (parts : List FilePart) : Type 0 where
  pub head : IsInput class first
  pub others : AreInputs class parts

-- an input is a whole file
pub input-whole : {class : ClassFields} {p : FilePart} → IsInput class p → IsWholeFile class p
input-whole is = record {
  had = is.has;
  same = is.of_class;
  from = is.from;
  to = is.to;
  some = is.some;
}

-- inputs are whole files
pub inputs-whole : (class : ClassFields) (parts : List FilePart) → AreInputs class parts
    → AreWholeFiles class parts
inputs-whole class [] are = tt
inputs-whole class (p ∷ parts) are = (input-whole are.0, inputs-whole class parts are.1)

input-is : {class : ClassFields} (place : ℕ) (first : Option ClassFields) (allowed : ℕ)
    (o : Option (List ℕ)) {p : FilePart}
    → join_part place first allowed o ≡ Ok p → p.survey.class ≡ class → IsInput class p
input-is {class} place first allowed o {p} e same =
    let is = part-is place o e in
    subst (IsInput class) is.whole
    (record {
      allowed = allowed;
      surveyed = is.surveyed;
      has = survey-had allowed is.surveyed;
      of_class = ap (λ (q : FilePart). q.survey.class) is.whole ∙ same;
      from = refl;
      to = refl;
      some = some-frames is.file allowed is.surveyed;
    })

inputs-behind : (files : Contents) (class : ClassFields) (place allowed : ℕ) (names : List (List ℕ))
    {parts : List FilePart}
    → join_parts_from place (Some class) allowed files names ≡ Ok parts → AreInputs class parts
unfolding join_parts_from
inputs-behind files class place allowed [] e = grind arith
inputs-behind files class place allowed (name ∷ names) {parts} e =
    let one =
    then_ok {r = join_part place (Some class) allowed (files name)} {make = _} {b = parts} e in
    let part = one.0 in
    let more =
    more-inputs {part = part}
    {r = join_parts_from (place + 1) (Some class) (allowed - length part.survey.frames) files names}
    {parts = parts} one.2 in
    let is =
    part-is place {first = Some class} {allowed = allowed} (files name) {part = part} one.1 in
    let same : part.survey.class ≡ class = grind arith in
    subst (AreInputs class) more.2 (
      input-is {class = class} place (Some class) allowed (files name) {p = part} one.1 same,
      inputs-behind files class (place + 1) (allowed - length part.survey.frames) names
          {parts = more.0}
          more.1,
    )

are-inputs : (files : Contents) (names : List (List ℕ)) {first : FilePart} {parts : List FilePart}
    → join_parts files names ≡ Ok (first ∷ parts)
    → AreInputs first.survey.class (first ∷ parts)
unfolding join_parts_from
are-inputs files [] e = absurd cc
are-inputs files (name ∷ names) e = grind (arith, then_ok, more-inputs, input-is, inputs-behind)

-- the parts that files are read as are inputs of the class of the first one
pub inputs-are : (files : Contents) (names : List (List ℕ)) {first : FilePart}
    {parts : List FilePart} → join_parts files names ≡ Ok (first ∷ parts)
    → Joins first.survey.class first parts
inputs-are files names {first} {parts} e =
    let are = are-inputs files names e in record { head = are.0; others = are.1 }

-- the class of the inputs is that of the first one
pub own-class : {c : ClassFields} {first : FilePart} {parts : List FilePart} → Joins c first parts
    → Joins first.survey.class first parts
own-class {first = first} {parts = parts} are =
    subst (λ d. Joins d first parts) (sym are.head.of_class) are

-- ---- what they bring

-- frames made from rows and a stream of the same length need what the rows do
pub splice-needs : (class : ClassFields) (rows : List Row) (stream : List StreamFrame)
    → length stream ≡ length rows
    → needs_of (map (splice_frame class) (zip rows stream)) ≡ map need_of rows
splice-needs class [] stream same = refl
splice-needs class (r ∷ rows) [] same = absurd (omega (arith, same))
splice-needs class (r ∷ rows) (f ∷ stream) same =
    ap (λ l. need_of r ∷ l) (splice-needs class rows stream (omega (arith, same)))

-- frames made from rows and a stream of the same length sound as the stream does
pub splice-sounds : (class : ClassFields) (rows : List Row) (stream : List StreamFrame)
    → length stream ≡ length rows
    → sounds (map (splice_frame class) (zip rows stream)) ≡ map (sound_of class) stream
splice-sounds class [] [] same = refl
splice-sounds class [] (f ∷ stream) same = absurd (omega (arith, same))
splice-sounds class (r ∷ rows) [] same = absurd (omega (arith, same))
splice-sounds class (r ∷ rows) (f ∷ stream) same =
    grind (arith, splice-sounds class rows stream (omega (arith, same)))

counted-end : (samples frames : ℕ) (o : Option HeadCounts) {played : Played}
    → option_map (counted_played samples frames) o ≡ Some played
    → played.end ≤ frames * samples
counted-end samples frames o e = grind arith

module _ {class : ClassFields} {p : FilePart} (is : IsInput class p) where
  abbrev survey : SurveyFields
  survey = survey_without_head p.survey

  -- the stream of an input whose head is set apart
  abbrev pub whole_stream : List StreamFrame
  whole_stream = stream_of_survey p.file survey

  -- the file has the survey whose head is set apart
  pub has-apart : CanBeRelaid p.file survey
  has-apart = survey_without_head-had is.has
      (survey_without_head-placed p.survey is.has.placed)

  stream-length : length whole_stream ≡ length survey.frames
  stream-length =
      let are = frames-of has-apart in
      ap length (sym are.stream_is)
      ∙ length-map (all_frames p.file survey) stream_entry ∙ all-length p.file survey

  -- the stream is as long as the list of rows of the survey
  pub stream-many : length whole_stream ≡ length p.survey.frames
  stream-many = stream-length ∙ survey_without_head-length p.survey

  to-apart : p.to ≡ length survey.frames
  to-apart = is.to ∙ sym (survey_without_head-length p.survey)

  rows-whole : part_rows (part_without_head p) ≡ survey.frames
  rows-whole = grind (arith, to-apart, range-whole)

  -- what is left of an input without its first k frames is its stream without its first k frames
  pub stream-from : (k : ℕ) → part_stream (part_from k p) ≡ drop k whole_stream
  stream-from k = grind (arith, take_all, length-drop, stream-many)

  -- all that the input holds, when its head is set apart, is this stream
  pub stream-whole : part_stream (part_without_head p) ≡ whole_stream
  stream-whole = ap (λ n. slice_range whole_stream n p.to) is.from ∙ stream-from 0

  frames-whole : (part_brought p).frames
      ≡ map (splice_frame p.survey.class) (zip survey.frames whole_stream)
  frames-whole = grind (arith, rows-whole, stream-whole)

  -- the frames that it brings need what the rows do
  pub brought-needs : needs_of (part_brought p).frames ≡ map need_of survey.frames
  brought-needs = needs-are (input-whole is)

  -- the frames that it brings sound as the stream does
  pub brought-sounds : sounds (part_brought p).frames ≡ map (sound_of class) whole_stream
  brought-sounds = grind (arith, sounds, frames-whole, splice-sounds, stream-length)

  -- the input brings as many frames as the survey has
  pub brought-many : length (part_brought p).frames ≡ length p.survey.frames
  brought-many = file-many (input-whole is)

  -- the frames that it brings are of the class and fit with no free bytes before them
  pub brought-fit : IsFit class (part_brought p)
  brought-fit =
      let fits = part-fits survey 0 (length survey.frames) has-apart.placed in
      let same = subst (λ l. AreNeedsOfClass p.survey.class (map need_of l))
      (range-whole survey.frames) fits.0 in
      record {
        same = subst (λ c. AreNeedsOfClass c (needs_of (part_brought p).frames)) is.of_class
            (subst (AreNeedsOfClass p.survey.class) (sym brought-needs) same);
        fits = brought-alone (input-whole is);
      }

  -- no played position is after the last frame
  pub played-end : {played : Played} → (part_brought p).played ≡ Some played
      → played.end ≤ length p.survey.frames * samples_in class
  unfolding counted_positions
  played-end e = grind (arith, counted-end)

-- all inputs bring frames that fit
pub inputs-fit : (class : ClassFields) (parts : List FilePart) → AreInputs class parts
    → AreFit class (map part_brought parts)
inputs-fit class [] are = tt
inputs-fit class (p ∷ parts) are = (brought-fit are.0, inputs-fit class parts are.1)
