-- The commands that choose frames by their positions, or all frames, of one file.
use Rattle.std.proofs.Common.{ap, arith, Bool, length, List, map, Ok, Option, Result, Some, subst}
use Rattle.std.{proofs.Common.{sym, ℕ, [], ◌∙◌, ◌∷◌, ◌≡◌}, specs.List.enumerate_from}
use Rattle.std.specs.Prelude.{slice_get, slice_range, unwrap_or, ◌<◌, ◌≤◌}
use Rattle.chosen_streams.proofs.CaseLemmas.{chosen-exact_is, stream-is}
use Rattle.chosen_streams.{proofs.MenuCaseLemmas.packed-exact, specs.Exact.IsExactly}
use Rattle.chosen_streams.specs.Laws.{HoldsChosen}
use Rattle.command_table.specs.Chosen.{frames_between, named_frames, position_number}
use Rattle.commands.proofs.{MadeLemmas.{made-of, makes-parts}, RefusingLemmas.refusal_or-ok}
use Rattle.commands.specs.SingleOutput.{input_result, most_frames}
use Rattle.commands.specs.declared.fault.{EditFault.EditFault, Refusal.Refusal}
use Rattle.cue_sheet.specs.{Places.frame_at, declared.place.Place.Place}
use Rattle.cut_edits.proofs.ChosenLemmas.{all-whole, all_right, by_usual, chosen-within, laid-parts}
use Rattle.cut_edits.specs.Chosen.{all_choice, AreUsualChoices, Choosing, Chosen, chosen_needs}
use Rattle.cut_edits.specs.Chosen.{chosen_range, cut_choice, cut_refuses, first_plan}
use Rattle.cut_edits.specs.Chosen.{first_planning, laying_making, laying_task, placed_part}
use Rattle.cut_edits.specs.Chosen.{Planning, slot_choices}
use Rattle.frame_header.specs.{Fields.{ClassFields, HeaderFields, SlotFields}, Tables.class_of}
use Rattle.job_words.specs.Request.{Cut, Pack}
use Rattle.laying.specs.{Laid.stream_laid, NeedsFit.IsPlacedSurvey}
use Rattle.outside.specs.Files.{Contents}
use Rattle.pack_edits.specs.Modes.{limited_result, mode_limit, mode_planning, mode_refuses}
use Rattle.pack_edits.specs.Modes.{pack_task}
use Rattle.requests.specs.declared.mode.PackMode.{PackMode}
use Rattle.salvage_edits.proofs.StreamLemmas.{whole-stream}
use Rattle.slot_plan.specs.declared.needs.Placed.{Placed}
use Rattle.sync_survey.proofs.PlacedRowLemmas.{survey_fields-placed}
use Rattle.sync_survey.proofs.{SurveyPartsLemmas.stream-length, SurveyedFileLemmas.survey_of-parts}
use Rattle.sync_survey.specs.Faults.{stream_of, stream_of_survey, SurveyFields}
use Rattle.sync_survey.specs.MainData.{main_bytes, stream_frame, stream_frames, StreamFrame}
use Rattle.sync_survey.specs.{Row.Row, Survey.survey_of, declared.places.Head.Head}

-- ---- positions

rows-number : (main : List ℕ) (head : Option Head) (all rows : List Row) {class : ClassFields}
    (place : Place) → 0 < length rows
    → ((r : Row) → slice_get rows 0 ≡ Some r → class_of r.header ≡ class)
    → length (map (λ (p : ℕ × Row). stream_frame main head all p.0 p.1) (enumerate_from 0 rows))
    ≡ length rows → position_number (map (λ (p : ℕ × Row). stream_frame main head all p.0 p.1)
    (enumerate_from 0 rows)) place ≡ frame_at class (length rows) place
rows-number main head all [] place some first many = absurd (omega (arith, some))
rows-number main head all (r ∷ rows) place some first many = grind arith

numbers : (file : List ℕ) (s : SurveyFields) → IsPlacedSurvey s → 0 < length s.frames
    → (place : Place) → length (stream_of_survey file s) ≡ length s.frames
    → position_number (stream_of_survey file s) place ≡ frame_at s.class (length s.frames) place
unfolding stream_of_survey stream_frames
numbers file s placed some place many = rows-number (main_bytes file s.head s.frames)
    s.head s.frames s.frames place some (λ r found. (placed 0 r found).class_is) many

module _ (file : List ℕ) {s : SurveyFields} (is : survey_of file most_frames ≡ Ok s) where
  abbrev at : Place → ℕ
  at = frame_at s.class (length s.frames)

  number-is : 0 < length s.frames → (place : Place)
      → position_number (stream_of file) place ≡ at place
  number-is some place =
      ap (λ (l : List StreamFrame). position_number l place) (stream-is file most_frames is)
      ∙ numbers file s (survey_fields-placed file most_frames
      (survey_of-parts file most_frames is).1) some place (stream-length file s)

  -- the frames from one position to before another
  between-is : (quality : Option ℕ) (extension : List ℕ) (from to : Place) {chosen : Chosen}
      → chosen_range quality extension (at from) (at to) (length s.frames) ≡ Ok chosen →
      (frames_between (stream_of file) from to ≡ slice_range (stream_of file) chosen.from chosen.to)
      × (chosen.from < chosen.to) × (chosen.to ≤ length s.frames)
  between-is quality extension from to {chosen} e =
      grind (
        arith,
        chosen-within quality extension
            {from = at from} {to = at to} {frames = length s.frames} {chosen = chosen} e,
        refusal_or-ok,
        number-is,
      )

  between-exact : {choices : HeaderFields → List SlotFields} → AreUsualChoices choices
      → (quality : Option ℕ) (extension : List ℕ) (from to : Place) {chosen : Chosen}
      → chosen_range quality extension (at from) (at to) (length s.frames) ≡ Ok chosen
      → IsExactly (frames_between (stream_of file) from to ∷ [])
      (stream_laid (placed_part chosen (first_plan choices s.class (chosen_needs chosen s))) file s)
  between-exact usual quality extension from to {chosen} e =
      grind (arith, between-is quality extension from to e, chosen-exact_is)

  -- the frames that a cut chooses, in the slots of their plan
  pub cut-exact : (from to : Place) (least : Bool) {chosen : Chosen} {placed : List Placed}
      → cut_choice from to file s ≡ Ok chosen
      → first_planning (slot_choices least) s.class (chosen_needs chosen s) ≡ Ok placed → IsExactly
      (frames_between (stream_of file) from to ∷ [])
      (stream_laid (placed_part chosen placed) file s)
  unfolding cut_choice
  cut-exact from to least e planned = grind (arith, between-exact, by_usual)

  -- ---- all frames

  all-frames : {chosen : Chosen} → all_choice file s ≡ Ok chosen
      → slice_range (stream_of file) chosen.from chosen.to ≡ stream_of file
  all-frames {chosen} e =
      grind (arith, all-whole file s e, stream-is file most_frames is, whole-stream file s)

  -- all frames in the slots of the plan of a mode
  packed-is : (mode : PackMode) {chosen : Chosen} {placed : List Placed} → all_choice file s
      ≡ Ok chosen → mode_planning mode s.class (chosen_needs chosen s) ≡ Ok placed
      → IsExactly (stream_of file ∷ []) (stream_laid (placed_part chosen placed) file s)
  packed-is mode {chosen} e planned =
      grind (
        arith,
        all_right file e,
        packed-exact,
        stream-is file most_frames is,
        all-frames e,
      )

-- ---- the commands

-- the input has these bytes
abbrev Reads : Contents → List ℕ → List ℕ → Type 0
Reads files input file = files input ≡ Some file

-- the frames of an input that is read are its stream
pub frames-are : (files : Contents) {input file : List ℕ} → Reads files input file
    → named_frames files input ≡ stream_of file
frames-are files there = ap (λ (o : Option (List ℕ)). stream_of (unwrap_or o [])) there

-- frames that are chosen by their survey, and laid by a plan
module _ {choose : Choosing} (plan : Planning) (refuses : Refusal → Bool)
    (frames : List StreamFrame → List StreamFrame)
    (exact : (file : List ℕ) (s : SurveyFields) (chosen : Chosen) (placed : List Placed)
    → survey_of file most_frames ≡ Ok s → choose file s ≡ Ok chosen
    → plan s.class (chosen_needs chosen s) ≡ Ok placed → IsExactly (frames (stream_of file) ∷ [])
    (stream_laid (placed_part chosen placed) file s)) where
  laid-holds : (files : Contents) (input : List ℕ) {bytes : List ℕ}
      → input_result (laying_making choose plan) (files input) ≡ Ok bytes → IsExactly
      (frames (named_frames files input) ∷ [])
      ((laying_task choose plan refuses input).stream files)
  laid-holds files input {bytes} e =
      let is =
      made-of {make = laying_making choose plan} {files = files} {name = input} {bytes = bytes} e in
      let by = laid-parts choose plan {file = is.file} {s = is.survey} {made = is.bytes} is.made in
      let laid = placed_part by.chosen by.placed in
      let stream : (laying_task choose plan refuses input).stream files
      ≡ stream_laid laid is.file is.survey = grind arith in
      subst (λ (l : List StreamFrame). IsExactly (frames (named_frames files input) ∷ []) l)
      (sym stream)
      (subst (λ (l : List StreamFrame). IsExactly (frames l ∷ [])
      (stream_laid laid is.file is.survey))
      (sym (frames-are files {input = input} {file = is.file} is.there))
      (exact is.file is.survey by.chosen by.placed is.surveyed by.chose by.planned))

-- a cut holds the frames that its job chooses
pub cut-holds : (from to : Place) (least : Bool) (input output : List ℕ)
    → HoldsChosen (Cut from to least input output)
cut-holds from to least input output files made e =
    let plan = first_planning (slot_choices least) in
    let bytes =
    makes-parts (laying_task (cut_choice from to) plan cut_refuses input) output e in (
      laid-holds plan cut_refuses (λ l. frames_between l from to)
          (λ file s chosen placed is. cut-exact file is from to least) files input bytes.2,
      tt,
    )

-- a packing within its limit makes what it makes without it
pub packed-made : (mode : PackMode) (o : Option (List ℕ)) {r : Result (List ℕ) EditFault}
    {new : List ℕ} → limited_result (mode_limit mode) o r ≡ Ok new → r ≡ Ok new
packed-made mode o e = grind arith

-- a packing holds the frames that its job chooses
pub pack-holds : (mode : PackMode) (input output : List ℕ)
    → HoldsChosen (Pack mode input output)
pack-holds mode input output files made e =
    let plan = mode_planning mode in
    let bytes = makes-parts (pack_task mode input) output e in
    let free = packed-made mode (files input) bytes.2 in (
      laid-holds plan (mode_refuses mode) (λ l. l) (λ file s chosen placed is.
          packed-is file is mode) files input free,
      tt,
    )
