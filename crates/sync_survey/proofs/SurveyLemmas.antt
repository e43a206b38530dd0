-- The survey of a file's bytes, from what the parts of the code find.
use Rattle.std.proofs.Common.{ap, ap₂, arith, drop, Err, length, List, None, Ok, Option}
use Rattle.std.proofs.Common.{option_to_list, refl, Result, Some, ℕ, [], ◌++◌, ◌∙◌, ◌∷◌, ◌≡◌, ◌≤◌}
use Rattle.frame_header.proofs.{HeaderLemmas.IsClass-class_of, LengthLemmas.area_some}
use Rattle.frame_header.specs.Fields.{HeaderFields, IsHeader}
use Rattle.frame_header.specs.Tables.{class_of, length_of, overhead_of}
use Rattle.side_info.proofs.FrameLemmas.{overhead-most}
use Rattle.sync_survey.proofs.FaultsLemmas.{none-of}
use Rattle.sync_survey.proofs.WalkLemmas.{IsFound, no_fault, nothing_left, walk-is}
use Rattle.sync_survey.specs.Chains.{frames_of}
use Rattle.sync_survey.specs.Faults.{all_faults, class_from, fault_or_survey, faults_from}
use Rattle.sync_survey.specs.Faults.{fields_from, first_of, survey_fields, survey_from_start}
use Rattle.sync_survey.specs.{Faults.SurveyFields, Items.item_at, MainData.{marked_rows, rows_of}}
use Rattle.sync_survey.specs.{Row.Row, Start.start_of}
use Rattle.sync_survey.specs.Walk.{end_fault, fault_at, head_of, numbered_frames, stream_chain}
use Rattle.sync_survey.specs.{Walk.walk_from, declared.places.{Head.Head, Piece.Piece}}
use Rattle.sync_survey.specs.declared.places.{PlacedFrame.PlacedFrame, Start.Start}
use Rattle.sync_survey.specs.declared.survey_fault.SurveyFault.{SurveyFault}

-- ---- a frame is longer than what precedes its area

-- what precedes a frame's area is within the frame
pub overhead-within : {h : HeaderFields} → IsHeader h
    → overhead_of (class_of h) h.protected ≤ length_of (class_of h) h.slot
overhead-within fields = grind (arith, overhead-most, area_some, IsClass-class_of)

-- ---- the survey

-- what a survey that found these frames and blocks says
abbrev pub told_by : List ℕ → Start → Option Head → List Row → List Piece → SurveyFields
told_by file start head rows blocks = record {
  frames = marked_rows head rows;
  blocks = blocks;
  head = head;
  junk = start.front_end;
  first = start.first.offset;
  class = class_from start;
  length = length file;
}

survey-by : (file : List ℕ) (allowed : ℕ) {r : Result Start SurveyFault} → start_of file ≡ r
    → survey_fields file allowed ≡ survey_from_start file allowed r
unfolding survey_fields
survey-by file allowed is = ap (survey_from_start file allowed) is

module _ {file : List ℕ} (allowed : ℕ) {start : Start} {head : Option Head}
    {frames : List PlacedFrame} {blocks : List Piece} {stop : ℕ}
    (found : IsFound file start head frames blocks stop) where
  abbrev end : Option SurveyFault
  end = end_fault file frames (fault_at stop (item_at file stop))

  abbrev of_frames : List SurveyFault
  of_frames = all_faults file head (class_from start) allowed (rows_of file frames)

  faults-are : faults_from file allowed start ≡ of_frames ++ option_to_list end
  unfolding faults_from
  faults-are = grind (arith, start, walk-is)

  abbrev fields : SurveyFields
  fields = told_by file start head (rows_of file frames) blocks

  fields-are : fields_from file start ≡ fields
  unfolding fields_from
  fields-are = grind (arith, walk-is found)

  -- if a frame is at fault, its first fault is the file's
  pub survey-frame : {fault : SurveyFault} → first_of of_frames ≡ Some fault
      → survey_fields file allowed ≡ Err fault
  survey-frame is = grind (arith, survey-by file allowed found.start_is, faults-are)

  last-fault : first_of of_frames ≡ None → {o : Option SurveyFault} → end ≡ o
      → first_of (faults_from file allowed start) ≡ first_of (option_to_list o)
  last-fault none is = grind (arith, faults-are, none-of, none)

  -- if no frame is at fault, but the walk stops before the end or has no frame, that is the file's
  -- fault
  pub survey-stopped : (fault : SurveyFault) → first_of of_frames ≡ None → end ≡ Some fault
      → survey_fields file allowed ≡ Err fault
  survey-stopped fault none is =
      survey-by file allowed found.start_is
      ∙ ap (λ o. fault_or_survey o (fields_from file start)) (last-fault none is)

  -- if nothing is at fault, the file has this survey
  pub survey-whole : first_of of_frames ≡ None → end ≡ None → survey_fields file allowed ≡ Ok fields
  survey-whole none is =
      survey-by file allowed found.start_is
      ∙ ap₂ fault_or_survey (last-fault none is) fields-are

-- ---- what a survey says of its file

-- the start of the stream, and that there is no fault
pub record IsSurveyed (file : List ℕ) (allowed : ℕ) (s : SurveyFields) : Type 0 where
  pub start : Start
  pub begins : start_of file ≡ Ok start
  pub fields_are : fields_from file start ≡ s
  pub none : first_of (faults_from file allowed start) ≡ None

start_cases : {file : List ℕ} {allowed : ℕ} {s : SurveyFields} {r : Result Start SurveyFault}
    → start_of file ≡ r → survey_from_start file allowed r ≡ Ok s → IsSurveyed file allowed s
start_cases begins e = grind arith

-- a survey without fault has a start, and no fault from there on
pub survey_fields-is : {file : List ℕ} {allowed : ℕ} {s : SurveyFields}
    → survey_fields file allowed ≡ Ok s → IsSurveyed file allowed s
unfolding survey_fields
survey_fields-is {file} {allowed} {s} e = start_cases refl e

last_none : (xs : List SurveyFault) (o : Option SurveyFault)
    → first_of (xs ++ option_to_list o) ≡ None → o ≡ None
last_none [] None e = refl
last_none [] (Some fault) e = absurd cc
last_none (x ∷ xs) o e = absurd cc

-- the frames and the head of the survey are those of the walk, which reaches the file's end
pub record IsWalked (file : List ℕ) (s : SurveyFields) (start : Start) : Type 0 where
  pub head_is : s.head ≡ head_of file start.first
  pub frames_are : s.frames
      ≡ marked_rows s.head (rows_of file
      (numbered_frames s.head (frames_of (stream_chain file start).items)))
  pub junk_is : s.junk ≡ start.front_end
  pub first_is : s.first ≡ start.first.offset
  pub nothing_behind : drop (stream_chain file start).stop file ≡ []

walk_fault : (file : List ℕ) (start : Start) → (walk_from file start).fault ≡ None
    → drop (stream_chain file start).stop file ≡ []
unfolding walk_from
walk_fault file start none = nothing_left file (stream_chain file start).stop (no_fault file _ none)

walked_by : {file : List ℕ} {start : Start} → drop (stream_chain file start).stop file ≡ []
    → IsWalked file (fields_from file start) start
unfolding fields_from walk_from
walked_by left = grind arith

end_none : (file : List ℕ) (allowed : ℕ) (start : Start)
    → first_of (faults_from file allowed start) ≡ None → (walk_from file start).fault ≡ None
unfolding faults_from
end_none file allowed start none = last_none _ _ none

-- the frames and the head of a survey without fault are those of the walk
pub walked : {file : List ℕ} {allowed : ℕ} {s : SurveyFields} (is : IsSurveyed file allowed s)
    → IsWalked file s is.start
walked is = grind (arith, walked_by, walk_fault, end_none)
