-- A head that could not be read, and surveys whose head is set apart, by which frames can be laid.
use Rattle.std.proofs.Common.{arith, Bool, cond, false, length, List, map, None, Option, Some, true}
use Rattle.std.proofs.{Common.{ℕ, [], ◌+◌, ◌∙◌, ◌∷◌, ◌≡◌}, lemmas.List.length-map}
use Rattle.std.specs.List.{enumerate_from}
use Rattle.commands.proofs.{InputLemmas.fault_is_input, WhyLemmas.each_why}
use Rattle.commands.specs.AfterCall.{HasInputNumbers}
use Rattle.commands.specs.SingleOutput.{IsFileFault, IsInputFault, Making, most_frames}
use Rattle.commands.specs.declared.fault.{EditFault.{EditFault, TheVariants.Input}, Refusal.Refusal}
use Rattle.cut_edits.specs.{Exact.survey_without_head, Heads.{HasHeadNumbers, IsHeadFault}}
use Rattle.laying.proofs.SurveyFrameLemmas.{side_paired}
use Rattle.laying.specs.Surveys.{AreWholeRows, CanBeRelaid, IsWholeRow}
use Rattle.outside.specs.Seen.{Seen}
use Rattle.side_info.specs.Side.{no_side}
use Rattle.sync_survey.proofs.ApartLemmas.{placed-apart}
use Rattle.sync_survey.proofs.EmptiedLemmas.{length_apart, placed-emptied}
use Rattle.sync_survey.specs.Faults.{SurveyFields}
use Rattle.sync_survey.specs.HeadApart.{apart_row, apart_rows, emptied_row, rows_set_apart}
use Rattle.sync_survey.specs.{Row.Row, Survey.AreWellPlaced, declared.places.Head.Head}

module _ (name : List ℕ) (old new : Seen) (fault : EditFault) where
  -- a head that could not be read is a fault of the file
  pub head_is_file : IsHeadFault name old new fault → IsFileFault 0 most_frames name old new fault
  head_is_file h = grind (arith, each_why)

  -- and one of the only input, whatever the command makes
  pub head_is_input : (make : Making) → IsHeadFault name old new fault
      → IsInputFault make name old new fault
  head_is_input make h = fault_is_input make name old new fault (head_is_file h)

-- the numbers of such a fault are in range
pub head_numbers : (refuses : Refusal → Bool) (fault : EditFault) → HasHeadNumbers fault
    → HasInputNumbers refuses fault
head_numbers refuses (Input place fault) is = is
head_numbers refuses _ is = absurd is

marks_whole : (file : List ℕ) (rows : List Row) (n : ℕ) (more : List Row) → AreWholeRows file more
    → AreWholeRows file (map (λ (p : ℕ × Row). apart_row rows p.0 p.1) (enumerate_from n more))
marks_whole file rows n [] are = tt
marks_whole file rows n (r ∷ more) are =
    (record { frame = are.0.frame; pairs = are.0.pairs }, marks_whole file rows (n + 1) more are.1)

apart_whole : (file : List ℕ) (head : Option Head) (rows : List Row) → AreWholeRows file rows
    → AreWholeRows file (rows_set_apart head rows)
unfolding apart_rows
apart_whole file None rows are = are
apart_whole file (Some head) rows are = marks_whole file rows 0 rows are

row_whole : {file : List ℕ} {r : Row} (lost : Bool) → IsWholeRow file r
    → IsWholeRow file (cond lost (record r { side = no_side; lost = false }) r)
row_whole {r = r} true is = record { frame = is.frame; pairs = side_paired true is.pairs }
row_whole false is = is

-- whole rows stay whole if the lost ones are emptied
pub emptied_whole : (file : List ℕ) (rows : List Row) → AreWholeRows file rows
    → AreWholeRows file (map emptied_row rows)
emptied_whole file [] are = tt
emptied_whole file (r ∷ rows) are = (row_whole r.lost are.0, emptied_whole file rows are.1)

-- a survey has as many frames when its head is set apart
pub survey_without_head-length : (s : SurveyFields)
    → length (survey_without_head s).frames ≡ length s.frames
survey_without_head-length s =
    length-map (rows_set_apart s.head s.frames) emptied_row ∙ length_apart s.head s.frames

-- the main data of its frames are still well placed
pub survey_without_head-placed : (s : SurveyFields) → AreWellPlaced s.head s.class s.frames
    → AreWellPlaced s.head s.class (survey_without_head s).frames
survey_without_head-placed s placed = placed-emptied s.head
    (placed-apart s.head placed)

-- a file can be relaid by the survey whose head is set apart, if the main data are well placed
-- there
pub survey_without_head-had : {file : List ℕ} {s : SurveyFields} → CanBeRelaid file s
    → AreWellPlaced s.head s.class (survey_without_head s).frames
    → CanBeRelaid file (survey_without_head s)
survey_without_head-had {file} {s} is placed = record {
  long = is.long;
  head = is.head;
  rows = emptied_whole file (rows_set_apart s.head s.frames)
      (apart_whole file s.head s.frames is.rows);
  placed = placed;
  blocks = is.blocks;
}
