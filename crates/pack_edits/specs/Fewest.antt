-- A file of the frames of another that has the fewest bytes.
use Rattle.std.specs.Prelude.{All, Bool, false, length, List, map, Ok, ℕ, ◌≡◌, ◌≤◌, ◌⊎◌}
use Rattle.commands.specs.SingleOutput.{most_frames}
use Rattle.frame_header.specs.Tables.{window_of}
use Rattle.laying.specs.{Fits.IsFittingPlan, Laid.{file_laid, LaidPart, needs_laid}}
use Rattle.outside.specs.Files.{Files, Holds}
use Rattle.requests.specs.declared.mode.PackMode.{PackMode, TheVariants.Best}
use Rattle.slot_plan.specs.declared.needs.Placed.{Placed}
use Rattle.sync_survey.specs.{Faults.SurveyFields, Survey.survey_of}

-- which of the places of a plan are places of lead-ins
abbrev pub lead_ins : List Placed → List Bool
lead_ins placed = map (λ p. p.lead_in) placed

-- the other plan has its lead-ins where the first has them, or has none
abbrev pub HasNoMoreLeadIns : List Placed → List Placed → Type 0
HasNoMoreLeadIns placed other =
    (lead_ins other ≡ lead_ins placed) ⊎ All (λ p. p.lead_in ≡ false) other

-- These bytes are the file of all frames in the slots of a plan by which they can be laid, between
-- the file's blocks and after an Info frame. Any other plan by which they can be laid, with each
-- frame in any of the 28 slots and with no other lead-ins, takes at least as many bytes.
pub record IsFewestBytes (file made : List ℕ) : Type 0 where
  pub survey : SurveyFields
  pub surveyed : survey_of file most_frames ≡ Ok survey
  pub laid : LaidPart
  pub first : laid.from ≡ 0
  pub last : laid.to ≡ length survey.frames
  pub fits : IsFittingPlan (window_of survey.class.version) (needs_laid laid survey) laid.placed
  pub is : made ≡ file_laid laid file survey
  pub fewest : (other : List Placed)
      → IsFittingPlan (window_of survey.class.version) (needs_laid laid survey) other
      → HasNoMoreLeadIns laid.placed other
      → length made ≤ length (file_laid (record laid { placed = other }) file survey)

-- In the mode of the fewest bytes, what the output holds afterwards has the fewest bytes of all
-- files of the frames that the input held before.
abbrev pub WritesFewest : PackMode → List ℕ → List ℕ → Files → Files → Type 0
WritesFewest Best input output old new =
    (file made : List ℕ) → Holds old input file → Holds new output made → IsFewestBytes file made
WritesFewest _ input output old new = Unit {0}
