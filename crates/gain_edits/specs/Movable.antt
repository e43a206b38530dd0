-- What is prepared for a change of gains, and the file that is written.
use Rattle.std.specs.Prelude.{List, Ok, ℕ, ◌≡◌}
use Rattle.commands.specs.SingleOutput.{most_frames}
use Rattle.gain_edits.specs.declared.work.GainWork.{GainWork}
use Rattle.moved_gains.specs.{Buffers.IsPassingFresh, Change.{change_in, file_with_change}}
use Rattle.outside.specs.Files.{Files, Holds, IsFileThere}
use Rattle.sync_survey.specs.{Faults.survey_view, Survey.{IsSurveyLaidOut, survey_of}}

-- The input is there and was surveyed, and the buffers are new.
pub record IsMovable (input : List ℕ) (work : GainWork) (files : Files) : Type 0 where
  pub there : IsFileThere files input
  pub laid : IsSurveyLaidOut (survey_view work.survey)
  pub surveyed : (bytes : List ℕ) → Holds files input bytes
      → survey_of bytes most_frames ≡ Ok (survey_view work.survey)
  pub fresh : (others : Files) (name : List ℕ) → IsPassingFresh work.buffers others name

-- the changed file
abbrev pub moved_file : GainWork → List ℕ → List ℕ
moved_file work file = file_with_change (change_in work.change (survey_view work.survey)) file
    (survey_view work.survey)
