-- What is prepared for the pass that repacks chosen frames, and the file that is written.
use Rattle.std.specs.Prelude.{List, ℕ, [], ◌≡◌}
use Rattle.cut_edits.specs.declared.work.LaidWork.{LaidWork}
use Rattle.laying.specs.{Laid.{file_laid, IsWritableSelection, selected_part}, Surveys.CanBeRelaid}
use Rattle.laying.specs.declared.selected.Selected.{Selected}
use Rattle.outside.specs.{Feed.IsFedFrom, Files.{Files, Holds, IsFileThere}}
use Rattle.sync_survey.specs.{Faults.survey_view, Survey.IsSurveyLaidOut}
use Rattle.sync_survey.specs.declared.surveys.Survey.{Survey}

-- The work has this survey and these chosen frames with their plan; the buffer holds no bytes of
-- any file, and nothing waits.
pub record IsWorkOf (survey : Survey) (selected : Selected) (work : LaidWork) : Type 0 where
  pub survey_is : work.survey ≡ survey
  pub selected_is : work.selected ≡ selected
  pub fed : (others : Files) (name : List ℕ) → IsFedFrom work.buffers.feed others name
  pub unsent : work.buffers.waiting ≡ []

-- The input is there and has the survey, its chosen frames can be written, the buffer holds no
-- bytes of any file, and nothing waits.
pub record IsLayable (input : List ℕ) (work : LaidWork) (files : Files) : Type 0 where
  pub there : IsFileThere files input
  pub laid : IsSurveyLaidOut (survey_view work.survey)
  pub has : (bytes : List ℕ) → Holds files input bytes → CanBeRelaid bytes (survey_view work.survey)
  pub writable : IsWritableSelection (survey_view work.survey) work.selected
  pub fed : (others : Files) (name : List ℕ) → IsFedFrom work.buffers.feed others name
  pub unsent : work.buffers.waiting ≡ []

-- the file of the chosen frames in the slots of their plan
abbrev pub work_file : LaidWork → List ℕ → List ℕ
work_file work file = file_laid (selected_part work.selected) file (survey_view work.survey)
