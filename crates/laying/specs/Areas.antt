-- Areas of the frames of an input, which are read into a window.
use Rattle.std.specs.Prelude.{IfErr, length, List, OnOk, Result, ℕ, ◌++◌, ◌≡◌}
use Rattle.frame_header.specs.Fields.{HeaderFields}
use Rattle.laying.specs.Surveys.{CanBeRelaid}
use Rattle.outside.specs.{Counts.OnlyReads, Files.{Files, Holds, IsFileThere}}
use Rattle.outside.specs.{Pass.{HasPassCause, IsReadPassFault, Route}, Seen.Seen}
use Rattle.outside.specs.declared.pass.PassFault.{PassFault}
use Rattle.reservoir.specs.Window.{IsWindowOver}
use Rattle.sync_survey.specs.{Faults.SurveyFields, MainData.{area_bytes, own_area}}
use Rattle.sync_survey.specs.Survey.{IsSurveyLaidOut}

-- the input is there, and this is a survey by which its frames can be read
pub record IsHeld (files : Files) (name : List ℕ) (s : SurveyFields) : Type 0 where
  pub there : IsFileThere files name
  pub exact : (file : List ℕ) → Holds files name file → CanBeRelaid file s
  pub laid : IsSurveyLaidOut s

-- The input was read, or couldn't be; the files stay.
pub record ReadsInput {T : Type 0} (way : Route) (old new : Seen)
    (result : Result T PassFault) : Type 0 where
  pub files : new.files ≡ old.files
  pub done : OnOk result (new.counts ≡ old.counts)
  pub counts : OnlyReads old.counts new.counts
  pub cause : IfErr result (HasPassCause way old.files old.counts new.counts)
  pub read : IfErr result IsReadPassFault

-- The area of a frame with this header, at this offset, comes after what the window held. If the
-- input's content is known, it is the area in the input.
pub record ReadsArea (input : List ℕ) (files : Files) (offset : ℕ) (h : HeaderFields)
    (old new : List ℕ) : Type 0 where
  pub area : List ℕ
  pub long : length area ≡ own_area h
  pub is : (file : List ℕ) → Holds files input file → area ≡ area_bytes file offset h
  pub over : (main : List ℕ) → IsWindowOver old main → IsWindowOver new (main ++ area)
