-- What a fade the other way, with the same sheet, makes of a file that a fade has written.
use Rattle.std.specs.Prelude.{Bool, List, not, Ok, Option, Some, ℕ, ◌≡◌, ◌≢◌}
use Rattle.bit_fields.specs.Bits.{AreBytes}
use Rattle.commands.specs.Command.{Made, written_files}
use Rattle.commands.specs.SingleOutput.{command_result, most_frames}
use Rattle.gain_edits.specs.{Change.change_result, Fade.{fade_change, fade_command}}
use Rattle.moved_gains.specs.Streams.{file_without_junk}
use Rattle.outside.specs.Files.{Contents}
use Rattle.sync_survey.specs.{Faults.{HoldsStream, stream_of, SurveyFields}, Survey.survey_of}

-- The fade back is accepted and makes the file again, except the junk before its first frame; a
-- file without junk comes back whole, byte for byte. The stream of the file comes back in every
-- case.
pub record IsFadedBack (sheet : Option (List ℕ)) (back : Bool) (file faded : List ℕ)
    (s : SurveyFields) : Type 0 where
  pub made : change_result (fade_change sheet (not back)) faded ≡ Ok (file_without_junk s file)
  pub same : s.junk ≡ s.first → change_result (fade_change sheet (not back)) faded ≡ Ok file
  pub stream : HoldsStream (file_without_junk s file) (stream_of file)

-- this holds for any file that the fade accepts, with or without `--back`
abbrev pub FadeGivesBack : Type 0
FadeGivesBack =
    (sheet : Option (List ℕ)) (back : Bool) (file faded : List ℕ) (s : SurveyFields) → AreBytes file
    → survey_of file most_frames ≡ Ok s → change_result (fade_change sheet back) file ≡ Ok faded
    → IsFadedBack sheet back file faded s

-- ---- the command

-- from the output of a first fade the command makes the input of the first one again
pub record IsTakenBack (sheet output last : List ℕ) (back : Bool) (files : Contents)
    (file : List ℕ) : Type 0 where
  pub survey : SurveyFields
  pub well_formed : survey_of file most_frames ≡ Ok survey
  pub made : (fade_command sheet (not back) output last).makes files
      ≡ command_result last (Ok (file_without_junk survey file))
  pub same : survey.junk ≡ survey.first
      → (fade_command sheet (not back) output last).makes files ≡ command_result last (Ok file)
  pub stream : HoldsStream (file_without_junk survey file) (stream_of file)

-- Once `fade IN OUT SHEET` was done, `fade --back OUT LAST SHEET` is accepted, if LAST is neither
-- OUT nor SHEET; likewise if `--back` came first.
abbrev pub FadeIsTakenBack : Type 0
FadeIsTakenBack =
    (sheet input output last : List ℕ) (back : Bool) (files : Contents) (file : List ℕ)
    (made : Made) → files input ≡ Some file → AreBytes file
    → (fade_command sheet back input output).makes files ≡ Ok made → last ≢ output → last ≢ sheet
    → IsTakenBack sheet output last back (written_files made.outputs files) file
