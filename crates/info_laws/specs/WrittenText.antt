-- What the text of `info` says of files that commands write.
use Rattle.std.specs.Prelude.{codes, decimal, if◌then◌else◌, length, List, Ok, slice_get, Some, ℕ}
use Rattle.std.specs.Prelude.{◌++◌, ◌-◌, ◌==◌, ◌≡◌}
use Rattle.commands.specs.SingleOutput.{most_frames}
use Rattle.cut_edits.specs.Exact.{exact_part, survey_without_head}
use Rattle.exact_span.specs.PlayedPositions.{length_of_played}
use Rattle.exact_span.specs.declared.exact_place.ExactPlace.{ExactPlace}
use Rattle.file_laws.specs.WrittenLaws.{AllWritten, IsCountedFile}
use Rattle.laying.specs.{KeptFields.fields_of_head, Laid.{file_laid, LaidPart}}
use Rattle.list_edits.specs.InfoText.{info_lines}
use Rattle.seam_laws.specs.PlayedParts.{input_played, sample_named}
use Rattle.sync_survey.specs.{Faults.SurveyFields, Survey.survey_of}

-- the lines of the text of a file
abbrev pub text_lines : List ℕ → SurveyFields → List (List ℕ)
text_lines file s = info_lines (fields_of_head file s.head) s

-- The sixth line of the text ends by saying that this many samples are played.
pub record SaysSamples (file : List ℕ) (s : SurveyFields) (samples : ℕ) : Type 0 where
  pub before : List ℕ
  pub sixth : slice_get (text_lines file s) 5
      ≡ Some (before ++ (codes "plays " ++ (decimal samples ++ codes " samples\n")))

-- No line says that other frames or bytes are here than the head gives, which would be the sixth:
-- that is the one about what is played, and there are only the six and those about gains, one for a
-- single channel and otherwise three.
pub record SaysNoOther (file : List ℕ) (s : SurveyFields) : Type 0 where
  pub many : length (text_lines file s) ≡ (if s.class.channels == 1 then 7 else 9)
  pub plays : SaysSamples file s (length_of_played (input_played file s))

-- the text of this file has no such line
abbrev pub NeverSaysOther : List ℕ → Type 0
NeverSaysOther file = (s : SurveyFields) → survey_of file most_frames ≡ Ok s → SaysNoOther file s

-- ---- files that commands write

-- no file of frames behind an Info frame that gives their numbers has such a line
abbrev pub CountedTextsAgree : Type 0
CountedTextsAgree = (file : List ℕ) → IsCountedFile file → NeverSaysOther file

-- no file has such a line that a command writes that repacks main data
abbrev pub WrittenTextsAgree : Type 0
WrittenTextsAgree = AllWritten NeverSaysOther

-- ---- exact pieces

-- the text of each exact piece says that the samples between its places are played
abbrev pub PieceTextsAgree : Type 0
PieceTextsAgree =
    (from to : ExactPlace) (file : List ℕ) (s : SurveyFields) (laid : LaidPart) (t : SurveyFields) →
    let piece = file_laid laid file (survey_without_head s) in
    survey_of file most_frames ≡ Ok s → exact_part from to file s ≡ Ok laid
    → survey_of piece most_frames ≡ Ok t
    → SaysSamples piece t (sample_named file s to - sample_named file s from)
