-- Laws of what is read of damaged files.
use Rattle.std.specs.Prelude.{length, List, Ok, ℕ, ◌≡◌, ◌≤◌}
use Rattle.salvage.specs.DamagedFiles.{damaged_fields, damaged_of, DamagedFields, gap_between}
use Rattle.salvage.specs.{DamagedFiles.most_frames, Stream.salvaged_stream}
use Rattle.sync_survey.specs.Faults.{stream_of_survey, survey_fields, SurveyFields}

-- everything in the survey of a file without fault is read, and nothing is missing except the junk
-- before the first frame
abbrev pub SalvageKeepsStreams : Type 0
SalvageKeepsStreams =
    (file : List ℕ) (allowed : ℕ) (s : SurveyFields) → survey_fields file allowed ≡ Ok s
    → length s.frames ≤ most_frames
    → damaged_fields file ≡ Ok (record { survey = s; gaps = gap_between s.junk s.first })

-- The stream of the survey of what is read is the stream of the
-- islands of frames between gaps: the main data of each frame that is
-- kept are those of its island, and every other one is an empty frame.
abbrev pub SalvageTellsStreams : Type 0
SalvageTellsStreams = (file : List ℕ) (d : DamagedFields) → damaged_of file ≡ Ok d
    → stream_of_survey file d.survey ≡ salvaged_stream file
