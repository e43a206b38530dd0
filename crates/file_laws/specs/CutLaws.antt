-- The faults of a file that was cut short.
use Rattle.std.specs.Prelude.{Err, length, List, Ok, Result, take, ℕ, ◌++◌, ◌≡◌, ◌≤◌}
use Rattle.sync_survey.specs.Faults.{IsWellFormed, stream_of, survey_fields, SurveyFields}
use Rattle.sync_survey.specs.{MainData.StreamFrame, declared.survey_fault.SurveyFault.SurveyFault}
use Rattle.sync_survey.specs.declared.survey_fault.SurveyFault.TheVariants.{LostSync, NoFrame}
use Rattle.sync_survey.specs.declared.survey_fault.SurveyFault.TheVariants.{Truncated}

-- the first frames of a stream, or all
abbrev pub IsStreamPrefix : List StreamFrame → List StreamFrame → Type 0
IsStreamPrefix front stream = (rest : List StreamFrame) × (front ++ rest ≡ stream)

-- there is no frame, or the file ends within a frame or a block, or what is left is neither
abbrev pub IsCutFault : SurveyFault → Type 0
IsCutFault (NoFrame at) = Unit {0}
IsCutFault (LostSync at) = Unit {0}
IsCutFault (Truncated at) = Unit {0}
IsCutFault _ = ⊥

-- what a survey finds in a prefix of a file: one of these faults, or none,
-- and then the prefix's stream is the first frames of the file's stream
abbrev pub IsCutAnswer : List ℕ → List ℕ → Result SurveyFields SurveyFault → Type 0
IsCutAnswer file front (Ok s) =
    IsWellFormed front × IsStreamPrefix (stream_of front) (stream_of file)
IsCutAnswer file front (Err fault) = IsCutFault fault

-- For every file without fault and without junk, and every count of bytes up to its length: the
-- prefix of `count` bytes has no fault, or its first fault is that there is no frame, a frame or
-- block that isn't whole, or lost synchronisation. As many frames are allowed as the file has.
abbrev pub PrefixFault : Type 0
PrefixFault =
    (file : List ℕ) (allowed : ℕ) (s : SurveyFields) (count : ℕ) → survey_fields file allowed ≡ Ok s
    → s.junk ≡ s.first → count ≤ length file
    → IsCutAnswer file (take count file) (survey_fields (take count file) (length s.frames))
