-- Laws of files into whose frames all main data were laid.
use Rattle.std.specs.Prelude.{false, length, List, map, Ok, slice_get, Some, ℕ, ◌≡◌, ◌≤◌}
use Rattle.frame_header.specs.Fields.{ClassFields, HeaderFields}
use Rattle.frame_writer.specs.Frames.{Frame}
use Rattle.info_header.specs.declared.fields.Info.{Info}
use Rattle.laying.specs.LaidFiles.{AreBlocks, block_bytes, IsLaidFile, laid_fields, laid_file}
use Rattle.laying.specs.LaidFiles.{stream_entry}
use Rattle.sync_survey.specs.Faults.{HoldsStream, IsWellFormed, survey_fields, SurveyFields}
use Rattle.sync_survey.specs.{HeadApart.head_apart, Row.Row}

-- such a file is well-formed, and its stream is the given frames
abbrev pub LaidStream : Type 0
LaidStream =
    (c : ClassFields) (front : List (List ℕ)) (first : HeaderFields) (info : Info)
    (frames : List Frame) (back : List (List ℕ)) → IsLaidFile c front first info frames back
    → HoldsStream (laid_file front first info frames back) (map stream_entry frames)

-- a survey of it that allows as many frames finds them,
-- the Info frame and the blocks where they were put
abbrev pub LaidSurvey : Type 0
LaidSurvey =
    (c : ClassFields) (front : List (List ℕ)) (first : HeaderFields) (info : Info)
    (frames : List Frame) (back : List (List ℕ)) (allowed : ℕ)
    → IsLaidFile c front first info frames back → length frames ≤ allowed
    → survey_fields (laid_file front first info frames back) allowed
    ≡ Ok (laid_fields front first info frames back)

-- the bytes of each block of a file without fault are a block, and so may be in such a file
abbrev pub SurveyedBlocks : Type 0
SurveyedBlocks = (file : List ℕ) (allowed : ℕ) (s : SurveyFields)
    → survey_fields file allowed ≡ Ok s → AreBlocks (map (block_bytes file) s.blocks)

-- ---- no frame of it is lost

-- no frame is lost, and setting the head apart changes nothing, so none is lost then either
pub record HasNoneLost (s : SurveyFields) : Type 0 where
  pub kept : (i : ℕ) (r : Row) → slice_get s.frames i ≡ Some r → r.lost ≡ false
  pub apart : head_apart s ≡ s

-- the file is well-formed, and no frame of it is lost, whether its head is set apart or not
pub record LosesNoFrame (file : List ℕ) : Type 0 where
  pub well_formed : IsWellFormed file
  pub none : (allowed : ℕ) (s : SurveyFields) → survey_fields file allowed ≡ Ok s → HasNoneLost s

-- no such file loses a frame: no main data were laid into its Info frame
abbrev pub LaidFramesStay : Type 0
LaidFramesStay =
    (c : ClassFields) (front : List (List ℕ)) (first : HeaderFields) (info : Info)
    (frames : List Frame) (back : List (List ℕ))
    → IsLaidFile c front first info frames back
    → LosesNoFrame (laid_file front first info frames back)
