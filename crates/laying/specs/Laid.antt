-- A file of another file's frames in the slots of a plan,
-- whichever planner made it, and what is prepared for it.
use Rattle.std.specs.List.{concat}
use Rattle.std.specs.Prelude.{length, List, map, None, Option, slice_get, slice_range, Some, ℕ, []}
use Rattle.std.specs.Prelude.{◌++◌, ◌<◌, ◌≡◌, ◌≤◌}
use Rattle.frame_header.specs.Tables.{window_of}
use Rattle.frame_writer.specs.Frames.{bytes_of_frames, Frame}
use Rattle.info_header.specs.{InfoFrame.info_frame, declared.fields.Info.Info}
use Rattle.laying.specs.{Fits.FitsFromReach, LaidFiles.laid_file, Needs.need_of}
use Rattle.laying.specs.Relaid.{FilePart, part_frames, part_stream, relaid_frames}
use Rattle.laying.specs.{Relaid.stream_with_lead_ins, Surveys.CanBeRelaid}
use Rattle.laying.specs.{Written.{back_blocks, front_blocks, info_for}, declared.info.Kept.Kept}
use Rattle.laying.specs.declared.selected.Selected.{Selected}
use Rattle.slot_plan.specs.{Plans.entries, declared.needs.{Need.Need, Placed.Placed}}
use Rattle.sync_survey.specs.{Faults.SurveyFields, MainData.StreamFrame, Row.Row}

-- The frames from number `from` up to, but not including, number `to`, the slots
-- of their plan, and the quality and extension for the Info frame before them.
pub record LaidPart : Type 0 where
  pub from : ℕ
  pub to : ℕ
  pub placed : List Placed
  pub quality : Option ℕ
  pub extension : List ℕ

-- the chosen frames, as a part of their file
abbrev pub source_part : LaidPart → List ℕ → SurveyFields → FilePart
source_part laid file s = record { file = file; survey = s; from = laid.from; to = laid.to }

-- what each of these frames needs, which their plan was made for
abbrev pub needs_laid : LaidPart → SurveyFields → List Need
needs_laid laid s = map need_of (slice_range s.frames laid.from laid.to)

-- the frames with all main data, in these slots
abbrev pub frames_laid : LaidPart → List ℕ → SurveyFields → List Frame
frames_laid laid file s = relaid_frames (part_frames (source_part laid file s)) laid.placed

-- the fields of the Info frame before them
abbrev pub info_laid : LaidPart → List ℕ → SurveyFields → Info
info_laid laid file s = info_for s.class (frames_laid laid file s) laid.quality laid.extension

-- The ID3v2 blocks before the first frame of the file, an Info frame with the header of the
-- first chosen frame, the frames, and all other blocks; without a first frame there is no file.
abbrev pub file_with_first : Option Row → LaidPart → List ℕ → SurveyFields → List ℕ
file_with_first None laid file s = []
file_with_first (Some first) laid file s = laid_file (front_blocks file s)
    first.header (info_laid laid file s) (frames_laid laid file s) (back_blocks file s)

-- the file of these frames
abbrev pub file_laid : LaidPart → List ℕ → SurveyFields → List ℕ
file_laid laid file s = file_with_first (slice_get s.frames laid.from) laid file s

-- its stream: the lead-ins of the plan, and the frames as they are in the stream of the file
abbrev pub stream_laid : LaidPart → List ℕ → SurveyFields → List StreamFrame
stream_laid laid file s = stream_with_lead_ins laid.placed (part_stream (source_part laid file s))

-- these are the bytes of its Info frame
abbrev pub IsLaidInfo : LaidPart → List ℕ → SurveyFields → List ℕ → Type 0
IsLaidInfo laid file s bytes = (first : Row) → slice_get s.frames laid.from ≡ Some first
    → bytes ≡ info_frame first.header (info_laid laid file s)

-- ---- what is prepared

-- the frames from number `from` up to, but not including, number
-- `to`, in these slots, with what is kept for their Info frame
abbrev pub laid_part : ℕ → ℕ → Kept → List Placed → LaidPart
laid_part from to kept placed = record {
  from = from;
  to = to;
  placed = placed;
  quality = kept.quality;
  extension = kept.extension;
}

-- the part that a selection describes
abbrev pub selected_part : Selected → LaidPart
selected_part selected = laid_part selected.from selected.to selected.kept (entries selected.plan)

-- the frames of a selection, with all main data
abbrev pub selected_frames : SurveyFields → Selected → List ℕ → List Frame
selected_frames s selected file = frames_laid (selected_part selected) file s

-- the blocks before the frames, the Info frame and the frames
abbrev pub selected_front : SurveyFields → Selected → List ℕ → List ℕ
selected_front s selected file = (concat (front_blocks file s) ++ selected.info.items)
    ++ bytes_of_frames (selected_frames s selected file)

-- The selection has a frame, the survey has all its frames, the plan can be
-- written frame by frame, and the bytes are those of the Info frame before them.
pub record IsWritableSelection (s : SurveyFields) (selected : Selected) : Type 0 where
  pub some : selected.from < selected.to
  pub within : selected.to ≤ length s.frames
  pub fits : FitsFromReach (window_of s.class.version) 0 (needs_laid (selected_part selected) s)
      (entries selected.plan)
  pub info : (file : List ℕ) → CanBeRelaid file s
      → IsLaidInfo (selected_part selected) file s selected.info.items
