-- Laws of stretches whose removal is a join without seams, whatever the code.
use Rattle.std.specs.Prelude.{Bool, filter, flat_map, if◌then◌else◌, length, List, map, nat_le}
use Rattle.std.specs.Prelude.{nat_lt, not, Ok, true, ℕ, [], ◌&&◌, ◌++◌, ◌∷◌, ◌≡◌}
use Rattle.commands.specs.SingleOutput.{most_frames}
use Rattle.cue_sheet.specs.{Places.frame_at, declared.place.Place.Place}
use Rattle.cut_edits.specs.{Chosen.own_slots_part, Exact.survey_without_head}
use Rattle.exact_span.specs.declared.exact_place.ExactPlace.{ExactPlace}
use Rattle.frame_header.specs.Fields.{HeaderFields}
use Rattle.frame_writer.specs.Frames.{Frame}
use Rattle.info_header.specs.declared.fields.Info.{Info}
use Rattle.laying.specs.{KeptFields.fields_of_head, Laid.LaidPart, LaidFiles.laid_file}
use Rattle.laying.specs.Relaid.{FilePart}
use Rattle.remove_edits.specs.Removed.{all_stretch_frames, parts_left, removal_file, removal_frames}
use Rattle.remove_edits.specs.Removed.{removal_stream}
use Rattle.remove_laws.specs.CutLaws.{chosen_part}
use Rattle.seam_laws.specs.SeamlessLaws.{ArePieceInputs, has_no_look_alike}
use Rattle.seam_plan.specs.declared.stretches.Part.{Part}
use Rattle.seamless_edits.specs.Seamless.{seamless_file, seamless_frames, seamless_stream}
use Rattle.split_edits.specs.{Cutting.piece_parts, Split.cutting_of, declared.points.Points.Points}
use Rattle.sync_survey.specs.{Faults.SurveyFields, Survey.survey_of}

-- ---- the parts, each in a file of its own

-- what `cut` and `split` lay of the frames of a part, in their own slots
abbrev pub part_laid : SurveyFields → Part → LaidPart
part_laid s part = own_slots_part (chosen_part part) s

-- what they lay of each part, as a piece of its own
abbrev pub all_parts_laid : SurveyFields → List Part → List LaidPart
all_parts_laid s parts = map (part_laid s) parts

-- the file is blocks, an Info frame, these frames, and blocks
pub record IsFileOfFrames (frames : List Frame) (made : List ℕ) : Type 0 where
  pub front : List (List ℕ)
  pub header : HeaderFields
  pub info : Info
  pub back : List (List ℕ)
  pub is : made ≡ laid_file front header info frames back

-- The join of these files without seams has the frames that stay of a file: lead-ins and frames,
-- each in the same slot and with the same bytes. So in the joined file and in the one without the
-- stretches, all bytes between the Info frame and the end of the last frame are the same; and so
-- are the streams.
pub record JoinsAsRemoved (file : List ℕ) (s : SurveyFields) (parts : List Part)
    (first : FilePart) (others : List FilePart) : Type 0 where
  pub stream : seamless_stream (first ∷ others) ≡ removal_stream parts file s
  pub frames : seamless_frames first others ≡ removal_frames parts file s
  pub joined : IsFileOfFrames (removal_frames parts file s) (seamless_file (first ∷ others))
  pub removed : IsFileOfFrames (removal_frames parts file s)
      (removal_file parts (fields_of_head file s.head) file s)

-- This holds of each file that is accepted and in whose head no main data begin, where the inputs
-- of the join are the files that `cut` makes of the parts that stay, in order, and none of them
-- begins with a look-alike of a lead-in.
abbrev pub PartsJoinAsRemoved : Type 0
PartsJoinAsRemoved =
    (stretches : List (ExactPlace × ExactPlace)) (file : List ℕ) (s : SurveyFields)
    (parts : List Part) (first : FilePart) (others : List FilePart)
    → survey_of file most_frames ≡ Ok s → survey_without_head s ≡ s
    → parts_left stretches s ≡ Ok parts
    → ArePieceInputs (all_parts_laid s parts) file s first others
    → has_no_look_alike (all_parts_laid s parts) (first ∷ others) ≡ true
    → JoinsAsRemoved file s parts first others

-- ---- the pieces of a split

-- the numbers of stretches: of each the first frame's, and that of the first frame after it
abbrev pub ends_of : List (ℕ × ℕ) → List ℕ
ends_of stretches = flat_map (λ (stretch : ℕ × ℕ). stretch.0 ∷ stretch.1 ∷ []) stretches

-- those of these numbers that are greater than this one and all that are
-- before them: of numbers in order, each once
abbrev pub each_once : ℕ → List ℕ → List ℕ
each_once before [] = []
each_once before (n ∷ numbers) =
    if nat_lt before n then n ∷ each_once n numbers else each_once before numbers

-- where a file of so many frames is split: at 0, at the numbers of all stretches, and at its end
abbrev pub split_numbers : ℕ → List (ℕ × ℕ) → List ℕ
split_numbers frames stretches = 0 ∷ each_once 0 (ends_of stretches ++ frames ∷ [])

-- the frame with this number is in none of these stretches
abbrev pub frame_stays : List (ℕ × ℕ) → ℕ → Bool
frame_stays [] frame = true
frame_stays (stretch ∷ stretches) frame =
    not (nat_le stretch.0 frame && nat_lt frame stretch.1) && frame_stays stretches frame

-- The pieces whose first frame is in none of these stretches. A piece that goes from one of their
-- numbers to the next is in a stretch with all its frames, or with none.
abbrev pub pieces_left : List (ℕ × ℕ) → List LaidPart → List LaidPart
pieces_left stretches laid = filter (λ (l : LaidPart). frame_stays stretches l.from) laid

-- the numbers of the frames that places name in a file with this survey
abbrev pub numbers_named : SurveyFields → List Place → List ℕ
numbers_named s places = map (frame_at s.class (length s.frames)) places

-- This holds of each file that is accepted and in whose head no main data begin. It is split at 0,
-- at the numbers of all stretches, and at its end. Of its pieces, those that stay are the inputs of
-- the join, in order, and none of them begins with a look-alike of a lead-in.
abbrev pub RemoveIsJoin : Type 0
RemoveIsJoin =
    (stretches : List (ExactPlace × ExactPlace)) (points : Points) (file : List ℕ)
    (s : SurveyFields) (parts : List Part) (place : Place) (places : List Place)
    (laid : List LaidPart) (first : FilePart) (others : List FilePart) →
    let numbers = all_stretch_frames s.class (length s.frames) stretches in
    survey_of file most_frames ≡ Ok s → survey_without_head s ≡ s
    → parts_left stretches s ≡ Ok parts
    → numbers_named s (place ∷ places) ≡ split_numbers (length s.frames) numbers
    → piece_parts (cutting_of points) file s (place ∷ places) ≡ Ok laid
    → ArePieceInputs (pieces_left numbers laid) file s first others
    → has_no_look_alike (pieces_left numbers laid) (first ∷ others) ≡ true
    → JoinsAsRemoved file s parts first others
