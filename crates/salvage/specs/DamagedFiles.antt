-- What is read of a damaged file.
pub use Rattle.sync_survey.specs.Limits.{most_frames}
use Rattle.std.specs.Prelude.{Err, if◌then◌else◌, length, List, nat_lt, None, Ok, Option, Result}
use Rattle.std.specs.Prelude.{slice_get, Some, ℕ, [], ◌++◌, ◌-◌, ◌∷◌, ◌≡◌}
use Rattle.frame_header.specs.Tables.{class_of}
use Rattle.outside.specs.{Counts.Counts, Files.{Files, Holds, IsFileThere}}
use Rattle.salvage.specs.SoundFrames.{islands_of, judged_islands}
use Rattle.salvage.specs.Walk.{blocks_of_things, first_frame, gaps_of, PlacedThing, things}
use Rattle.salvage.specs.declared.{damaged.Damaged.Damaged, gap.Gap.Gap}
use Rattle.sync_survey.specs.Chains.{blocks_of, item_chain}
use Rattle.sync_survey.specs.{Faults.{longest_file, survey_view, SurveyFields}, Row.Row}
use Rattle.sync_survey.specs.{Start.front_end_of, Survey.IsUnreadBy}
use Rattle.sync_survey.specs.SurveyFaultKinds.{HasRightNumbers, kind_of, shrunk_end}
use Rattle.sync_survey.specs.Walk.{head_of, numbered_offset}
use Rattle.sync_survey.specs.declared.chains.Region.TheVariants.{Front}
use Rattle.sync_survey.specs.declared.places.PlacedFrame.{PlacedFrame}
use Rattle.sync_survey.specs.declared.survey_fault.SurveyFault.{SurveyFault}
use Rattle.sync_survey.specs.declared.survey_fault.SurveyFault.TheVariants.{NoFrame, TooLong}
use Rattle.sync_survey.specs.declared.survey_fault.SurveyFault.TheVariants.{TooManyFrames}

-- What is read: the frames, with those marked that become empty ones, the blocks outside gaps, and
-- the head, as a survey; and the gaps.
pub record DamagedFields : Type 0 where
  pub survey : SurveyFields
  pub gaps : List Gap

-- the bytes between two offsets are a gap, if there are some
abbrev pub gap_between : ℕ → ℕ → List Gap
gap_between from to =
    if nat_lt from to then record { offset = from; length = to - from } ∷ [] else []

-- what is after the head, or from the first frame on if there is no head
abbrev pub things_from : List ℕ → PlacedFrame → List PlacedThing
things_from file first =
    things file (class_of first.header) (numbered_offset first (head_of file first))

-- what is read of a file whose front ends at this offset and that has this first frame
unfoldable pub damaged_from : List ℕ → ℕ → PlacedFrame → DamagedFields
damaged_from file front_end first =
    let head = head_of file first in
    let found = things_from file first in record {
      survey = record {
        frames = judged_islands file head (islands_of found);
        blocks = blocks_of (item_chain Front file 0).items ++ blocks_of_things found;
        head = head;
        junk = front_end;
        first = first.offset;
        class = class_of first.header;
        length = length file;
      };
      gaps = gap_between front_end first.offset ++ gaps_of found;
    }

-- what is read, unless there is a first frame past the number that a file may have, which is
-- refused
abbrev pub excess_or_damaged : Option Row → DamagedFields → Result DamagedFields SurveyFault
excess_or_damaged None d = Ok d
excess_or_damaged (Some r) d = Err (TooManyFrames r.offset)

-- what is read, if there is a frame besides the head
abbrev pub no_frame_or_damaged : ℕ → List Row → DamagedFields → Result DamagedFields SurveyFault
no_frame_or_damaged front_end [] d = Err (NoFrame front_end)
no_frame_or_damaged front_end (r ∷ rows) d = excess_or_damaged (slice_get (r ∷ rows) most_frames) d

-- what was read, if there is a frame besides the head, and not one too many
abbrev pub damaged_with_count : ℕ → DamagedFields → Result DamagedFields SurveyFault
damaged_with_count front_end d = no_frame_or_damaged front_end d.survey.frames d

-- what is read of a file, given its first frame, which there must be
abbrev pub damaged_by : List ℕ → ℕ → Option PlacedFrame → Result DamagedFields SurveyFault
damaged_by file front_end None = Err (NoFrame front_end)
damaged_by file front_end (Some first) =
    damaged_with_count front_end (damaged_from file front_end first)

-- what is read of a file that isn't too long
unfoldable pub damaged_fields : List ℕ → Result DamagedFields SurveyFault
damaged_fields file = damaged_by file (front_end_of file) (first_frame file (front_end_of file))

-- what is read of a file with these bytes, or why it is refused
unfoldable pub damaged_of : List ℕ → Result DamagedFields SurveyFault
damaged_of file =
    if nat_lt longest_file (length file) then Err (TooLong (length file)) else damaged_fields file

-- what the code says is read
abbrev pub damaged_view : Damaged → DamagedFields
damaged_view d = record { survey = survey_view d.survey; gaps = d.gaps.items }

-- where the content of the name's file is known, this is what is read of it
abbrev pub IsDamagedOf : List ℕ → Files → DamagedFields → Type 0
IsDamagedOf name files d = (bytes : List ℕ) → Holds files name bytes → damaged_of bytes ≡ Ok d

-- ---- refusals

-- the file is there, its bytes are refused with this fault, and nothing is counted
pub record RefusesDamaged (name : List ℕ) (files : Files) (before after : Counts)
    (fault : SurveyFault) : Type 0 where
  pub there : IsFileThere files name
  pub bytes : (bytes : List ℕ) → Holds files name bytes → damaged_of bytes ≡ Err fault
  pub counts : after ≡ before

-- why nothing is read, by the fault's kind: as for a survey, or what is read is refused
abbrev pub IsDamagedFault : List ℕ → Files → Counts → Counts → SurveyFault → Type 0
IsDamagedFault name files before after fault = IsUnreadBy name files before after (shrunk_end fault)
    (RefusesDamaged name files before after fault) (kind_of fault)

-- why nothing is read, with the right numbers
pub record IsDamagedRefusal (name : List ℕ) (files : Files) (before after : Counts)
    (fault : SurveyFault) : Type 0 where
  pub cause : IsDamagedFault name files before after fault
  pub numbers : HasRightNumbers fault
