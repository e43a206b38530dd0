-- Laws of the delay and the padding that are written where stretches are taken out, whatever the
-- code.
use Rattle.std.specs.Prelude.{length, List, max, None, Ok, Option, Some, ℕ, [], ◌*◌, ◌++◌, ◌+◌, ◌<◌}
use Rattle.std.specs.Prelude.{◌∷◌, ◌≡◌, ◌≤◌, ◌⊎◌}
use Rattle.commands.specs.SingleOutput.{most_frames}
use Rattle.cut_edits.specs.Exact.{survey_without_head}
use Rattle.exact_span.specs.Heard.{heard_of, joined_heard, place_in}
use Rattle.exact_span.specs.PlayedPositions.{counted_positions, decoder_delay, samples_in}
use Rattle.exact_span.specs.declared.{exact_place.ExactPlace.ExactPlace, played.Played.Played}
use Rattle.exact_span.specs.declared.written.{Heard.Heard, WrittenFrames.WrittenFrames}
use Rattle.frame_header.specs.Fields.{ClassFields}
use Rattle.info_header.specs.declared.fields.Info.{Info}
use Rattle.laying.specs.{KeptFields.fields_of_head, declared.info.Kept.Kept}
use Rattle.remove_edits.specs.Removed.{all_parts_written, heard_of_written, parts_left}
use Rattle.remove_edits.specs.Removed.{removal_file, removal_kept, removal_plan}
use Rattle.seam_plan.specs.declared.stretches.Part.{Part}
use Rattle.sync_survey.specs.{Faults.{IsWellFormed, SurveyFields}, Survey.survey_of}

-- ---- what is heard

-- a position of a file is heard and is in these frames, which are written: it has this place there
pub record IsHeardIn (class : ClassFields) (played : Played) (frames : WrittenFrames)
    (position place : ℕ) : Type 0 where
  pub from : frames.from * samples_in class ≤ position
  pub to : position < frames.to * samples_in class
  pub start : played.start ≤ position
  pub end : position < played.end
  pub is : place ≡ place_in (samples_in class) frames position

-- a position of a file is heard: it is played, and its frame is written; and this is its place
abbrev pub IsHeardAt : ClassFields → Played → List WrittenFrames → ℕ → ℕ → Type 0
IsHeardAt class played [] position place = ⊥
IsHeardAt class played (frames ∷ written) position place =
    IsHeardIn class played frames position place ⊎ IsHeardAt class played written position place

-- from the place of a heard position to that of another, with the places of all others between them
pub record IsFirstToLast (class : ClassFields) (played : Played) (written : List WrittenFrames)
    (heard : Heard) : Type 0 where
  pub first : (position : ℕ) × IsHeardAt class played written position heard.first
  pub last : (position : ℕ) × (place : ℕ) × IsHeardAt class played written position place
      × (place + 1 ≡ heard.end)
  pub all : (position place : ℕ) → IsHeardAt class played written position place
      → (heard.first ≤ place) × (place < heard.end)

-- they are from the first heard position to the last, or there is none
abbrev pub AreHeard : ClassFields → Played → List WrittenFrames → Option Heard → Type 0
AreHeard class played written None =
    (position place : ℕ) → IsHeardAt class played written position place → ⊥
AreHeard class played written (Some heard) = IsFirstToLast class played written heard

-- This holds of the parts that `remove` leaves of each
-- file that it accepts, whichever positions are played.
abbrev pub HeardIsFirstToLast : Type 0
HeardIsFirstToLast =
    (stretches : List (ExactPlace × ExactPlace)) (file : List ℕ) (s : SurveyFields)
    (parts : List Part) (played : Played) →
    let apart = survey_without_head s in
    survey_of file most_frames ≡ Ok s → parts_left stretches s ≡ Ok parts
    → AreHeard apart.class played (all_parts_written apart parts)
    (heard_of apart.class played (all_parts_written apart parts))

-- ---- what is written

-- where the heard positions of a file with this head are in what is written of these parts
abbrev pub heard_of_parts : Option Info → SurveyFields → List Part → Option Heard
heard_of_parts head s parts =
    heard_of_written head s.class (length s.frames) (all_parts_written s parts)

-- The head of a written file, which has this survey, counts its frames. By it players play from the
-- first heard position, or from the first that a head can name if that is later, to the last heard
-- one, and this is in the file.
pub record CountsWhatIsHeard (heard : Heard) (file : List ℕ) (s : SurveyFields) : Type 0 where
  pub fields : Info
  pub head : fields_of_head file s.head ≡ Some fields
  pub frames : fields.frames ≡ Some (length s.frames)
  pub played : counted_positions (Some fields) s.class (length s.frames)
      ≡ Some (record { start = max decoder_delay heard.first; end = heard.end })
  pub within : heard.end ≤ length s.frames * samples_in s.class

-- What is written of these parts of a file with this head and this survey, whose head is set apart.
-- It is well-formed, and however many frames are allowed, its survey finds as many as were planned.
pub record KeepsNumbers (head : Option Info) (s : SurveyFields) (parts : List Part)
    (made : List ℕ) : Type 0 where
  pub heard : Heard
  pub is : heard_of_parts head s parts ≡ Some heard
  pub sound : IsWellFormed made
  pub frames : (allowed : ℕ) (o : SurveyFields) → survey_of made allowed ≡ Ok o
      → length o.frames ≡ length (removal_plan s parts)
  pub counts : (allowed : ℕ) (o : SurveyFields) → survey_of made allowed ≡ Ok o
      → CountsWhatIsHeard heard made o

-- this holds of each file that `remove` accepts and whose delay and padding it writes
abbrev pub NumbersAreKept : Type 0
NumbersAreKept =
    (stretches : List (ExactPlace × ExactPlace)) (file : List ℕ) (s : SurveyFields)
    (parts : List Part) (kept : Kept) →
    let head = fields_of_head file s.head in
    let apart = survey_without_head s in
    survey_of file most_frames ≡ Ok s → parts_left stretches s ≡ Ok parts
    → removal_kept head apart parts ≡ Some kept
    → KeepsNumbers head apart parts (removal_file parts head file apart)

-- what is heard of two lists of frames that are written is what is heard of both, joined
abbrev pub HeardGoesOn : Type 0
HeardGoesOn =
    (class : ClassFields) (played : Played) (ones others : List WrittenFrames)
    → heard_of class played (ones ++ others)
    ≡ joined_heard (heard_of class played ones) (heard_of class played others)
