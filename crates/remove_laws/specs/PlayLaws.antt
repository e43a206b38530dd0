-- Laws of what is played of a file in which delay and padding are written where stretches are taken
-- out, whatever the code.
use Rattle.std.specs.Prelude.{false, length, List, max, min, Ok, Option, slice_get, Some, true, ℕ}
use Rattle.std.specs.Prelude.{[], ◌*◌, ◌+◌, ◌-◌, ◌<◌, ◌∷◌, ◌≡◌, ◌≤◌, ◌⊎◌}
use Rattle.commands.specs.SingleOutput.{most_frames}
use Rattle.cut_edits.specs.Exact.{survey_without_head}
use Rattle.exact_span.specs.Heard.{heard_of}
use Rattle.exact_span.specs.PlayedPositions.{counted_positions, decoder_delay, length_of_played}
use Rattle.exact_span.specs.{PlayedPositions.samples_in, declared.exact_place.ExactPlace.ExactPlace}
use Rattle.exact_span.specs.declared.{played.Played.Played, written.Heard.Heard}
use Rattle.exact_span.specs.declared.written.WrittenFrames.{WrittenFrames}
use Rattle.frame_header.specs.Fields.{ClassFields}
use Rattle.laying.specs.{KeptFields.fields_of_head, declared.info.Kept.Kept}
use Rattle.remove_edits.specs.Removed.{all_parts_written, parts_left, removal_file, removal_kept}
use Rattle.remove_edits.specs.Removed.{removal_plan}
use Rattle.remove_laws.specs.NumberLaws.{IsHeardAt}
use Rattle.seam_plan.specs.declared.stretches.Part.{Part}
use Rattle.slot_plan.specs.declared.needs.Placed.{Placed}
use Rattle.sync_survey.specs.{Faults.SurveyFields, Survey.survey_of}

-- ---- what is played of both files

-- the positions that are played of a file with this survey, if its head counts
abbrev pub positions_counted : List ℕ → SurveyFields → Option Played
positions_counted file s = counted_positions (fields_of_head file s.head) s.class (length s.frames)

-- a position is played
abbrev pub IsPlayed : Played → ℕ → Type 0
IsPlayed played position = (played.start ≤ position) × (position < played.end)

-- what can be said of a file whose head is set apart, of the parts of it that stay, and of the
-- positions that are played of the file and of what is written of the parts
abbrev pub PlayLaw : Type 1
PlayLaw = SurveyFields → List Part → Played → Played → Type 0

-- Both heads count: that of a file with survey `s`, and that of what is written of these parts, as
-- it is read with survey `o`. A law holds of what is played by them.
pub record HoldsOfPlayed (Law : PlayLaw) (file : List ℕ) (s : SurveyFields) (parts : List Part)
    (o : SurveyFields) : Type 0 where
  pub before : Played
  pub was : positions_counted file s ≡ Some before
  pub after : Played
  pub is : positions_counted
      (removal_file parts (fields_of_head file s.head) file (survey_without_head s)) o ≡ Some after
  pub holds : Law (survey_without_head s) parts before after

-- a law holds of each file that `remove` accepts and whose delay and padding it writes, and of
-- every survey of what it writes
abbrev pub HoldsWhereWritten : PlayLaw → Type 0
HoldsWhereWritten Law =
    (stretches : List (ExactPlace × ExactPlace)) (file : List ℕ) (s : SurveyFields)
    (parts : List Part) (kept : Kept) (allowed : ℕ) (o : SurveyFields) →
    let head = fields_of_head file s.head in
    let apart = survey_without_head s in
    survey_of file most_frames ≡ Ok s → parts_left stretches s ≡ Ok parts
    → removal_kept head apart parts ≡ Some kept
    → survey_of (removal_file parts head file apart) allowed ≡ Ok o
    → HoldsOfPlayed Law file s parts o

-- ---- what is heard is played

-- each heard position is played at its place, if this isn't before the first that a head can name
abbrev pub PlaysTheHeard : PlayLaw
PlaysTheHeard s parts before after =
    (position place : ℕ) → IsHeardAt s.class before (all_parts_written s parts) position place
    → decoder_delay ≤ place → IsPlayed after place

-- this holds where numbers are written
abbrev pub HeardIsPlayed : Type 0
HeardIsPlayed = HoldsWhereWritten PlaysTheHeard

-- ---- nothing else is played

-- a position is in a lead-in of a plan whose frames have this many samples
pub record IsInLeadIn (samples : ℕ) (plan : List Placed) (position : ℕ) : Type 0 where
  pub number : ℕ
  pub placed : Placed
  pub is : slice_get plan number ≡ Some placed
  pub lead_in : placed.lead_in ≡ true
  pub from : number * samples ≤ position
  pub to : position < (number + 1) * samples

-- a place is behind that of one heard position, and before that of another
pub record IsBetweenHeard (class : ClassFields) (played : Played) (written : List WrittenFrames)
    (place : ℕ) : Type 0 where
  pub behind : (position : ℕ) × (other : ℕ) × IsHeardAt class played written position other
      × (other < place)
  pub before : (position : ℕ) × (other : ℕ) × IsHeardAt class played written position other
      × (place < other)

-- each place that is played is that of a heard position, or is in a lead-in between two of these
abbrev pub PlaysNothingElse : PlayLaw
PlaysNothingElse s parts before after =
    (place : ℕ) → IsPlayed after place
    → ((position : ℕ) × IsHeardAt s.class before (all_parts_written s parts) position place)
    ⊎ (IsInLeadIn (samples_in s.class) (removal_plan s parts) place
    × IsBetweenHeard s.class before (all_parts_written s parts) place)

-- this holds where numbers are written
abbrev pub NothingElseIsPlayed : Type 0
NothingElseIsPlayed = HoldsWhereWritten PlaysNothingElse

-- ---- how many positions are played

-- how many positions are played of the frames from one number up to another
abbrev pub played_between : ℕ → Played → ℕ → ℕ → ℕ
played_between samples played from to =
    min played.end (to * samples) - max played.start (from * samples)

-- how many positions are played of the frames of these parts
abbrev pub played_in_parts : ℕ → Played → List Part → ℕ
played_in_parts samples played [] = 0
played_in_parts samples played (part ∷ parts) =
    played_between samples played part.from part.to + played_in_parts samples played parts

-- how many positions are played of the frames from number `from` up to `frames` that are in none of
-- these parts, which are in order
abbrev pub played_outside : ℕ → Played → ℕ → ℕ → List Part → ℕ
played_outside samples played from frames [] = played_between samples played from frames
played_outside samples played from frames (part ∷ parts) =
    played_between samples played from part.from
    + played_outside samples played part.to frames parts

-- no place of a plan is that of a lead-in, except perhaps the first
abbrev pub HasNoLeadInBehindFirst : List Placed → Type 0
HasNoLeadInBehindFirst plan =
    (number : ℕ) (placed : Placed) → 1 ≤ number → slice_get plan number ≡ Some placed
    → placed.lead_in ≡ false

-- as many positions are played as were played of the parts, and as were played at all, less those
-- of frames that are in no part
pub record PlaysWhatIsLeft (s : SurveyFields) (parts : List Part) (before after : Played)
    : Type 0 where
  pub left : length_of_played after ≡ played_in_parts (samples_in s.class) before parts
  pub less :
      length_of_played after
      + played_outside (samples_in s.class) before 0 (length s.frames) parts
      ≡ length_of_played before

-- this is so where a head can name the place of the first heard position, and lead-ins stand
-- between no parts
abbrev pub PlaysAllThatIsLeft : PlayLaw
PlaysAllThatIsLeft s parts before after =
    (heard : Heard) → heard_of s.class before (all_parts_written s parts) ≡ Some heard
    → decoder_delay ≤ heard.first → HasNoLeadInBehindFirst (removal_plan s parts)
    → PlaysWhatIsLeft s parts before after

-- this holds where numbers are written
abbrev pub LengthIsLeft : Type 0
LengthIsLeft = HoldsWhereWritten PlaysAllThatIsLeft
