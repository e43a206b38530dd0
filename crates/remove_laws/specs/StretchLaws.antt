-- Laws of stretches that are taken out, whatever the code: stretches that touch, and which frames
-- stay.
use Rattle.std.specs.Prelude.{length, List, Ok, Some, ℕ, [], ◌++◌, ◌<◌, ◌∷◌, ◌≡◌, ◌≤◌, ◌⊎◌}
use Rattle.commands.specs.SingleOutput.{most_frames}
use Rattle.exact_span.specs.{Places.exact_frame_at, declared.exact_place.ExactPlace.ExactPlace}
use Rattle.outside.specs.Files.{Contents}
use Rattle.remove_edits.specs.Removed.{all_stretch_frames, parts_left, remove_command}
use Rattle.seam_plan.specs.{Stretches.AreInOrder, declared.stretches.Part.Part}
use Rattle.sync_survey.specs.{Faults.SurveyFields, Survey.survey_of}

-- ---- stretches that touch

-- two stretches one after the other, and all others before and behind them
pub record Neighbours : Type 0 where
  pub before : List (ExactPlace × ExactPlace)
  pub first : ExactPlace × ExactPlace
  pub second : ExactPlace × ExactPlace
  pub behind : List (ExactPlace × ExactPlace)

-- all stretches
abbrev pub stretches_as_two : Neighbours → List (ExactPlace × ExactPlace)
stretches_as_two pair = pair.before ++ pair.first ∷ pair.second ∷ pair.behind

-- the same with one in place of the two, from where the first begins to where the second ends
abbrev pub stretches_as_one : Neighbours → List (ExactPlace × ExactPlace)
stretches_as_one pair = pair.before ++ (pair.first.0, pair.second.1) ∷ pair.behind

-- the number of the frame that a place names in a file with this survey
abbrev pub frame_named : SurveyFields → ExactPlace → ℕ
frame_named s place = exact_frame_at s.class (length s.frames) place

-- the two have frames of the file, and the second begins where the first ends
pub record DoTouch (s : SurveyFields) (pair : Neighbours) : Type 0 where
  pub meet : frame_named s pair.first.1 ≡ frame_named s pair.second.0
  pub first : frame_named s pair.first.0 < frame_named s pair.first.1
  pub second : frame_named s pair.second.0 < frame_named s pair.second.1
  pub within : frame_named s pair.second.1 ≤ length s.frames

-- what holds of two such stretches
pub record TouchingIsOne (pair : Neighbours) : Type 0 where
  -- if they touch, the same parts stay, or the stretches are refused alike
  pub parts : (s : SurveyFields) → DoTouch s pair
      → parts_left (stretches_as_two pair) s ≡ parts_left (stretches_as_one pair) s
  -- accepted stretches of which the second begins where the first ends do touch
  pub accepted : (s : SurveyFields) (parts : List Part)
      → frame_named s pair.first.1 ≡ frame_named s pair.second.0
      → parts_left (stretches_as_two pair) s ≡ Ok parts → DoTouch s pair
  -- if they touch in the input, the command makes the same, or is refused alike, whatever is there
  pub commands : (input output : List ℕ) (files : Contents)
      → ((file : List ℕ) (s : SurveyFields) → files input ≡ Some file
      → survey_of file most_frames ≡ Ok s → DoTouch s pair)
      → (remove_command (stretches_as_two pair) input output).makes files
      ≡ (remove_command (stretches_as_one pair) input output).makes files

-- this holds of any two neighbours among any stretches
abbrev pub TouchingStretchesAreOne : Type 0
TouchingStretchesAreOne = (pair : Neighbours) → TouchingIsOne pair

-- ---- which frames stay

-- the frame with this number is in one of these stretches
abbrev pub IsInStretches : List (ℕ × ℕ) → ℕ → Type 0
IsInStretches [] frame = ⊥
IsInStretches (stretch ∷ stretches) frame =
    ((stretch.0 ≤ frame) × (frame < stretch.1)) ⊎ IsInStretches stretches frame

-- the frame with this number is in one of these parts
abbrev pub IsInParts : List Part → ℕ → Type 0
IsInParts [] frame = ⊥
IsInParts (part ∷ parts) frame = ((part.from ≤ frame) × (frame < part.to)) ⊎ IsInParts parts frame

-- the frame after each of these parts but the last is in one of these stretches, and the next part
-- begins after it
abbrev pub AreApart : List (ℕ × ℕ) → List Part → Type 0
AreApart stretches [] = Unit {0}
AreApart stretches (part ∷ []) = Unit {0}
AreApart stretches (part ∷ next ∷ parts) =
    (part.to < next.from) × IsInStretches stretches part.to × AreApart stretches (next ∷ parts)

-- which frames of a file are in the parts that stay
pub record StayInParts (frames : ℕ) (stretches : List (ℕ × ℕ)) (parts : List Part) : Type 0 where
  -- a frame in no stretch stays
  pub stays : (frame : ℕ) → frame < frames → (IsInStretches stretches frame → ⊥)
      → IsInParts parts frame
  -- a frame that stays is one of the file and in no stretch
  pub there : (frame : ℕ) → IsInParts parts frame → frame < frames
  pub goes : (frame : ℕ) → IsInParts parts frame → IsInStretches stretches frame → ⊥
  -- the parts are in order, and between two of them there is a frame that goes
  pub order : AreInOrder 0 frames parts
  pub apart : AreApart stretches parts

-- this holds of all stretches that are accepted
abbrev pub FramesInNoStretchStay : Type 0
FramesInNoStretchStay =
    (stretches : List (ExactPlace × ExactPlace)) (s : SurveyFields) (parts : List Part)
    → parts_left stretches s ≡ Ok parts
    → StayInParts (length s.frames) (all_stretch_frames s.class (length s.frames) stretches) parts
