-- What is played of an input, and how many lead-ins a piece has.
use Rattle.std.specs.Prelude.{length, List, ℕ, ◌-◌}
use Rattle.exact_span.specs.{Places.sample_at, PlayedPositions.{length_of_played, played_of}}
use Rattle.exact_span.specs.declared.{exact_place.ExactPlace.ExactPlace, played.Played.Played}
use Rattle.laying.specs.{KeptFields.fields_of_head, Laid.LaidPart}
use Rattle.sync_survey.specs.Faults.{SurveyFields}

-- the positions of the input that are played
abbrev pub input_played : List ℕ → SurveyFields → Played
input_played file s = played_of (fields_of_head file s.head) s.class (length s.frames)

-- the number of the sample at a place
abbrev pub sample_named : List ℕ → SurveyFields → ExactPlace → ℕ
sample_named file s place = sample_at s.class (length_of_played (input_played file s)) place

-- how many lead-ins come before the frames of a piece
abbrev pub piece_lead_ins : LaidPart → ℕ
piece_lead_ins laid = length laid.placed - (laid.to - laid.from)
