-- What the commands that change gains keep of a file.
use Rattle.std.specs.Prelude.{Bool, List, Ok, true, ℕ, ◌≡◌}
use Rattle.bit_fields.specs.Bits.{AreBytes}
use Rattle.commands.specs.SingleOutput.{most_frames}
use Rattle.gain_edits.specs.{Change.change_result, Gain.gain_change, Undo.undo_change}
use Rattle.gain_laws.specs.Kept.{KeepsAll}
use Rattle.moved_gains.specs.TagExtent.{IsTagBytes}
use Rattle.requests.specs.declared.shift.Shift.{Shift}
use Rattle.sync_survey.specs.{Faults.SurveyFields, Survey.survey_of}

-- What `gain` makes of a file that it accepts differs from it in gains, check words, junk that is
-- left out, and, if the change is noted, the tag.
abbrev pub GainKeepsAll : Type 0
GainKeepsAll =
    (shift : Shift) (tags : Bool) (file new : List ℕ) (s : SurveyFields) → AreBytes file
    → survey_of file most_frames ≡ Ok s → change_result (gain_change shift tags) file ≡ Ok new
    → KeepsAll (λ tag. (tags ≡ true) × IsTagBytes tag) file s new

-- What `gain -u` makes of a file that it accepts differs from it in gains, check words, junk that
-- is left out, and the tag.
abbrev pub UndoKeepsAll : Type 0
UndoKeepsAll =
    (file new : List ℕ) (s : SurveyFields) → AreBytes file → survey_of file most_frames ≡ Ok s
    → change_result undo_change file ≡ Ok new → KeepsAll IsTagBytes file s new
