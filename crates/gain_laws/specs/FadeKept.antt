-- What a fade keeps of a file.
use Rattle.std.specs.Prelude.{Bool, List, Ok, Option, ℕ, ◌≡◌}
use Rattle.bit_fields.specs.Bits.{AreBytes}
use Rattle.commands.specs.SingleOutput.{most_frames}
use Rattle.gain_edits.specs.{Change.change_result, Fade.fade_change}
use Rattle.gain_laws.specs.Kept.{KeepsAll}
use Rattle.sync_survey.specs.{Faults.SurveyFields, Survey.survey_of}

-- What `fade` makes of a file that it accepts differs from the file in gains, check words and junk
-- that is left out, but not in the tag.
abbrev pub FadeKeepsAll : Type 0
FadeKeepsAll =
    (sheet : Option (List ℕ)) (back : Bool) (file new : List ℕ) (s : SurveyFields) → AreBytes file
    → survey_of file most_frames ≡ Ok s → change_result (fade_change sheet back) file ≡ Ok new
    → KeepsAll (λ tag. ⊥) file s new
