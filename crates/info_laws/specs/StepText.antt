-- What the text of `info` says of steps: exactly those that `gain` takes.
use Rattle.std.specs.{List.{concat, list_all}, Option.is_none}
use Rattle.std.specs.Prelude.{Bool, codes, decimal, false, int_le, List, neg_ℤ, None, not, Ok}
use Rattle.std.specs.Prelude.{Option, pos, Some, true, ℕ, ℤ, [], ◌&&◌, ◌++◌, ◌==◌, ◌||◌, ◌∷◌, ◌≡◌}
use Rattle.commands.specs.SingleOutput.{most_frames}
use Rattle.gain_edits.specs.Channels.{channel_fault}
use Rattle.gain_laws.specs.ExactSteps.{gain_result, IsMadeIfTaken, strict_shift}
use Rattle.gain_laws.specs.StepLaws.{is_some_out_of_range}
use Rattle.list_edits.specs.InfoText.{info_of}
use Rattle.moved_gains.specs.Course.{constant_steps}
use Rattle.requests.specs.{Shifts.steps_of, declared.shift.Channels.Channels}
use Rattle.requests.specs.declared.shift.Channels.TheVariants.{Both, Left, Right}
use Rattle.side_info.specs.Side.{granule_in}
use Rattle.sync_survey.specs.{Faults.SurveyFields, Row.Row, Survey.survey_of}

-- ---- a range of steps

-- from `down` steps down to `up` steps up
pub record StepRange : Type 0 where
  pub down : ℕ
  pub up : ℕ

-- the steps are in the range; if there is none, any are
abbrev pub has_steps : Option StepRange → ℤ → Bool
has_steps None steps = true
has_steps (Some range) steps = int_le (neg_ℤ (pos range.down)) steps && int_le steps (pos range.up)

-- the end of a line that gives this range
abbrev pub range_ending : Option StepRange → List ℕ
range_ending None = codes "no gains\n"
range_ending (Some range) =
    codes "steps -" ++ (decimal range.down ++ (codes " to +" ++ (decimal range.up ++ codes "\n")))

-- ---- channels without main data

-- a channel has no main data in a frame, which is lost, or
-- whose part2_3_length is 0 for the channel in both granules
abbrev pub lacks_channel : ℕ → Row → Bool
lacks_channel channel row = row.lost || ((granule_in row.side 0 channel).part2_3_length == 0
    && (granule_in row.side 1 channel).part2_3_length == 0)

-- these channels have no main data in any of these frames
abbrev pub lack_channels : Channels → List Row → Bool
lack_channels Left rows = list_all (lacks_channel 0) rows
lack_channels Right rows = list_all (lacks_channel 1) rows
lack_channels Both rows = list_all (lacks_channel 0) rows && list_all (lacks_channel 1) rows

-- ---- a line

-- A line that begins with this name gives the steps that these channels of a file take.
pub record SaysSteps (file : List ℕ) (s : SurveyFields) (name : List ℕ) (channels : Channels)
    (line : List ℕ) : Type 0 where
  -- the range with which it ends, if it gives one
  pub range : Option StepRange
  -- what it says between its name and the range
  pub between : List ℕ
  pub text : line ≡ name ++ (between ++ range_ending range)
  -- it gives none exactly if the channels have no main data
  pub none : is_none range ≡ lack_channels channels s.frames
  -- moved without wrap, a gain leaves the range from 0 to 255 exactly if the steps aren't these
  pub stays : (steps : ℤ)
      → is_some_out_of_range (constant_steps (steps_of (strict_shift channels steps))) s.frames
      ≡ not (has_steps range steps)
  -- `gain` takes exactly these, if the channels may change
  pub taken : (steps : ℤ) → channel_fault (strict_shift channels steps) s ≡ None
      → IsMadeIfTaken (has_steps range steps)
      (gain_result (strict_shift channels steps) false file)

-- ---- the text

-- one line for a file of one channel; otherwise a line for each channel, and one for both
abbrev pub AreStepLines : List ℕ → SurveyFields → List (List ℕ) → Type 0
AreStepLines file s (mono ∷ []) =
    (s.class.channels ≡ 1) × SaysSteps file s (codes "mono: ") Both mono
AreStepLines file s (left ∷ right ∷ both ∷ []) =
    (s.class.channels ≡ 2) × SaysSteps file s (codes "left: ") Left left
    × SaysSteps file s (codes "right: ") Right right × SaysSteps file s (codes "both: ") Both both
AreStepLines file s _ = ⊥

-- The text of a file ends with such lines.
pub record EndsWithSteps (file : List ℕ) (s : SurveyFields) : Type 0 where
  pub others : List (List ℕ)
  pub lines : List (List ℕ)
  pub text : info_of file s ≡ concat (others ++ lines)
  pub steps : AreStepLines file s lines

-- the text of every file without fault
abbrev pub InfoSaysTheSteps : Type 0
InfoSaysTheSteps =
    (file : List ℕ) (s : SurveyFields) → survey_of file most_frames ≡ Ok s → EndsWithSteps file s
