-- Which steps a file accepts: exactly those that the least and the greatest gain that move allow.
use Rattle.std.specs.Prelude.{All, Bool, Err, false, if◌then◌else◌, is_ok, IsTrue, length, List}
use Rattle.std.specs.Prelude.{None, not, Ok, Option, Result, Some, true, ℕ, ℤ, [], ◌∷◌, ◌≡◌, ◌≤◌}
use Rattle.commands.specs.{SingleOutput.most_frames, declared.fault.EditFault.EditFault}
use Rattle.commands.specs.declared.fault.{EditFault.TheVariants.Refused, Refusal.Refusal}
use Rattle.commands.specs.declared.fault.Refusal.TheVariants.{GainRange}
use Rattle.cue_sheet.specs.Limits.{longest_sheet}
use Rattle.fade_plan.specs.Sheets.{envelope_of, EnvelopePoint}
use Rattle.gain_edits.specs.{Change.change_result, Channels.single_channel_fault, Fade.fade_change}
use Rattle.gain_edits.specs.Gain.{gain_change}
use Rattle.moved_gains.specs.GainExtremes.{extremes_of, extremes_of_both, takes_steps}
use Rattle.moved_gains.specs.{GainExtremes.takes_steps_back, declared.gain_extremes.Gains.Gains}
use Rattle.requests.specs.declared.shift.Channels.{Channels, TheVariants.{Both, Left, Right}}
use Rattle.requests.specs.declared.shift.Shift.{Shift}
use Rattle.sync_survey.specs.{Faults.SurveyFields, Survey.survey_of}

-- ---- refusals of gains that would leave the range

-- the refusal is of a gain that would leave its range
abbrev pub is_range_refusal : Refusal → Bool
is_range_refusal (GainRange offset granule channel gain) = true
is_range_refusal _ = false

-- the fault is such a refusal
abbrev pub is_range_fault : EditFault → Bool
is_range_fault (Refused refusal) = is_range_refusal refusal
is_range_fault _ = false

-- the result is such a fault
abbrev pub leaves_range : {T : Type 0} → Result T EditFault → Bool
leaves_range (Ok made) = false
leaves_range (Err fault) = is_range_fault fault

-- what is made of a file is refused for the range exactly if the steps aren't accepted, and made
-- otherwise
pub record IsMadeIfTaken (taken : Bool) (made : Result (List ℕ) EditFault) : Type 0 where
  pub refused : leaves_range made ≡ not taken
  pub accepted : is_ok made ≡ taken

-- ---- the commands

-- `steps` steps on these channels, without wrap
abbrev pub strict_shift : Channels → ℤ → Shift
strict_shift channels steps = record { channels = channels; steps = steps; wrap = false }

-- what `gain` makes of a file, with or without a note in its tag
abbrev pub gain_result : Shift → Bool → List ℕ → Result (List ℕ) EditFault
gain_result shift tags file = change_result (gain_change shift tags) file

-- what `fade` makes of a file with a sheet of these bytes, with or without `--back`
abbrev pub fade_result : List ℕ → Bool → List ℕ → Result (List ℕ) EditFault
fade_result sheet back file = change_result (fade_change (Some sheet) back) file

-- a point's steps are accepted; with `--back` as many steps the other way
abbrev pub takes_point : Option Gains → Bool → ℤ → Bool
takes_point gains back steps =
    if back then takes_steps_back gains steps else takes_steps gains steps

-- ---- the law

-- The steps that a file with this survey accepts are given by its gains that move.
pub record TakesExactly (file : List ℕ) (s : SurveyFields) : Type 0 where
  -- on both channels: the steps that the gains of both together allow
  pub both : (steps : ℤ) → IsMadeIfTaken (takes_steps (extremes_of_both s.frames) steps)
      (gain_result (strict_shift Both steps) false file)
  -- the gains of both together are the gains of the one channel, if there is only one
  pub mono : s.class.channels ≡ 1 → extremes_of_both s.frames ≡ extremes_of 0 s.frames
  -- on one channel alone, if it may change alone: the steps that its gains allow
  pub left : single_channel_fault s ≡ None → (steps : ℤ)
      → IsMadeIfTaken (takes_steps (extremes_of 0 s.frames) steps)
      (gain_result (strict_shift Left steps) false file)
  pub right : single_channel_fault s ≡ None → (steps : ℤ)
      → IsMadeIfTaken (takes_steps (extremes_of 1 s.frames) steps)
      (gain_result (strict_shift Right steps) false file)
  -- with a note in the tag, no other steps are refused for the range
  pub noted : (shift : Shift) → leaves_range (gain_result shift true file) ≡ true
      → leaves_range (gain_result shift false file) ≡ true
  -- none are refused for the range with wrap, or if no gain moves
  pub wrap : (shift : Shift) (tags : Bool) → shift.wrap ≡ true
      → leaves_range (gain_result shift tags file) ≡ false
  pub still : extremes_of_both s.frames ≡ None → (shift : Shift) (tags : Bool)
      → leaves_range (gain_result shift tags file) ≡ false
  -- a fade whose points all have steps that are accepted isn't refused for the range
  pub fade : (sheet : List ℕ) (back : Bool) (points : List EnvelopePoint)
      → envelope_of sheet ≡ Ok points
      → All (λ point. IsTrue (takes_point (extremes_of_both s.frames) back point.steps)) points
      → leaves_range (fade_result sheet back file) ≡ false
  -- a fade of a single point is refused for the range exactly if its steps aren't accepted
  pub fade_of_one : (sheet : List ℕ) (back : Bool) (point : EnvelopePoint)
      → length sheet ≤ longest_sheet → envelope_of sheet ≡ Ok (point ∷ [])
      → IsMadeIfTaken (takes_point (extremes_of_both s.frames) back point.steps)
      (fade_result sheet back file)

-- this holds for every well-formed file
abbrev pub StepsAreExact : Type 0
StepsAreExact =
    (file : List ℕ) (s : SurveyFields) → survey_of file most_frames ≡ Ok s → TakesExactly file s
