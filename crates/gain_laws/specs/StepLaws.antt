-- Which steps the gains of frames take without leaving the range
-- from 0 to 255: the least and the greatest gain that move decide.
use Rattle.std.specs.Prelude.{Bool, false, is_some, IsTrue, List, not, pos, true, ℕ, ℤ, [], ◌&&◌}
use Rattle.std.specs.Prelude.{◌||◌, ◌∷◌, ◌≡◌}
use Rattle.frame_header.specs.{Fields.ClassFields, Tables.class_of}
use Rattle.moved_gains.specs.{Course.{constant_steps, equal_steps}, Edited.row_out_of_range}
use Rattle.moved_gains.specs.GainExtremes.{extremes_of, extremes_of_both, takes_steps}
use Rattle.moved_gains.specs.Moving.{AreFramesOfClass}
use Rattle.requests.specs.declared.shift.Steps.{Steps}
use Rattle.side_info.specs.Side.{SideFits}
use Rattle.sync_survey.specs.Row.{Row}

-- each field of their side information is within its bits
abbrev pub AreSidesFitting : List Row → Type 0
AreSidesFitting [] = Unit {0}
AreSidesFitting (row ∷ rows) = SideFits (class_of row.header) row.side × AreSidesFitting rows

-- a gain of these frames would leave the range, if each frame moves by the steps at its offset
unfoldable pub is_some_out_of_range : (ℕ → Steps) → List Row → Bool
is_some_out_of_range steps [] = false
is_some_out_of_range steps (row ∷ rows) =
    is_some (row_out_of_range (steps row.offset) row) || is_some_out_of_range steps rows

-- separate steps for each channel, without wrap
abbrev pub separate_steps : ℤ → ℤ → Steps
separate_steps left right = record { left = left; right = right; wrap = false }

-- When a gain of these frames would leave the range.
pub record TakeSteps (rows : List Row) : Type 0 where
  -- if all frames move by the same steps: exactly if the gains
  -- of either channel don't take the steps of that channel
  pub apart_is : (left right : ℤ)
      → is_some_out_of_range (constant_steps (separate_steps left right)) rows
      ≡ not (takes_steps (extremes_of 0 rows) left && takes_steps (extremes_of 1 rows) right)
  -- if both channels move by the same steps: exactly if the gains of both together don't take them
  pub both : (steps : ℤ) → is_some_out_of_range (constant_steps (equal_steps steps)) rows
      ≡ not (takes_steps (extremes_of_both rows) steps)
  -- if only one channel moves: exactly if its own gains don't take the steps
  pub left : (steps : ℤ) → is_some_out_of_range (constant_steps (separate_steps steps (pos 0))) rows
      ≡ not (takes_steps (extremes_of 0 rows) steps)
  pub right : (steps : ℤ)
      → is_some_out_of_range (constant_steps (separate_steps (pos 0) steps)) rows
      ≡ not (takes_steps (extremes_of 1 rows) steps)
  -- if each frame has steps of its own: never, if the gains of both channels take all of them
  pub each : (steps : ℕ → ℤ) → ((at : ℕ) → IsTrue (takes_steps (extremes_of_both rows) (steps at)))
      → is_some_out_of_range (λ at. equal_steps (steps at)) rows ≡ false
  -- with wrap: never
  pub wrap : (steps : ℕ → Steps) → ((at : ℕ) → (steps at).wrap ≡ true)
      → is_some_out_of_range steps rows ≡ false
  -- frames of one channel have only the gains of that channel
  pub mono : (class : ClassFields) → AreFramesOfClass class rows → class.channels ≡ 1
      → extremes_of_both rows ≡ extremes_of 0 rows

-- this is true of any frames whose side fields are within their bits
abbrev pub GainsTakeSteps : Type 0
GainsTakeSteps = (rows : List Row) → AreSidesFitting rows → TakeSteps rows
