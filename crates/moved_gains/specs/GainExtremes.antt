-- The gains of a file that move, the least and the greatest of them, and the steps that they take.
use Rattle.std.specs.Prelude.{All, Bool, Contains, flat_map, fold, if◌then◌else◌, int_le, List, max}
use Rattle.std.specs.Prelude.{min, neg_ℤ, None, Option, pos, Some, true, ℕ, ℤ, [], ◌&&◌, ◌++◌, ◌-◌}
use Rattle.std.specs.Prelude.{◌<◌, ◌∷◌, ◌≤◌}
use Rattle.frame_header.specs.Fields.{ClassFields}
use Rattle.moved_gains.specs.{Gains.is_silent_granule, Moving.AreFramesOfClass}
use Rattle.moved_gains.specs.declared.gain_extremes.Gains.{Gains}
use Rattle.side_info.specs.{Side.granule_in, declared.{granule.Granule.Granule, side.Side.Side}}
use Rattle.sync_survey.specs.Row.{Row}

-- ---- the gains that move

-- the gain of a granule's channel that has main data; the gain of a silent one never moves
abbrev pub gain_that_moves : Granule → List ℕ
gain_that_moves g = if is_silent_granule g then [] else g.global_gain ∷ []

-- the gains of a channel that move in both granules of
-- a frame; a granule that the class lacks is silent
abbrev pub side_gains : ℕ → Side → List ℕ
side_gains channel s =
    gain_that_moves (granule_in s 0 channel) ++ gain_that_moves (granule_in s 1 channel)

-- the gains of a channel that move in a frame; a lost frame has none
abbrev pub row_gains : ℕ → Row → List ℕ
row_gains channel row = if row.lost then [] else side_gains channel row.side

-- the gains of a channel that move in all these frames, in order
unfoldable pub moving_gains : ℕ → List Row → List ℕ
moving_gains channel rows = flat_map (row_gains channel) rows

-- the gains that move of the left channel, then of the right channel
abbrev pub moving_gains_of_both : List Row → List ℕ
moving_gains_of_both rows = moving_gains 0 rows ++ moving_gains 1 rows

-- the frames are of a class that has this channel
pub record HasChannel (channel : ℕ) (rows : List Row) : Type 0 where
  pub class : ClassFields
  pub same : AreFramesOfClass class rows
  pub below : channel < class.channels

-- ---- the least and the greatest

-- the least and the greatest of these gains, if there are any
unfoldable pub extremes : List ℕ → Option Gains
extremes [] = None
extremes (gain ∷ gains) =
    Some (record { least = fold min gain gains; greatest = fold max gain gains })

-- both are among these gains, and each of the gains is from the least to the greatest
pub record AreExtremes (gains : List ℕ) (g : Gains) : Type 0 where
  pub least : Contains gains g.least
  pub greatest : Contains gains g.greatest
  pub between : All (λ gain. (g.least ≤ gain) × (gain ≤ g.greatest)) gains

-- the least and the greatest of the gains of a channel that move in these frames
abbrev pub extremes_of : ℕ → List Row → Option Gains
extremes_of channel rows = extremes (moving_gains channel rows)

-- the least and the greatest of the gains of both channels that move in these frames
abbrev pub extremes_of_both : List Row → Option Gains
extremes_of_both rows = extremes (moving_gains_of_both rows)

-- the least and the greatest of two sets of gains together
abbrev pub joined_extremes : Option Gains → Option Gains → Option Gains
joined_extremes None other = other
joined_extremes (Some g) None = Some g
joined_extremes (Some g) (Some h) =
    Some (record { least = min g.least h.least; greatest = max g.greatest h.greatest })

-- ---- steps

-- no gain leaves the range from 0 to 255 by this many steps; always true if no gain moves
abbrev pub takes_steps : Option Gains → ℤ → Bool
takes_steps None steps = true
takes_steps (Some g) steps =
    int_le (neg_ℤ (pos g.least)) steps && int_le steps (pos (255 - g.greatest))

-- no gain leaves the range by this many steps in the other direction
abbrev pub takes_steps_back : Option Gains → ℤ → Bool
takes_steps_back None steps = true
takes_steps_back (Some g) steps =
    int_le (neg_ℤ (pos (255 - g.greatest))) steps && int_le steps (pos g.least)
