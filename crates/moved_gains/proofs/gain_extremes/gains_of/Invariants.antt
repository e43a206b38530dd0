-- The gains of the frames before were seen.
use Rattle.std.proofs.Common.{drop, ◌≡◌}
use Rattle.moved_gains.specs.GainExtremes.{extremes_of, joined_extremes}
use Rattle.moved_gains.proofs.gain_extremes.gains_of.Given as goal

abbrev pub invariant-loop-row : goal.invariant-loop-row
invariant-loop-row l =
    extremes_of l.channel l.rows
    ≡ joined_extremes l.gains (extremes_of l.channel (drop l.row-index l.rows))
