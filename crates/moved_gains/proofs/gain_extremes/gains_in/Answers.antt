-- The extreme gains of two granules, joined, are those of both together.
use Rattle.std.proofs.Common.{ap₂, ◌∙◌}
use Rattle.moved_gains.proofs.ExtremesLemmas.{joined_extremes-append}
use Rattle.moved_gains.specs.GainExtremes.{gain_that_moves, joined_extremes}
use Rattle.side_info.specs.Side.{granule_in}
use Rattle.moved_gains.proofs.gain_extremes.gains_in.Goals as goal

pub returns : goal.returns
returns c =
    let s = c.args.side.now in
    c.joined.ensures ∙ ap₂ joined_extremes c.gain_of.ensures c.gain_of-2.ensures
    ∙ joined_extremes-append (gain_that_moves (granule_in s 0 c.args.channel))
    (gain_that_moves (granule_in s 1 c.args.channel))
