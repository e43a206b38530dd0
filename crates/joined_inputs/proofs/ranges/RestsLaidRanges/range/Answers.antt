-- The range is the rest of the input with its number.
use Rattle.std.proofs.{Common.arith, lemmas.List.drop-map}
use Rattle.joined_inputs.proofs.ranges.RestsLaidRanges.range.Goals as goal

pub returns : goal.returns
returns c = grind (arith, drop-map)
