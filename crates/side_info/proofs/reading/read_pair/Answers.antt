-- One channel after the other.
use Rattle.std.proofs.{Common.arith, lemmas.Bool.ne_eqb}
use Rattle.side_info.proofs.ReadLemmas.{pair_of_one, pair_of_two, set_both}
use Rattle.side_info.proofs.reading.read_pair.Goals as goal

pub returns-then-channels-eq1 : goal.returns-then-channels-eq1
returns-then-channels-eq1 c = grind (arith, set_both, pair_of_one)

pub returns : goal.returns
returns c = grind (arith, set_both, pair_of_two, ne_eqb)
