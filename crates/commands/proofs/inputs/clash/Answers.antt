-- The name with a number is the first of those from that number on.
use Rattle.std.proofs.{Common.arith, lemmas.List.drop_more}
use Rattle.commands.proofs.inputs.clash.Goals as goal

pub returns-then-contain : goal.returns-then-contain
returns-then-contain g c = grind (arith, drop_more)

pub loop-number-preserved : goal.loop-number-preserved
loop-number-preserved g c = grind (arith, drop_more)
