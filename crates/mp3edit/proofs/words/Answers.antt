-- One more argument, and its word.
use Rattle.std.proofs.{Common.arith, lemmas.{Grind.common_steps, List.{map-append, take_more}}}
use Rattle.mp3edit.proofs.words.Goals as goal

pub loop-argument-preserved : goal.loop-argument-preserved
loop-argument-preserved c = grind (arith, common_steps, map-append, take_more)
