-- Each frame has its bytes.
use Rattle.drill.proofs.DrillLemmas.{streams-long}
use Rattle.drill.proofs.stream_laws.streams_are_long.Goals as goal

pub returns : goal.returns
returns c = streams-long
