-- The stream is frames alone.
use Rattle.drill.proofs.DrillLemmas.{streams-hold}
use Rattle.drill.proofs.stream_laws.streams_hold.Goals as goal

pub returns : goal.returns
returns c = streams-hold
