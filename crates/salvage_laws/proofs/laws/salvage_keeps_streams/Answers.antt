-- What a survey says is read.
use Rattle.salvage_laws.proofs.KeepsLemmas.{keeps_streams}
use Rattle.salvage_laws.proofs.laws.salvage_keeps_streams.Goals as goal

pub returns : goal.returns
returns c = keeps_streams
