-- All frames of a damaged file are one part.
use Rattle.chosen_streams.proofs.SalvageCaseLemmas.{salvaged-exact}
use Rattle.chosen_streams.proofs.laws.salvaged_streams_are_exact.Goals as goal

pub returns : goal.returns
returns c = salvaged-exact
