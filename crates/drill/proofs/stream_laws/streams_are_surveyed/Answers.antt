-- The stream is frames alone.
use Rattle.drill.proofs.DrillLemmas.{first-own, streams-surveyed}
use Rattle.drill.proofs.stream_laws.streams_are_surveyed.Goals as goal

pub returns-clause-surveyed : goal.returns-clause-surveyed
returns-clause-surveyed c = streams-surveyed

pub returns-clause-first : goal.returns-clause-first
returns-clause-first c = first-own
