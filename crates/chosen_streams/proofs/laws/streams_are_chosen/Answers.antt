-- Command by command.
use Rattle.chosen_streams.proofs.JobLemmas.{streams-chosen}
use Rattle.chosen_streams.proofs.laws.streams_are_chosen.Goals as goal

pub returns : goal.returns
returns c = streams-chosen
