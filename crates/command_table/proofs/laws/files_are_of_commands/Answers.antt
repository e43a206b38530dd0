-- Command by command.
use Rattle.command_table.proofs.NameLemmas.{names-are}
use Rattle.command_table.proofs.laws.files_are_of_commands.Goals as goal

pub returns : goal.returns
returns c = names-are
