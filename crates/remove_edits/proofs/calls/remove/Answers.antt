-- The command is proper.
use Rattle.remove_edits.proofs.CommandLemmas.{remove-proper}
use Rattle.remove_edits.proofs.calls.remove.Goals as goal

pub make_one-requires-clause-proper : goal.make_one-requires-clause-proper
make_one-requires-clause-proper g c = remove-proper c.args.stretches.now c.args.input.now
