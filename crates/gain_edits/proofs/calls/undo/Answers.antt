-- What the one body requires of the command.
use Rattle.gain_edits.proofs.ProperLemmas.{edit_proper}
use Rattle.gain_edits.specs.declared.changes.Changes.TheVariants.{Undo}
use Rattle.gain_edits.proofs.calls.undo.Goals as goal

pub make_one-requires-clause-proper : goal.make_one-requires-clause-proper
make_one-requires-clause-proper g c = edit_proper Undo c.args.input.now
