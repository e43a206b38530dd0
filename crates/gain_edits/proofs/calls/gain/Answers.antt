-- What the one body requires of the command.
use Rattle.gain_edits.proofs.ProperLemmas.{edit_proper}
use Rattle.gain_edits.specs.declared.changes.Changes.TheVariants.{Move}
use Rattle.gain_edits.proofs.calls.gain.Goals as goal

pub make_one-requires-clause-proper : goal.make_one-requires-clause-proper
make_one-requires-clause-proper g c = edit_proper (Move c.args.shift c.args.tags) c.args.input.now
