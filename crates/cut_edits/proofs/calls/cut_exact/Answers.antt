-- What the one body requires of the command.
use Rattle.cut_edits.proofs.PieceLemmas.{exact-proper}
use Rattle.cut_edits.proofs.calls.cut_exact.Goals as goal

pub make_one-requires-clause-proper : goal.make_one-requires-clause-proper
make_one-requires-clause-proper g c = exact-proper c.args.from.now c.args.to.now c.args.input.now
