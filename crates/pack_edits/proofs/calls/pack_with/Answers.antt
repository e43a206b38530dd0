-- What the one body requires of the command.
use Rattle.pack_edits.proofs.{ModeLemmas.mode_proper, PackedLengthLemmas.run-fewest}
use Rattle.pack_edits.proofs.calls.pack_with.Goals as goal

pub make_one-requires-clause-proper : goal.make_one-requires-clause-proper
make_one-requires-clause-proper g c = mode_proper c.args.mode.now c.args.input.now

pub returns-clause-fewest : goal.returns-clause-fewest
returns-clause-fewest g c =
    run-fewest g.D.Folder.keeping c.args.mode.now c.args.input.now c.args.output.now
    c.make_one.result c.make_one.ensures
