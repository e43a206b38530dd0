-- What the one body requires of the command.
use Rattle.std.proofs.Common.{true}
use Rattle.cut_edits.proofs.ChosenLemmas.{edit_proper}
use Rattle.cut_edits.specs.declared.choice.FrameChoice.TheVariants.{All}
use Rattle.cut_edits.proofs.calls.pack.Goals as goal

pub make_one-requires-clause-proper : goal.make_one-requires-clause-proper
make_one-requires-clause-proper g c = edit_proper All true c.args.input.now
