-- What the one body requires of the command.
use Rattle.cut_edits.proofs.ChosenLemmas.{edit_proper}
use Rattle.cut_edits.specs.declared.choice.FrameChoice.TheVariants.{Between}
use Rattle.cut_edits.proofs.calls.cut.Goals as goal

pub make_one-requires-clause-proper : goal.make_one-requires-clause-proper
make_one-requires-clause-proper g c =
    edit_proper (Between c.args.from c.args.to) c.args.least c.args.input.now
