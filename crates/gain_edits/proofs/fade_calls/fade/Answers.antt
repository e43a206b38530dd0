-- What the one body requires of the command.
use Rattle.gain_edits.proofs.FadeProperLemmas.{fade_proper}
use Rattle.gain_edits.proofs.fade_calls.fade.Goals as goal

pub make_one-requires-clause-proper : goal.make_one-requires-clause-proper
make_one-requires-clause-proper g c = fade_proper c.args.sheet.now c.args.back c.args.input.now
