-- An item is a frame by its header.
use Rattle.sync_survey.proofs.ItemsLemmas.{header_stands}
use Rattle.sync_survey.proofs.found.SurveySoFar.keep.Goals as goal

pub judge-requires-clause-heads : goal.judge-requires-clause-heads
judge-requires-clause-heads c = header_stands c.args.bytes.now c.requires.heads c.in-Frame.is
