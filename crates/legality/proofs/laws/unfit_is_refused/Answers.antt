-- When the slots of one bit rate have no room.
use Rattle.legality.proofs.UnfitLemmas.{unfit-is-refused}
use Rattle.legality.proofs.laws.unfit_is_refused.Goals as goal

pub returns : goal.returns
returns c = unfit-is-refused
