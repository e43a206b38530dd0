-- The parts are cut where they were concatenated.
use Rattle.laying.proofs.FitLemmas.{asked-plans}
use Rattle.laying.proofs.laws.plans_are_of_parts.Goals as goal

pub returns : goal.returns
returns c = asked-plans
