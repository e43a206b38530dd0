-- No place of the plan is a lead-in.
use Rattle.drill.proofs.PackedLemmas.{drills-no_lead_in}
use Rattle.drill.proofs.laws.drills_have_no_lead_in.Goals as goal

pub returns : goal.returns
returns c = drills-no_lead_in
