-- The lead-in is the first entry of the least list.
use Rattle.slot_plan.proofs.LeadInLemmas.{lead-first}
use Rattle.slot_plan.proofs.laws.lead_ins_come_first.Goals as goal

pub returns : goal.returns
returns c = lead-first
