-- Frames that want nothing fit after no bytes.
use Rattle.seam_plan.proofs.LeadInLemmas.{alone-is}
use Rattle.seam_plan.proofs.lead_ins.fit_alone.Goals as goal

pub returns : goal.returns
returns c = λ class same. alone-is (c.wants.ensures class same)
