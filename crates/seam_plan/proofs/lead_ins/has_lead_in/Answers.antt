-- The side information of the first frame, and its header.
use Rattle.frame_header.specs.Tables.{window_of}
use Rattle.seam_plan.proofs.LeadInLemmas.{has-else, has-then}
use Rattle.seam_plan.proofs.lead_ins.has_lead_in.Goals as goal

pub returns-then-input : goal.returns-then-input
returns-then-input c = λ class brought same is.
    has-then (window_of class.version) is
    c.if-input.true (c.leads_others.ensures class same)

pub returns-else-input : goal.returns-else-input
returns-else-input c =
    λ class brought same is. has-else (window_of class.version) is c.if-input.false
