-- The frames before a lost one.
use Rattle.sync_survey.proofs.LostFrameLemmas.{leads-lost, lost-leads}
use Rattle.sync_survey.proofs.laws.lost_frames_lead.Goals as goal

pub returns : goal.returns
returns c = λ head rows i r. (lost-leads head rows r, leads-lost head rows r)
