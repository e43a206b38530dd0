-- The frames before one that is lost when the head is set apart.
use Rattle.sync_survey.proofs.ApartLemmas.{apart-leads}
use Rattle.sync_survey.proofs.laws.apart_frames_lead.Goals as goal

pub returns : goal.returns
returns c = apart-leads
