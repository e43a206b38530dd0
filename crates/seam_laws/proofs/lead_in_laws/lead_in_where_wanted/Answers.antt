-- A lead-in exactly if the frames want something.
use Rattle.seam_laws.proofs.OwnLeadInLemmas.{lead-where-wanted}
use Rattle.seam_laws.proofs.lead_in_laws.lead_in_where_wanted.Goals as goal

pub returns : goal.returns
returns c = lead-where-wanted
