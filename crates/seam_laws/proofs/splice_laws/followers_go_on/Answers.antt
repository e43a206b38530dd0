-- The shared frames are the last of the splice.
use Rattle.seam_laws.proofs.FollowerLemmas.{followers-on}
use Rattle.seam_laws.proofs.splice_laws.followers_go_on.Goals as goal

pub returns : goal.returns
returns c = followers-on
