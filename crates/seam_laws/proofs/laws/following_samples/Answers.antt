-- Each sample of an input that follows is kept.
use Rattle.seam_laws.proofs.SeamlessPlaceLemmas.{following}
use Rattle.seam_laws.proofs.laws.following_samples.Goals as goal

pub returns : goal.returns
returns c = following
