-- Each piece plays its samples.
use Rattle.exact_laws.proofs.PlayLemmas.{pieces-play}
use Rattle.exact_laws.proofs.sample_laws.pieces_play_their_samples.Goals as goal

pub returns : goal.returns
returns c = pieces-play
