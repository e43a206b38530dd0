-- Both fields are put into the extension.
use Rattle.exact_span.proofs.SealLemmas.{frames-sealed}
use Rattle.exact_span.proofs.laws.sealed_frames_are_info_frames.Goals as goal

pub returns : goal.returns
returns c = frames-sealed
