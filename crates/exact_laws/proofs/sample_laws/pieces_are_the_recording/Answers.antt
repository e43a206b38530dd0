-- Each piece continues where the one before it ends.
use Rattle.exact_laws.proofs.RecordingLemmas.{pieces-recording}
use Rattle.exact_laws.proofs.sample_laws.pieces_are_the_recording.Goals as goal

pub returns : goal.returns
returns c = pieces-recording
