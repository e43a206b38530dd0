-- Bytes that are items follow end to end, and the main data are where they were laid.
use Rattle.laying.proofs.LaidFileLemmas.{laid-stream}
use Rattle.laying.proofs.laid_laws.laid_stream.Goals as goal

pub returns : goal.returns
returns c = laid-stream
