-- No main data begin in the Info frame.
use Rattle.laying.proofs.LaidFileLemmas.{laid-frames-stay}
use Rattle.laying.proofs.laid_laws.laid_frames_stay.Goals as goal

pub returns : goal.returns
returns c = laid-frames-stay
