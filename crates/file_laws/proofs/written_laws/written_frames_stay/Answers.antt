-- Command by command.
use Rattle.file_laws.proofs.WrittenFrameLemmas.{frames-stay}
use Rattle.file_laws.proofs.written_laws.written_frames_stay.Goals as goal

pub returns : goal.returns
returns c = frames-stay
