-- The table has the lengths.
use Rattle.std.proofs.Common.{arith}
use Rattle.salvage.proofs.RawHeaderLemmas.{length_told}
use Rattle.salvage.proofs.raw_header.raw_frame_length.Goals as goal

pub returns-clause-length : goal.returns-clause-length
returns-clause-length c = length_told (omega arith) (omega arith)
