-- A header that was read is the header of the first four bytes.
use Rattle.sync_survey.proofs.ItemsLemmas.{header_at-front}
use Rattle.sync_survey.proofs.rows.Row.read_in.Goals as goal

pub read_in-requires-clause-heads : goal.read_in-requires-clause-heads
read_in-requires-clause-heads c = header_at-front c.args.bytes.now c.requires.heads
