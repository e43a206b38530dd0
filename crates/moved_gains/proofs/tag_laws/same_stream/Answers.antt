-- The same frames with the same main data.
use Rattle.moved_gains.proofs.RetaggedFileLemmas.{stream-retagged_fields}
use Rattle.moved_gains.proofs.tag_laws.same_stream.Goals as goal

pub returns : goal.returns
returns c = stream-retagged_fields
