-- The tag is within the file.
use Rattle.gain_laws.proofs.NewTagLemmas.{tagged-bytes}
use Rattle.gain_laws.proofs.tag_laws.tagged_bytes.Goals as goal

pub returns : goal.returns
returns c = tagged-bytes
