-- The bytes of the file are those before the tag, its own, and those after it.
use Rattle.moved_gains.proofs.OwnTagLemmas.{own-tag}
use Rattle.moved_gains.proofs.tag_laws.own_tag.Goals as goal

pub returns : goal.returns
returns c = own-tag
