-- A block is a tag exactly if its bytes are the bytes of the tag.
use Rattle.std.proofs.Common.{ap, subst, sym, ◌∙◌}
use Rattle.tag_blocks.proofs.TagsLemmas.{IsTag-in, tag_bytes-in, tag_of-ok, tag_of-tag_bytes}
use Rattle.tag_blocks.specs.Tags.{IsTag, tag_bytes, tag_of}
use Rattle.tag_blocks.proofs.laws.tags_are_their_bytes.Goals as goal

pub returns : goal.returns
returns c = λ block tag octets is most. (
  (λ read. let whole = tag_of-ok octets is most read in (
    subst IsTag whole.1 (IsTag-in whole.0),
    ap tag_bytes (sym whole.1) ∙ tag_bytes-in whole.0,
  )),
  (λ given. ap tag_of (sym given.1) ∙ tag_of-tag_bytes given.0),
)
