-- The bytes of a tag are header, items and footer.
use Rattle.std.proofs.Common.{ap, arith, sym, ◌+◌, ◌∙◌, ◌≡◌}
use Rattle.tag_blocks.proofs.TagsLemmas.{items_length-most, length-tag_bytes}
use Rattle.tag_blocks.specs.{Items.items_length, Tags.TagFields}
use Rattle.tag_blocks.proofs.tag.Tag.length.Goals as goal

pub items_length-requires : goal.items_length-requires
items_length-requires c =
    omega (arith, ap items_length c.deref.ensures.value, items_length-most c.self.invariant)

pub overflow_add-result : goal.overflow_add-result
overflow_add-result c = omega (
  arith,
  ap items_length c.deref.ensures.value,
  items_length-most c.self.invariant,
  c.items_length.ensures,
)

pub returns-clause-bytes : goal.returns-clause-bytes
returns-clause-bytes c =
    let same : items_length c.self.inside.items.items ≡ items_length c.args.self.now.items =
    ap (λ (t : TagFields). items_length t.items) c.self.view_is in
    ap (λ n. 64 + n) (c.items_length.ensures ∙ ap items_length c.deref.ensures.value ∙ same)
    ∙ sym (length-tag_bytes c.args.self.now)

pub returns-clause-most : goal.returns-clause-most
returns-clause-most c = omega (
  arith,
  ap items_length c.deref.ensures.value,
  items_length-most c.self.invariant,
  c.items_length.ensures,
)
