-- Header, items and footer, in order.
use Rattle.std.proofs.Common.{ap, arith, length, subst, ◌++◌, ◌+◌, ◌∙◌, ◌≡◌}
use Rattle.tag_blocks.proofs.TagsLemmas.{block_front-tag_bytes, count-most, items_length-most}
use Rattle.tag_blocks.proofs.TagsLemmas.{tag_bytes-added, tag_of-tag_bytes}
use Rattle.tag_blocks.specs.{Items.{items_bytes, items_length}, Tags.{IsTag, tag_bytes, tag_of}}
use Rattle.tag_blocks.proofs.tag.Tag.write.Goals as goal

pub items_length-requires : goal.items_length-requires
items_length-requires c =
    omega (arith, ap items_length c.deref.ensures.value, items_length-most c.self.invariant)

pub overflow_add-size : goal.overflow_add-size
overflow_add-size c = omega (
  arith,
  c.items_length.ensures,
  ap items_length c.deref.ensures.value,
  items_length-most c.self.invariant,
)

pub overflow_cast-size : goal.overflow_cast-size
overflow_cast-size c = omega (
  arith,
  c.items_length.ensures,
  ap items_length c.deref.ensures.value,
  items_length-most c.self.invariant,
)

pub overflow_cast-count : goal.overflow_cast-count
overflow_cast-count c = omega (
  arith,
  c.len-count.ensures,
  c.deref.ensures.len,
  ap length c.deref.ensures.value,
  count-most c.self.invariant,
)

pub overflow_cast-size-2 : goal.overflow_cast-size-2
overflow_cast-size-2 c = omega (
  arith,
  c.items_length.ensures,
  ap items_length c.deref.ensures.value,
  items_length-most c.self.invariant,
)

pub overflow_add-size-2 : goal.overflow_add-size-2
overflow_add-size-2 c = omega (
  arith,
  c.items_length.ensures,
  ap items_length c.deref.ensures.value,
  items_length-most c.self.invariant,
)

is_written : (c : goal.In_ok-append_end-2)
    → c.append_end-2.new.bytes.items ≡ tag_bytes c.args.self.now
is_written c =
    tag_bytes-added (record {
      header_flags = c.self.inside.header_flags;
      footer_flags = c.self.inside.footer_flags;
      items = c.self.inside.items.items;
    })
    (ap (λ n. n + 32) (c.items_length.ensures ∙ ap items_length c.deref.ensures.value))
    (omega (arith, c.len-count.ensures, c.deref.ensures.len, ap length c.deref.ensures.value))
    c.in_ok-block.ensures.items c.in_ok-append_end.ensures (c.in_ok-append_items.ensures
    ∙ ap (λ l. c.append_end.new.bytes.items ++ items_bytes l) c.deref-2.ensures.value)
    c.in_ok-append_end-2.ensures
    ∙ ap tag_bytes c.self.view_is

pub returns-clause-bytes : goal.returns-clause-bytes
returns-clause-bytes c = is_written c

pub returns-clause-back : goal.returns-clause-back
returns-clause-back c = ap tag_of (is_written c)
    ∙ tag_of-tag_bytes (subst IsTag c.self.view_is c.self.invariant)

pub returns-clause-block : goal.returns-clause-block
returns-clause-block c = rw (is_written c)
    (block_front-tag_bytes (subst IsTag c.self.view_is c.self.invariant))
