-- Each step is a step of the definition.
use Rattle.std.proofs.Common.{ap, arith, drop, false, inr, length, Ok, refl, rules, subst, sym, ◌∙◌}
use Rattle.std.proofs.{Common.◌≡◌, lemmas.List.take_rest}
use Rattle.tag_blocks.proofs.TagsLemmas.{AreFound, count_fault, footer_fault, found-within}
use Rattle.tag_blocks.proofs.TagsLemmas.{IsTag-in, IsWhole, offset_fault, tag_bytes-in, tag_in}
use Rattle.tag_blocks.proofs.TagsLemmas.{tag_of-in, tag_of-reserved, whole_found}
use Rattle.tag_blocks.proofs.tag.read_block.Goals.{After-deref, After-len}
use Rattle.tag_blocks.proofs.tag.read_block.Goals.{then-len-count-via-else-len-count+then-offset-end}
use Rattle.tag_blocks.proofs.tag.read_block.Goals.{then-len-count-via-then-len-count}
use Rattle.tag_blocks.specs.{Blocks.ape_flags, Items.{items_length, tag_items_from}}
use Rattle.tag_blocks.specs.Laws.{AreByteValues}
use Rattle.tag_blocks.specs.Tags.{footer_offset, IsTag, item_part, tag_bytes, tag_items_of}
use Rattle.tag_blocks.proofs.tag.read_block.Goals as goal

pub returns-then-not-is_reserved-clause-tag : goal.returns-then-not-is_reserved-clause-tag
returns-then-not-is_reserved-clause-tag c =
    inr (tag_of-reserved c.args.block.now (sym c.is_reserved.ensures ∙ c.if-not-is_reserved.true))

-- the items that were read are the items of the block
items : (c : After-deref) → c.in-Ok.items.items ≡ tag_items_of c.args.block.now
items c = c.in-Ok.ensures
    ∙ ap (λ k. tag_items_from k false (item_part c.args.block.now)) c.ape_number-count.ensures

-- their number, their length and the count are the block's too
found : (c : After-len) → c.in-Ok.items.items ≡ tag_items_of c.args.block.now
    → AreFound c.args.block.now c.in-Ok.items.items c.len.result c.items_length-offset.result
    c.ape_number-count.result
found c items_is = record {
  items_is = items_is;
  many_is = omega (arith, c.len.ensures, c.deref.ensures.len, ap length c.deref.ensures.value);
  long_is = c.items_length-offset.ensures ∙ ap items_length c.deref.ensures.value;
  count_is = c.ape_number-count.ensures;
  reserved = sym c.is_reserved.ensures ∙ c.if-not-is_reserved.false;
}

pub items_length-offset-requires : goal.items_length-offset-requires
items_length-offset-requires c =
    let octets : AreByteValues c.args.block.now = search rules in
    omega (
      arith,
      ap items_length
          (c.deref.ensures.value ∙ items (goal.at.items_length-offset-requires c).After-deref),
      found-within c.args.block.now octets c.requires.long,
      c.requires.most,
    )

pub overflow_add-offset : goal.overflow_add-offset
overflow_add-offset c =
    let octets : AreByteValues c.args.block.now = search rules in
    omega (
      arith,
      c.items_length-offset.ensures,
      ap items_length (c.deref.ensures.value ∙ items (goal.at.overflow_add-offset c).After-deref),
      found-within c.args.block.now octets c.requires.long,
      c.requires.most,
    )

pub returns-then-len-count-clause-tag : goal.returns-then-len-count-clause-tag
returns-then-len-count-clause-tag c =
    let at = goal.at.returns-then-len-count-clause-tag c in
    let is = found at.After-len (items at.After-deref) in
    elim c.then-len-count.branch [
      | then-len-count-via-then-len-count w ↦
          inr (count_fault c.args.block.now _ _ _ _ is w.if-len-count.true)
      | then-len-count-via-else-len-count+then-offset-end w ↦
          inr (offset_fault c.args.block.now _ _ _ _ is w.if-len-count.false w.if-offset-end.true)
    ]

pub returns-then-not-is_footer-clause-tag : goal.returns-then-not-is_footer-clause-tag
returns-then-not-is_footer-clause-tag c =
    let at = goal.at.returns-then-not-is_footer-clause-tag c in
    let block = c.args.block.now in
    inr (footer_fault block _ _ _ _
    (found at.After-len (items at.After-deref)) c.if-len-count.false c.if-offset-end.false
    (rw (
      ← c.ape_number.ensures,
      ← c.ape_number-count.ensures,
      ← take_rest block (footer_offset block),
    ) (sym c.is_footer.ensures ∙ c.if-not-is_footer.true)))

whole : (c : goal.After-ape_number-3) → AreFound c.args.block.now c.in-Ok.items.items c.len.result
    c.items_length-offset.result c.ape_number-count.result → IsWhole c.args.block.now
whole c is =
    let block = c.args.block.now in
    let octets : AreByteValues block = search rules in
    whole_found block _ _ _ _ c.requires.block octets c.requires.most is
    c.if-len-count.false c.if-offset-end.false
    (rw (
      ← c.ape_number.ensures,
      ← c.ape_number-count.ensures,
      ← take_rest block (footer_offset block),
    ) (sym c.is_footer.ensures ∙ c.if-not-is_footer.false))

-- the fields that were read are the fields of the block's tag
same : (c : goal.After-ape_number-3) → c.in-Ok.items.items ≡ tag_items_of c.args.block.now
    → tag_in c.args.block.now ≡ record {
      header_flags = c.ape_number-2.result;
      footer_flags = c.ape_number-3.result;
      items = c.in-Ok.items.items;
    }
same c items_is =
    let block = c.args.block.now in
    let footer : c.ape_number-3.result ≡ ape_flags (drop (footer_offset block) block) =
    c.ape_number-3.ensures ∙ ap ape_flags (take_rest block (footer_offset block)) in
    rw (c.ape_number-2.ensures, footer, items_is) refl

pub invariant_of-result : goal.invariant_of-result
invariant_of-result c =
    let at = goal.at.invariant_of-result c in
    subst IsTag (same c (items at.After-deref))
    (IsTag-in (whole c (found at.After-len (items at.After-deref))))

pub returns-clause-tag : goal.returns-clause-tag
returns-clause-tag c =
    let at = goal.at.returns-clause-tag c in
    tag_of-in (whole c (found at.After-len (items at.After-deref)))
    ∙ ap Ok (same c (items at.After-deref))

pub returns-clause-whole : goal.returns-clause-whole
returns-clause-whole c =
    let at = goal.at.returns-clause-whole c in
    let is = items at.After-deref in
    ap tag_bytes (sym (same c is)) ∙ tag_bytes-in (whole c (found at.After-len is))
