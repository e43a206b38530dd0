-- Tags and their bytes give each other back, and what a block says of its tag.
use Rattle.std.proofs.Common.{ap, append-nil, append_assoc, arith, Bool, cond, drop, Err, false}
use Rattle.std.proofs.Common.{length, length-append, length-drop, length-take, List, not, Ok, refl}
use Rattle.std.proofs.Common.{replicate, Some, subst, sym, take, take-append-drop, true, ℕ, [], ◌*◌}
use Rattle.std.proofs.Common.{◌++◌, ◌+◌, ◌-◌, ◌<◌, ◌==◌, ◌^◌, ◌∙◌, ◌∷◌, ◌≡◌, ◌≤◌}
use Rattle.std.proofs.Math.Seq.{take-add}
use Rattle.std.proofs.lemmas.Bool.{and_from, and_parts, eq-eqb, eqb-true, le-leb, leb-true, lt-ltb}
use Rattle.std.proofs.lemmas.Bool.{ltb-true, ne_eqb}
use Rattle.std.proofs.lemmas.List.{drop-drop, drop_at, length-take-le, nil_from_length, take_all}
use Rattle.std.{proofs.lemmas.{List.take_at, Slice.Eq.bytes_eq-Decides}, specs.List.list_all}
use Rattle.std.specs.Prelude.{codes, nat_le}
use Rattle.byteorder.specs.Endian.{little_bytes}
use Rattle.tag_blocks.proofs.BlocksLemmas.{block_front-any, block_front-begins}
use Rattle.tag_blocks.proofs.ItemsLemmas.{ape_number-below, is_item-parts, items_length-cons}
use Rattle.tag_blocks.proofs.ItemsLemmas.{length-items_bytes, little_bytes-ape_number}
use Rattle.tag_blocks.proofs.ItemsLemmas.{little_number-little_bytes, octets-drop, octets-take}
use Rattle.tag_blocks.proofs.ItemsLemmas.{tag_items_from-items_bytes, tag_items_from-read}
use Rattle.tag_blocks.proofs.{ItemsLemmas.tag_items_from-within, UndoItemsLemmas.items_length-parts}
use Rattle.tag_blocks.specs.Blocks.{ape_flags, ape_length, ape_size, ape_version, begins_with}
use Rattle.tag_blocks.specs.Blocks.{block_front, is_ape}
use Rattle.tag_blocks.specs.Items.{is_item, items_bytes, items_length, TagItem}
use Rattle.tag_blocks.specs.Laws.{AreByteValues}
use Rattle.tag_blocks.specs.Tags.{ape_count, are_footer_flags, are_header_flags, end_bytes}
use Rattle.tag_blocks.specs.Tags.{footer_offset, is_footer, is_reserved, IsTag, item_part}
use Rattle.tag_blocks.specs.Tags.{tag_bytes, tag_items_of, tag_of, tag_size, TagFields}
use Rattle.tag_blocks.specs.declared.{block.Kind.TheVariants.Ape, tag_fault.TagFault.TagFault}

-- ---- lengths

-- the items of a tag have at most 2,097,024 bytes
pub items_length-most : {tag : TagFields} → IsTag tag → items_length tag.items ≤ 2097024
items_length-most {tag} is = omega (arith, items_length-parts tag.items, is.others, is.own)

-- an item has 11 bytes or more
pub count-few : (items : List TagItem) → list_all is_item items ≡ true
    → 11 * length items ≤ items_length items
count-few [] all = omega arith
count-few (item ∷ items) all =
    let parts = and_parts (is_item item) (list_all is_item items) all in
    omega (
      arith,
      count-few items parts.1,
      items_length-cons item items,
      (is_item-parts parts.0).least,
    )

-- a tag has fewer than 2 ^ 32 items
pub count-most : {tag : TagFields} → IsTag tag → length tag.items < 2 ^ 32
count-most {tag} is = omega (arith, items_length-most is, count-few tag.items is.items)

length-end_bytes : (size count flags : ℕ) → length (end_bytes size count flags) ≡ 32
unfolding end_bytes
length-end_bytes size count flags = refl

-- a tag has the bytes of its items, and 64 of its header and its footer
pub length-tag_bytes : (tag : TagFields) → length (tag_bytes tag) ≡ 64 + items_length tag.items
unfolding tag_bytes
length-tag_bytes tag = grind (arith, length-append, length-end_bytes, length-items_bytes)

-- ---- a header or a footer that was written

-- bytes begin with a header or a footer, and these are its fields and the bytes after it
pub record IsEnd (size count flags : ℕ) (bytes rest : List ℕ) : Type 0 where
  pub long : nat_le 32 (length bytes) ≡ true
  pub text : begins_with (codes "APETAGEX") bytes ≡ true
  pub version : ape_version bytes ≡ 2000
  pub size_is : ape_size bytes ≡ size
  pub count_is : ape_count bytes ≡ count
  pub flags_is : ape_flags bytes ≡ flags
  pub reserved : is_reserved bytes ≡ true
  pub behind : drop 32 bytes ≡ rest

end_bytes-parts : {size count flags : ℕ} (rest : List ℕ) → size < 2 ^ 32 → count < 2 ^ 32
    → flags < 2 ^ 32 → IsEnd size count flags (end_bytes size count flags ++ rest) rest
unfolding end_bytes
end_bytes-parts {size} {count} {flags} rest s n f = record {
  long = grind (arith, le-leb, count, length-append, length-end_bytes);
  text = refl;
  version = refl;
  size_is = little_number-little_bytes s;
  count_is = little_number-little_bytes n;
  flags_is = little_number-little_bytes f;
  reserved = refl;
  behind = refl;
}

-- ---- a tag that was written is read again

is_footer-end : {size count flags : ℕ} {bytes : List ℕ} → IsEnd size count flags bytes []
    → are_footer_flags flags ≡ true → is_footer size count bytes ≡ true
unfolding is_footer
is_footer-end {count = count} is bits = grind (arith, and_from, eq-eqb, count, bits)

-- the block has the header, the items and the footer of a tag, each in its place
pub record AreParts (tag : TagFields) (block : List ℕ) : Type 0 where
  pub header : IsEnd (tag_size tag) (length tag.items) tag.header_flags block
      (items_bytes tag.items ++ end_bytes (tag_size tag) (length tag.items) tag.footer_flags)
  pub offset : footer_offset block ≡ 32 + items_length tag.items
  pub items : item_part block ≡ items_bytes tag.items
  pub behind : drop (footer_offset block) block
      ≡ end_bytes (tag_size tag) (length tag.items) tag.footer_flags
  pub footer : IsEnd (tag_size tag)
      (length tag.items) tag.footer_flags (drop (footer_offset block) block) []

tag_bytes-is : (tag : TagFields)
    → tag_bytes tag ≡ end_bytes (tag_size tag) (length tag.items) tag.header_flags
    ++ (items_bytes tag.items ++ end_bytes (tag_size tag) (length tag.items) tag.footer_flags)
unfolding tag_bytes
tag_bytes-is tag = refl

-- the bytes of a tag have its header, items and footer, each in its place
pub tag_bytes-parts : {tag : TagFields} → IsTag tag → AreParts tag (tag_bytes tag)
tag_bytes-parts {tag} is =
    let size : ℕ = tag_size tag in
    let count : ℕ = length tag.items in
    let footer : List ℕ = end_bytes size count tag.footer_flags in
    let block : List ℕ = tag_bytes tag in
    let s : size < 2 ^ 32 = omega (arith, items_length-most is) in
    let n : count < 2 ^ 32 = count-most is in
    let header : IsEnd size count tag.header_flags block (items_bytes tag.items ++ footer) =
    subst (λ b. IsEnd size count tag.header_flags b (items_bytes tag.items ++ footer))
    (sym (tag_bytes-is tag))
    (end_bytes-parts (items_bytes tag.items ++ footer) s n (ltb-true _ _ is.header_number)) in
    let offset : footer_offset block ≡ 32 + items_length tag.items =
    omega (arith, length-tag_bytes tag) in
    let many : footer_offset block - 32 ≡ items_length tag.items = omega (arith, offset) in
    let behind : drop (footer_offset block) block ≡ footer =
    ap (λ k. drop k block) offset ∙ sym (drop-drop (items_length tag.items) 32 block)
    ∙ ap (drop (items_length tag.items)) header.behind ∙ drop_at (items_bytes tag.items) footer
    (items_length tag.items) (length-items_bytes tag.items) in
    record {
      header = header;
      offset = offset;
      items = grind (arith, take_at, footer, length-items_bytes);
      behind = behind;
      footer = subst (λ b. IsEnd size count tag.footer_flags b []) (append-nil footer ∙ sym behind)
          (end_bytes-parts [] s n (ltb-true _ _ is.footer_number));
    }

-- header, items and footer, appended to nothing in order, are the bytes of the tag
pub tag_bytes-added : (tag : TagFields) {size count : ℕ} {nothing header items whole : List ℕ}
    → size ≡ tag_size tag → count ≡ length tag.items → nothing ≡ [] → header
    ≡ nothing ++ end_bytes size count tag.header_flags → items ≡ header ++ items_bytes tag.items
    → whole ≡ items ++ end_bytes size count tag.footer_flags → whole ≡ tag_bytes tag
tag_bytes-added tag size_is count_is first second third fourth =
    fourth ∙ rw (third, second, first, size_is, count_is) (append_assoc (end_bytes (tag_size tag)
    (length tag.items) tag.header_flags) (items_bytes tag.items)
    (end_bytes (tag_size tag) (length tag.items) tag.footer_flags) ∙ sym (tag_bytes-is tag))

-- ---- the tag of a block, step by step

-- reserved bytes that aren't zeros are a fault at byte 24
pub tag_of-reserved : (block : List ℕ) → is_reserved block ≡ false
    → tag_of block ≡ Err (TagFault.BadTag 24)
unfolding tag_of
tag_of-reserved block bad = rw bad refl

-- if there aren't as many items as the header states, the fault is after the last one
pub tag_of-count : (block : List ℕ) → is_reserved block ≡ true
    → (length (tag_items_of block) == ape_count block) ≡ false
    → tag_of block ≡ Err (TagFault.BadTag (32 + items_length (tag_items_of block)))
unfolding tag_of
tag_of-count block good bad = rw (good, bad) refl

-- if the footer isn't right after the last item, the fault is after the last one
pub tag_of-offset : (block : List ℕ) → is_reserved block ≡ true
    → (length (tag_items_of block) == ape_count block) ≡ true
    → (32 + items_length (tag_items_of block) == footer_offset block) ≡ false
    → tag_of block ≡ Err (TagFault.BadTag (32 + items_length (tag_items_of block)))
unfolding tag_of
tag_of-offset block good counted bad = rw (good, counted, bad) refl

-- if there is no footer for this header, the fault is where the footer should be
pub tag_of-footer : (block : List ℕ) → is_reserved block ≡ true
    → (length (tag_items_of block) == ape_count block) ≡ true
    → (32 + items_length (tag_items_of block) == footer_offset block) ≡ true
    → is_footer (ape_size block) (ape_count block) (drop (footer_offset block) block) ≡ false
    → tag_of block ≡ Err (TagFault.BadTag (footer_offset block))
unfolding tag_of
tag_of-footer block good counted placed bad = rw (good, counted, placed, bad) refl

abbrev pub tag_in : List ℕ → TagFields
tag_in block = record {
  header_flags = ape_flags block;
  footer_flags = ape_flags (drop (footer_offset block) block);
  items = tag_items_of block;
}

-- if nothing is at fault, the block is a tag
pub tag_of-whole : (block : List ℕ) → is_reserved block ≡ true
    → (length (tag_items_of block) == ape_count block) ≡ true
    → (32 + items_length (tag_items_of block) == footer_offset block) ≡ true
    → is_footer (ape_size block) (ape_count block) (drop (footer_offset block) block) ≡ true
    → tag_of block ≡ Ok (tag_in block)
unfolding tag_of
tag_of-whole block good counted placed footed = rw (good, counted, placed, footed) refl

-- the bytes of a tag are read as that tag
pub tag_of-tag_bytes : {tag : TagFields} → IsTag tag → tag_of (tag_bytes tag) ≡ Ok tag
tag_of-tag_bytes {tag} is =
    let block : List ℕ = tag_bytes tag in
    let parts = tag_bytes-parts is in
    let count : ape_count block ≡ length tag.items = parts.header.count_is in
    let items : tag_items_of block ≡ tag.items = grind (arith, count, tag_items_from-items_bytes) in
    let counted : (length (tag_items_of block) == ape_count block) ≡ true =
    eq-eqb (length (tag_items_of block)) (ape_count block) (ap length items ∙ sym count) in
    let placed : (32 + items_length (tag_items_of block) == footer_offset block) ≡ true =
    grind (arith, eq-eqb, items) in
    let footed : is_footer (ape_size block) (ape_count block) (drop (footer_offset block) block)
    ≡ true = grind (arith, count, is_footer-end) in
    tag_of-whole block parts.header.reserved counted placed footed
    ∙ ap Ok (rw (parts.header.flags_is, parts.footer.flags_is, items) refl)

-- ---- what was written is a block

is_ape-end : {size count flags : ℕ} {bytes rest : List ℕ} → IsEnd size count flags bytes rest
    → 32 ≤ size → are_header_flags flags ≡ true → is_ape bytes ≡ true
unfolding is_ape
is_ape-end is most bits = grind (arith, and_parts, bits, and_from, eq-eqb, le-leb, most)

-- the bytes of a tag begin with an APEv2 block that is as long as they are
pub block_front-tag_bytes : {tag : TagFields} → IsTag tag
    → block_front (tag_bytes tag) ≡ Some (record { kind = Ape; length = length (tag_bytes tag) })
unfolding ape_length
block_front-tag_bytes {tag} is =
    let block : List ℕ = tag_bytes tag in
    let parts = tag_bytes-parts is in
    let here : is_ape block ≡ true = is_ape-end parts.header (omega arith) is.header_bits in
    let long : 32 + ape_size block ≡ length block =
    omega (arith, parts.header.size_is, length-tag_bytes tag) in
    block_front-any Ape block (rw (here, long) refl)

-- ---- a block that is a tag, written again

zeros : (bytes : List ℕ) → list_all (λ b. b == 0) bytes ≡ true → bytes ≡ replicate (length bytes) 0
zeros [] all = refl
zeros (b ∷ bytes) all =
    let parts = and_parts (b == 0) (list_all (λ c. c == 0) bytes) all in
    ap (λ c. c ∷ bytes) (eqb-true b 0 parts.0) ∙ ap (λ l. 0 ∷ l) (zeros bytes parts.1)

six : (bytes : List ℕ)
    → take 32 bytes ≡ take 8 bytes ++ (take 4 (drop 8 bytes) ++ (take 4 (drop 12 bytes)
    ++ (take 4 (drop 16 bytes) ++ (take 4 (drop 20 bytes) ++ take 8 (drop 24 bytes)))))
six bytes = grind (arith, take-add, drop-drop)

glued : {a b c d e f g h i j k l : List ℕ} → a ≡ g → b ≡ h → c ≡ i → d ≡ j → e ≡ k → f ≡ l
    → a ++ (b ++ (c ++ (d ++ (e ++ f)))) ≡ g ++ (h ++ (i ++ (j ++ (k ++ l))))
glued first second third fourth fifth sixth = grind arith

end_bytes-back : (bytes : List ℕ) → AreByteValues bytes → 32 ≤ length bytes
    → begins_with (codes "APETAGEX") bytes ≡ true → ape_version bytes ≡ 2000 → is_reserved bytes
    ≡ true → take 32 bytes ≡ end_bytes (ape_size bytes) (ape_count bytes) (ape_flags bytes)
unfolding end_bytes
end_bytes-back bytes octets long text version reserved =
    let front : take 8 bytes ≡ codes "APETAGEX" = grind (arith, bytes_eq-Decides, text) in
    let number : take 4 (drop 8 bytes) ≡ little_bytes 4 2000 =
    sym (little_bytes-ape_number 8 bytes octets (omega (arith, long))) ∙ ap (little_bytes 4) version
    in
    let size : take 4 (drop 12 bytes) ≡ little_bytes 4 (ape_size bytes) =
    sym (little_bytes-ape_number 12 bytes octets (omega (arith, long))) in
    let count : take 4 (drop 16 bytes) ≡ little_bytes 4 (ape_count bytes) =
    sym (little_bytes-ape_number 16 bytes octets (omega (arith, long))) in
    let flags : take 4 (drop 20 bytes) ≡ little_bytes 4 (ape_flags bytes) =
    sym (little_bytes-ape_number 20 bytes octets (omega (arith, long))) in
    let zero : take 8 (drop 24 bytes) ≡ replicate 8 0 =
    zeros (take 8 (drop 24 bytes)) reserved ∙ ap (λ k. replicate k 0)
    (length-take-le 8 (drop 24 bytes) (omega (arith, long, length-drop 24 bytes))) in
    six bytes ∙ glued front number size count flags zero

-- a block that `block_at` takes as an APEv2 block of its own length
pub record IsBlock (block : List ℕ) : Type 0 where
  pub least : 32 ≤ length block
  pub text : begins_with (codes "APETAGEX") block ≡ true
  pub version : ape_version block ≡ 2000
  pub room : 32 ≤ ape_size block
  pub long : 32 + ape_size block ≡ length block
  pub header_bits : are_header_flags (ape_flags block) ≡ true

-- a block for which `block_at` returns its own length begins with an APEv2 header that gives this
-- length
pub block_front-is : {block : List ℕ}
    → block_front block ≡ Some (record { kind = Ape; length = length block }) → IsBlock block
unfolding is_ape ape_length
block_front-is {block} is =
    let both = block_front-begins block is in
    let five = and_parts _ _ both.0 in
    let four = and_parts _ _ five.0 in
    let three = and_parts _ _ four.0 in
    let two = and_parts _ _ three.0 in
    let one = and_parts _ _ two.0 in
    record {
      least = leb-true _ _ one.0;
      text = one.1;
      version = eqb-true _ _ two.1;
      room = leb-true _ _ three.1;
      long = both.1;
      header_bits = and_from _ _ four.1 five.1;
    }

-- the bytes are a footer with this size and this count
pub record IsFooter (size count : ℕ) (footer : List ℕ) : Type 0 where
  pub text : begins_with (codes "APETAGEX") footer ≡ true
  pub version : ape_version footer ≡ 2000
  pub size_is : ape_size footer ≡ size
  pub count_is : ape_count footer ≡ count
  pub bits : are_footer_flags (ape_flags footer) ≡ true
  pub reserved : is_reserved footer ≡ true

-- what passes the test of footers is a footer
pub is_footer-parts : {size count : ℕ} {footer : List ℕ} → is_footer size count footer ≡ true
    → IsFooter size count footer
unfolding is_footer
is_footer-parts is =
    let five = and_parts _ _ is in
    let four = and_parts _ _ five.0 in
    let three = and_parts _ _ four.0 in
    let two = and_parts _ _ three.0 in
    let one = and_parts _ _ two.0 in
    record {
      text = one.0;
      version = eqb-true _ _ one.1;
      size_is = eqb-true _ _ two.1;
      count_is = eqb-true _ _ three.1;
      bits = four.1;
      reserved = five.1;
    }

-- the block has no fault
pub record IsWhole (block : List ℕ) : Type 0 where
  pub is : IsBlock block
  pub octets : AreByteValues block
  pub most : length block ≤ 1048576
  pub reserved : is_reserved block ≡ true
  pub count : length (tag_items_of block) ≡ ape_count block
  pub offset : 32 + items_length (tag_items_of block) ≡ footer_offset block
  pub footer : is_footer (ape_size block) (ape_count block) (drop (footer_offset block) block)
      ≡ true

part-octets : (block : List ℕ) → AreByteValues block → AreByteValues (item_part block)
part-octets block octets =
    octets-take (footer_offset block - 32) (drop 32 block) (octets-drop 32 block octets)

-- the items of a block without fault are the items of a tag
pub IsTag-in : {block : List ℕ} → IsWhole block → IsTag (tag_in block)
IsTag-in {block} whole =
    let read =
    tag_items_from-read (ape_count block) false
    (part-octets block whole.octets) in
    let sum = items_length-parts (tag_items_of block) in
    record {
      items = read.all;
      one = omega (arith, read.few);
      others = omega (arith, sum, whole.offset, whole.most);
      own = omega (arith, sum, whole.offset, whole.most);
      header_bits = whole.is.header_bits;
      footer_bits = grind (arith, is_footer-parts);
      header_number = lt-ltb (ape_flags block) (2 ^ 32) (ape_number-below 20 block whole.octets);
      footer_number =
          lt-ltb (ape_flags (drop (footer_offset block) block)) (2 ^ 32) (ape_number-below 20
          (drop (footer_offset block) block)
          (octets-drop (footer_offset block) block whole.octets));
    }

none_left : {n : ℕ} (bytes : List ℕ) → length bytes ≤ n → drop n bytes ≡ []
none_left {n} bytes few = nil_from_length (drop n bytes) (omega (arith, few, length-drop n bytes))

up_to : {end : ℕ} (n : ℕ) → 32 + n ≡ end → 32 + (end - 32) ≡ end
up_to n is = omega (arith, is)

-- the bytes of the tag of a block without fault are the block
pub tag_bytes-in : {block : List ℕ} → IsWhole block → tag_bytes (tag_in block) ≡ block
unfolding tag_bytes
tag_bytes-in {block} whole =
    let items : List TagItem = tag_items_of block in
    let end : ℕ = footer_offset block in
    let footer : List ℕ = drop end block in
    let foot = is_footer-parts whole.footer in
    let size : items_length items + 32 ≡ ape_size block =
    omega (arith, whole.offset, whole.is.long) in
    let header : end_bytes (items_length items + 32) (length items) (ape_flags block)
    ≡ take 32 block = grind (arith, end_bytes-back) in
    let short : length footer ≡ 32 = omega (arith, length-drop end block, whole.is.least) in
    let ended : end_bytes (items_length items + 32) (length items) (ape_flags footer) ≡ footer =
    rw (size, whole.count, ← foot.size_is, ← foot.count_is)
    (sym (end_bytes-back footer (octets-drop end block whole.octets) (omega (arith, short))
    foot.text foot.version foot.reserved) ∙ take_all 32 footer (omega (arith, short))) in
    let read =
    tag_items_from-read (ape_count block) false
    (part-octets block whole.octets) in
    let wide : length (item_part block) ≡ items_length items = omega (
      arith,
      length-take (end - 32) (drop 32 block),
      length-drop 32 block,
      whole.offset,
      whole.is.least,
    ) in
    let nothing : items_bytes items ≡ item_part block =
    grind (arith, append-nil, items, none_left) in
    let split : item_part block ++ footer ≡ drop 32 block =
    grind (
      arith,
      up_to (items_length items) whole.offset,
      items,
      drop-drop (end - 32) 32
          block,
      take-append-drop (end - 32) (drop 32 block),
    ) in
    rw (header, nothing, ended, split) (take-append-drop 32 block)

-- ---- the steps of reading, by what was found at each

-- the items that were read, their number and length, and the count that the header states
pub record AreFound (block : List ℕ) (items : List TagItem) (many long count : ℕ) : Type 0 where
  pub items_is : items ≡ tag_items_of block
  pub many_is : many ≡ length items
  pub long_is : long ≡ items_length items
  pub count_is : count ≡ ape_count block
  pub reserved : is_reserved block ≡ true

module _ (block : List ℕ) (items : List TagItem) (many long count : ℕ) where
  -- if not as many items were read as the header states, the fault is after the last one
  pub count_fault : AreFound block items many long count → (many ≡ count → ⊥)
      → tag_of block ≡ Err (TagFault.BadTag (32 + long))
  count_fault found bad = grind (arith, tag_of-count, ne_eqb)

  counted : AreFound block items many long count → many ≡ count
      → length (tag_items_of block) ≡ ape_count block
  counted found good = sym (found.many_is ∙ ap length found.items_is) ∙ good ∙ found.count_is

  -- if the footer isn't right after the items that were read, the fault is after the last one
  pub offset_fault : AreFound block items many long count → many ≡ count
      → (32 + long ≡ footer_offset block → ⊥) → tag_of block ≡ Err (TagFault.BadTag (32 + long))
  offset_fault found good bad = grind (arith, long, tag_of-offset, eq-eqb, counted, ne_eqb)

  placed : AreFound block items many long count → 32 + long ≡ footer_offset block
      → 32 + items_length (tag_items_of block) ≡ footer_offset block
  placed found good = sym (ap (λ n. 32 + n) (found.long_is ∙ ap items_length found.items_is)) ∙ good

  -- if what is there isn't a footer for this header, the fault is at its offset
  pub footer_fault : AreFound block items many long count → many ≡ count
      → 32 + long ≡ footer_offset block
      → is_footer (ape_size block) (ape_count block) (drop (footer_offset block) block) ≡ false
      → tag_of block ≡ Err (TagFault.BadTag (footer_offset block))
  footer_fault found good offset bad = grind (arith, tag_of-footer, eq-eqb, counted, placed, offset)

  -- if nothing is at fault, the block has no fault
  pub whole_found : block_front block ≡ Some (record { kind = Ape; length = length block })
      → AreByteValues block → length block ≤ 1048576 → AreFound block items many long count
      → many ≡ count → 32 + long ≡ footer_offset block
      → is_footer (ape_size block) (ape_count block) (drop (footer_offset block) block) ≡ true
      → IsWhole block
  whole_found is octets most found good offset footer = record {
    is = block_front-is is;
    octets = octets;
    most = most;
    reserved = found.reserved;
    count = counted found good;
    offset = placed found offset;
    footer = footer;
  }

-- the tag of a block without fault is the one in it
pub tag_of-in : {block : List ℕ} → IsWhole block → tag_of block ≡ Ok (tag_in block)
tag_of-in whole = grind (arith, tag_of-whole, eq-eqb)

-- the items of a block leave room for header and footer
pub found-within : (block : List ℕ) → AreByteValues block → 64 ≤ length block
    → 64 + items_length (tag_items_of block) ≤ length block
found-within block octets long =
    omega (
      arith,
      long,
      tag_items_from-within (ape_count block) false (item_part block) (part-octets block octets),
      length-take (footer_offset block - 32) (drop 32 block),
      length-drop 32 block,
    )

-- an APEv2 block has at least 64 bytes
pub block-long : (block : List ℕ)
    → block_front block ≡ Some (record { kind = Ape; length = length block }) → 64 ≤ length block
block-long block is = let here = block_front-is is in omega (arith, here.room, here.long)

-- ---- the offset of a fault is in the block

fault_cases : (block : List ℕ) (a b c d : Bool) (items_long : ℕ) (tag : TagFields) {offset : ℕ}
    → 64 ≤ length block → 64 + items_long ≤ length block → cond (not a) (Err (TagFault.BadTag 24))
    (cond (not b) (Err (TagFault.BadTag (32 + items_long))) (cond (not c) (Err (TagFault.BadTag
    (32 + items_long))) (cond (not d) (Err (TagFault.BadTag (footer_offset block))) (Ok tag))))
    ≡ Err (TagFault.BadTag offset) → offset < length block
fault_cases block false b c d n tag {offset} long within e = grind (arith, offset, long)
fault_cases block true true true false n tag {offset} long within e = grind (arith, offset, long)
fault_cases block true true true true n tag long within e = absurd cc
fault_cases block true _ _ d n tag {offset} long within e = grind (arith, offset)

-- a fault is at a byte of the block
pub offset-within : (block : List ℕ) {offset : ℕ} → AreByteValues block → 64 ≤ length block
    → tag_of block ≡ Err (TagFault.BadTag offset) → offset < length block
unfolding tag_of
offset-within block {offset} octets long e =
    grind (arith, fault_cases, offset, long, found-within, octets)

-- ---- a block that is a tag has no fault

ok_cases : (a b c d : Bool) (x y z w : TagFault) {t tag : TagFields} → cond (not a) (Err x)
    (cond (not b) (Err y) (cond (not c) (Err z) (cond (not d) (Err w) (Ok t)))) ≡ Ok tag
    → (a ≡ true) × (b ≡ true) × (c ≡ true) × (d ≡ true) × (t ≡ tag)
ok_cases true true true true x y z w e = (refl, refl, refl, refl, cc)
ok_cases _ _ _ _ x y z w e = absurd cc

-- a block that is read as a tag has no fault, and the tag is the one in it
pub tag_of-ok : {block : List ℕ} {tag : TagFields} → AreByteValues block
    → block_front block ≡ Some (record { kind = Ape; length = length block })
    → length block ≤ 1048576 → tag_of block ≡ Ok tag → IsWhole block × (tag_in block ≡ tag)
unfolding tag_of
tag_of-ok {block} {tag} octets is most e =
    let parts = ok_cases (is_reserved block) (length (tag_items_of block) == ape_count block)
    (32 + items_length (tag_items_of block) == footer_offset block)
    (is_footer (ape_size block) (ape_count block) (drop (footer_offset block) block)) _ _ _ _ e in (
      record {
        is = block_front-is is;
        octets = octets;
        most = most;
        reserved = parts.0;
        count = eqb-true _ _ parts.1;
        offset = eqb-true _ _ parts.2;
        footer = parts.3;
      },
      parts.4,
    )
