-- APEv2 tags: a header, items and a footer. What a tag is, its bytes, and the tag that a block is,
-- or the offset of the first fault in it.
use Rattle.std.specs.{Int.bit_at, List.list_all}
use Rattle.std.specs.Prelude.{Bool, codes, drop, Err, false, filter, if◌then◌else◌, length, List}
use Rattle.std.specs.Prelude.{nat_lt, not, Ok, replicate, Result, take, true, ℕ, ⊤, ◌&&◌, ◌++◌, ◌+◌}
use Rattle.std.specs.Prelude.{◌-◌, ◌<◌, ◌==◌, ◌^◌, ◌≡◌, ◌≤◌}
use Rattle.byteorder.specs.Endian.{little_bytes}
use Rattle.tag_blocks.specs.Blocks.{ape_flags, ape_number, ape_size, ape_version, begins_with}
use Rattle.tag_blocks.specs.Items.{is_item, is_undo, items_bytes, items_length, tag_items_from}
use Rattle.tag_blocks.specs.{Items.TagItem, declared.tag_fault.TagFault.TagFault}
use Rattle.tag_blocks.specs.declared.tag_fault.TagFault.TheVariants.{BadTag, Memory}

-- ---- a tag

-- the flags of the header and of the footer, and the items
pub record TagFields : Type 0 where
  pub header_flags : ℕ
  pub footer_flags : ℕ
  pub items : List TagItem

-- flags of a header: bit 31 says that the tag has one, and bit 29 that this is it
abbrev pub are_header_flags : ℕ → Bool
are_header_flags flags = (bit_at flags 31 == 1) && (bit_at flags 29 == 1)

-- flags of a footer: bit 29 is clear
abbrev pub are_footer_flags : ℕ → Bool
are_footer_flags flags = bit_at flags 29 == 0

-- all items except the undo item
abbrev pub other_items : List TagItem → List TagItem
other_items items = filter (λ item. not (is_undo item)) items

-- the undo item alone
abbrev pub undo_items : List TagItem → List TagItem
undo_items items = filter is_undo items

-- Keys, flags and lengths are legal, and at most one item is the undo item. It has at most
-- 1,048,512 bytes, and so have all other items together: no tag is longer than 2,097,088 bytes.
pub record IsTag (tag : TagFields) : Type 0 where
  pub items : list_all is_item tag.items ≡ true
  pub one : length (undo_items tag.items) ≤ 1
  pub others : items_length (other_items tag.items) ≤ 1048512
  pub own : items_length (undo_items tag.items) ≤ 1048512
  pub header_bits : are_header_flags tag.header_flags ≡ true
  pub footer_bits : are_footer_flags tag.footer_flags ≡ true
  pub header_number : nat_lt tag.header_flags (2 ^ 32) ≡ true
  pub footer_number : nat_lt tag.footer_flags (2 ^ 32) ≡ true

-- ---- its bytes

-- a header or a footer: `APETAGEX`, version 2000, the size of
-- items and footer, the count of items, flags, and 8 zero bytes
unfoldable pub end_bytes : ℕ → ℕ → ℕ → List ℕ
end_bytes size count flags = codes "APETAGEX" ++ (little_bytes 4 2000
    ++ (little_bytes 4 size ++ (little_bytes 4 count ++ (little_bytes 4 flags ++ replicate 8 0))))

-- the size that header and footer state: the length of the items and the footer
abbrev pub tag_size : TagFields → ℕ
tag_size tag = items_length tag.items + 32

-- the header, the items and the footer
unfoldable pub tag_bytes : TagFields → List ℕ
tag_bytes tag =
    end_bytes (tag_size tag) (length tag.items) tag.header_flags
    ++ (items_bytes tag.items ++ end_bytes (tag_size tag) (length tag.items) tag.footer_flags)

-- ---- the tag of a block

-- the count of items in a header or a footer
abbrev pub ape_count : List ℕ → ℕ
ape_count bytes = ape_number 16 bytes

-- the last 8 bytes of a header or a footer are zero
abbrev pub is_reserved : List ℕ → Bool
is_reserved bytes = list_all (λ b. b == 0) (take 8 (drop 24 bytes))

-- where the items end and the footer begins
abbrev pub footer_offset : List ℕ → ℕ
footer_offset block = length block - 32

-- the bytes between header and footer
abbrev pub item_part : List ℕ → List ℕ
item_part block = take (footer_offset block - 32) (drop 32 block)

-- the items that are there, up to as many as the header counts
abbrev pub tag_items_of : List ℕ → List TagItem
tag_items_of block = tag_items_from (ape_count block) false (item_part block)

-- the text, version 2000, size and count of the header, flag bit 29 clear, and 8 zero bytes
unfoldable pub is_footer : ℕ → ℕ → List ℕ → Bool
is_footer size count footer =
    begins_with (codes "APETAGEX") footer && (ape_version footer == 2000)
    && (ape_size footer == size) && (ape_number 16 footer == count)
    && are_footer_flags (ape_flags footer)
    && is_reserved footer

-- the tag that an APEv2 block is, or the offset of the first fault: in
-- the header, at the first item that isn't whole, has no legal key or
-- is a second undo item, after the last item, or at the footer
unfoldable pub tag_of : List ℕ → Result TagFields TagFault
tag_of block =
    if not (is_reserved block) then Err (BadTag 24) else
    if not (length (tag_items_of block) == ape_count block)
    then Err (BadTag (32 + items_length (tag_items_of block))) else
    if not (32 + items_length (tag_items_of block) == footer_offset block)
    then Err (BadTag (32 + items_length (tag_items_of block))) else
    if not (is_footer (ape_size block) (ape_count block) (drop (footer_offset block) block))
    then Err (BadTag (footer_offset block)) else
    Ok (record {
      header_flags = ape_flags block;
      footer_flags = ape_flags (drop (footer_offset block) block);
      items = tag_items_of block;
    })

-- the offset of a fault is a byte of the block
abbrev pub IsOffsetIn : List ℕ → TagFault → Type 0
IsOffsetIn block (BadTag offset) = offset < length block
IsOffsetIn block Memory = ⊤
