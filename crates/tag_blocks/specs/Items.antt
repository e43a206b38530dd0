-- Items of an APEv2 tag: what they are, their bytes, and the items with which bytes begin, with
-- nothing between them.
use Rattle.std.specs.List.{list_all, prefix_len}
use Rattle.std.specs.Prelude.{Bool, codes, drop, flat_map, if◌then◌else◌, length, List, nat_le}
use Rattle.std.specs.Prelude.{nat_lt, None, Option, slice_index, Some, suc, sum_by, take, zero, ℕ}
use Rattle.std.specs.Prelude.{[], ◌&&◌, ◌++◌, ◌+◌, ◌==◌, ◌^◌, ◌||◌, ◌∷◌, ◌≡◌, ◌≤◌}
use Rattle.std.specs.Str.{str_eq_ignore_ascii_case}
use Rattle.byteorder.specs.Endian.{little_bytes}
use Rattle.tag_blocks.specs.Blocks.{ape_number}

-- ---- an item

-- an item of a tag: its key, its flags, and a value of any bytes
pub record TagItem : Type 0 where
  pub key : List ℕ
  pub flags : ℕ
  pub value : List ℕ

-- a character of a key: from 20 to 7e hex
abbrev pub is_key_char : ℕ → Bool
is_key_char c = nat_le 32 c && nat_le c 126

-- a key has 2 to 255 characters
abbrev pub is_key : List ℕ → Bool
is_key key = nat_le 2 (length key) && nat_le (length key) 255 && list_all is_key_char key

-- the length of the value and the flags are numbers of 32 bits
unfoldable pub is_item : TagItem → Bool
is_item item = is_key item.key && nat_lt (length item.value) (2 ^ 32) && nat_lt item.flags (2 ^ 32)

-- the item with the key `MP3GAIN_UNDO`, compared ignoring ASCII case, in which mp3gain keeps its
-- undo
unfoldable pub is_undo : TagItem → Bool
is_undo item = str_eq_ignore_ascii_case item.key (codes "MP3GAIN_UNDO")

-- ---- its bytes

-- the length of the value, the flags, the key, a zero byte,
-- and the value; numbers have 32 bits and are little-endian
unfoldable pub item_bytes : TagItem → List ℕ
item_bytes item = little_bytes 4 (length item.value)
    ++ (little_bytes 4 item.flags ++ (item.key ++ (0 ∷ item.value)))

-- how many bytes an item has: eight of length and flags, the key, the zero byte and the value
abbrev pub item_length : TagItem → ℕ
item_length item = 9 + length item.key + length item.value

-- the bytes of all items, joined in order
abbrev pub items_bytes : List TagItem → List ℕ
items_bytes items = flat_map item_bytes items

-- how many bytes the items have together
abbrev pub items_length : List TagItem → ℕ
items_length items = sum_by item_length items

-- ---- the item with which bytes begin

-- how many characters of a key are after the eight bytes of length and flags
abbrev pub key_length : List ℕ → ℕ
key_length bytes = prefix_len is_key_char (drop 8 bytes)

-- where the value begins, after the key and its zero byte
abbrev pub value_offset : List ℕ → ℕ
value_offset bytes = 9 + key_length bytes

-- a key of 2 to 255 characters, a zero byte, and a value that is whole
unfoldable pub has_whole_item : List ℕ → Bool
has_whole_item bytes =
    nat_le 2 (key_length bytes) && nat_le (key_length bytes) 255
    && nat_le (value_offset bytes + ape_number 0 bytes) (length bytes)
    && (slice_index bytes (8 + key_length bytes) == 0)

-- where the key ends, and where the value begins and ends; all of them are within the bytes
pub record IsItemLayout (bytes : List ℕ) (key_end value_at end : ℕ) : Type 0 where
  pub key : key_end ≡ 8 + key_length bytes
  pub value : value_at ≡ value_offset bytes
  pub end_is : end ≡ value_offset bytes + ape_number 0 bytes
  pub within : end ≤ length bytes

-- the item that is there
unfoldable pub tag_item_front : List ℕ → TagItem
tag_item_front bytes = record {
  key = take (key_length bytes) (drop 8 bytes);
  flags = ape_number 4 bytes;
  value =
      take (ape_number 0 bytes) (drop (value_offset bytes) bytes);
}

-- the item with which the bytes begin, if one does
abbrev pub tag_item_of : List ℕ → Option TagItem
tag_item_of bytes = if has_whole_item bytes then Some (tag_item_front bytes) else None

-- ---- items end to end

-- an item, unless it is an undo item and one was found before
abbrev pub admitted_item : Bool → TagItem → Option TagItem
admitted_item met item = if met && is_undo item then None else Some item

-- the item that is there, if it is admitted
abbrev pub next_if_admitted : Bool → Option TagItem → Option TagItem
next_if_admitted met None = None
next_if_admitted met (Some item) = admitted_item met item

-- the item with which the bytes begin, if it may be there
abbrev pub next_item : Bool → List ℕ → Option TagItem
next_item met bytes = next_if_admitted met (tag_item_of bytes)

-- an item and the items after it, or none where there is no item
abbrev pub item_and_more : (TagItem → List TagItem) → Option TagItem → List TagItem
item_and_more behind None = []
item_and_more behind (Some item) = item ∷ behind item

-- the items with which the bytes begin, with nothing between them: at most `most` of them, and only
-- those before a second undo item
unfoldable pub tag_items_from : ℕ → Bool → List ℕ → List TagItem
tag_items_from zero met bytes = []
tag_items_from (suc most) met bytes =
    item_and_more (λ item. tag_items_from most (met || is_undo item)
    (drop (item_length item) bytes)) (next_item met bytes)
