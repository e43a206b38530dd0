-- What begins at an offset of a file: frames (ISO/IEC 11172-3 and 13818-3, 2.4.1), a header of free
-- format, blocks of tags, single zero bytes, the end, or none of these.
pub use Rattle.frame_header.specs.Fields.{same_class}
use Rattle.std.specs.Prelude.{Bool, drop, Err, if◌then◌else◌, length, List, nat_le, None, Ok}
use Rattle.std.specs.Prelude.{Option, Result, Some, take, ℕ, [], ◌-◌, ◌==◌, ◌∷◌, ◌≡◌, ◌≢◌}
use Rattle.frame_header.specs.{Fields.HeaderFields, Reading.header_at, Tables.{class_of, length_of}}
use Rattle.frame_header.specs.declared.header.NotHeader.{NotHeader}
use Rattle.frame_header.specs.declared.header.NotHeader.TheVariants.{Free as FreeHeader, No}
use Rattle.sync_survey.specs.declared.items.Item.{Item}
use Rattle.sync_survey.specs.declared.items.Item.TheVariants.{Block, End, Frame, Free, Nothing}
use Rattle.sync_survey.specs.declared.items.Item.TheVariants.{Zero}
use Rattle.tag_blocks.specs.{Blocks.block_front, declared.block.Block.Block as TagBlock}

-- the header with which these bytes begin; none if there are fewer than four
unfoldable pub header_front : List ℕ → Result HeaderFields NotHeader
header_front bytes = if nat_le 4 (length bytes) then header_at (take 4 bytes) else Err No

-- these bytes begin with this item
abbrev pub IsItemFront : List ℕ → Item → Type 0
IsItemFront bytes (Frame h) = header_front bytes ≡ Ok h
IsItemFront bytes Free = header_front bytes ≡ Err FreeHeader
IsItemFront bytes (Block b) = block_front bytes ≡ Some b
IsItemFront bytes Zero = take 1 bytes ≡ 0 ∷ []
IsItemFront bytes End = bytes ≡ []
IsItemFront bytes Nothing =
    (header_front bytes ≡ Err No) × (block_front bytes ≡ None) × (bytes ≢ [])
    × (take 1 bytes ≢ 0 ∷ [])

-- the item that a header gives; without a header, the other item
abbrev pub header_or_item : Result HeaderFields NotHeader → Item → Item
header_or_item (Ok h) other = Frame h
header_or_item (Err FreeHeader) other = Free
header_or_item (Err No) other = other

-- the item that a block gives; without a block, the other item
abbrev pub block_or_item : Option TagBlock → Item → Item
block_or_item (Some b) other = Block b
block_or_item None other = other

-- the item that the first byte alone decides
abbrev pub byte_item : List ℕ → Item
byte_item [] = End
byte_item (b ∷ bs) = if b == 0 then Zero else Nothing

-- the item with which these bytes begin; they begin with at most one kind, so the order of these
-- tests doesn't matter
unfoldable pub item_front : List ℕ → Item
item_front bytes =
    header_or_item (header_front bytes) (block_or_item (block_front bytes) (byte_item bytes))

-- the item at an offset of the file
unfoldable pub item_at : List ℕ → ℕ → Item
item_at file at = item_front (drop at file)

-- the length in bytes of a frame by its header, of a block by its first bytes, and of a zero byte;
-- 0 for anything else
abbrev pub size_of : Item → ℕ
size_of (Frame h) = length_of (class_of h) h.slot
size_of Free = 0
size_of (Block b) = b.length
size_of Zero = 1
size_of End = 0
size_of Nothing = 0

-- the item at the offset doesn't go past the end of the file
abbrev pub item_fits : List ℕ → ℕ → Item → Bool
item_fits file at item = nat_le (size_of item) (length file - at)
