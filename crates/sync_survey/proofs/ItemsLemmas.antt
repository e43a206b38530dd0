-- What bytes begin with: one item, and no other.
use Rattle.std.proofs.Common.{arith, Bool, cond, drop, Err, List, Ok, Option, refl, Result, subst}
use Rattle.std.proofs.{Common.{sym, take, true, ℕ, ◌<◌, ◌∙◌, ◌≡◌}, lemmas.Bool.false≢true}
use Rattle.frame_header.proofs.HeaderLemmas.{IsClass-class_of, IsHeader-header_at}
use Rattle.frame_header.{proofs.LengthLemmas.area_some, specs.Fields.{HeaderFields, IsHeader}}
use Rattle.frame_header.specs.{Reading.header_at, Tables.{class_of, length_of}}
use Rattle.frame_header.specs.declared.header.NotHeader.{NotHeader, TheVariants.No}
use Rattle.sync_survey.specs.Chains.{belongs}
use Rattle.sync_survey.specs.Items.{block_or_item, byte_item, header_front, header_or_item}
use Rattle.sync_survey.specs.Items.{IsItemFront, item_at, item_front, size_of}
use Rattle.sync_survey.specs.declared.{chains.Region.Region, items.Item.{Item, TheVariants.Frame}}
use Rattle.tag_blocks.{proofs.BlocksLemmas.block_front-least, specs.Blocks.block_front}
use Rattle.tag_blocks.specs.declared.block.Block.{Block as TagBlock}

-- ---- the item that is found is there

stands_by : (bytes : List ℕ) {r : Result HeaderFields NotHeader} {o : Option TagBlock}
    → header_front bytes ≡ r → block_front bytes ≡ o
    → IsItemFront bytes (header_or_item r (block_or_item o (byte_item bytes)))
stands_by bytes header block = grind arith

-- bytes begin with the item that is found at their front
pub stands : (bytes : List ℕ) → IsItemFront bytes (item_front bytes)
unfolding item_front
stands bytes = stands_by bytes refl refl

-- bytes that begin with a header begin with its frame
pub frame_of_header : (bytes : List ℕ) {h : HeaderFields} → header_front bytes ≡ Ok h
    → item_front bytes ≡ Frame h
unfolding item_front
frame_of_header bytes e = grind arith

-- the header of an item that is a frame is the one with which the bytes begin
pub header_stands : (bytes : List ℕ) {item : Item} {h : HeaderFields} → item ≡ item_front bytes
    → item ≡ Frame h → header_front bytes ≡ Ok h
header_stands bytes front is = subst (IsItemFront bytes) (sym front ∙ is) (stands bytes)

-- bytes at an offset of a file begin with the item that is found there
pub stands-at : (file : List ℕ) (at : ℕ) (item : Item) → item_at file at ≡ item
    → IsItemFront (drop at file) item
unfolding item_at
stands-at file at item is = subst (IsItemFront (drop at file)) is (stands (drop at file))

-- ---- what belongs to a part of a file has bytes

header_cases : (b : Bool) {r : Result HeaderFields NotHeader} {h : HeaderFields}
    → cond b r (Err No) ≡ Ok h → r ≡ Ok h
header_cases b e = grind arith

-- the header with which bytes begin is the header of their first four bytes
pub header_at-front : (bytes : List ℕ) {h : HeaderFields} → header_front bytes ≡ Ok h
    → header_at (take 4 bytes) ≡ Ok h
unfolding header_front
header_at-front bytes {h} e = header_cases _ e

-- the fields of a header with which bytes begin are in range
pub header_front-in_range : (bytes : List ℕ) {h : HeaderFields} → header_front bytes ≡ Ok h
    → IsHeader h
unfolding header_front
header_front-in_range bytes {h} e = IsHeader-header_at (take 4 bytes) (header_cases _ e)

frame_some : {h : HeaderFields} → IsHeader h → 0 < length_of (class_of h) h.slot
frame_some fields = grind (arith, area_some, IsClass-class_of)

-- an item with which bytes begin and that belongs to a part has at least one byte
pub some_by : (bytes : List ℕ) (part : Region) (item : Item) → IsItemFront bytes item
    → belongs part item ≡ true → 0 < size_of item
some_by bytes part item here is =
    grind (arith, frame_some, header_front-in_range, block_front-least, false≢true)

-- an item at an offset of a file that belongs to a part has at least one byte
pub size-some : (part : Region) (file : List ℕ) (at : ℕ) (item : Item) → item_at file at ≡ item
    → belongs part item ≡ true → 0 < size_of item
size-some part file at item is belongs = search (arith, some_by, stands-at)
