-- An item is known by its own bytes, whatever bytes are after them.
use Rattle.std.proofs.Common.{ap, arith, codes, drop, length, List, Ok, refl, Some, sym, take, true}
use Rattle.std.proofs.{Common.{ℕ, ◌++◌, ◌+◌, ◌∙◌, ◌≡◌, ◌≤◌}, lemmas.Bool.false≢true}
use Rattle.std.proofs.lemmas.List.{get_or-take, length-drop, length-take, length-take-le}
use Rattle.std.proofs.lemmas.List.{take-append-le, take-take, take_at}
use Rattle.frame_header.proofs.{HeaderLemmas.IsClass-class_of, LengthLemmas.area_some}
use Rattle.frame_header.specs.{Fields.{HeaderFields, IsHeader}, Tables.{class_of, length_of}}
use Rattle.sync_survey.proofs.ItemsLemmas.{header_front-in_range, stands-at}
use Rattle.sync_survey.{proofs.OneItemLemmas.stands-only, specs.Chains.belongs}
use Rattle.sync_survey.specs.Items.{header_front, IsItemFront, item_at, item_front, size_of}
use Rattle.sync_survey.specs.declared.{chains.Region.TheVariants.Stream, items.Item.Item}
use Rattle.sync_survey.specs.declared.items.Item.TheVariants.{Block, Frame, Zero}
use Rattle.tag_blocks.proofs.BlocksLemmas.{block_front-any, block_front-begins, block_front-own}
use Rattle.tag_blocks.proofs.BlocksLemmas.{long_take, part_take, text_take}
use Rattle.tag_blocks.specs.Blocks.{ape_length, begins, block_front, block_of_kind, id3v2_length}
use Rattle.tag_blocks.specs.Blocks.{is_ape, is_id3v1, is_id3v2, length_of_kind}
use Rattle.tag_blocks.specs.declared.block.{Block.Block as TagBlock, Kind.Kind}
use Rattle.tag_blocks.specs.declared.block.Kind.TheVariants.{Ape, Id3v1, Id3v2}

-- ---- a block

-- how many of its first bytes decide that a block is of this kind
abbrev pub known_by : Kind → ℕ
known_by Id3v2 = 10
known_by Id3v1 = 3
known_by Ape = 32

begins-take : (kind : Kind) {n : ℕ} (bytes : List ℕ) → known_by kind ≤ n
    → begins kind (take n bytes) ≡ begins kind bytes
unfolding is_id3v2 is_id3v1 is_ape
begins-take Id3v2 {n} bytes within =
    grind (
      arith,
      long_take {k = 10} {n = n} bytes within,
      text_take (codes "ID3") {n = n} bytes (omega arith),
      codes
          "ID3",
      get_or-take n bytes 3 0 (omega arith),
      get_or-take n bytes 4 0 (omega arith),
      part_take 6
          4 {n = n} bytes (omega arith),
    )
begins-take Id3v1 {n} bytes within = text_take (codes "TAG") {n = n} bytes within
begins-take Ape {n} bytes within =
    grind (
      arith,
      long_take {k = 32} {n = n} bytes within,
      text_take (codes "APETAGEX") {n = n} bytes (omega arith),
      codes "APETAGEX",
      part_take 8 4 {n = n} bytes (omega arith),
      part_take 12 4 {n = n} bytes (omega arith),
      part_take 20 4 {n = n} bytes (omega arith),
    )

length_of_kind-take : (kind : Kind) {n : ℕ} (bytes : List ℕ) → known_by kind ≤ n
    → length_of_kind kind (take n bytes) ≡ length_of_kind kind bytes
unfolding id3v2_length ape_length
length_of_kind-take Id3v2 {n} bytes within =
    rw (part_take 6 4 {n = n} bytes (omega arith), get_or-take n bytes 5 0 (omega arith)) refl
length_of_kind-take Id3v1 bytes within = refl
length_of_kind-take Ape {n} bytes within = rw (part_take 12 4 {n = n} bytes (omega arith)) refl

-- the first bytes that decide whether there is a block of a kind are enough
pub block_of_kind-take : (kind : Kind) {n : ℕ} (bytes : List ℕ) → known_by kind ≤ n
    → block_of_kind kind (take n bytes) ≡ block_of_kind kind bytes
block_of_kind-take kind bytes within = grind (arith, begins-take, length_of_kind-take)

-- the bytes that decide the kind are within the block
known_within : (kind : Kind) (bytes : List ℕ) → known_by kind ≤ length_of_kind kind bytes
unfolding id3v2_length ape_length
known_within kind bytes = grind arith

-- a block is known by its own bytes, whatever is after them
pub block_front-bytes : (bytes rest : List ℕ) {b : TagBlock} → block_front bytes ≡ Some b
    → b.length ≤ length bytes → block_front (take b.length bytes ++ rest) ≡ Some b
block_front-bytes bytes rest {b} is within =
    let own = take b.length bytes in
    let known : known_by b.kind ≤ b.length =
    omega (arith, known_within b.kind bytes, (block_front-begins bytes is).1) in
    let same : take b.length (own ++ rest) ≡ own =
    grind (arith, take_at, length-take-le) in
    block_front-any b.kind (own ++ rest)
    (sym (block_of_kind-take b.kind (own ++ rest) known) ∙ ap (block_of_kind b.kind) same
    ∙ block_of_kind-take b.kind bytes known ∙ block_front-own bytes is)

-- ---- a header

-- only the first four bytes matter
pub header_front-four : (xs ys : List ℕ) → take 4 xs ≡ take 4 ys → header_front xs ≡ header_front ys
unfolding header_front
header_front-four xs ys same = grind (arith, long_take)

-- ---- an item

-- These bytes are an item: they are as many as it has, and begin with it, whatever bytes are after
-- them.
pub record IsItem (item : Item) (own : List ℕ) : Type 0 where
  pub size : length own ≡ size_of item
  pub known : (rest : List ℕ) → item_front (own ++ rest) ≡ item

known_by_standing : (item : Item) (own : List ℕ)
    → ((rest : List ℕ) → IsItemFront (own ++ rest) item) → (rest : List ℕ)
    → item_front (own ++ rest) ≡ item
known_by_standing item own stands rest = sym (stands-only (own ++ rest) (stands rest))

-- a frame has its header and its length
pub frame_item : {h : HeaderFields} {own : List ℕ} → header_front own ≡ Ok h
    → length own ≡ length_of (class_of h) h.slot → 4 ≤ length own → IsItem (Frame h) own
frame_item {h} {own} header long least = record {
  size = long;
  known = known_by_standing (Frame h) own
      (λ rest. header_front-four (own ++ rest) own (take-append-le 4 own rest least) ∙ header);
}

-- a frame has more than the four bytes of its header
pub frame-least : {h : HeaderFields} → IsHeader h → 4 ≤ length_of (class_of h) h.slot
frame-least fields = grind (arith, area_some, IsClass-class_of)

-- a whole item with which bytes begin is known by its own bytes
stands_kept : (item : Item) (bytes rest : List ℕ) → IsItemFront bytes item → belongs Stream item
    ≡ true → size_of item ≤ length bytes → IsItemFront (take (size_of item) bytes ++ rest) item
stands_kept (Frame h) bytes rest here is within =
    let size = length_of (class_of h) h.slot in
    let least = frame-least (header_front-in_range bytes here) in
    header_front-four (take size bytes ++ rest) bytes
    (take-append-le 4 (take size bytes) rest (omega (arith, least, within, length-take size bytes))
    ∙ take-take 4 size bytes least)
    ∙ here
stands_kept (Block b) bytes rest here is within = block_front-bytes bytes rest here within
stands_kept Zero bytes rest here is within = grind (arith, take-append-le, length-take, take-take)
stands_kept _ bytes rest here is within = absurd (false≢true is)

-- the bytes of a whole item of a file are that item
pub kept_item : (file : List ℕ) (at : ℕ) (item : Item) → item_at file at ≡ item
    → belongs Stream item ≡ true → at + size_of item ≤ length file
    → IsItem item (take (size_of item) (drop at file))
kept_item file at item is belongs within =
    let bytes = drop at file in
    let size = size_of item in
    let room : size ≤ length bytes = omega (arith, within, length-drop at file) in record {
      size = length-take-le size bytes room;
      known = known_by_standing item (take size bytes)
          (λ rest. stands_kept item bytes rest (stands-at file at item is) belongs room);
    }
