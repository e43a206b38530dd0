-- What bytes that were cut short begin with: the item that was there, or nothing that is known.
use Rattle.std.proofs.Common.{ap, arith, Bool, drop, Err, inl, inr, leb, length, List, None, Ok}
use Rattle.std.proofs.Common.{Option, refl, Some, sym, take, true, ℕ, [], ◌++◌, ◌+◌, ◌-◌, ◌<◌, ◌∙◌}
use Rattle.std.proofs.Common.{◌∷◌, ◌≡◌, ◌≢◌, ◌≤◌, ◌⊎◌}
use Rattle.std.proofs.lemmas.List.{drop-take, length-take, length-take-le, take-append-drop}
use Rattle.std.proofs.lemmas.{List.take-take, Slice.Eq.bytes_eq-Decides}
use Rattle.frame_header.specs.declared.header.NotHeader.TheVariants.{Free as FreeHeader, No}
use Rattle.sync_survey.proofs.ChainLemmas.{whole_item_at-is, whole_item_at-whole}
use Rattle.sync_survey.proofs.ItemBytesLemmas.{block_of_kind-take, header_front-four, kept_item}
use Rattle.sync_survey.proofs.ItemBytesLemmas.{known_by}
use Rattle.sync_survey.proofs.{ItemListLemmas.{item_at-known, stream_belongs}, ItemsLemmas.stands}
use Rattle.sync_survey.{proofs.OneItemLemmas.stands-only, specs.Chains.{belongs, whole_item_at}}
use Rattle.sync_survey.specs.Items.{header_front, IsItemFront, item_at, item_front, size_of}
use Rattle.sync_survey.specs.declared.{chains.Region.Region, items.Item.Item}
use Rattle.sync_survey.specs.declared.items.Item.TheVariants.{Block, End, Frame, Free, Nothing}
use Rattle.sync_survey.specs.declared.items.Item.TheVariants.{Zero}
use Rattle.tag_blocks.proofs.BlocksLemmas.{block_front-any, block_front-begins, block_front-own}
use Rattle.tag_blocks.specs.Blocks.{begins, begins_with, block_front, is_ape, is_id3v1, is_id3v2}
use Rattle.tag_blocks.specs.declared.block.{Block.Block as TagBlock, Kind.Kind}

-- ---- how many bytes an item is known by

header_long : (bytes : List ℕ) {b : Bool} → leb 4 (length bytes) ≡ b → header_front bytes ≢ Err No
    → 4 ≤ length bytes
unfolding header_front
header_long bytes is other = grind arith

header-long : (bytes : List ℕ) → header_front bytes ≢ Err No → 4 ≤ length bytes
header-long bytes other = header_long bytes refl other

-- bytes that begin with a text have all of it
pub text-long : {text : List ℕ} (bytes : List ℕ) → begins_with text bytes ≡ true
    → take (length text) bytes ≡ text
text-long {text} bytes is = sym ((bytes_eq-Decides text (take (length text) bytes)).0 is)

-- bytes that begin with a kind of block are at least as many as the kind is known by
pub begins-long : (kind : Kind) (bytes : List ℕ) → begins kind bytes ≡ true
    → known_by kind ≤ length bytes
unfolding is_id3v2 is_id3v1 is_ape
begins-long kind bytes is = grind arith

-- ---- the first item of bytes

-- the item that was there, or no known item
abbrev pub IsCutItem : Item → Item → Type 0
IsCutItem now whole = (now ≡ whole) ⊎ ((now ≡ End) ⊎ (now ≡ Nothing))

header-same : (k : ℕ) (bytes : List ℕ) → header_front (take k bytes) ≢ Err No
    → header_front (take k bytes) ≡ header_front bytes
header-same k bytes other =
    header_front-four (take k bytes) bytes
    (take-take 4 k bytes (omega (arith, header-long (take k bytes) other, length-take k bytes)))

block-same : (k : ℕ) (bytes : List ℕ) {b : TagBlock} → block_front (take k bytes) ≡ Some b
    → block_front bytes ≡ Some b
block-same k bytes {b} is =
    let long = begins-long b.kind (take k bytes) (block_front-begins (take k bytes) is).0 in
    block_front-any b.kind bytes
    (sym (block_of_kind-take b.kind bytes (omega (arith, long, length-take k bytes)))
    ∙ block_front-own (take k bytes) is)

zero-same : (k : ℕ) (bytes : List ℕ) → take 1 (take k bytes) ≡ 0 ∷ [] → take 1 bytes ≡ 0 ∷ []
zero-same k bytes is = grind (arith, is, length-take, take-take)

cut_by : (k : ℕ) (bytes : List ℕ) (now : Item) → IsItemFront (take k bytes) now
    → IsCutItem now (item_front bytes)
cut_by k bytes (Frame h) here = inl (stands-only bytes
    (sym (header-same k bytes (λ e. let no : Ok h ≡ Err No = sym here ∙ e in absurd cc)) ∙ here))
cut_by k bytes Free here = inl (stands-only bytes (sym (header-same k bytes
    (λ e. let no : Err FreeHeader ≡ Err No = sym here ∙ e in absurd cc)) ∙ here))
cut_by k bytes (Block b) here = inl (stands-only bytes (block-same k bytes here))
cut_by k bytes Zero here = inl (stands-only bytes (zero-same k bytes here))
cut_by k bytes End here = inr (inl refl)
cut_by k bytes Nothing here = inr (inr refl)

-- bytes that were cut short begin with the same item, or with none that is known
pub cut-item : (k : ℕ) (bytes : List ℕ) → IsCutItem (item_front (take k bytes)) (item_front bytes)
cut-item k bytes = cut_by k bytes (item_front (take k bytes)) (stands (take k bytes))

-- ---- a file that was cut

module _ (file : List ℕ) {n : ℕ} (within : n ≤ length file) where
  abbrev pub cut : List ℕ
  cut = take n file

  -- the length of the first bytes is their count
  pub length-cut : length cut ≡ n
  length-cut = length-take-le n file within

  -- from an offset on, the first bytes are the first bytes of the file's bytes from there on
  pub drop-cut : {at : ℕ} → at ≤ n → drop at cut ≡ take (n - at) (drop at file)
  drop-cut {at} low =
      let split : n ≡ at + (n - at) = omega (arith, low) in
      ap (λ k. drop at (take k file)) split ∙ drop-take at (n - at) file

  -- at each offset there is the same item, or none that is known
  pub item-cut : {at : ℕ} {item : Item} → at ≤ n → item_at file at ≡ item
      → IsCutItem (item_at cut at) item
  unfolding item_at
  item-cut low is = grind (arith, is, drop-cut, low, cut-item)

  -- an item that is still whole is there
  pub item-kept : (part : Region) (at : ℕ) {item : Item} → whole_item_at part file at ≡ Some item
      → at + size_of item ≤ n → whole_item_at part cut at ≡ Some item
  item-kept part at {item} is low =
      let here = whole_item_at-is part file at item is in
      let size = size_of item in
      let own =
      kept_item file at item here.is (stream_belongs part item here.belongs) here.within in
      let rest = drop size (take (n - at) (drop at file)) in
      let split : drop at cut ≡ take size (drop at file) ++ rest =
      drop-cut (omega (arith, low)) ∙ sym (take-append-drop size (take (n - at) (drop at file)))
      ∙ ap (λ (xs : List ℕ). xs ++ rest)
      (take-take size (n - at) (drop at file) (omega (arith, low))) in
      whole_item_at-whole part cut at item
      (item_at-known cut at at (take size (drop at file) ++ rest)
      item refl split (own.known rest)) here.belongs (omega (arith, low, length-cut))

  -- this item was cut through, or ends where the file does
  pub record IsCutThrough (part : Region) (at : ℕ) (item : Item) : Type 0 where
    pub is : whole_item_at part file at ≡ Some item
    pub low : at ≤ n
    pub over : n < at + size_of item

  none-unless : {o : Option Item} → ((item : Item) → o ≡ Some item → ⊥) → o ≡ None
  none-unless not = grind arith

  not_whole : (part : Region) (at : ℕ) {item now : Item} → IsCutItem now item
      → n < at + size_of item → belongs part now ≡ true → at + size_of now ≤ n → ⊥
  not_whole part at h over is fit = grind arith

  -- an item that was cut through isn't whole
  pub cut-none : {part : Region} {at : ℕ} {item : Item} → IsCutThrough part at item
      → whole_item_at part cut at ≡ None
  cut-none through = grind (arith, none-unless, whole_item_at-is, not_whole, item-cut, length-cut)
