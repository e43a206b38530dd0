-- What a look at a file shows of it.
use Rattle.std.proofs.Common.{ap, arith, Bool, cond, drop, false, leb, length, length-drop, List}
use Rattle.std.proofs.Common.{None, refl, Some, subst, sym, take, true, ℕ, [], ◌++◌, ◌+◌, ◌-◌, ◌<◌}
use Rattle.std.proofs.{Common.{◌==◌, ◌∙◌, ◌∷◌, ◌≡◌, ◌≤◌}, lemmas.Bool.{eqb-true, false≢true}}
use Rattle.std.proofs.lemmas.List.{drop-drop, drop-take, take-append-drop, take-take}
use Rattle.std.{proofs.lemmas.List.Sums.prefix_len-le-length, specs.List.prefix_len}
use Rattle.sync_survey.proofs.ChainLemmas.{blocks-next, frames-next, item_chain-next}
use Rattle.sync_survey.proofs.{ChainLemmas.whole_item_at-whole, ItemBytesLemmas.header_front-four}
use Rattle.sync_survey.proofs.{ItemsLemmas.{some_by, stands}, OneItemLemmas.stands-only_at}
use Rattle.sync_survey.specs.Chains.{belongs, blocks_of, frames_of, item_chain, whole_item_at}
use Rattle.sync_survey.specs.Items.{byte_item, IsItemFront, item_at, item_fits, item_front, size_of}
use Rattle.sync_survey.specs.{Looks.{look_size, Passes, Shows}, declared.chains.Region.Region}
use Rattle.sync_survey.specs.declared.items.Item.{Item, TheVariants.{Block, Frame, Zero}}
use Rattle.tag_blocks.proofs.BlocksLemmas.{block_front-take}

-- ---- 32 bytes and the length decide what is at an offset

byte_item-take : {n : ℕ} (bytes : List ℕ) → 1 ≤ n → byte_item (take n bytes) ≡ byte_item bytes
byte_item-take bytes some = grind arith

-- the first 32 bytes decide which item bytes begin with
pub item_front-take : {n : ℕ} (bytes : List ℕ) → 32 ≤ n
    → item_front (take n bytes) ≡ item_front bytes
unfolding item_front
item_front-take {n} bytes many =
    grind (
      arith,
      header_front-four (take n bytes) bytes (take-take 4 n bytes (omega (
        arith,
        many,
      ))),
      take-take 4 n bytes (omega (arith, many)),
      block_front-take {n = n} bytes many,
      byte_item-take {n = n} bytes (omega (arith, many)),
    )

-- ---- zero bytes

-- a zero byte is an item, in the front as in the stream
pub zero_at : (part : Region) (file bytes : List ℕ) (at : ℕ) → drop at file ≡ 0 ∷ bytes
    → whole_item_at part file at ≡ Some Zero
zero_at part file bytes at is =
    whole_item_at-whole part file at Zero (sym (stands-only_at file at Zero (ap (take 1) is))) refl
    (omega (arith, ap length is, length-drop at file))

abbrev pub zero_test : ℕ → Bool
zero_test b = b == 0

-- what one zero byte doesn't change, all zero bytes with which these bytes begin don't change
module _ {X : Type 0} {file : List ℕ} {f : ℕ → X}
    (one : (bytes : List ℕ) (at : ℕ) → drop at file ≡ 0 ∷ bytes → f at ≡ f (at + 1)) where
  zeros_more : {rest : List ℕ} {at : ℕ} (n : ℕ) {b : ℕ} → drop at file ≡ b ∷ rest
      → (drop (at + 1) file ≡ rest → f (at + 1) ≡ f (at + 1 + n)) → (zero : Bool)
      → zero_test b ≡ zero → f at ≡ f (at + cond zero (1 + n) 0)
  zeros_more {at = at} n is later false e = let end : at ≡ at + 0 = omega arith in ap f end
  zeros_more {at = at} n {b} is later true e = grind (arith, eqb-true b 0 e, drop-drop 1 at file)

  zeros_same : (front rest : List ℕ) (at : ℕ) → drop at file ≡ front ++ rest
      → f at ≡ f (at + prefix_len zero_test front)
  zeros_same [] rest at is = let end : at ≡ at + 0 = omega arith in ap f end
  zeros_same (b ∷ bs) rest at is = grind (arith, zeros_more, zeros_same bs rest (at + 1))

-- ---- how many bytes are passed

-- `size` bytes are passed with an item where `left` are left
pub record IsSized (item : Item) (left size : ℕ) : Type 0 where
  pub least : size_of item ≤ size
  pub some : 0 < size
  pub within : size ≤ left

zero_counted : (front : List ℕ) → take 1 front ≡ 0 ∷ [] → 1 ≤ prefix_len zero_test front
zero_counted front first = grind arith

abbrev Counts : Item → List ℕ → ℕ → Type 0
Counts item front size =
    (item ≡ Zero → size ≡ prefix_len zero_test front) × ((item ≡ Zero → ⊥) → size ≡ size_of item)

own_size : {item : Item} {left size : ℕ} → 0 < size_of item → size_of item ≤ left
    → size ≡ size_of item → IsSized item left size
own_size some within is = grind arith

module _ (part : Region) (front : List ℕ) (left size : ℕ) where
  sized_by : (item : Item) → IsItemFront front item → belongs part item ≡ true → size_of item ≤ left
      → length front ≤ left → Counts item front size → IsSized item left size
  sized_by (Frame h) here is within all counts =
      grind (arith, own_size, some_by front part (Frame h) here is, within)
  sized_by (Block b) here is within all counts =
      grind (arith, own_size, some_by front part (Block b) here is, within)
  sized_by Zero here is within all counts = grind (arith, zero_counted, prefix_len-le-length)
  sized_by _ here is within all counts = absurd (false≢true is)

  -- the item with which what is left begins is passed
  -- with its own bytes, and zero bytes all at once
  pub sized : {item : Item} → item ≡ item_front front → belongs part item ≡ true → size_of item
      ≤ left → length front ≤ left → (item ≡ Zero → size ≡ prefix_len zero_test front)
      → ((item ≡ Zero → ⊥) → size ≡ size_of item) → IsSized item left size
  sized is here within all zeros other = grind (arith, sized_by, stands, within)

module _ {file : List ℕ} {at : ℕ} {front : List ℕ} {left : ℕ}
    (shows : Shows file at front left) where
  -- the item with which the look begins is the file's item there
  pub item_at-shown : item_front front ≡ item_at file at
  unfolding item_at
  item_at-shown = grind (arith, item_front-take {n = look_size} (drop at file) (omega arith))

  -- the item `size` bytes later, where 32 bytes are shown from there on, is the file's item there
  pub item_at-behind : {size : ℕ} → size ≤ 4064
      → item_front (drop size front) ≡ item_at file (at + size)
  unfolding item_at
  item_at-behind {size} few =
      let split : look_size ≡ size + (look_size - size) = omega (arith, few) in
      ap (λ l. item_front (drop size l)) shows.front_is
      ∙ ap (λ n. item_front (drop size (take n (drop at file)))) split
      ∙ ap item_front (drop-take size (look_size - size) (drop at file))
      ∙ item_front-take (drop size (drop at file)) (omega (arith, few))
      ∙ ap item_front (drop-drop size at file)

  -- whether an item fits in what is left is whether it fits in the file
  pub item_fits-left : (item : Item) → leb (size_of item) left ≡ item_fits file at item
  item_fits-left item = ap (leb (size_of item)) shows.left_is

  -- ---- a step

  none_by : (part : Region) {item : Item} → item_at file at ≡ item → {b : Bool}
      → belongs part item ≡ b → (b ≡ true → left < size_of item) → whole_item_at part file at ≡ None
  unfolding whole_item_at
  none_by part is here past = grind arith

  -- an item of the part that is longer than what is left isn't whole there
  pub not_here : (part : Region) {item : Item} → item ≡ item_front front
      → (belongs part item ≡ true → left < size_of item) → whole_item_at part file at ≡ None
  not_here part is past = grind (arith, none_by, item_at-shown)

  whole_here : (part : Region) {item : Item} → item ≡ item_front front → belongs part item ≡ true
      → 0 < size_of item → size_of item ≤ left → whole_item_at part file at ≡ Some item
  whole_here part is here some within = grind (arith, whole_item_at-whole, item_at-shown)

  -- what one zero byte doesn't change, all zero bytes that are shown don't change
  pub zeros_shown : {X : Type 0} (f : ℕ → X) (size : ℕ) → size ≡ prefix_len zero_test front
      → ((bytes : List ℕ) (place : ℕ) → drop place file ≡ 0 ∷ bytes → f place ≡ f (place + 1))
      → f at ≡ f (at + size)
  zeros_shown f size many one =
      let rest : List ℕ = drop look_size (drop at file) in
      let split : drop at file ≡ front ++ rest =
      sym (take-append-drop look_size (drop at file)) ∙ ap (λ l. l ++ rest) (sym shows.front_is) in
      zeros_same one front rest at split ∙ ap (λ n. f (at + n)) (sym many)

  -- all zero bytes that are shown are passed at once
  pub passes_zeros : (part : Region) {size : ℕ} → size ≡ prefix_len zero_test front
      → Passes part file at Zero size
  passes_zeros part {size} many = record {
    frames = zeros_shown (λ n. frames_of (item_chain part file n).items) size many
        (λ bytes place zero. frames-next part file place (zero_at part file bytes place zero));
    blocks = zeros_shown (λ n. blocks_of (item_chain part file n).items) size many
        (λ bytes place zero. blocks-next part file place (zero_at part file bytes place zero));
    stop = zeros_shown (λ n. (item_chain part file n).stop) size many
        (λ bytes place zero. ap (λ r. r.stop)
        (item_chain-next part file (zero_at part file bytes place zero)));
  }

  -- passing all of an item's bytes is passing it
  pub passes_whole : {part : Region} {item : Item} {size : ℕ}
      → whole_item_at part file at ≡ Some item → size ≡ size_of item → Passes part file at item size
  passes_whole here is = grind (arith, frames-next, blocks-next, item_chain-next)

  step_by : {part : Region} (item : Item) {size : ℕ} → whole_item_at part file at ≡ Some item
      → Counts item front size → Passes part file at item size
  step_by {part} Zero {size} here counts = passes_zeros part (counts.0 refl)
  step_by {part} item {size} here counts = passes_whole here (counts.1 (λ e. cc))

  -- an item of the part that fits is passed, and zero bytes all at once
  pub step_passes : (part : Region) (size : ℕ) (item : Item) → item ≡ item_front front
      → belongs part item ≡ true → size_of item ≤ left
      → (item ≡ Zero → size ≡ prefix_len zero_test front)
      → ((item ≡ Zero → ⊥) → size ≡ size_of item) → Passes part file at item size
  step_passes part size item is here within zeros other =
      step_by item (whole_here part is here (some_by front part item
      (subst (IsItemFront front) (sym is) (stands front)) here) within) (zeros, other)
