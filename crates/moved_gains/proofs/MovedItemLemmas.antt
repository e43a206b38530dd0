-- Items of a file that are in another one, each at an offset that depends only on its own.
use Rattle.std.proofs.Common.{ap, arith, drop, false, length, length-drop, List, map, pos, Some}
use Rattle.std.proofs.Common.{subst, sym, take, true, ℕ, [], ◌++◌, ◌+◌, ◌-◌, ◌<◌, ◌∷◌, ◌≡◌, ◌≤◌}
use Rattle.std.{proofs.lemmas.List.{length-take, take-append-drop}, specs.List.cons_option}
use Rattle.frame_header.specs.Tables.{class_of, overhead_of}
use Rattle.moved_gains.proofs.{EditedItemLemmas.frame_whole, ImageLemmas.AreImages}
use Rattle.requests.specs.declared.shift.Steps.{Steps}
use Rattle.side_info.{proofs.FrameLemmas.IsRight, specs.Frame.side_in}
use Rattle.sync_survey.proofs.ChainLemmas.{whole_item_at-is, whole_item_at-whole}
use Rattle.sync_survey.proofs.ItemBytesLemmas.{IsItem, kept_item}
use Rattle.sync_survey.proofs.ItemListLemmas.{ends-rise, placed_by}
use Rattle.sync_survey.proofs.ItemsLemmas.{header_front-in_range, stands-at}
use Rattle.sync_survey.specs.Chains.{AreEndToEnd, frame_of_item, frames_of, PlacedItem}
use Rattle.sync_survey.specs.{Chains.whole_item_at, Items.{item_at, size_of}}
use Rattle.sync_survey.specs.declared.{chains.Region.{Region, TheVariants.Stream}, items.Item.Item}
use Rattle.sync_survey.specs.declared.items.Item.TheVariants.{Frame, Free}
use Rattle.sync_survey.specs.declared.places.PlacedFrame.{PlacedFrame}

-- ---- one item

there : (own at : ℕ) {item : Item} (file : List ℕ) {bytes : List ℕ} → IsItem item bytes
    → take own (drop at file) ≡ bytes → item_at file at ≡ item
unfolding item_at
there own at file is same = grind (arith, take-append-drop own (drop at file), same)

-- a whole item is where its bytes are
pub item-moved : (file new : List ℕ) (at place : ℕ) {item : Item} → whole_item_at Stream file at
    ≡ Some item → take (size_of item) (drop place new) ≡ take (size_of item) (drop at file)
    → whole_item_at Stream new place ≡ Some item
item-moved file new at place {item} is same =
    let here = whole_item_at-is Stream file at item is in
    let size = size_of item in
    let own = take size (drop at file) in
    let kept : IsItem item own = kept_item file at item here.is here.belongs here.within in
    whole_item_at-whole Stream new place item (there size place new kept same) here.belongs
    (omega (
      arith,
      ap length same,
      kept.size,
      here.some,
      length-take size (drop place new),
      length-drop place new,
    ))

-- ---- several items

-- no gain moves
abbrev pub no_steps : ℕ → Steps
no_steps at = record { left = pos 0; right = pos 0; wrap = false }

-- the bytes of the file between two offsets are in the other file, at their new offsets
pub record IsMovedTo (to : ℕ → ℕ) (file new : List ℕ) (from end at : ℕ) : Type 0 where
  pub place : (x : ℕ) → from ≤ x → x < end → to x ≡ at + (x - from)
  pub same : (x k : ℕ) → from ≤ x → x < end → x + k ≤ end
      → take k (drop (to x) new) ≡ take k (drop x file)

module _ (to : ℕ → ℕ) (file new : List ℕ) where
  -- the bytes `size` bytes after the first offset are moved in the same way
  behind : {from end at : ℕ} (size : ℕ) → IsMovedTo to file new from end at
      → IsMovedTo to file new (from + size) end (at + size)
  behind size moved = record {
    place = λ x low high. omega (arith, moved.place x (omega (arith, low)) high, low);
    same = λ x k low high within. moved.same x k (omega (arith, low)) high within;
  }

  -- the frames stay as they are
  abbrev pub AreKept : List PlacedFrame → Type 0
  AreKept = AreImages to no_steps (λ at. true) file new

  kept_more : (at : ℕ) (item : Item) (frames : List PlacedFrame) → whole_item_at Stream file at
      ≡ Some item → take (size_of item) (drop (to at) new) ≡ take (size_of item) (drop at file)
      → AreKept frames → AreKept (cons_option (frame_of_item at item) frames)
  kept_more at (Frame h) frames is same kept =
      let here = whole_item_at-is Stream file at (Frame h) is in (
        record {
          header = header_front-in_range (drop at file) (stands-at file at (Frame h) here.is);
          whole = λ all. frame_whole file at all here.is here.within;
          bytes = same;
          side = ap (side_in h) same;
          right = λ was. subst (IsRight h) (sym same) was;
          area = ap (drop (overhead_of (class_of h) h.protected)) same;
        },
        kept,
      )
  kept_more at Free frames is same kept = kept
  kept_more at _ frames is same kept = kept

  -- items that are end to end are end to end there, and their frames are kept
  pub items-moved : (from : ℕ) (ps : List PlacedItem) {end at : ℕ}
      → AreEndToEnd Stream file from ps end → IsMovedTo to file new from end at
      → AreEndToEnd Stream new at (map (placed_by to) ps) (at + (end - from))
      × AreKept (frames_of ps)
  items-moved from [] ends moved = (omega (arith, ends), tt)
  items-moved from (p ∷ ps) {end} {at} ends moved =
      let size = size_of p.item in
      let some = (whole_item_at-is Stream file p.offset p.item ends.1).some in
      let rise = ends-rise Stream file (p.offset + size) ps ends.2 in
      let high : p.offset < end = omega (arith, some, rise) in
      let place : to p.offset ≡ at =
      omega (arith, moved.place p.offset (omega (arith, ends.0)) high, ends.0) in
      let same = moved.same p.offset size (omega (arith, ends.0)) high rise in
      let next : IsMovedTo to file new (p.offset + size) end (at + size) = grind (arith, behind) in
      let last : (at + size) + (end - (p.offset + size)) ≡ at + (end - from) =
      omega (arith, ends.0, rise) in
      let later = items-moved (p.offset + size) ps ends.2 next in (
        (
          place,
          item-moved file new p.offset (to p.offset) ends.1 same,
          subst (λ n. AreEndToEnd Stream new (to p.offset + size) (map (placed_by to) ps) n) last
              (subst (λ n. AreEndToEnd Stream new (n + size) (map (placed_by to) ps)
              ((at + size) + (end - (p.offset + size)))) (sym place) later.0),
        ),
        kept_more p.offset p.item (frames_of ps) ends.1 same later.1,
      )

-- ---- concatenated lists

-- items end to end, and more from their end on, are end to end together
pub ends-append : (part : Region) (file : List ℕ) (from : ℕ) (ps : List PlacedItem) (mid : ℕ)
    (qs : List PlacedItem) (end : ℕ) → AreEndToEnd part file from ps mid
    → AreEndToEnd part file mid qs end → AreEndToEnd part file from (ps ++ qs) end
ends-append part file from [] mid qs end ends more = grind arith
ends-append part file from (p ∷ ps) mid qs end ends more =
    (ends.0, ends.1, ends-append part file (p.offset + size_of p.item) ps mid qs end ends.2 more)
