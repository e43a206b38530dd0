-- Bytes that are items joined in order: where they are in a file, the items follow end to end.
use Rattle.std.proofs.Common.{ap, append_assoc, arith, drop, filter_map, length, length-append}
use Rattle.std.proofs.Common.{length-drop, List, map, None, Option, option_map, refl, sym, true, ℕ}
use Rattle.std.proofs.Common.{[], ◌++◌, ◌+◌, ◌-◌, ◌<◌, ◌∙◌, ◌∷◌, ◌≡◌, ◌≤◌}
use Rattle.std.{proofs.lemmas.List.{drop-drop, drop_at}, specs.List.cons_option}
use Rattle.sync_survey.proofs.ChainLemmas.{item_chain-only, whole_item_at-is, whole_item_at-whole}
use Rattle.sync_survey.proofs.ItemBytesLemmas.{IsItem, kept_item}
use Rattle.sync_survey.specs.Chains.{AreEndToEnd, belongs, block_of_item, blocks_of, bytes_of_items}
use Rattle.sync_survey.specs.Chains.{frame_of_item, frames_of, item_bytes_in, item_chain}
use Rattle.sync_survey.specs.Chains.{PlacedItem, whole_item_at}
use Rattle.sync_survey.specs.{Items.{item_at, item_front, size_of}, declared.chains.Region.Region}
use Rattle.sync_survey.specs.declared.{chains.Region.TheVariants.Stream, items.Item.Item}
use Rattle.sync_survey.specs.declared.places.{Piece.Piece, PlacedFrame.PlacedFrame}

-- ---- items before the first frame

-- what may be before the first frame may be after it
pub stream_belongs : (part : Region) (item : Item) → belongs part item ≡ true
    → belongs Stream item ≡ true
stream_belongs part item is = grind arith

module _ (part : Region) (file : List ℕ) where
  -- items end to end in the front are end to end in the stream too
  pub ends-stream : (from : ℕ) (ps : List PlacedItem) (to : ℕ)
      → AreEndToEnd part file from ps to → AreEndToEnd Stream file from ps to
  ends-stream from [] to ends = ends
  ends-stream from (p ∷ ps) to ends =
      grind (
        arith,
        whole_item_at-is,
        whole_item_at-whole,
        stream_belongs,
        ends-stream (p.offset + size_of p.item) ps to ends.2,
      )

  -- ---- from where to where

  -- items end to end end no earlier than they begin
  pub ends-rise : (from : ℕ) (ps : List PlacedItem) {to : ℕ}
      → AreEndToEnd part file from ps to → from ≤ to
  ends-rise from [] ends = omega (arith, ends)
  ends-rise from (p ∷ ps) {to} ends =
      omega (arith, ends.0, ends-rise (p.offset + size_of p.item) ps ends.2)

  -- items end to end end within the file, if they begin there
  pub ends-within : (from : ℕ) (ps : List PlacedItem) {to : ℕ}
      → AreEndToEnd part file from ps to → from ≤ length file → to ≤ length file
  ends-within from [] ends within = omega (arith, ends, within)
  ends-within from (p ∷ ps) {to} ends within = ends-within
      (p.offset + size_of p.item) ps
      ends.2 (whole_item_at-is part file p.offset p.item ends.1).within

-- ---- bytes that are items

-- these bytes are these items of the part, joined in order
abbrev pub AreItems : Region → List Item → List ℕ → Type 0
AreItems part [] bytes = bytes ≡ []
AreItems part (item ∷ items) bytes = (own : List ℕ) × (rest : List ℕ) × (bytes ≡ own ++ rest)
    × IsItem item own × (belongs part item ≡ true) × AreItems part items rest

-- items joined with items are items
pub items-append : (part : Region) (xs ys : List Item) (front back : List ℕ)
    → AreItems part xs front → AreItems part ys back → AreItems part (xs ++ ys) (front ++ back)
items-append part [] ys front back are behind = grind arith
items-append part (x ∷ xs) ys front back are behind =
    grind (arith, append_assoc, items-append part xs ys are.1 back are.5 behind)

-- items without their offsets
abbrev pub items_of : List PlacedItem → List Item
items_of ps = map (λ p. p.item) ps

module _ (part : Region) (file : List ℕ) where
  -- bytes that are items are as many as the items have
  pub items-length : (from : ℕ) (ps : List PlacedItem) {to : ℕ} (bytes : List ℕ)
      → AreEndToEnd part file from ps to → AreItems part (items_of ps) bytes
      → from + length bytes ≡ to
  items-length from [] bytes ends are = omega (arith, ends, ap length are)
  items-length from (p ∷ ps) {to} bytes ends are =
      grind (
        arith,
        length-append,
        items-length (p.offset + size_of p.item) ps are.1 ends.2 are.5,
      )

  -- the bytes of items of a file are these items
  pub kept_items : (from : ℕ) (ps : List PlacedItem) (to : ℕ) → AreEndToEnd part file from ps to
      → AreItems part (items_of ps) (bytes_of_items file ps)
  kept_items from [] to ends = refl
  kept_items from (p ∷ ps) to ends =
      let here = whole_item_at-is part file p.offset p.item ends.1 in (
        item_bytes_in file p,
        bytes_of_items file ps,
        refl,
        kept_item file p.offset p.item here.is (stream_belongs part p.item here.belongs)
            here.within,
        here.belongs,
        kept_items (p.offset + size_of p.item) ps to ends.2,
      )

-- ---- where they are

-- the items placed end to end, the first of them at an offset
abbrev pub placed : ℕ → List Item → List PlacedItem
placed at [] = []
placed at (item ∷ items) = record { offset = at; item = item } ∷ placed (at + size_of item) items

-- an item whose offset is mapped
abbrev pub placed_by : (ℕ → ℕ) → PlacedItem → PlacedItem
placed_by to p = record p { offset = to p.offset }

abbrev pub frame_by : (ℕ → ℕ) → PlacedFrame → PlacedFrame
frame_by to p = record p { offset = to p.offset }

abbrev pub piece_by : (ℕ → ℕ) → Piece → Piece
piece_by to p = record p { offset = to p.offset }

-- the item, `gap` bytes nearer to the beginning of the file
abbrev pub nearer : ℕ → PlacedItem → PlacedItem
nearer gap p = placed_by (λ at. at - gap) p

-- items that aren't nearer at all are where they were
pub nearer-none : (ps : List PlacedItem) → map (nearer 0) ps ≡ ps
nearer-none [] = refl
nearer-none (p ∷ ps) =
    let same : p.offset - 0 ≡ p.offset = omega arith in
    λ i. record p { offset = same i } ∷ nearer-none ps i

-- items end to end, placed `gap` bytes nearer to the beginning, are nearer by as much
pub placed-nearer : (part : Region) (file : List ℕ) (gap from at : ℕ) (ps : List PlacedItem)
    (to : ℕ) → AreEndToEnd part file from ps to → from ≡ at + gap
    → placed at (items_of ps) ≡ map (nearer gap) ps
placed-nearer part file gap from at [] to ends there = refl
placed-nearer part file gap from at (p ∷ ps) to ends there =
    let place : at ≡ p.offset - gap = omega (arith, ends.0, there) in
    λ i. record p { offset = place i } ∷ placed-nearer part file gap (p.offset + size_of p.item)
    (at + size_of p.item) ps to ends.2 (omega (arith, ends.0, there)) i

-- the item at an offset is the one with which the bytes from there on begin
pub item_at-known : (file : List ℕ) (place at : ℕ) (bytes : List ℕ) (item : Item) → place ≡ at
    → drop at file ≡ bytes → item_front bytes ≡ item → item_at file place ≡ item
unfolding item_at
item_at-known file place at bytes item same is known = grind arith

module _ (part : Region) (file : List ℕ) where
  -- bytes that are items are items end to end wherever they are
  pub items-end : (at : ℕ) (items : List Item) (bytes behind : List ℕ)
      → AreItems part items bytes → at ≤ length file → drop at file ≡ bytes ++ behind
      → AreEndToEnd part file at (placed at items) (at + length bytes)
  items-end at [] bytes behind are within is = omega (arith, ap length are)
  items-end at (item ∷ items) bytes behind are within is =
      let size = size_of item in
      let rest = are.1 ++ behind in
      let stands : drop at file ≡ are.0 ++ rest = grind (arith, append_assoc) in
      let known =
      item_at-known file at at (are.0 ++ rest) item refl stands (are.3.known rest) in
      let room : at + size ≤ length file = omega (
        arith,
        within,
        ap length stands,
        length-drop at file,
        length-append are.0 rest,
        are.3.size,
      ) in
      let next : drop (at + size) file ≡ rest = sym (drop-drop size at file) ∙ ap (drop size) stands
      ∙ drop_at are.0 rest size are.3.size in
      grind (
        arith,
        length-append,
        whole_item_at-whole part file at item known are.4 room,
        items-end (at + size) items are.1 behind are.5 room next,
      )

  -- they are the chain there, if no further item of the part begins after them
  pub items-item_chain : {at : ℕ} (items : List Item) (bytes behind : List ℕ)
      → AreItems part items bytes → at ≤ length file → drop at file ≡ bytes ++ behind
      → whole_item_at part file (at + length bytes) ≡ None
      → item_chain part file at ≡ record { items = placed at items; stop = at + length bytes }
  items-item_chain items bytes behind are within is none =
      search (arith, item_chain-only, items-end)

-- ---- frames and blocks among them

-- what is taken of the items is moved with them
module _ {A : Type 0} (part_of : ℕ → Item → Option A) (by : A → A) {to : ℕ → ℕ}
    (moved : (at : ℕ) (item : Item) → part_of (to at) item ≡ option_map by (part_of at item)) where
  taken_more : (o : Option A) (xs : List A)
      → cons_option (option_map by o) (map by xs) ≡ map by (cons_option o xs)
  taken_more o xs = grind arith

  taken : (ps : List PlacedItem) → filter_map (λ p. part_of p.offset p.item) (map (placed_by to) ps)
      ≡ map by (filter_map (λ p. part_of p.offset p.item) ps)
  taken [] = refl
  taken (p ∷ ps) = grind (arith, taken_more, filter_map, taken ps)

moved_frame : (to : ℕ → ℕ) (at : ℕ) (item : Item)
    → frame_of_item (to at) item ≡ option_map (frame_by to) (frame_of_item at item)
moved_frame to at item = grind arith

moved_block : (to : ℕ → ℕ) (at : ℕ) (item : Item)
    → block_of_item (to at) item ≡ option_map (piece_by to) (block_of_item at item)
moved_block to at item = grind arith

-- the frames of items that are moved are these frames moved
pub frames-by : (to : ℕ → ℕ) (ps : List PlacedItem)
    → frames_of (map (placed_by to) ps) ≡ map (frame_by to) (frames_of ps)
frames-by to ps = taken frame_of_item (frame_by to) (moved_frame to) ps

-- the blocks of items that are moved are these blocks moved
pub blocks-by : (to : ℕ → ℕ) (ps : List PlacedItem)
    → blocks_of (map (placed_by to) ps) ≡ map (piece_by to) (blocks_of ps)
blocks-by to ps = taken block_of_item (piece_by to) (moved_block to) ps

abbrev pub nearer_frame : ℕ → PlacedFrame → PlacedFrame
nearer_frame gap p = frame_by (λ at. at - gap) p

abbrev pub nearer_piece : ℕ → Piece → Piece
nearer_piece gap p = piece_by (λ at. at - gap) p

-- the frames of items that are nearer to the beginning are nearer by as much
pub frames-nearer : (gap : ℕ) (ps : List PlacedItem)
    → frames_of (map (nearer gap) ps) ≡ map (nearer_frame gap) (frames_of ps)
frames-nearer gap ps = frames-by (λ at. at - gap) ps

-- the blocks of items that are nearer to the beginning are nearer by as much
pub blocks-nearer : (gap : ℕ) (ps : List PlacedItem)
    → blocks_of (map (nearer gap) ps) ≡ map (nearer_piece gap) (blocks_of ps)
blocks-nearer gap ps = blocks-by (λ at. at - gap) ps

one_mapped : {f g : Piece → Piece} {at : ℕ} (item : Item) (ys : List Piece)
    → ((p : Piece) → p.offset ≡ at → f p ≡ g p) → map f ys ≡ map g ys
    → map f (cons_option (block_of_item at item) ys)
    ≡ map g (cons_option (block_of_item at item) ys)
one_mapped item ys same rest = grind arith

-- two changes that agree for blocks between two offsets agree for the blocks that are there
pub blocks-between : (part : Region) {f g : Piece → Piece} (file : List ℕ) {low high : ℕ} (from : ℕ)
    (ps : List PlacedItem) {to : ℕ} → ((p : Piece) → low ≤ p.offset → p.offset < high → f p ≡ g p)
    → AreEndToEnd part file from ps to → low ≤ from → to ≤ high
    → map f (blocks_of ps) ≡ map g (blocks_of ps)
blocks-between part file from [] same ends begin end = refl
blocks-between part {f} {g} file {low} {high} from (p ∷ ps)
    {to} same ends begin end =
    let size = size_of p.item in
    let some = (whole_item_at-is part file p.offset p.item ends.1).some in
    let rise : p.offset + size ≤ to = ends-rise part file (p.offset + size) ps ends.2 in
    one_mapped p.item (blocks_of ps)
    (λ q here. same q (omega (arith, here, ends.0, begin)) (omega (arith, here, some, rise, end)))
    (blocks-between part file
    (p.offset + size) ps same ends.2 (omega (arith, ends.0, begin)) end)

frame_count : (at : ℕ) (item : Item) (xs : List PlacedFrame)
    → length (cons_option (frame_of_item at item) xs) ≤ 1 + length xs
frame_count at item xs = grind arith

-- there are no more frames than bytes
pub frames-few : (part : Region) (file : List ℕ) (from : ℕ) (ps : List PlacedItem) {to : ℕ}
    → AreEndToEnd part file from ps to → from + length (frames_of ps) ≤ to
frames-few part file from [] ends = omega (arith, ends)
frames-few part file from (p ∷ ps) {to} ends =
    grind (
      arith,
      whole_item_at-is,
      frame_count,
      frames-few part file (p.offset + size_of p.item) ps ends.2,
    )
