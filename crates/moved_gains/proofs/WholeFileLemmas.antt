-- A file whose bytes are all blocks, zero bytes and frames:
-- its stream starts at the first frame, without junk.
use Rattle.std.proofs.Common.{ap, ap₂, arith, length, List, None, Ok, refl, Some, subst, ℕ, []}
use Rattle.std.proofs.{Common.{◌++◌, ◌+◌, ◌∙◌, ◌∷◌, ◌≡◌, ◌≤◌}, lemmas.Bool.{false≢true, le-leb}}
use Rattle.std.specs.List.{cons_option}
use Rattle.frame_header.specs.Fields.{HeaderFields}
use Rattle.moved_gains.proofs.SplitItemLemmas.{cons-append}
use Rattle.sync_survey.proofs.ChainLemmas.{item_chain-next, item_chain-only}
use Rattle.sync_survey.proofs.ChainLemmas.{item_chain-stopped_chain, whole_item_at-is}
use Rattle.sync_survey.proofs.ChainLemmas.{whole_item_at-past, whole_item_at-whole}
use Rattle.sync_survey.specs.Chains.{AreEndToEnd, block_of_item, blocks_of, frame_of_item}
use Rattle.sync_survey.specs.Chains.{frames_of, item_chain, item_if_whole, ItemChain, PlacedItem}
use Rattle.sync_survey.specs.{Chains.whole_item_at, Items.{item_at, size_of}}
use Rattle.sync_survey.specs.Start.{front_end_of, start_of}
use Rattle.sync_survey.specs.declared.{chains.Region.TheVariants.{Front, Stream}, items.Item.Item}
use Rattle.sync_survey.specs.declared.items.Item.TheVariants.{End, Frame, Free, Nothing}
use Rattle.sync_survey.specs.declared.places.{Piece.Piece, PlacedFrame.PlacedFrame, Start.Start}

-- no frame is an item of the front
pub not_in_front : (file : List ℕ) (at : ℕ) {h : HeaderFields} → item_at file at ≡ Frame h
    → whole_item_at Front file at ≡ None
unfolding whole_item_at
not_in_front file at is = ap (item_if_whole Front file at) is

-- from an offset on the file has this first frame,
-- these frames after it and these blocks, and no junk
pub record IsClean (file : List ℕ) (from : ℕ) (p : PlacedFrame) (rest : List PlacedFrame)
    (blocks : List Piece) : Type 0 where
  pub front : (item_chain Front file from).stop ≡ p.offset
  pub first : whole_item_at Stream file p.offset ≡ Some (Frame p.header)
  pub frames : frames_of (item_chain Stream file p.offset).items ≡ p ∷ rest
  pub stop : (item_chain Stream file p.offset).stop ≡ length file
  pub blocks_are : blocks_of (item_chain Front file from).items
      ++ blocks_of (item_chain Stream file p.offset).items ≡ blocks

frame_first : {file : List ℕ} {at : ℕ} {h : HeaderFields} (ps : List PlacedItem) {p : PlacedFrame}
    {rest : List PlacedFrame} → whole_item_at Stream file at ≡ Some (Frame h)
    → AreEndToEnd Stream file (at + size_of (Frame h)) ps (length file)
    → record { offset = at; header = h } ∷ frames_of ps ≡ p ∷ rest
    → IsClean file at p rest (blocks_of ps)
frame_first {file} {at} {h} ps {p} {rest} is ends e =
    let same : record { offset = at; header = h } ≡ p = cc in
    let stream : item_chain Stream file at
    ≡ record { items = record { offset = at; item = Frame h } ∷ ps; stop = length file } =
    item_chain-only Stream file at (record { offset = at; item = Frame h } ∷ ps)
    (refl, is, ends) (whole_item_at-past Stream file (length file) (omega arith)) in
    let front : item_chain Front file at ≡ record { items = []; stop = at } =
    grind (arith, item_chain-stopped_chain, not_in_front, whole_item_at-is) in
    subst (λ (q : PlacedFrame). IsClean file at q rest (blocks_of ps)) same (record {
      front = ap (λ (r : ItemChain). r.stop) front;
      first = is;
      frames = ap (λ (r : ItemChain). frames_of r.items) stream ∙ cc;
      stop = ap (λ (r : ItemChain). r.stop) stream;
      blocks_are = ap₂ (λ (a b : ItemChain). blocks_of a.items ++ blocks_of b.items) front stream;
    })

passed : {file : List ℕ} {at : ℕ} {item : Item} {p : PlacedFrame} {rest : List PlacedFrame}
    {blocks : List Piece} → whole_item_at Front file at ≡ Some item
    → IsClean file (at + size_of item) p rest blocks
    → IsClean file at p rest (cons_option (block_of_item at item) blocks)
passed {file} {at} {item} is clean =
    let front = item_chain-next Front file is in
    record {
      front = ap (λ (r : ItemChain). r.stop) front ∙ clean.front;
      first = clean.first;
      frames = clean.frames;
      stop = clean.stop;
      blocks_are = grind (arith, front, cons-append);
    }

one_item : {file : List ℕ} {at : ℕ} (item : Item) (ps : List PlacedItem) {p : PlacedFrame}
    {rest : List PlacedFrame} → whole_item_at Stream file at ≡ Some item
    → AreEndToEnd Stream file (at + size_of item) ps (length file)
    → (frames_of ps ≡ p ∷ rest → IsClean file (at + size_of item) p rest (blocks_of ps))
    → cons_option (frame_of_item at item) (frames_of ps) ≡ p ∷ rest
    → IsClean file at p rest (cons_option (block_of_item at item) (blocks_of ps))
one_item {file} {at} (Frame h) ps {p} {rest} is ends later e = frame_first ps is ends e
one_item Free ps is ends later e = grind (arith, false≢true, whole_item_at-is)
one_item End ps is ends later e = grind (arith, false≢true, whole_item_at-is)
one_item Nothing ps is ends later e = grind (arith, false≢true, whole_item_at-is)
one_item {file} {at} item ps {p} {rest} is ends later e =
    let here = whole_item_at-is Stream file at item is in
    passed
    (whole_item_at-whole Front file at item here.is refl here.within) (later e)

-- the front ends at the first frame, and the stream from there has the others
pub clean : (file : List ℕ) (from : ℕ) (ps : List PlacedItem) (p : PlacedFrame)
    (rest : List PlacedFrame) → AreEndToEnd Stream file from ps (length file)
    → frames_of ps ≡ p ∷ rest → IsClean file from p rest (blocks_of ps)
clean file from [] p rest ends e = absurd cc
clean file from (q ∷ ps) p rest ends e =
    subst (λ n. IsClean file n p rest (blocks_of (q ∷ ps))) ends.0
    (one_item q.item ps
    ends.1 ends.2 (clean file (q.offset + size_of q.item) ps p rest ends.2) e)

-- ---- the start

-- the front ends where its chain stops
pub front_end-is : (file : List ℕ) → front_end_of file ≡ (item_chain Front file 0).stop
unfolding front_end_of
front_end-is file = refl

-- a whole frame where the front ends is the start
pub start_by : (file : List ℕ) {at : ℕ} {h : HeaderFields} → front_end_of file ≡ at
    → item_at file at ≡ Frame h → at + size_of (Frame h) ≤ length file
    → start_of file ≡ Ok (record { front_end = at; first = record { offset = at; header = h } })
unfolding start_of
start_by file front is within = grind (arith, le-leb, front)

-- the start of a stream that begins with this frame, without junk
abbrev pub start_with : PlacedFrame → Start
start_with p = record { front_end = p.offset; first = p }

-- the stream of a clean file starts with its first frame
pub clean-start : {file : List ℕ} {p : PlacedFrame} {rest : List PlacedFrame} {blocks : List Piece}
    → IsClean file 0 p rest blocks → start_of file ≡ Ok (start_with p)
clean-start is = grind (arith, whole_item_at-is, start_by, front_end-is)
