-- The items of a file, split at its tag, or after the last frame if it has none.
use Rattle.std.proofs.Common.{arith, false, List, map, None, Option, refl, Some, subst, ℕ, [], ◌++◌}
use Rattle.std.{proofs.Common.{◌+◌, ◌∷◌, ◌≡◌}, specs.List.{cons_option, enumerate_from, find}}
use Rattle.frame_header.specs.Tables.{class_of, length_of}
use Rattle.moved_gains.proofs.FoundTagLemmas.{found_case, last_more}
use Rattle.moved_gains.specs.TagExtent.{is_tag, last_end}
use Rattle.sync_survey.specs.Chains.{AreEndToEnd, block_of_item, blocks_of, frame_of_item}
use Rattle.sync_survey.specs.{Chains.{frames_of, PlacedItem, whole_item_at}, Items.size_of}
use Rattle.sync_survey.specs.{MainData.{marked_row, marked_rows, rows_of}, Row.Row}
use Rattle.sync_survey.specs.{Walk.numbered_frames, declared.chains.Region.TheVariants.Stream}
use Rattle.sync_survey.specs.declared.{items.Item.Item, places.{Head.Head, Piece.Piece}}
use Rattle.sync_survey.specs.declared.places.PlacedFrame.{PlacedFrame}

-- prepending an item that may be there commutes with appending
pub cons-append : {X : Type 0} (o : Option X) (xs ys : List X)
    → cons_option o xs ++ ys ≡ cons_option o (xs ++ ys)
cons-append o xs ys = grind arith

-- The items of a file are those up to an offset, these blocks,
-- and those from a later offset on; no tag is before them.
pub record IsSplit (file : List ℕ) (ps : List PlacedItem) (from cut next to : ℕ)
    (old : List Piece) : Type 0 where
  pub front : List PlacedItem
  pub rest : List PlacedItem
  pub before : AreEndToEnd Stream file from front cut
  pub behind : AreEndToEnd Stream file next rest to
  pub frames : frames_of ps ≡ frames_of front ++ frames_of rest
  pub blocks : blocks_of ps ≡ blocks_of front ++ (old ++ blocks_of rest)
  pub none : find is_tag (blocks_of front) ≡ None

-- with nothing before the offset
split_here : {file : List ℕ} {ps : List PlacedItem} (rest : List PlacedItem) (cut : ℕ) {next to : ℕ}
    {old : List Piece} → AreEndToEnd Stream file next rest to → frames_of ps ≡ frames_of rest
    → blocks_of ps ≡ old ++ blocks_of rest → IsSplit file ps cut cut next to old
split_here rest cut ends frames blocks = record {
  front = [];
  rest = rest;
  before = refl;
  behind = ends;
  frames = frames;
  blocks = blocks;
  none = refl;
}

none_more : {o : Option Piece} (xs : List Piece) → ((x : Piece) → o ≡ Some x → is_tag x ≡ false)
    → find is_tag xs ≡ None → find is_tag (cons_option o xs) ≡ None
none_more xs other none = grind arith

-- one more item before them, which is no tag
push : {file : List ℕ} {at : ℕ} {item : Item} {ps : List PlacedItem} {cut next to : ℕ}
    {old : List Piece} → whole_item_at Stream file at ≡ Some item
    → ((x : Piece) → block_of_item at item ≡ Some x → is_tag x ≡ false)
    → IsSplit file ps (at + size_of item) cut next to old
    → IsSplit file (record { offset = at; item = item } ∷ ps) at cut next to old
push {at = at} {item = item} is other split = record {
  front = record { offset = at; item = item } ∷ split.front;
  rest = split.rest;
  before = (refl, is, split.before);
  behind = split.behind;
  frames = grind (arith, cons-append);
  blocks = grind (arith, cons-append);
  none = none_more (blocks_of split.front) other split.none;
}

-- ---- at the tag

abbrev IsSplitAt : List ℕ → ℕ → List PlacedItem → ℕ → Piece → Type 0
IsSplitAt file from ps to b = IsSplit file ps from b.offset (b.offset + b.block.length) to (b ∷ [])

tag_more : {file : List ℕ} {at : ℕ} {item : Item} {ps : List PlacedItem} {to : ℕ} {b : Piece}
    → whole_item_at Stream file at ≡ Some item → AreEndToEnd Stream file (at + size_of item) ps to
    → (find is_tag (blocks_of ps) ≡ Some b → IsSplitAt file (at + size_of item) ps to b)
    → find is_tag (cons_option (block_of_item at item) (blocks_of ps)) ≡ Some b
    → IsSplitAt file at (record { offset = at; item = item } ∷ ps) to b
tag_more is ends later e = grind (arith, found_case, split_here, push)

-- the items are those before the tag, the tag, and those after it
pub split-tag : {file : List ℕ} (from : ℕ) (ps : List PlacedItem) {to : ℕ} {b : Piece}
    → AreEndToEnd Stream file from ps to → find is_tag (blocks_of ps) ≡ Some b
    → IsSplitAt file from ps to b
split-tag from [] ends e = absurd cc
split-tag {file} from (q ∷ ps) {to} {b} ends e =
    subst (λ n. IsSplitAt file n (q ∷ ps) to b) ends.0
    (tag_more
    ends.1 ends.2 (split-tag (q.offset + size_of q.item) ps ends.2) e)

-- ---- after the last frame

-- the last of a frame and those after it
abbrev pub final : PlacedFrame → List PlacedFrame → PlacedFrame
final p [] = p
final p (q ∷ qs) = final q qs

abbrev pub stop_of : PlacedFrame → ℕ
stop_of p = p.offset + length_of (class_of p.header) p.header.slot

abbrev IsSplitBehind : List ℕ → ℕ → List PlacedItem → ℕ → ℕ → Type 0
IsSplitBehind file from ps to cut = IsSplit file ps from cut cut to []

none_first : (x : Piece) (xs : List Piece) → find is_tag (x ∷ xs) ≡ None
    → (is_tag x ≡ false) × (find is_tag xs ≡ None)
none_first x xs e = grind arith

module _ (file : List ℕ) (to : ℕ) where
  last_frame : {at : ℕ} {item : Item} {ps : List PlacedItem} {p : PlacedFrame}
      {rest : List PlacedFrame} (fs : List PlacedFrame) → whole_item_at Stream file at ≡ Some item
      → AreEndToEnd Stream file (at + size_of item) ps to
      → ((x : Piece) → block_of_item at item ≡ Some x → is_tag x ≡ false)
      → size_of item ≡ length_of (class_of p.header) p.header.slot → at ≡ p.offset
      → find is_tag (blocks_of ps) ≡ None → block_of_item at item ≡ None → frame_of_item at item
      ≡ Some p → frames_of ps ≡ fs → fs ≡ rest → ((q : PlacedFrame) (qs : List PlacedFrame)
      → frames_of ps ≡ q ∷ qs → IsSplitBehind file (at + size_of item) ps to (stop_of (final q qs)))
      → IsSplitBehind file at (record { offset = at; item = item } ∷ ps) to (stop_of (final p rest))
  last_frame [] is ends other size place none block frame are same later =
      grind (arith, push, split_here)
  last_frame (q ∷ qs) is ends other size place none block frame are same later = grind (arith, push)

  last_item : {at : ℕ} {item : Item} {ps : List PlacedItem} {p : PlacedFrame}
      {rest : List PlacedFrame} → whole_item_at Stream file at ≡ Some item
      → AreEndToEnd Stream file (at + size_of item) ps to
      → ((q : PlacedFrame) (qs : List PlacedFrame) → frames_of ps ≡ q ∷ qs → find is_tag
      (blocks_of ps) ≡ None → IsSplitBehind file (at + size_of item) ps to (stop_of (final q qs)))
      → cons_option (frame_of_item at item) (frames_of ps) ≡ p ∷ rest
      → find is_tag (cons_option (block_of_item at item) (blocks_of ps)) ≡ None
      → IsSplitBehind file at (record { offset = at; item = item } ∷ ps) to (stop_of (final p rest))
  last_item is ends later e none = grind (arith, last_frame, none_first, push)

  -- without a tag the items are those up to the last frame and those after it
  pub split-last : (from : ℕ) (ps : List PlacedItem) {p : PlacedFrame} {rest : List PlacedFrame}
      → AreEndToEnd Stream file from ps to → frames_of ps ≡ p ∷ rest
      → find is_tag (blocks_of ps) ≡ None → IsSplitBehind file from ps to (stop_of (final p rest))
  split-last from [] ends e none = absurd cc
  split-last from (x ∷ ps) {p} {rest} ends e none =
      subst (λ n. IsSplitBehind file n (x ∷ ps) to (stop_of (final p rest))) ends.0
      (last_item ends.1 ends.2 (λ q qs are nothing.
      split-last (x.offset + size_of x.item) ps ends.2 are nothing) e none)

-- ---- the last frame that a survey lists

last_placed : (file : List ℕ) (p : PlacedFrame) (rest : List PlacedFrame)
    → last_end (rows_of file (p ∷ rest)) ≡ stop_of (final p rest)
last_placed file p [] = refl
last_placed file p (q ∷ qs) = grind (arith, last_more, last_placed file q qs)

last_each : (head : Option Head) (all : List Row) (n : ℕ) (rows : List Row)
    → last_end (map (λ (p : ℕ × Row). marked_row head all p.0 p.1) (enumerate_from n rows))
    ≡ last_end rows
last_each head all n (r ∷ q ∷ rows) =
    grind (arith, last_more, last_each head all (n + 1) (q ∷ rows))
last_each head all n _ = refl

last_end-marked_rows : (head : Option Head) (rows : List Row)
    → last_end (marked_rows head rows) ≡ last_end rows
unfolding marked_rows
last_end-marked_rows head rows = last_each head rows 0 rows

last_end-numbered_frames : (file : List ℕ) (head : Option Head) (p : PlacedFrame)
    (rest : List PlacedFrame) → ((numbered_frames head (p ∷ rest) ≡ []) → ⊥)
    → last_end (rows_of file (numbered_frames head (p ∷ rest))) ≡ stop_of (final p rest)
last_end-numbered_frames file None p rest some = last_placed file p rest
last_end-numbered_frames file (Some head) p [] some = absurd (some refl)
last_end-numbered_frames file (Some head) p (q ∷ qs) some = last_placed file q qs

-- the last frame of the survey is the last of all, which may be after a head
pub last-told : (file : List ℕ) (head : Option Head) (p : PlacedFrame) (rest : List PlacedFrame)
    → ((numbered_frames head (p ∷ rest) ≡ []) → ⊥)
    → last_end (marked_rows head (rows_of file (numbered_frames head (p ∷ rest))))
    ≡ stop_of (final p rest)
last-told file head p rest some = grind (arith, last_end-marked_rows, last_end-numbered_frames)
