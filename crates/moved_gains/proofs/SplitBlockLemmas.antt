-- The blocks before the tag of a file, and those after it, selected by offset.
use Rattle.std.proofs.Common.{ap, append-nil, arith, Bool, false, filter, List, map, None, Option}
use Rattle.std.proofs.Common.{option_to_list, refl, Some, true, ℕ, [], ◌++◌, ◌+◌, ◌<◌, ◌∷◌, ◌≡◌}
use Rattle.std.proofs.{Common.◌≤◌, lemmas.Bool.{le-leb, le-ltb, lt-leb, lt-ltb}}
use Rattle.std.{proofs.lemmas.List.Elements.filter-append, specs.List.cons_option}
use Rattle.moved_gains.specs.TagExtent.{stands_before, stands_behind, tag_length, tag_offset}
use Rattle.sync_survey.proofs.{ChainLemmas.whole_item_at-is, ItemListLemmas.{ends-rise, piece_by}}
use Rattle.sync_survey.specs.Chains.{AreEndToEnd, block_of_item, blocks_of, PlacedItem}
use Rattle.sync_survey.specs.{Faults.SurveyFields, Items.size_of}
use Rattle.sync_survey.specs.declared.{chains.Region.TheVariants.Stream, items.Item.Item}
use Rattle.sync_survey.specs.declared.places.Piece.{Piece}

-- these blocks begin between two offsets
abbrev pub BeginBetween : ℕ → ℕ → List Piece → Type 0
BeginBetween from to [] = Unit {0}
BeginBetween from to (b ∷ bs) = (from ≤ b.offset) × (b.offset < to) × BeginBetween from to bs

begin_lower : {low from : ℕ} (to : ℕ) (bs : List Piece) → low ≤ from → BeginBetween from to bs
    → BeginBetween low to bs
begin_lower to [] le begin = tt
begin_lower {low} {from} to (b ∷ bs) le begin = grind (arith, begin_lower to bs le begin.2)

begin_more : {from to at : ℕ} (item : Item) (bs : List Piece) → from ≤ at → at < to
    → BeginBetween from to bs → BeginBetween from to (cons_option (block_of_item at item) bs)
begin_more item bs low high begin = grind arith

-- each block of items between two offsets begins between them
pub items-begin : (file : List ℕ) (from : ℕ) (ps : List PlacedItem) (to : ℕ)
    → AreEndToEnd Stream file from ps to → BeginBetween from to (blocks_of ps)
items-begin file from [] to ends = tt
items-begin file from (p ∷ ps) to ends =
    let size = size_of p.item in
    let some = (whole_item_at-is Stream file p.offset p.item ends.1).some in
    let rise = ends-rise Stream file (p.offset + size) ps ends.2 in
    begin_more p.item (blocks_of ps) (omega (arith, ends.0))
    (omega (arith, some, rise))
    (begin_lower to (blocks_of ps) (omega (arith, ends.0))
    (items-begin file (p.offset + size) ps to ends.2))

-- ---- a test that all blocks pass, or none

keeps_all : {test : Piece → Bool} {from to : ℕ} (bs : List Piece) → BeginBetween from to bs
    → ((b : Piece) → from ≤ b.offset → b.offset < to → test b ≡ true) → filter test bs ≡ bs
keeps_all [] begin passes = refl
keeps_all {test} {from} {to} (b ∷ bs) begin passes =
    rw (passes b begin.0 begin.1) (ap (λ l. b ∷ l) (keeps_all bs begin.2 passes))

keeps_none : {test : Piece → Bool} {from to : ℕ} (bs : List Piece) → BeginBetween from to bs
    → ((b : Piece) → from ≤ b.offset → b.offset < to → test b ≡ false) → filter test bs ≡ []
keeps_none [] begin fails = refl
keeps_none {test} {from} {to} (b ∷ bs) begin fails =
    rw (fails b begin.0 begin.1) (keeps_none bs begin.2 fails)

-- blocks before an offset don't move
pub blocks-stay : (to : ℕ → ℕ) (from end : ℕ) (bs : List Piece) → BeginBetween from end bs
    → ((x : ℕ) → x < end → to x ≡ x) → map (piece_by to) bs ≡ bs
blocks-stay to from end [] begin stays = refl
blocks-stay to from end (b ∷ bs) begin stays =
    grind (arith, blocks-stay to from end bs begin.2 stays)

-- ---- at the tag

-- the tag's own block, if there is one
abbrev pub IsOld : SurveyFields → Option Piece → Type 0
IsOld s None = Unit {0}
IsOld s (Some b) = (b.offset ≡ tag_offset s) × (0 < tag_length s)

module _ (s : SurveyFields) (before behind : List Piece) (old : Option Piece) (end : ℕ)
    (low : BeginBetween 0 (tag_offset s) before)
    (high : BeginBetween (tag_offset s + tag_length s) end behind) (is : IsOld s old) where
  abbrev blocks : List Piece
  blocks = before ++ (option_to_list old ++ behind)

  three : (test : Piece → Bool) {xs ys zs : List Piece} → filter test before ≡ xs
      → filter test (option_to_list old) ≡ ys → filter test behind ≡ zs
      → filter test blocks ≡ xs ++ (ys ++ zs)
  three test first second third = grind (arith, filter-append)

  old_before : (o : Option Piece) → IsOld s o → filter (stands_before s) (option_to_list o) ≡ []
  old_before o old_is = grind arith

  old_behind : (o : Option Piece) → IsOld s o → filter (stands_behind s) (option_to_list o) ≡ []
  old_behind o old_is = grind arith

  -- the blocks that are before the tag
  pub blocks-before : filter (stands_before s) blocks ≡ before
  blocks-before =
      grind (arith, three, keeps_all, lt-ltb, old_before, keeps_none, le-ltb, append-nil)

  -- the blocks that are after the tag
  pub blocks-behind : filter (stands_behind s) blocks ≡ behind
  blocks-behind = grind (arith, three, keeps_none, lt-leb, old_behind, keeps_all, le-leb)
