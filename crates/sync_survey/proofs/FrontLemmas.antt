-- The front of a file, item by item.
use Rattle.std.proofs.Common.{append-nil, append_assoc, arith, length, List, None, option_to_list}
use Rattle.std.proofs.Common.{subst, sym, ℕ, [], ◌++◌, ◌+◌, ◌∷◌, ◌≡◌, ◌≤◌}
use Rattle.sync_survey.proofs.ChainLemmas.{item_chain-stopped_chain, whole_item_at-past}
use Rattle.sync_survey.specs.Chains.{block_of_item, blocks_of, item_chain, whole_item_at}
use Rattle.sync_survey.specs.{Items.size_of, Looks.Passes, Start.front_end_of, Survey.BlocksAreLaid}
use Rattle.sync_survey.specs.declared.{chains.Region.TheVariants.Front, items.Item.Item}
use Rattle.sync_survey.specs.declared.places.Piece.{Piece}

-- these blocks were passed, and no others
pub record IsPassedTo (file : List ℕ) (blocks : List Piece) (at : ℕ) : Type 0 where
  pub pieces : blocks ++ blocks_of (item_chain Front file at).items
      ≡ blocks_of (item_chain Front file 0).items
  pub stop : (item_chain Front file at).stop ≡ front_end_of file

-- at the beginning no blocks were passed
pub passed_none : (file : List ℕ) {blocks : List Piece} → blocks ≡ [] → IsPassedTo file blocks 0
unfolding front_end_of
passed_none file none = grind arith

-- passing an item of the front adds it, if it is a block
pub passed_more : {file : List ℕ} {blocks later : List Piece} {at size : ℕ} {item : Item}
    → IsPassedTo file blocks at → Passes Front file at item size
    → later ≡ blocks ++ option_to_list (block_of_item at item) → IsPassedTo file later (at + size)
passed_more so_far passes kept = grind (arith, append_assoc)

-- the blocks are the blocks of the front, which ends here
pub record IsFrontPassed (file : List ℕ) (blocks : List Piece) (at : ℕ) : Type 0 where
  pub pieces : blocks ≡ blocks_of (item_chain Front file 0).items
  pub end : at ≡ front_end_of file

-- if no further item of the front begins, the front was passed
pub passed_all : {file : List ℕ} {blocks : List Piece} {at : ℕ} → IsPassedTo file blocks at
    → whole_item_at Front file at ≡ None → IsFrontPassed file blocks at
passed_all so_far none = grind (arith, item_chain-stopped_chain, append-nil)

-- at the end of the file, the front was passed
pub passed_end : {file : List ℕ} {blocks : List Piece} {at size : ℕ} → size ≡ length file
    → size ≤ at → IsPassedTo file blocks at → IsFrontPassed file blocks at
passed_end is past so_far = grind (arith, passed_all, whole_item_at-past)

-- ---- blocks that follow each other

laid_push : (from : ℕ) (blocks : List Piece) {to later : ℕ} (b : Piece)
    → BlocksAreLaid from blocks to → to ≤ b.offset → b.offset + b.block.length ≤ later
    → BlocksAreLaid from (blocks ++ b ∷ []) later
laid_push from [] b laid low high = (omega (arith, laid, low), high)
laid_push from (p ∷ blocks) {to} {later} b laid low high =
    (laid.0, laid_push (p.offset + p.block.length) blocks b laid.1 low high)

-- blocks that end before an offset end before any later one
pub pieces_later : (from : ℕ) (blocks : List Piece) {to later : ℕ} → BlocksAreLaid from blocks to
    → to ≤ later → BlocksAreLaid from blocks later
pieces_later from [] laid low = omega (arith, laid, low)
pieces_later from (p ∷ blocks) {to} {later} laid low =
    (laid.0, pieces_later (p.offset + p.block.length) blocks laid.1 low)

laid_none : (from : ℕ) (blocks : List Piece) {to later : ℕ} → BlocksAreLaid from blocks to
    → to ≤ later → BlocksAreLaid from (blocks ++ []) later
laid_none from blocks laid low = grind (arith, append-nil, pieces_later)

laid_by : (blocks : List Piece) (at : ℕ) {size : ℕ} (item : Item) → BlocksAreLaid 0 blocks at
    → size_of item ≤ size
    → BlocksAreLaid 0 (blocks ++ option_to_list (block_of_item at item)) (at + size)
laid_by blocks at item laid least = grind (arith, laid_push, laid_none)

-- one more block follows those before it
pub blocks_more : (blocks later : List Piece) (at size : ℕ) (item : Item)
    → BlocksAreLaid 0 blocks at → size_of item ≤ size
    → later ≡ blocks ++ option_to_list (block_of_item at item) → BlocksAreLaid 0 later (at + size)
blocks_more blocks later at size item laid least kept = grind (arith, laid_by)

-- no blocks are laid out
pub blocks_none : {blocks : List Piece} → blocks ≡ [] → BlocksAreLaid 0 blocks 0
blocks_none none = subst (λ l. BlocksAreLaid 0 l 0) (sym none) (omega arith)
