-- Blocks as items: concatenated, they are these; placed end to end, they are the blocks of a chain.
use Rattle.std.proofs.Common.{ap, arith, length, List, refl, Some, sym, take, ℕ, [], ◌++◌, ◌+◌, ◌∙◌}
use Rattle.std.{proofs.{Common.{◌∷◌, ◌≡◌}, Math.Seq.take-length}, specs.List.concat}
use Rattle.laying.specs.LaidFiles.{AreBlocks, blocks_from, IsBlock}
use Rattle.sync_survey.proofs.ItemBytesLemmas.{block_front-bytes, IsItem}
use Rattle.sync_survey.proofs.{ItemListLemmas.{AreItems, placed}, OneItemLemmas.stands-only}
use Rattle.sync_survey.specs.{Chains.{blocks_of, frames_of}, declared.chains.Region.Region}
use Rattle.sync_survey.specs.declared.items.Item.{Item, TheVariants.Block}
use Rattle.tag_blocks.specs.Blocks.{block_front}

block_item : {bytes : List ℕ} (is : IsBlock bytes) → IsItem (Block is.0) bytes
block_item {bytes} is =
    let block = is.0 in
    let whole : take block.length bytes ≡ bytes = ap (λ n. take n bytes) is.2 ∙ take-length bytes in
    let stands : (rest : List ℕ) → block_front (bytes ++ rest) ≡ Some block =
    grind (arith, block_front-bytes) in
    record {
      size = sym is.2;
      known = λ rest. sym (stands-only (bytes ++ rest) (stands rest));
    }

-- the items of blocks
abbrev pub block_items : (blocks : List (List ℕ)) → AreBlocks blocks → List Item
block_items [] are = []
block_items (b ∷ blocks) are = Block are.0.0 ∷ block_items blocks are.1

-- concatenated blocks are their items
pub blocks-items : (part : Region) (blocks : List (List ℕ)) (are : AreBlocks blocks)
    → AreItems part (block_items blocks are) (concat blocks)
blocks-items part [] are = refl
blocks-items part (b ∷ blocks) are =
    (b, concat blocks, refl, block_item are.0, refl, blocks-items part blocks are.1)

-- no frame is among the items of blocks
pub blocks-no_frame : (at : ℕ) (blocks : List (List ℕ)) (are : AreBlocks blocks)
    → frames_of (placed at (block_items blocks are)) ≡ []
blocks-no_frame at [] are = refl
blocks-no_frame at (b ∷ blocks) are = blocks-no_frame (at + are.0.0.length) blocks are.1

-- the items of blocks, placed, are the consecutive blocks
pub blocks-placed : (at : ℕ) (blocks : List (List ℕ)) (are : AreBlocks blocks)
    → blocks_of (placed at (block_items blocks are)) ≡ blocks_from at blocks
blocks-placed at [] are = refl
blocks-placed at (b ∷ blocks) are = grind (arith, blocks-placed (at + length b) blocks are.1)
