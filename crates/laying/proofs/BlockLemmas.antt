-- The blocks of a file without fault are whole: their bytes are blocks wherever they are put.
use Rattle.std.proofs.Common.{ap, append-nil, arith, drop, length, length-drop, List, map, Some}
use Rattle.std.proofs.Common.{subst, sym, take, ℕ, [], ◌++◌, ◌+◌, ◌∙◌, ◌∷◌, ◌≡◌, ◌≤◌}
use Rattle.std.{proofs.lemmas.List.{length-take-le, map-append}, specs.List.cons_option}
use Rattle.laying.specs.{LaidFiles.{AreBlocks, block_bytes, IsBlock}, LaidLaws.SurveyedBlocks}
use Rattle.sync_survey.proofs.ChainLemmas.{item_chain-ends, whole_item_at-is}
use Rattle.sync_survey.proofs.{ItemBytesLemmas.block_front-bytes, ItemsLemmas.stands-at}
use Rattle.sync_survey.proofs.SurveyPartsLemmas.{survey_fields-parts}
use Rattle.sync_survey.specs.Chains.{AreEndToEnd, block_of_item, blocks_of, item_chain, PlacedItem}
use Rattle.sync_survey.specs.{Items.{item_at, size_of}, Walk.{all_blocks, stream_chain}}
use Rattle.sync_survey.specs.declared.chains.Region.{Region, TheVariants.{Front, Stream}}
use Rattle.sync_survey.specs.declared.{items.Item.{Item, TheVariants.Block}, places.Piece.Piece}
use Rattle.sync_survey.specs.declared.places.Start.{Start}
use Rattle.tag_blocks.specs.{Blocks.block_front, declared.block.Block.Block as TagBlock}

-- a whole block that these bytes begin with
whole_block : (bytes : List ℕ) {b : TagBlock} → block_front bytes ≡ Some b → b.length ≤ length bytes
    → IsBlock (take b.length bytes)
whole_block bytes {b} is within = (
  b,
  ap block_front (sym (append-nil (take b.length bytes)))
      ∙ block_front-bytes bytes [] is within,
  sym (length-take-le b.length bytes within),
)

-- a whole block before others that are blocks is one more
pub block_more : (file : List ℕ) (at : ℕ) (item : Item) (blocks : List Piece) → item_at file at
    ≡ item → at + size_of item ≤ length file → AreBlocks (map (block_bytes file) blocks)
    → AreBlocks (map (block_bytes file) (cons_option (block_of_item at item) blocks))
block_more file at (Block b) blocks is within are = (
  whole_block (drop at file) (stands-at file at (Block b) is)
      (omega (arith, within, length-drop at file)),
  are,
)
block_more file at _ blocks is within are = are

-- the blocks of items end to end are blocks, by their bytes
pub ends-blocks : (part : Region) (file : List ℕ) (from : ℕ) (ps : List PlacedItem) (to : ℕ)
    → AreEndToEnd part file from ps to → AreBlocks (map (block_bytes file) (blocks_of ps))
ends-blocks part file from [] to ends = tt
ends-blocks part file from (p ∷ ps) to ends =
    let here = whole_item_at-is part file p.offset p.item ends.1 in
    block_more file p.offset p.item (blocks_of ps)
    here.is here.within (ends-blocks part file (p.offset + size_of p.item) ps to ends.2)

-- blocks concatenated with blocks are blocks
pub blocks-append : (xs ys : List (List ℕ)) → AreBlocks xs → AreBlocks ys → AreBlocks (xs ++ ys)
blocks-append [] ys front back = back
blocks-append (x ∷ xs) ys front back = (front.0, blocks-append xs ys front.1 back)

all-blocks : (file : List ℕ) (start : Start)
    → AreBlocks (map (block_bytes file) (all_blocks file start))
all-blocks file start =
    let front = item_chain Front file 0 in
    let stream = stream_chain file start in
    subst AreBlocks
    (sym (map-append (block_bytes file) (blocks_of front.items) (blocks_of stream.items)))
    (blocks-append (map (block_bytes file) (blocks_of front.items))
    (map (block_bytes file) (blocks_of stream.items))
    (ends-blocks Front file 0 front.items front.stop (item_chain-ends Front file 0))
    (ends-blocks Stream file
    start.first.offset stream.items stream.stop (item_chain-ends Stream file start.first.offset)))

-- the blocks of a surveyed file are blocks
pub surveyed-blocks : SurveyedBlocks
surveyed-blocks file allowed s e = grind (arith, survey_fields-parts, all-blocks)
