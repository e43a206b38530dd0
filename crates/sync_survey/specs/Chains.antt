-- Items that follow end to end.
use Rattle.std.specs.Prelude.{Bool, drop, false, filter_map, flat_map, if◌then◌else◌, length, List}
use Rattle.std.specs.Prelude.{None, Option, Some, suc, take, true, zero, ℕ, [], ◌&&◌, ◌+◌, ◌∷◌, ◌≡◌}
use Rattle.sync_survey.specs.{Items.{item_at, item_fits, size_of}, declared.chains.Region.Region}
use Rattle.sync_survey.specs.declared.{chains.Region.TheVariants.{Front, Stream}, items.Item.Item}
use Rattle.sync_survey.specs.declared.items.Item.TheVariants.{Block, End, Frame, Free, Nothing}
use Rattle.sync_survey.specs.declared.{items.Item.TheVariants.Zero, places.Piece.Piece}
use Rattle.sync_survey.specs.declared.places.PlacedFrame.{PlacedFrame}

-- an item and the offset at which it begins
pub record PlacedItem : Type 0 where
  pub offset : ℕ
  pub item : Item

-- blocks and zero bytes may be before the first frame, and from it on frames too
abbrev pub belongs : Region → Item → Bool
belongs part (Block b) = true
belongs part Zero = true
belongs Stream (Frame h) = true
belongs Front (Frame h) = false
belongs part Free = false
belongs part End = false
belongs part Nothing = false

-- the item, if it belongs to the part and is whole
abbrev pub item_if_whole : Region → List ℕ → ℕ → Item → Option Item
item_if_whole part file at item =
    if belongs part item && item_fits file at item then Some item else None

-- the whole item of the part that is at the offset
unfoldable pub whole_item_at : Region → List ℕ → ℕ → Option Item
whole_item_at part file at = item_if_whole part file at (item_at file at)

-- the items of the part that follow end to end from
-- an offset on, and the offset at which none begins
pub record ItemChain : Type 0 where
  pub items : List PlacedItem
  pub stop : ℕ

-- no item is at this offset
abbrev pub stopped_chain : ℕ → ItemChain
stopped_chain at = record { items = []; stop = at }

-- a chain with this item before it
abbrev pub chain_with_item : ℕ → Item → ItemChain → ItemChain
chain_with_item at item item_chain =
    record {
      items = record { offset = at; item = item } ∷ item_chain.items;
      stop = item_chain.stop;
    }

-- the item, and the chain from its end on; without an item the chain stops
abbrev pub chain_onward : ℕ → (ℕ → ItemChain) → Option Item → ItemChain
chain_onward at next None = stopped_chain at
chain_onward at next (Some item) = chain_with_item at item (next (at + size_of item))

-- a chain of at most this many items
unfoldable pub chain_up_to : ℕ → Region → List ℕ → ℕ → ItemChain
chain_up_to zero part file at = stopped_chain at
chain_up_to (suc most) part file at =
    chain_onward at (λ later. chain_up_to most part file later) (whole_item_at part file at)

-- a chain of all of them: there are no more items than bytes
unfoldable pub item_chain : Region → List ℕ → ℕ → ItemChain
item_chain part file from = chain_up_to (length file) part file from

-- ---- what a chain says, without its recursion

-- these whole items of the part follow end to end in the file, from one offset to another
abbrev pub AreEndToEnd : Region → List ℕ → ℕ → List PlacedItem → ℕ → Type 0
AreEndToEnd part file from [] to = from ≡ to
AreEndToEnd part file from (p ∷ ps) to =
    (p.offset ≡ from) × (whole_item_at part file p.offset ≡ Some p.item)
    × AreEndToEnd part file (p.offset + size_of p.item) ps to

-- the bytes of an item of the file
abbrev pub item_bytes_in : List ℕ → PlacedItem → List ℕ
item_bytes_in file p = take (size_of p.item) (drop p.offset file)

-- the bytes of these items, joined in order
abbrev pub bytes_of_items : List ℕ → List PlacedItem → List ℕ
bytes_of_items file ps = flat_map (item_bytes_in file) ps

-- ---- frames and blocks among the items

-- the frame that an item at an offset is
abbrev pub frame_of_item : ℕ → Item → Option PlacedFrame
frame_of_item at (Frame h) = Some (record { offset = at; header = h })
frame_of_item at Free = None
frame_of_item at (Block b) = None
frame_of_item at Zero = None
frame_of_item at End = None
frame_of_item at Nothing = None

-- the block that an item at an offset is
abbrev pub block_of_item : ℕ → Item → Option Piece
block_of_item at (Block b) = Some (record { offset = at; block = b })
block_of_item at (Frame h) = None
block_of_item at Free = None
block_of_item at Zero = None
block_of_item at End = None
block_of_item at Nothing = None

-- the frames among these items, in order
abbrev pub frames_of : List PlacedItem → List PlacedFrame
frames_of ps = filter_map (λ p. frame_of_item p.offset p.item) ps

-- the blocks among these items, in order
abbrev pub blocks_of : List PlacedItem → List Piece
blocks_of ps = filter_map (λ p. block_of_item p.offset p.item) ps
