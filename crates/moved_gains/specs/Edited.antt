-- A file with the gains of its frames moved.
use Rattle.std.specs.Prelude.{Bool, drop, false, flat_map, if◌then◌else◌, List, None, Option, Some}
use Rattle.std.specs.Prelude.{take, ℕ, [], ◌&&◌, ◌++◌, ◌==◌, ◌||◌, ◌∷◌}
use Rattle.frame_header.specs.Fields.{HeaderFields}
use Rattle.moved_gains.specs.Gains.{moved_side, side_out_of_range}
use Rattle.moved_gains.specs.declared.gains.OutOfRange.{OutOfRange}
use Rattle.requests.specs.declared.shift.Steps.{Steps}
use Rattle.side_info.specs.Frame.{frame_with_side, side_in}
use Rattle.sync_survey.specs.Chains.{bytes_of_items, item_bytes_in, item_chain, PlacedItem}
use Rattle.sync_survey.specs.{Faults.SurveyFields, Row.Row}
use Rattle.sync_survey.specs.declared.{chains.Region.TheVariants.{Front, Stream}, items.Item.Item}
use Rattle.sync_survey.specs.declared.items.Item.TheVariants.{Block, End, Frame, Free, Nothing}
use Rattle.sync_survey.specs.declared.{items.Item.TheVariants.Zero, places.Head.Head}

-- ---- the bytes

-- a frame with this header and moved gains: the check word of
-- a protected frame matches them, and all other bytes stay
abbrev pub moved_frame : Steps → HeaderFields → List ℕ → List ℕ
moved_frame steps h frame = frame_with_side h (moved_side steps (side_in h frame)) frame

-- a lost frame stays
abbrev pub moved_frame_unless_lost : Bool → Steps → HeaderFields → List ℕ → List ℕ
moved_frame_unless_lost lost steps h frame = if lost then frame else moved_frame steps h frame

-- the bytes of an item: a frame that isn't lost has its gains moved, and everything else stays
abbrev pub moved_item : Steps → Bool → Item → List ℕ → List ℕ
moved_item steps lost (Frame h) bytes = moved_frame_unless_lost lost steps h bytes
moved_item steps lost Free bytes = bytes
moved_item steps lost (Block b) bytes = bytes
moved_item steps lost Zero bytes = bytes
moved_item steps lost End bytes = bytes
moved_item steps lost Nothing bytes = bytes

-- the bytes of items of a file, concatenated: each frame moves by the
-- steps at its offset, except lost ones, which are at the `lost` offsets
unfoldable pub moved_items : (ℕ → Steps) → (ℕ → Bool) → List ℕ → List PlacedItem → List ℕ
moved_items steps lost file ps = flat_map (λ (p : PlacedItem). moved_item (steps p.offset)
    (lost p.offset) p.item (item_bytes_in file p)) ps

-- the items from the first frame on, with moved gains; a head is the first of them, and stays
abbrev pub moved_stream : (ℕ → Steps) → (ℕ → Bool) → List ℕ → Option Head → List PlacedItem → List ℕ
moved_stream steps lost file None ps = moved_items steps lost file ps
moved_stream steps lost file (Some head) ps =
    bytes_of_items file (take 1 ps) ++ moved_items steps lost file (drop 1 ps)

-- one of these frames is at the offset and lost
abbrev pub is_lost_at : List Row → ℕ → Bool
is_lost_at [] at = false
is_lost_at (row ∷ rows) at = (row.lost && row.offset == at) || is_lost_at rows at

-- all items of a file in order, with the gains of its frames
-- moved, each by the steps at its offset; junk is dropped
unfoldable pub edited_file : (ℕ → Steps) → List ℕ → SurveyFields → List ℕ
edited_file steps file s =
    bytes_of_items file (item_chain Front file 0).items
    ++ moved_stream steps (is_lost_at s.frames) file s.head (item_chain Stream file s.first).items

-- ---- the range

-- the first gain of a frame that would leave the range; a lost frame, which stays, has none
abbrev pub row_out_of_range : Steps → Row → Option OutOfRange
row_out_of_range steps row = if row.lost then None else side_out_of_range steps row.side
