-- The walk over a whole file: the frames and blocks from the start on, and where it stops.
use Rattle.std.specs.Prelude.{drop, length, List, None, Option, option_map, Some, take, ℕ, [], ◌++◌}
use Rattle.std.specs.Prelude.{◌+◌, ◌∷◌, ◌≡◌}
use Rattle.frame_header.specs.Tables.{class_of, length_of}
use Rattle.info_header.specs.HeadText.{head_text_of}
use Rattle.sync_survey.specs.{Chains.{blocks_of, frames_of, item_chain, ItemChain}, Items.item_at}
use Rattle.sync_survey.specs.declared.{chains.Region.TheVariants.{Front, Stream}, items.Item.Item}
use Rattle.sync_survey.specs.declared.items.Item.TheVariants.{Block, End, Frame, Free, Nothing}
use Rattle.sync_survey.specs.declared.{items.Item.TheVariants.Zero, places.{Head.Head, Piece.Piece}}
use Rattle.sync_survey.specs.declared.places.{PlacedFrame.PlacedFrame, Start.Start}
use Rattle.sync_survey.specs.declared.survey_fault.SurveyFault.{SurveyFault}
use Rattle.sync_survey.specs.declared.survey_fault.SurveyFault.TheVariants.{FreeFormat, LostSync}
use Rattle.sync_survey.specs.declared.survey_fault.SurveyFault.TheVariants.{NoFrame, Truncated}

-- the items from the first frame on
abbrev pub stream_chain : List ℕ → Start → ItemChain
stream_chain file start = item_chain Stream file start.first.offset

-- ---- the head

-- a frame's own bytes, out of the bytes that begin with it
abbrev pub own_bytes : PlacedFrame → List ℕ → List ℕ
own_bytes p bytes = take (length_of (class_of p.header) p.header.slot) bytes

-- the bytes of a frame of the file
abbrev pub frame_bytes : List ℕ → PlacedFrame → List ℕ
frame_bytes file p = own_bytes p (drop p.offset file)

-- a frame with these bytes is a head exactly if `Xing` or `Info` is in it; no standard has heads
abbrev pub head_in_bytes : PlacedFrame → List ℕ → Option Head
head_in_bytes p own =
    option_map (λ at. record { offset = p.offset; header = p.header; text_at = at })
    (head_text_of p.header own)

-- the head that a frame of the file is
unfoldable pub head_of : List ℕ → PlacedFrame → Option Head
head_of file p = head_in_bytes p (frame_bytes file p)

-- a head is this frame
abbrev pub IsFrameOf : PlacedFrame → Head → Type 0
IsFrameOf p head = (head.offset ≡ p.offset) × (head.header ≡ p.header)

-- only the first frame can be a head, which isn't counted: all others are numbered from 0, in order
abbrev pub numbered_frames : Option Head → List PlacedFrame → List PlacedFrame
numbered_frames None frames = frames
numbered_frames (Some head) frames = drop 1 frames

-- where the numbered frames begin: at the first frame, or after the head
abbrev pub numbered_offset : PlacedFrame → Option Head → ℕ
numbered_offset first None = first.offset
numbered_offset first (Some head) =
    first.offset + length_of (class_of first.header) first.header.slot

-- the blocks of the front, and those from the first frame on
abbrev pub all_blocks : List ℕ → Start → List Piece
all_blocks file start =
    blocks_of (item_chain Front file 0).items ++ blocks_of (stream_chain file start).items

-- ---- where the walk ends

-- why the walk stops at an offset with this item, which isn't whole if
-- it is a frame or a block; at the end of the file nothing is wrong
abbrev pub fault_at : ℕ → Item → Option SurveyFault
fault_at at (Frame h) = Some (Truncated at)
fault_at at Free = Some (FreeFormat at)
fault_at at (Block b) = Some (Truncated at)
fault_at at Zero = Some (LostSync at)
fault_at at End = None
fault_at at Nothing = Some (LostSync at)

-- a walk that reaches the end of the file must have a frame
abbrev pub end_fault : List ℕ → List PlacedFrame → Option SurveyFault → Option SurveyFault
end_fault file frames (Some fault) = Some fault
end_fault file (p ∷ ps) None = None
end_fault file [] None = Some (NoFrame (length file))

-- ---- the walk

-- what is in a file with this start: the head, the frames of the stream, all blocks in order of
-- offset, and why the walk stops before the end of the file or has no frame
pub record WalkFields : Type 0 where
  pub start : Start
  pub head : Option Head
  pub frames : List PlacedFrame
  pub blocks : List Piece
  pub fault : Option SurveyFault

-- what is in a file with this start
unfoldable pub walk_from : List ℕ → Start → WalkFields
walk_from file start =
    let stream = stream_chain file start in
    let head = head_of file start.first in
    let frames = numbered_frames head (frames_of stream.items) in record {
      start = start;
      head = head;
      frames = frames;
      blocks = all_blocks file start;
      fault = end_fault file frames (fault_at stream.stop (item_at file stream.stop));
    }
