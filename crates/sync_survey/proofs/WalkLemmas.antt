-- The walk over a whole file, from what the parts of the code find.
use Rattle.std.proofs.Common.{ap, arith, drop, length, List, None, Ok, Option, option_map, Some}
use Rattle.std.proofs.Common.{take, unwrap_or, ℕ, [], ◌++◌, ◌+◌, ◌<◌, ◌∙◌, ◌≡◌, ◌≤◌}
use Rattle.std.proofs.{Math.Seq.drop-length, lemmas.List.take-take}
use Rattle.frame_header.specs.Tables.{class_of, length_of}
use Rattle.info_header.specs.HeadText.{head_text_of}
use Rattle.sync_survey.proofs.ChainLemmas.{blocks-next, bytes-ends, frames-next, item_chain-ends}
use Rattle.sync_survey.proofs.ChainLemmas.{item_chain-next, whole_item_at-whole}
use Rattle.sync_survey.proofs.ItemsLemmas.{stands, stands-at}
use Rattle.sync_survey.specs.Chains.{blocks_of, bytes_of_items, frames_of, item_chain}
use Rattle.sync_survey.specs.Chains.{whole_item_at}
use Rattle.sync_survey.specs.Items.{IsItemFront, item_at, item_front, size_of}
use Rattle.sync_survey.specs.{Looks.{look_size, Shows}, Start.start_of}
use Rattle.sync_survey.specs.Walk.{all_blocks, end_fault, fault_at, head_of, numbered_frames}
use Rattle.sync_survey.specs.Walk.{numbered_offset, stream_chain, walk_from}
use Rattle.sync_survey.specs.declared.{chains.Region.TheVariants.Stream, items.Item.Item}
use Rattle.sync_survey.specs.declared.{items.Item.TheVariants.Frame, places.Head.Head}
use Rattle.sync_survey.specs.declared.places.{Piece.Piece, PlacedFrame.PlacedFrame, Start.Start}
use Rattle.sync_survey.specs.declared.survey_fault.SurveyFault.{SurveyFault}

-- ---- after the head

-- the first frame of the stream is a whole item of it
pub first_item : (file : List ℕ) (first : PlacedFrame) → item_at file first.offset
    ≡ Frame first.header → first.offset + size_of (Frame first.header) ≤ length file
    → whole_item_at Stream file first.offset ≡ Some (Frame first.header)
first_item file first is within = grind (arith, whole_item_at-whole)

-- the frames, the blocks and the stop of the stream, from where its numbered frames begin
pub numbered_frames-chain : (file : List ℕ) (start : Start) (head : Option Head)
    → whole_item_at Stream file start.first.offset ≡ Some (Frame start.first.header) →
    frames_of (item_chain Stream file (numbered_offset start.first head)).items
    ≡ numbered_frames head (frames_of (stream_chain file start).items)
numbered_frames-chain file start head first =
    grind (arith, frames-next Stream file start.first.offset first)

-- the blocks from the first numbered frame on are the blocks of the stream
pub numbered-blocks : (file : List ℕ) (start : Start) (head : Option Head)
    → whole_item_at Stream file start.first.offset ≡ Some (Frame start.first.header) →
    blocks_of (item_chain Stream file (numbered_offset start.first head)).items
    ≡ blocks_of (stream_chain file start).items
numbered-blocks file start head first =
    grind (arith, blocks-next Stream file start.first.offset first)

-- a chain from there stops where the stream does
pub numbered-stop : (file : List ℕ) (start : Start) (head : Option Head)
    → whole_item_at Stream file start.first.offset ≡ Some (Frame start.first.header) →
    (item_chain Stream file (numbered_offset start.first head)).stop
    ≡ (stream_chain file start).stop
numbered-stop file start head first = grind (arith, item_chain-next Stream file first)

-- ---- the whole walk

-- what was found in a file with this start
pub record IsFound (file : List ℕ) (start : Start) (head : Option Head) (frames : List PlacedFrame)
    (blocks : List Piece) (stop : ℕ) : Type 0 where
  pub start_is : start_of file ≡ Ok start
  pub head_is : head ≡ head_of file start.first
  pub frames_are : frames ≡ numbered_frames head (frames_of (stream_chain file start).items)
  pub blocks_are : blocks ≡ all_blocks file start
  pub stop_is : stop ≡ (stream_chain file start).stop

-- what was found is what the walk over the file finds
pub walk-is : {file : List ℕ} {start : Start} {head : Option Head} {frames : List PlacedFrame}
    {blocks : List Piece} {stop : ℕ} → IsFound file start head frames blocks stop →
    walk_from file start ≡ record {
      start = start;
      head = head;
      frames = frames;
      blocks = blocks;
      fault =
          end_fault file frames (fault_at stop (item_at file stop));
    }
unfolding walk_from
walk-is found = grind arith

-- ---- where the walk ends

at_end : {rest : List ℕ} (at : ℕ) (item : Item) → IsItemFront rest item → fault_at at item ≡ None
    → rest ≡ []
at_end at item here e = grind arith

-- a file without fault at its end has none where the walk stops
pub no_fault : (file : List ℕ) (frames : List PlacedFrame) {o : Option SurveyFault}
    → end_fault file frames o ≡ None → o ≡ None
no_fault file frames e = grind arith

stop_by : (bytes : List ℕ) (at : ℕ) (item : Item) (r d : SurveyFault) → IsItemFront bytes item
    → 0 < length bytes → r ≡ unwrap_or (fault_at at item) d → fault_at at item ≡ Some r
stop_by bytes at item r d here some is = grind arith

-- before the end of the file something stops the walk
pub stop_is : (bytes : List ℕ) (at : ℕ) (r d : SurveyFault) → 0 < length bytes
    → r ≡ unwrap_or (fault_at at (item_front bytes)) d → fault_at at (item_front bytes) ≡ Some r
stop_is bytes at r d some is = stop_by bytes at (item_front bytes) r d (stands bytes) some is

-- if nothing is at fault, nothing is left
pub nothing_left : (file : List ℕ) (stop : ℕ) → fault_at stop (item_at file stop) ≡ None
    → drop stop file ≡ []
nothing_left file stop none = search (arith, at_end, stands-at)

-- the items from the first frame on, joined in order, are the file's bytes from there to this
-- offset
abbrev pub ReachesTo : List ℕ → Start → ℕ → Type 0
ReachesTo file start to =
    bytes_of_items file (stream_chain file start).items ++ drop to file
    ≡ drop start.first.offset file

-- if nothing is at fault, they reach to the end of the file
pub reach-end : (file : List ℕ) (start : Start) (frames : List PlacedFrame) {stop : ℕ}
    → stop ≡ (stream_chain file start).stop
    → end_fault file frames (fault_at stop (item_at file stop)) ≡ None
    → ReachesTo file start (length file)
reach-end file start frames is none =
    grind (
      arith,
      nothing_left,
      no_fault,
      drop-length file,
      bytes-ends,
      item_chain-ends Stream file start.first.offset,
    )

-- ---- a head that a look shows

-- a look at the first frame shows the head that the file has
pub head_shown : {file : List ℕ} (p : PlacedFrame) {front : List ℕ} {left : ℕ}
    → Shows file p.offset front left → length_of (class_of p.header) p.header.slot ≤ look_size
    → option_map (λ at. record { offset = p.offset; header = p.header; text_at = at }) (head_text_of
    p.header (take (length_of (class_of p.header) p.header.slot) front)) ≡ head_of file p
unfolding head_of
head_shown {file} p shows few =
    let size = length_of (class_of p.header) p.header.slot in
    ap (λ l. option_map (λ at. record { offset = p.offset; header = p.header; text_at = at })
    (head_text_of p.header l))
    (ap (take size) shows.front_is ∙ take-take size look_size (drop p.offset file) few)
