-- What a look shows of a file.
use Rattle.std.specs.List.{prefix_len}
use Rattle.std.specs.Prelude.{drop, length, List, None, Option, option_to_list, Some, take, ℕ, []}
use Rattle.std.specs.Prelude.{◌++◌, ◌+◌, ◌-◌, ◌<◌, ◌==◌, ◌∷◌, ◌≡◌, ◌≤◌, ◌⊎◌}
use Rattle.frame_header.specs.{Fields.{ClassFields, HeaderFields}, Limits.most_frame_length}
use Rattle.frame_header.specs.Tables.{class_of, overhead_of}
use Rattle.side_info.specs.{Frame.stored_crc, Side.SideFits}
use Rattle.sync_survey.specs.Chains.{block_of_item, blocks_of, frame_of_item, frames_of, item_chain}
use Rattle.sync_survey.specs.Chains.{whole_item_at}
use Rattle.sync_survey.specs.Faults.{data_faults, faults_at, first_of, later_faults}
use Rattle.sync_survey.specs.Items.{item_front, size_of}
use Rattle.sync_survey.specs.{MainData.{data_end_after, lacks_data, own_area, row_in}, Row.Row}
use Rattle.sync_survey.specs.{SurveyFaultKinds.RefusesRightly, Walk.fault_at}
use Rattle.sync_survey.specs.declared.chains.{Region.{Region, TheVariants.Stream}, Step.Step}
use Rattle.sync_survey.specs.declared.{found.SurveySoFar.SurveySoFar, items.Item.Item}
use Rattle.sync_survey.specs.declared.items.Item.TheVariants.{Block, Frame, Zero}
use Rattle.sync_survey.specs.declared.{places.Piece.Piece, rows.JudgedFrame.JudgedFrame}
use Rattle.sync_survey.specs.declared.rows.ReservoirState.{ReservoirState}
use Rattle.sync_survey.specs.declared.survey_fault.SurveyFault.{SurveyFault, TheVariants.Memory}

-- how many bytes a look shows: 4,096 if the file has them, which is more than a frame and the 32
-- bytes after it that decide the next item
abbrev pub look_size : ℕ
look_size = 4096

-- a look at an offset of the file shows these bytes, and `left` bytes are left there
pub record Shows (file : List ℕ) (at : ℕ) (front : List ℕ) (left : ℕ) : Type 0 where
  pub front_is : front ≡ take look_size (drop at file)
  pub left_is : left ≡ length file - at

-- the items of the part that follow end to end from the offset on are this one and those from
-- `size` bytes later on, except for zero bytes between them
pub record Passes (part : Region) (file : List ℕ) (at : ℕ) (item : Item) (size : ℕ) : Type 0 where
  pub frames : frames_of (item_chain part file at).items
      ≡ option_to_list (frame_of_item at item) ++ frames_of (item_chain part file (at + size)).items
  pub blocks : blocks_of (item_chain part file at).items
      ≡ option_to_list (block_of_item at item) ++ blocks_of (item_chain part file (at + size)).items
  pub stop : (item_chain part file at).stop ≡ (item_chain part file (at + size)).stop

-- An item that is passed, given the bytes of a look and how many are left: it is the one with which
-- they begin, and is whole. The bytes that are passed with it are its own, or for a zero byte all
-- zero bytes that were seen.
pub record PassesFront (front : List ℕ) (left : ℕ) (step : Step) : Type 0 where
  pub item : step.item ≡ item_front front
  pub zeros : step.item ≡ Zero → step.size ≡ prefix_len (λ b. b == 0) front
  pub own : (step.item ≡ Zero → ⊥) → step.size ≡ size_of step.item
  pub least : size_of step.item ≤ step.size
  pub most : (h : HeaderFields) → step.item ≡ Frame h → size_of step.item ≤ most_frame_length
  pub some : 0 < step.size
  pub within : step.size ≤ left

-- this step is passed at the offset, or no whole item of the part is there
abbrev pub IsStep : Region → List ℕ → ℕ → Option Step → Type 0
IsStep part file at None = whole_item_at part file at ≡ None
IsStep part file at (Some step) = Passes part file at step.item step.size

-- ---- a frame that is judged

-- the bytes with which a frame begins reach to its own area
abbrev pub ReachArea : HeaderFields → List ℕ → Type 0
ReachArea h bytes = overhead_of (class_of h) h.protected ≤ length bytes

-- the first fault of a frame's main data
abbrev pub data_fault : ReservoirState → Row → Option SurveyFault
data_fault b r = first_of (data_faults b.place b.ended r)

-- the first fault of a frame of the class, given its bytes and how many frames are before it
abbrev pub frame_fault : List ℕ → ℕ → ReservoirState → ℕ → Row → Option SurveyFault
frame_fault bytes allowed b count r =
    first_of (later_faults (stored_crc bytes) allowed b.place b.ended count r)

-- ---- what is kept of an item

-- what is known after a frame without fault, given the place of its own area and where the main
-- data before it end: whether it is lost, and the areas before the next frame
pub record IsJudgedFrame (place_now ended_now : ℕ) (r : Row) (b : JudgedFrame) : Type 0 where
  pub lost : b.lost ≡ lacks_data place_now ended_now r
  pub place : b.before.place ≡ place_now + own_area r.header
  pub ended : b.before.ended ≡ data_end_after place_now ended_now (Some r)

-- a frame has no fault, and is kept after the others, marked if it is lost
pub record KeepsFrame (said : ℕ) (class : ClassFields) (allowed : ℕ) (r : Row)
    (old new : SurveySoFar) : Type 0 where
  pub sound : first_of (faults_at said class allowed
      old.before.place old.before.ended (length old.rows.items) r) ≡ None
  pub fits : SideFits (class_of r.header) r.side
  pub rows : new.rows.items
      ≡ old.rows.items ++ record r { lost = lacks_data old.before.place old.before.ended r } ∷ []
  pub pieces : new.pieces.items ≡ old.pieces.items
  pub place : new.before.place ≡ old.before.place + own_area r.header
  pub ended : new.before.ended ≡ data_end_after old.before.place old.before.ended (Some r)

-- these blocks are kept after the others
pub record KeepsBlocks (blocks : List Piece) (old new : SurveySoFar) : Type 0 where
  pub rows : new.rows.items ≡ old.rows.items
  pub pieces : new.pieces.items ≡ old.pieces.items ++ blocks
  pub before : new.before ≡ old.before

-- what is kept of an item at an offset, given the bytes from there on
abbrev pub KeepsItem : ClassFields → ℕ → ℕ → Item → List ℕ → SurveySoFar → SurveySoFar → Type 0
KeepsItem class allowed offset (Frame h) bytes old new =
    KeepsFrame (stored_crc bytes) class allowed (row_in offset h bytes) old new
KeepsItem class allowed offset (Block b) bytes old new =
    KeepsBlocks (record { offset = offset; block = b } ∷ []) old new
KeepsItem class allowed offset _ bytes old new = KeepsBlocks [] old new

-- the first fault of a frame
abbrev pub IsFrameFault : ClassFields → ℕ → ℕ → Item → List ℕ → SurveySoFar → SurveyFault → Type 0
IsFrameFault class allowed offset (Frame h) bytes old fault =
    first_of (faults_at (stored_crc bytes) class allowed
    old.before.place old.before.ended (length old.rows.items) (row_in offset h bytes)) ≡ Some fault
IsFrameFault class allowed offset _ bytes old fault = ⊥

-- ---- an item that is passed

-- A whole item is passed, given the bytes of a look and how many are left: `size` bytes, and it is
-- kept if it is a frame without fault or a block.
pub record PassesItem (class : ClassFields) (allowed offset : ℕ) (bytes : List ℕ) (left : ℕ)
    (old new : SurveySoFar) (size : ℕ) : Type 0 where
  pub passes : (file : List ℕ) → Shows file offset bytes left
      → Passes Stream file offset (item_front bytes) size
  pub front : PassesFront bytes left (record { item = item_front bytes; size = size })
  pub keeps : KeepsItem class allowed offset (item_front bytes) bytes old new

-- a frame that has a fault is passed
pub record PassesFault (class : ClassFields) (allowed offset : ℕ) (bytes : List ℕ) (left : ℕ)
    (old : SurveySoFar) (fault : SurveyFault) : Type 0 where
  pub size : ℕ
  pub passes : (file : List ℕ) → Shows file offset bytes left
      → Passes Stream file offset (item_front bytes) size
  pub front : PassesFront bytes left (record { item = item_front bytes; size = size })
  pub faulty : IsFrameFault class allowed offset (item_front bytes) bytes old fault

-- no whole item of the stream is there
pub record StopsThere (offset : ℕ) (bytes : List ℕ) (left : ℕ) (fault : SurveyFault) : Type 0 where
  pub none : (file : List ℕ) → Shows file offset bytes left
      → whole_item_at Stream file offset ≡ None
  pub why : fault_at offset (item_front bytes) ≡ Some fault
  pub rightly : RefusesRightly fault

-- why an item isn't passed
abbrev pub IsNotPassed : ClassFields → ℕ → ℕ → List ℕ → ℕ → SurveySoFar → SurveyFault → Type 0
IsNotPassed class allowed offset bytes left old fault =
    (fault ≡ Memory)
    ⊎ (PassesFault class allowed offset bytes left old fault ⊎ StopsThere offset bytes left fault)
