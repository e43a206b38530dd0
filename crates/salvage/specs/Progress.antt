-- How far a damaged file was read.
use Rattle.std.specs.Prelude.{IfSome, length, List, Some, ℕ, [], ◌++◌, ◌+◌, ◌<◌, ◌∷◌, ◌≡◌, ◌≤◌}
use Rattle.frame_header.specs.{Fields.{ClassFields, IsHeader}, Limits.most_frame_length}
use Rattle.frame_header.specs.Tables.{class_of}
use Rattle.outside.specs.Files.{Files, Holds}
use Rattle.salvage.specs.DamagedFiles.{damaged_from, DamagedFields, most_frames}
use Rattle.salvage.specs.{JudgedFrames.rows_left, KeptFrames.{AreKeptTo, AreKeptWell}}
use Rattle.salvage.specs.Walk.{blocks_of_things, first_frame, gaps_of, things}
use Rattle.salvage.specs.declared.{begun.Begun.Begun, found.DamagedSoFar.DamagedSoFar, gap.Gap.Gap}
use Rattle.sync_survey.specs.{Faults.longest_file, Items.size_of, Row.Row, Start.front_end_of}
use Rattle.sync_survey.specs.Survey.{BlocksAreLaid, FramesAreLaid, HasLength, IsWholeHead}
use Rattle.sync_survey.specs.{Walk.{head_of, IsFrameOf}, declared.items.Item.TheVariants.Frame}

-- the class of the first frame
abbrev pub begun_class : Begun → ClassFields
begun_class b = class_of b.start.first.header

-- a file begins as this says
pub record BeginsAsRead (file : List ℕ) (b : Begun) : Type 0 where
  pub front : b.start.front_end ≡ front_end_of file
  pub first : first_frame file b.start.front_end ≡ Some b.start.first
  pub head : b.head ≡ head_of file b.start.first

-- What is known of the name's file: its first frame is within its length, and is the head if there
-- is one; where the content of the file is known, its bytes begin as this says.
pub record IsBegunFile (files : Files) (name : List ℕ) (b : Begun) : Type 0 where
  pub known : HasLength files name b.size
  pub whole : b.start.first.offset + size_of (Frame b.start.first.header) ≤ b.size
  pub junk : b.start.front_end ≤ b.start.first.offset
  pub same : IfSome b.head (IsFrameOf b.start.first)
  pub told : (bytes : List ℕ) → Holds files name bytes → BeginsAsRead bytes b

-- all that is read of the file
abbrev pub whole_damaged : List ℕ → Begun → DamagedFields
whole_damaged file b = damaged_from file b.start.front_end b.start.first

-- what the code returns for a file that begins like this, if this was found in it
abbrev pub found_view : Begun → DamagedSoFar → DamagedFields
found_view b found = record {
  survey = record {
    frames = found.rows.items;
    blocks = found.pieces.items;
    head = b.head;
    junk = b.start.front_end;
    first = b.start.first.offset;
    class = begun_class b;
    length = b.size;
  };
  gaps = found.gaps.items;
}

-- what was found, and what the walk has left after it, are all that is read
pub record IsReadTo (file : List ℕ) (b : Begun) (found : DamagedSoFar) : Type 0 where
  pub rows : found.rows.items ++ rows_left file found.before (things file (begun_class b) found.at)
      ≡ (whole_damaged file b).survey.frames
  pub blocks : found.pieces.items ++ blocks_of_things (things file (begun_class b) found.at)
      ≡ (whole_damaged file b).survey.blocks
  pub gaps : found.gaps.items ++ gaps_of (things file (begun_class b) found.at)
      ≡ (whole_damaged file b).gaps

-- the name's file was read up to here
abbrev pub AreReadTo : Files → List ℕ → Begun → DamagedSoFar → Type 0
AreReadTo files name b found = (bytes : List ℕ) → Holds files name bytes → IsReadTo bytes b found

-- ---- what holds, whatever is known of the file

-- these gaps follow each other from one offset to another, and none is empty
abbrev pub GapsAreLaid : ℕ → List Gap → ℕ → Type 0
GapsAreLaid from [] to = from ≤ to
GapsAreLaid from (g ∷ gaps) to =
    (from ≤ g.offset) × (1 ≤ g.length) × GapsAreLaid (g.offset + g.length) gaps to

-- these frames have headers of the standard, and are of the class
abbrev pub RowsAreOfClass : ClassFields → List Row → Type 0
RowsAreOfClass class [] = Unit {0}
RowsAreOfClass class (r ∷ rows) =
    IsHeader r.header × (class_of r.header ≡ class) × RowsAreOfClass class rows

-- what was found is in order, before the offset that was reached
pub record IsLaidTo (b : Begun) (found : DamagedSoFar) : Type 0 where
  pub rows : FramesAreLaid b.start.first.offset found.rows.items found.at
  pub class : RowsAreOfClass (begun_class b) found.rows.items
  pub pieces : BlocksAreLaid 0 found.pieces.items found.at
  pub gaps : GapsAreLaid 0 found.gaps.items found.at
  pub low : found.before.place ≤ most_frame_length + found.at
  pub within : found.at ≤ b.size
  pub few : length found.rows.items ≤ most_frames
  pub kept : AreKeptTo b.head found.rows.items found.before

-- the name's file was read up to here, and what was found is in order
pub record IsDamagedReading (files : Files) (name : List ℕ) (b : Begun)
    (found : DamagedSoFar) : Type 0 where
  pub told : AreReadTo files name b found
  pub laid : IsLaidTo b found

-- a call takes the reading to a later offset
pub record ReadingAdvances (files : Files) (name : List ℕ) (b : Begun)
    (old new : DamagedSoFar) : Type 0 where
  pub reading : IsDamagedReading files name b new
  pub on : old.at < new.at

-- The junk is before the first frame; head, frames, blocks and gaps are in
-- order within the length; the frames are of the class, at least one and
-- not too many; and the main data that are kept are where they may be.
pub record IsDamagedLaidOut (d : DamagedFields) : Type 0 where
  pub junk : d.survey.junk ≤ d.survey.first
  pub first : d.survey.first ≤ d.survey.length
  pub head : IfSome d.survey.head (IsWholeHead d.survey.first d.survey.class d.survey.length)
  pub frames : FramesAreLaid d.survey.first d.survey.frames d.survey.length
  pub class : RowsAreOfClass d.survey.class d.survey.frames
  pub blocks : BlocksAreLaid 0 d.survey.blocks d.survey.length
  pub gaps : GapsAreLaid 0 d.gaps d.survey.length
  pub some : 0 < length d.survey.frames
  pub few : length d.survey.frames ≤ most_frames
  pub long : d.survey.length ≤ longest_file
  pub kept : AreKeptWell d.survey.head d.survey.frames
