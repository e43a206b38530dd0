-- What a survey of a file of a folder returns.
use Rattle.std.specs.Prelude.{Err, false, IfSome, if◌then◌else◌, length, List, nat_lt, Ok, OnOk}
use Rattle.std.specs.Prelude.{Option, Result, slice_get, Some, ℕ, [], ◌+◌, ◌<◌, ◌∷◌, ◌≡◌, ◌≤◌}
use Rattle.bit_fields.specs.Bits.{AreBytes}
use Rattle.frame_header.specs.{Fields.{ClassFields, IsHeader}, Tables.{class_of, length_of}}
use Rattle.outside.specs.Counts.{Counts, EndedAt, HappenedTo, NothingFailed, OnlyReads}
use Rattle.outside.specs.Feed.{Fed, IsFedFrom}
use Rattle.outside.specs.{Files.{Files, Holds, is_told, IsFileMissing, IsFileThere}, Seen.Seen}
use Rattle.side_info.specs.Side.{SideFits}
use Rattle.sync_survey.specs.Faults.{data_faults, fault_offset, faults_from, longest_file}
use Rattle.sync_survey.specs.{Faults.{NoneBefore, survey_fields, SurveyFields}, Items.size_of}
use Rattle.sync_survey.specs.{MainData.{data_end_before, is_lost, place}, Row.Row, Start.start_of}
use Rattle.sync_survey.specs.SurveyFaultKinds.{by_kind, HasRightNumbers, InputKind, IsRefused}
use Rattle.sync_survey.specs.{SurveyFaultKinds.{kind_of, shrunk_end}, Walk.head_of}
use Rattle.sync_survey.specs.declared.{items.Item.TheVariants.Frame, places.Head.Head}
use Rattle.sync_survey.specs.declared.places.{Piece.Piece, PlacedFrame.PlacedFrame, Start.Start}
use Rattle.sync_survey.specs.declared.survey_fault.SurveyFault.{SurveyFault, TheVariants.TooLong}

-- the survey of a file with these bytes, or why there is none: it is too long, or its first fault
unfoldable pub survey_of : List ℕ → ℕ → Result SurveyFields SurveyFault
survey_of file allowed =
    if nat_lt longest_file (length file) then Err (TooLong (length file))
    else survey_fields file allowed

-- where the content of the name's file is known, this is its survey
abbrev pub IsSurveyOf : List ℕ → Files → ℕ → SurveyFields → Type 0
IsSurveyOf name files allowed s =
    (bytes : List ℕ) → Holds files name bytes → survey_of bytes allowed ≡ Ok s

-- where its content is known, it consists of bytes
abbrev pub HoldsOctets : List ℕ → Files → Type 0
HoldsOctets name files = (bytes : List ℕ) → Holds files name bytes → AreBytes bytes

-- where its content is known, no fault of its bytes is before this one
abbrev pub IsFirstFault : List ℕ → Files → ℕ → SurveyFault → Type 0
IsFirstFault name files allowed fault =
    (bytes : List ℕ) → Holds files name bytes → (start : Start) → start_of bytes ≡ Ok start
    → NoneBefore (fault_offset fault) (faults_from bytes allowed start)

-- ---- refusals

-- the file is there, its bytes are refused with this fault, and nothing is counted
pub record RefusesBytes (name : List ℕ) (files : Files) (allowed : ℕ) (before after : Counts)
    (fault : SurveyFault) : Type 0 where
  pub there : IsFileThere files name
  pub bytes : (bytes : List ℕ) → Holds files name bytes → survey_of bytes allowed ≡ Err fault
  pub counts : after ≡ before

-- the content of the file isn't known, a read of it at this offset returned no byte, and no call
-- failed
pub record HasShrunk (name : List ℕ) (place : ℕ) (files : Files)
    (before after : Counts) : Type 0 where
  pub nothing_told : is_told files ≡ false
  pub ended : EndedAt name place before.ends after.ends
  pub counts : NothingFailed before after

-- the file is there and isn't too long, so memory is needed, and nothing is counted
pub record AsksForMemory (name : List ℕ) (files : Files) (before after : Counts) : Type 0 where
  pub there : IsFileThere files name
  pub few : (bytes : List ℕ) → Holds files name bytes → length bytes ≤ longest_file
  pub counts : after ≡ before

-- why a file isn't read, by the fault's kind: it isn't there, could not be read, became shorter and
-- ended at this offset, memory ran out, or it is refused
abbrev pub IsUnreadBy : List ℕ → Files → Counts → Counts → ℕ → Type 0 → InputKind → Type 0
IsUnreadBy name files before after place refused kind = by_kind
    (record {
      absent = IsFileMissing files name × HappenedTo name before.misses after.misses;
      unread = HappenedTo name before.read_faults after.read_faults;
      shorter = HasShrunk name place files before after;
      too_much = AsksForMemory name files before after;
      refused = refused;
    })
    kind

-- why there is no survey
abbrev pub IsSurveyFaultBy : List ℕ → Files → ℕ → Counts → Counts → SurveyFault → InputKind → Type 0
IsSurveyFaultBy name files allowed before after fault kind = IsUnreadBy name files before after
    (shrunk_end fault) (RefusesBytes name files allowed before after fault) kind

-- why there is no survey, given the fault
abbrev pub IsSurveyFault : List ℕ → Files → ℕ → Counts → Counts → SurveyFault → Type 0
IsSurveyFault name files allowed before after fault =
    IsSurveyFaultBy name files allowed before after fault (kind_of fault)

-- why there is no survey, given the fault, with the right numbers
pub record IsSurveyRefusal (name : List ℕ) (files : Files) (allowed : ℕ) (before after : Counts)
    (fault : SurveyFault) : Type 0 where
  pub cause : IsSurveyFault name files allowed before after fault
  pub numbers : HasRightNumbers fault

-- the file is refused with this fault, whatever number of frames is allowed
abbrev pub IsEarlyRefusal : List ℕ → Seen → Seen → SurveyFault → Type 0
IsEarlyRefusal name old new fault =
    (allowed : ℕ) → IsSurveyRefusal name old.files allowed old.counts new.counts fault

-- if the fault refuses the name's file, it is the fault of its length
abbrev pub IsLengthFault : List ℕ → Files → SurveyFault → Type 0
IsLengthFault name files fault = kind_of fault ≡ IsRefused → (bytes : List ℕ)
    → Holds files name bytes → fault ≡ TooLong (length bytes)

-- ---- what is known of the file while it is read

-- where the content of the name's file is known, this is the head that its frame is
abbrev pub IsHeadOf : List ℕ → Files → PlacedFrame → Option Head → Type 0
IsHeadOf name files p o = (bytes : List ℕ) → Holds files name bytes → o ≡ head_of bytes p

-- the name is there, with this length where its content is known, and the length isn't too great
pub record HasLength (files : Files) (name : List ℕ) (size : ℕ) : Type 0 where
  pub there : IsFileThere files name
  pub long : (bytes : List ℕ) → Holds files name bytes → size ≡ length bytes
  pub few : size ≤ longest_file

-- a frame is whole within `size` bytes, at an offset from `from` on
pub record IsWholeFrom (from size : ℕ) (p : PlacedFrame) : Type 0 where
  pub behind : from ≤ p.offset
  pub within : p.offset + size_of (Frame p.header) ≤ size

-- What a call that reads the name's file by a feed leaves: the files are unchanged, and the feed is
-- fed from them; only reads are counted, and nothing if it succeeds.
pub record ReadsBy {T : Type 0} (feed : Fed) (name : List ℕ) (result : Result T SurveyFault)
    (old new : Seen) : Type 0 where
  pub done : OnOk result (new.counts ≡ old.counts)
  pub fed : IsFedFrom feed new.files name
  pub files : new.files ≡ old.files
  pub counts : OnlyReads old.counts new.counts

-- ---- what every survey says, whether or not the content of the files is known

-- these frames follow each other from one offset to another, and their side fields are within their
-- bits
abbrev pub FramesAreLaid : ℕ → List Row → ℕ → Type 0
FramesAreLaid from [] to = from ≤ to
FramesAreLaid from (r ∷ rows) to = (from ≤ r.offset) × SideFits (class_of r.header) r.side
    × FramesAreLaid (r.offset + length_of (class_of r.header) r.header.slot) rows to

-- these blocks follow each other from one offset to another
abbrev pub BlocksAreLaid : ℕ → List Piece → ℕ → Type 0
BlocksAreLaid from [] to = from ≤ to
BlocksAreLaid from (b ∷ blocks) to =
    (from ≤ b.offset) × BlocksAreLaid (b.offset + b.block.length) blocks to

-- frame i of a stream of this class: its header is one of the standard and of the class, its side
-- fields are within their bits, its main data have no fault, and it is marked exactly if it is lost
pub record IsWellPlaced (head : Option Head) (class : ClassFields) (rows : List Row) (i : ℕ)
    (r : Row) : Type 0 where
  pub known : IsHeader r.header
  pub class_is : class_of r.header ≡ class
  pub fits : SideFits class r.side
  pub mark : r.lost ≡ is_lost head rows i r
  pub sound : data_faults (place head rows i) (data_end_before head rows i) r ≡ []

-- each of these frames is well placed
abbrev pub AreWellPlaced : Option Head → ClassFields → List Row → Type 0
AreWellPlaced head class rows =
    (i : ℕ) (r : Row) → slice_get rows i ≡ Some r → IsWellPlaced head class rows i r

-- a head begins where the first frame does, is of the class, and is within the length
pub record IsWholeHead (first : ℕ) (class : ClassFields) (length : ℕ) (head : Head) : Type 0 where
  pub place : head.offset ≡ first
  pub class_is : class_of head.header ≡ class
  pub within : head.offset + length_of (class_of head.header) head.header.slot ≤ length

-- the junk ends where the first frame begins, there is a frame
-- besides the head, and head, frames and blocks are within the length
pub record IsSurveyLaidOut (s : SurveyFields) : Type 0 where
  pub junk : s.junk ≤ s.first
  pub first : s.first ≤ s.length
  pub head : IfSome s.head (IsWholeHead s.first s.class s.length)
  pub some : 0 < length s.frames
  pub frames : FramesAreLaid s.first s.frames s.length
  pub blocks : BlocksAreLaid 0 s.blocks s.length
  pub few : s.length ≤ longest_file
  pub placed : AreWellPlaced s.head s.class s.frames

-- where the content of the name's file is known, this is its survey; and known or not, all is laid
-- out, and there are no more frames than allowed
pub record IsWholeSurvey (name : List ℕ) (files : Files) (allowed : ℕ)
    (s : SurveyFields) : Type 0 where
  pub exact : IsSurveyOf name files allowed s
  pub laid : IsSurveyLaidOut s
  pub few : length s.frames ≤ allowed
