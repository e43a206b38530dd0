-- What repacking frames requires of the survey of a file: that its frames and
-- blocks are whole in the file, and that the main data of each frame are within
-- the areas. The survey of a file without fault meets this (`SurveysCanBeRelaid`),
-- and so does the survey of what can be read of a damaged file.
use Rattle.std.specs.Prelude.{length, List, map, None, Option, Some, ℕ, [], ◌+◌, ◌∷◌, ◌≡◌, ◌≤◌}
use Rattle.frame_header.specs.{Fields.{HeaderFields, IsHeader}, Tables.{class_of, length_of}}
use Rattle.laying.specs.LaidFiles.{AreBlocks, block_bytes, HasPairs}
use Rattle.sync_survey.specs.{Faults.SurveyFields, Row.Row, Survey.AreWellPlaced}
use Rattle.sync_survey.specs.declared.places.Head.{Head}

-- a frame with this header is whole in the file at the offset
pub record IsWholeFrameAt (file : List ℕ) (offset : ℕ) (h : HeaderFields) : Type 0 where
  pub header : IsHeader h
  pub within : offset + length_of (class_of h) h.slot ≤ length file

-- the head, if there is one, is such a frame
abbrev pub HasWholeHead : List ℕ → Option Head → Type 0
HasWholeHead file None = Unit {0}
HasWholeHead file (Some head) = IsWholeFrameAt file head.offset head.header

-- a frame of the survey is such a frame, and its side information has pairs
pub record IsWholeRow (file : List ℕ) (r : Row) : Type 0 where
  pub frame : IsWholeFrameAt file r.offset r.header
  pub pairs : HasPairs r.side

-- each frame is whole in the file
abbrev pub AreWholeRows : List ℕ → List Row → Type 0
AreWholeRows file [] = Unit {0}
AreWholeRows file (r ∷ rows) = IsWholeRow file r × AreWholeRows file rows

-- The length is the file's; the head, the frames and the blocks are whole in it; the frames are
-- of one class, their side fields are within their bits, and their main data have no fault.
pub record CanBeRelaid (file : List ℕ) (s : SurveyFields) : Type 0 where
  pub long : length file ≡ s.length
  pub head : HasWholeHead file s.head
  pub rows : AreWholeRows file s.frames
  pub placed : AreWellPlaced s.head s.class s.frames
  pub blocks : AreBlocks (map (block_bytes file) s.blocks)
