-- A file read once from beginning to end and written with moved gains and with another tag.
pub use Rattle.moved_gains.specs.TagExtent.{row_end, row_length}
use Rattle.std.specs.Prelude.{drop, if◌then◌else◌, length, List, nat_le, None, Option, slice_get}
use Rattle.std.specs.Prelude.{Some, take, ℕ, [], ◌&&◌, ◌++◌, ◌+◌, ◌∷◌, ◌≡◌}
use Rattle.frame_header.specs.{Fields.ClassFields, Tables.{class_of, overhead_of}}
use Rattle.moved_gains.specs.{Change.FileChange, Gains.moved_side}
use Rattle.moved_gains.specs.{TagExtent.{tag_length, tag_offset}, declared.moving.NewTag.NewTag}
use Rattle.outside.specs.Pass.{bytes_between}
use Rattle.requests.specs.declared.shift.Steps.{Steps}
use Rattle.side_info.specs.Frame.{frame_with_side, side_in}
use Rattle.sync_survey.specs.{Faults.SurveyFields, Row.Row}

-- how many bytes of a frame are before its area: header, check word and side information
abbrev pub row_overhead : Row → ℕ
row_overhead row = overhead_of (class_of row.header) row.header.protected

-- the side information of the row is what the file has there
abbrev pub IsRowOf : List ℕ → Row → Type 0
IsRowOf file row = side_in row.header (drop row.offset file) ≡ row.side

-- the side information of each of these rows is what the file has there
abbrev pub AreRowsOf : List ℕ → List Row → Type 0
AreRowsOf file [] = Unit {0}
AreRowsOf file (row ∷ rows) = IsRowOf file row × AreRowsOf file rows

-- the rows are of frames of this class
abbrev pub AreFramesOfClass : ClassFields → List Row → Type 0
AreFramesOfClass class rows =
    (i : ℕ) (row : Row) → slice_get rows i ≡ Some row → class_of row.header ≡ class

-- the bytes of a frame, or its first bytes up to its area, with its gains moved; a lost frame stays
abbrev pub moved_bytes : Steps → Row → List ℕ → List ℕ
moved_bytes steps row bytes =
    if row.lost then bytes else frame_with_side row.header (moved_side steps row.side) bytes

-- the bytes of a frame of the file
abbrev pub row_bytes : List ℕ → Row → List ℕ
row_bytes file row = take (row_length row) (drop row.offset file)

-- the bytes of a frame of the file with its gains moved
abbrev pub moved_row_bytes : Steps → List ℕ → Row → List ℕ
moved_row_bytes steps file row = moved_bytes steps row (row_bytes file row)

-- the bytes of the file from one offset to another, with
-- the new tag instead of what it replaces among them
abbrev pub bytes_around : NewTag → ℕ → ℕ → List ℕ → List ℕ
bytes_around tag from to file =
    bytes_between file from tag.at ++ (tag.bytes.now ++ bytes_between file tag.end to)

-- the bytes from one offset to another, with the new tag if what it replaces is among them
abbrev pub copied_bytes : Option NewTag → List ℕ → ℕ → ℕ → List ℕ
copied_bytes None file from to = bytes_between file from to
copied_bytes (Some tag) file from to =
    if nat_le from tag.at && (nat_le tag.at tag.end && nat_le tag.end to)
    then bytes_around tag from to file else bytes_between file from to

-- The bytes of the file from an offset on, with the gains of these frames
-- moved, which come after it in order, each by the steps at its offset.
-- The new tag is among them if what it replaces is outside the frames.
unfoldable pub bytes_written_from : (ℕ → Steps) → Option NewTag → List ℕ → ℕ → List Row → List ℕ
bytes_written_from steps tag file at [] = copied_bytes tag file at (length file)
bytes_written_from steps tag file at (row ∷ rows) =
    copied_bytes tag file at row.offset ++ (moved_row_bytes (steps row.offset) file row
    ++ bytes_written_from steps tag file (row_end row) rows)

-- the new tag has these bytes, and replaces the file's
abbrev pub IsTagOf : SurveyFields → Option (List ℕ) → Option NewTag → Type 0
IsTagOf s None None = Unit {0}
IsTagOf s (Some bytes) (Some tag) =
    (tag.at ≡ tag_offset s) × (tag.end ≡ tag_offset s + tag_length s) × (tag.bytes.now ≡ bytes)
IsTagOf s _ _ = ⊥

-- the new tag is that of this change, and replaces the file's
abbrev pub IsNewTag : SurveyFields → FileChange → Option NewTag → Type 0
IsNewTag s change tag = IsTagOf s change.tag tag
