-- The extent of the tag of a file (its first APEv2 block), and the file with another tag instead.
use Rattle.std.specs.List.{find}
use Rattle.std.specs.Prelude.{Bool, drop, false, filter, if◌then◌else◌, length, List, map, nat_le}
use Rattle.std.specs.Prelude.{nat_lt, None, Option, option_map, slice_get, Some, take, true, ℕ, []}
use Rattle.std.specs.Prelude.{◌++◌, ◌+◌, ◌-◌, ◌==◌, ◌∷◌, ◌≡◌, ◌⊎◌}
use Rattle.frame_header.specs.Tables.{class_of, length_of}
use Rattle.sync_survey.specs.{Faults.SurveyFields, Row.Row, declared.places.Head.Head}
use Rattle.sync_survey.specs.declared.places.Piece.{Piece}
use Rattle.tag_blocks.specs.{Blocks.block_front, declared.block.Kind.Kind}
use Rattle.tag_blocks.specs.declared.block.Kind.TheVariants.{Ape, Id3v1, Id3v2}

-- ---- where the tag is

-- the block is an APEv2 tag
abbrev pub is_tag : Piece → Bool
is_tag piece = is_ape piece.block.kind
  where
    is_ape : Kind → Bool
    is_ape Id3v2 = false
    is_ape Id3v1 = false
    is_ape Ape = true

-- the tag's block: the first APEv2 block of the file, if there is one
abbrev pub tag_block : SurveyFields → Option Piece
tag_block s = find is_tag s.blocks

-- the length of a frame in bytes
abbrev pub row_length : Row → ℕ
row_length row = length_of (class_of row.header) row.header.slot

-- the offset at which a frame ends
abbrev pub row_end : Row → ℕ
row_end row = row.offset + row_length row

-- where the last of these frames ends
abbrev pub last_end : List Row → ℕ
last_end rows = end_of (slice_get rows (length rows - 1))
  where
    end_of : Option Row → ℕ
    end_of None = 0
    end_of (Some r) = row_end r

-- the offset of the tag, or the one for a new tag: right after the last frame
abbrev pub tag_offset : SurveyFields → ℕ
tag_offset s = place_of s.frames (tag_block s)
  where
    place_of : List Row → Option Piece → ℕ
    place_of rows (Some b) = b.offset
    place_of rows None = last_end rows

-- the length of the tag in bytes, 0 if there is none
abbrev pub tag_length : SurveyFields → ℕ
tag_length s = length_in (tag_block s)
  where
    length_in : Option Piece → ℕ
    length_in (Some b) = b.block.length
    length_in None = 0

-- ---- another tag

-- no bytes, or those of one APEv2 block
abbrev pub IsTagBytes : List ℕ → Type 0
IsTagBytes bytes =
    (bytes ≡ []) ⊎ (block_front bytes ≡ Some (record { kind = Ape; length = length bytes }))

-- the file with these bytes instead of its tag
unfoldable pub file_with_tag : List ℕ → SurveyFields → List ℕ → List ℕ
file_with_tag bytes s file =
    take (tag_offset s) file ++ (bytes ++ drop (tag_offset s + tag_length s) file)

-- ---- what a survey finds in that file

-- the new offset of what is at an offset of the file, if the new
-- tag has n bytes: what was after the tag follows the new one
abbrev pub retagged_offset : ℕ → SurveyFields → ℕ → ℕ
retagged_offset n s at = if nat_lt at (tag_offset s) then at else at - tag_length s + n

-- a frame at its new offset
abbrev pub retagged_row : ℕ → SurveyFields → Row → Row
retagged_row n s r = record r { offset = retagged_offset n s r.offset }

-- a head at its new offset
abbrev pub retagged_head : ℕ → SurveyFields → Head → Head
retagged_head n s head = record head { offset = retagged_offset n s head.offset }

-- a block at its new offset
abbrev pub retagged_piece : ℕ → SurveyFields → Piece → Piece
retagged_piece n s piece = record piece { offset = retagged_offset n s piece.offset }

-- the block of the new tag, if it has bytes
abbrev pub new_blocks : ℕ → SurveyFields → List Piece
new_blocks n s = if n == 0 then []
    else record { offset = tag_offset s; block = record { kind = Ape; length = n } } ∷ []

-- the block is before the tag
abbrev pub stands_before : SurveyFields → Piece → Bool
stands_before s piece = nat_lt piece.offset (tag_offset s)

-- the block is after the tag
abbrev pub stands_behind : SurveyFields → Piece → Bool
stands_behind s piece = nat_le (tag_offset s + tag_length s) piece.offset

-- What a survey finds in the file once its tag has n bytes: the same frames, head and
-- blocks at their new offsets, and the new block among the others where the old one was.
unfoldable pub retagged_fields : ℕ → SurveyFields → SurveyFields
retagged_fields n s = record {
  frames = map (retagged_row n s) s.frames;
  blocks = filter (stands_before s) s.blocks
      ++ (new_blocks n s ++ map (retagged_piece n s) (filter (stands_behind s) s.blocks));
  head = option_map (retagged_head n s) s.head;
  junk = retagged_offset n s s.junk;
  first = retagged_offset n s s.first;
  class = s.class;
  length = s.length - tag_length s + n;
}
