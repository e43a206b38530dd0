-- Files into whose frames all main data were laid: blocks of tags, an Info frame,
-- the frames, and other blocks (ISO/IEC 11172-3 and 13818-3, 2.4.1 and 2.4.2.7).
use Rattle.std.specs.List.{concat}
use Rattle.std.specs.Prelude.{drop, false, IfSome, length, List, option_map, option_to_list}
use Rattle.std.specs.Prelude.{slice_index_or, Some, take, ℕ, [], ◌*◌, ◌++◌, ◌+◌, ◌-◌, ◌<◌, ◌∷◌, ◌≡◌}
use Rattle.bit_fields.specs.Bits.{AreBytes, bits}
use Rattle.frame_header.specs.Fields.{ClassFields, HeaderFields, IsHeader}
use Rattle.frame_header.specs.Tables.{class_of, length_of}
use Rattle.frame_writer.specs.Frames.{all_frame_data, bytes_of_frames, Frame}
use Rattle.frame_writer.specs.Laid.{CanDataBeLaid, zeros}
use Rattle.info_header.specs.{HeadText.low_offset, InfoFrame.{info_frame, info_header_of}}
use Rattle.info_header.specs.declared.fields.Info.{Info}
use Rattle.side_info.specs.{Side.{payload_bits, payload_bytes, SideFits}, declared.side.Side.Side}
use Rattle.sync_survey.specs.Faults.{SurveyFields}
use Rattle.sync_survey.specs.{MainData.{granule_lengths, no_slot, split_bits, StreamFrame}, Row.Row}
use Rattle.sync_survey.specs.declared.places.{Head.Head, Piece.Piece}
use Rattle.tag_blocks.specs.{Blocks.block_front, declared.block.Block.Block}

-- ---- what is in such a file

-- these are the bytes of one block
abbrev pub IsBlock : List ℕ → Type 0
IsBlock bytes = (block : Block) × (block_front bytes ≡ Some block) × (block.length ≡ length bytes)

-- each of these is the bytes of a block
abbrev pub AreBlocks : List (List ℕ) → Type 0
AreBlocks [] = Unit {0}
AreBlocks (b ∷ blocks) = IsBlock b × AreBlocks blocks

-- the bytes of a block of a file
abbrev pub block_bytes : List ℕ → Piece → List ℕ
block_bytes file p = take p.block.length (drop p.offset file)

-- the lists of side information have two granules of two channels
-- each, and scfsi has two channels, even if the class has fewer
pub record HasPairs (s : Side) : Type 0 where
  pub scfsi : length s.scfsi ≡ 2
  pub granules : length s.granules ≡ 2
  pub first : length (slice_index_or s.granules 0 []) ≡ 2
  pub second : length (slice_index_or s.granules 1 []) ≡ 2

-- a frame of the class and its main data, as many bytes as its
-- side information says, the last byte filled up with zeros
pub record IsStreamEntry (c : ClassFields) (f : Frame) : Type 0 where
  pub header : IsHeader f.kept.header
  pub class : class_of f.kept.header ≡ c
  pub pairs : HasPairs f.kept.side
  pub fits : SideFits c f.kept.side
  pub octets : AreBytes f.payload
  pub size : length f.payload ≡ payload_bytes f.kept.side
  pub filled : drop (payload_bits f.kept.side) (bits f.payload)
      ≡ zeros (8 * payload_bytes f.kept.side - payload_bits f.kept.side)

-- each of these is such a frame
abbrev pub AreStreamEntries : ClassFields → List Frame → Type 0
AreStreamEntries c [] = Unit {0}
AreStreamEntries c (f ∷ frames) = IsStreamEntry c f × AreStreamEntries c frames

-- what such a frame is in a stream
abbrev pub stream_entry : Frame → StreamFrame
stream_entry f = record {
  header = record f.kept.header { slot = no_slot };
  side = record f.kept.side { main_data_begin = 0 };
  payload = split_bits (granule_lengths f.kept.header f.kept.side)
      (take (payload_bits f.kept.side) (bits f.payload));
}

-- the seek table of an Info frame has 100 entries, if there is one, and the extension 36 bytes
pub record HasInfoSizes (info : Info) : Type 0 where
  pub table : IfSome info.table (λ table. length table ≡ 100)
  pub extension : length info.extension ≡ 36

-- ---- the file

-- blocks, an Info frame made from this header, the frames
-- with all main data laid into their areas, and blocks
unfoldable pub laid_file : List (List ℕ) → HeaderFields → Info → List Frame → List (List ℕ) → List ℕ
laid_file front first info frames back =
    concat front ++ (info_frame first info ++ (bytes_of_frames frames ++ concat back))

-- there are frames; they and the Info frame are of the
-- class, and the main data can be laid into their areas
pub record IsLaidFile (c : ClassFields) (front : List (List ℕ)) (first : HeaderFields) (info : Info)
    (frames : List Frame) (back : List (List ℕ)) : Type 0 where
  pub blocks_before : AreBlocks front
  pub header : IsHeader first
  pub class : class_of first ≡ c
  pub sizes : HasInfoSizes info
  pub some : 0 < length frames
  pub entries : AreStreamEntries c frames
  pub laid : CanDataBeLaid (all_frame_data frames)
  pub blocks_behind : AreBlocks back

-- ---- what a survey finds in it

-- the length of a frame in bytes
abbrev pub frame_length : Frame → ℕ
frame_length f = length_of (class_of f.kept.header) f.kept.header.slot

-- the rows of consecutive frames, the first of them at an offset; none is lost
abbrev pub rows_from : ℕ → List Frame → List Row
rows_from at [] = []
rows_from at (f ∷ frames) =
    record { offset = at; header = f.kept.header; side = f.kept.side; lost = false }
    ∷ rows_from (at + frame_length f) frames

-- consecutive blocks, the first of them at an offset
abbrev pub blocks_from : ℕ → List (List ℕ) → List Piece
blocks_from at [] = []
blocks_from at (b ∷ blocks) =
    option_to_list (option_map (λ block. record { offset = at; block = block }) (block_front b))
    ++ blocks_from (at + length b) blocks

-- the Info frame at an offset is a head; its text is right after its side information
abbrev pub head_at : ℕ → HeaderFields → Head
head_at at first = record {
  offset = at;
  header = info_header_of first;
  text_at = low_offset (info_header_of first);
}

-- the offset of the first frame after the Info frame
abbrev pub frames_offset : List (List ℕ) → HeaderFields → Info → ℕ
frames_offset front first info = length (concat front) + length (info_frame first info)

-- There is no junk, the Info frame is the head, and the frames and blocks are the given ones.
unfoldable pub laid_fields : List (List ℕ) → HeaderFields → Info → List Frame → List (List ℕ)
    → SurveyFields
laid_fields front first info frames back = record {
  frames = rows_from (frames_offset front first info) frames;
  blocks = blocks_from 0 front
      ++ blocks_from (frames_offset front first info + length (bytes_of_frames frames)) back;
  head = Some (head_at (length (concat front)) first);
  junk = length (concat front);
  first = length (concat front);
  class = class_of first;
  length = length (laid_file front first info frames back);
}
