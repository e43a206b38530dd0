-- A file of chosen frames: blocks, an Info frame, the
-- frames with all main data repacked, and other blocks.
use Rattle.std.specs.List.{range_with_len}
use Rattle.std.specs.Prelude.{Bool, drop, false, filter, length, List, map, nat_lt, None, not}
use Rattle.std.specs.Prelude.{Option, replicate, Some, take, true, ℕ, [], ◌&&◌, ◌*◌, ◌+◌, ◌/◌}
use Rattle.frame_header.specs.{Fields.{ClassFields, SlotFields}, Tables.{class_of, length_of}}
use Rattle.frame_writer.specs.Frames.{Frame}
use Rattle.info_header.specs.FileInfo.{all_bytes, frames_length, has_one_rate, info_length}
use Rattle.info_header.specs.{Info.{info_in, seek_table_entry}, declared.fields.Info.Info}
use Rattle.laying.specs.LaidFiles.{block_bytes}
use Rattle.sync_survey.specs.{Faults.SurveyFields, declared.places.{Head.Head, Piece.Piece}}
use Rattle.tag_blocks.specs.declared.block.Kind.{Kind, TheVariants.Id3v2}

-- ---- blocks

-- a block of this kind is an ID3v2 block
abbrev pub is_id3v2_kind : Kind → Bool
is_id3v2_kind Id3v2 = true
is_id3v2_kind _ = false

-- an ID3v2 block that is before the first frame or the head
abbrev pub goes_in_front : SurveyFields → Piece → Bool
goes_in_front s p = is_id3v2_kind p.block.kind && nat_lt p.offset s.first

-- the bytes of the blocks that go before the frames
abbrev pub front_blocks : List ℕ → SurveyFields → List (List ℕ)
front_blocks file s = map (block_bytes file) (filter (goes_in_front s) s.blocks)

-- the bytes of all other blocks, in the order of the file
abbrev pub back_blocks : List ℕ → SurveyFields → List (List ℕ)
back_blocks file s = map (block_bytes file) (filter (λ p. not (goes_in_front s p)) s.blocks)

-- ---- the Info frame

-- the slot of a frame
abbrev pub slot_in : Frame → SlotFields
slot_in f = f.kept.header.slot

-- entry i of the seek table of an Info frame before these frames
abbrev pub table_entry : ClassFields → List Frame → ℕ → ℕ
table_entry c frames i = seek_table_entry (info_length c
    + frames_length c slot_in (take (i * length frames / 100) frames)) (all_bytes c slot_in frames)

-- the fields of the Info frame before these frames, with this quality and extension
abbrev pub info_for : ClassFields → List Frame → Option ℕ → List ℕ → Info
info_for c frames quality extension = record {
  vbr = not (has_one_rate c slot_in frames);
  frames = Some (length frames);
  bytes = Some (all_bytes c slot_in frames);
  table = Some (map (table_entry c frames) (range_with_len 0 100));
  quality = quality;
  extension = extension;
}

-- the fields of an Info frame without a quality, with an extension that is all 0
abbrev pub plain_info : ClassFields → List Frame → Info
plain_info c frames = info_for c frames None (replicate 36 0)

-- the fields of the head of a file, read from its text on; without a head no fields
unfoldable pub head_info : List ℕ → Option Head → Info
head_info file None = info_in []
head_info file (Some head) = info_in (drop head.text_at
    (take (length_of (class_of head.header) head.header.slot) (drop head.offset file)))
