-- What contracts see of a frame's header and side information.
use Rattle.std.specs.Prelude.{ℕ}
use Rattle.frame_header.specs.Fields.{HeaderFields}
use Rattle.side_info.specs.declared.side.Side.{Side}

-- the header of a frame and its side information
pub record FrameFields : Type 0 where
  pub header : HeaderFields
  pub side : Side

-- a header with the slot and the mode extension of another, the only header fields that change from
-- frame to frame in most streams
abbrev pub header_like : HeaderFields → HeaderFields → HeaderFields
header_like h other = record h { slot = other.slot; mode_extension = other.mode_extension }

-- the same fields with another main_data_begin
abbrev pub with_begin : FrameFields → ℕ → FrameFields
with_begin f begin = record f { side = record f.side { main_data_begin = begin } }
