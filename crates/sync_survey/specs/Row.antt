-- What contracts see of a frame of the stream (ISO/IEC 11172-3 and 13818-3, 2.4.1).
use Rattle.std.specs.Prelude.{Bool, ℕ}
use Rattle.frame_header.specs.Fields.{HeaderFields}
use Rattle.side_info.specs.declared.side.Side.{Side}

-- the offset of its header in bytes, its header, whether it is lost, and its side information,
-- which is what is in the file even if the frame is lost
pub record Row : Type 0 where
  pub offset : ℕ
  pub header : HeaderFields
  pub lost : Bool
  pub side : Side
