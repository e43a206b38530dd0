-- The fields of the Info frame of a file, from the slots of the frames after it.
use Rattle.std.specs.List.{list_all}
use Rattle.std.specs.Prelude.{Bool, length, List, None, not, replicate, slice_index, Some, sum_by}
use Rattle.std.specs.Prelude.{take, true, ℕ, [], ◌*◌, ◌+◌, ◌/◌, ◌<◌, ◌==◌, ◌∷◌, ◌≡◌}
use Rattle.frame_header.specs.{Fields.{ClassFields, SlotFields}, Tables.{length_of, rate_of}}
use Rattle.info_header.specs.{Info.seek_table_entry, InfoFrame.info_slot_of}
use Rattle.info_header.specs.declared.fields.Info.{Info}

-- the length of the Info frame in bytes
abbrev pub info_length : ClassFields → ℕ
info_length c = length_of c (info_slot_of c)

module _ {X : Type 0} (c : ClassFields) (slot_of : X → SlotFields) where
  -- the length of frames together, in bytes
  abbrev pub frames_length : List X → ℕ
  frames_length frames = sum_by (λ frame. length_of c (slot_of frame)) frames

  -- the bit rate of a frame in kbit/s
  abbrev pub bit_rate_of : X → ℕ
  bit_rate_of frame = rate_of c (slot_of frame)

  -- all frames have the bit rate of the first
  abbrev pub has_one_rate : List X → Bool
  has_one_rate [] = true
  has_one_rate (first ∷ frames) =
      list_all (λ frame. bit_rate_of frame == bit_rate_of first) (first ∷ frames)

  -- The seek table of n frames with `before` bytes before them, out of `all` bytes: entry i, from 0
  -- to 99, is the entry of frame i * n / 100, rounded down.
  abbrev pub IsTableOver : List X → ℕ → ℕ → List ℕ → Type 0
  IsTableOver frames before all table = (i : ℕ) → i < 100 → slice_index table i
      ≡ seek_table_entry (before + frames_length (take (i * length frames / 100) frames)) all

  -- the length of the file in bytes, from the Info frame's first to the last frame's last
  abbrev pub all_bytes : List X → ℕ
  all_bytes frames = info_length c + frames_length frames

  -- the fields of the Info frame before these frames, without a quality and an extension; the text
  -- is `Info` where all frames have one bit rate
  pub record IsInfoOver (frames : List X) (info : Info) : Type 0 where
    pub vbr : info.vbr ≡ not (has_one_rate frames)
    pub count : info.frames ≡ Some (length frames)
    pub bytes : info.bytes ≡ Some (all_bytes frames)
    pub table : List ℕ
    pub has_table : info.table ≡ Some table
    pub entries : IsTableOver frames (info_length c) (all_bytes frames) table
    pub quality : info.quality ≡ None
    pub extension : info.extension ≡ replicate 36 0
