-- What the bytes of a frame say before its header is read (ISO/IEC 11172-3 and 13818-3, 2.4.1.3).
use Rattle.std.specs.Prelude.{Bool, if◌then◌else◌, List, not, slice_index, ℕ, ◌%◌, ◌&&◌, ◌/◌, ◌==◌}
use Rattle.std.specs.Prelude.{◌||◌}
use Rattle.frame_header.specs.{Tables.length_of, declared.version.Version.Version}
use Rattle.frame_header.specs.declared.version.Version.TheVariants.{One, Two, TwoFive}

-- the version that two bits stand for
abbrev pub raw_version : ℕ → Version
raw_version bits = if bits == 3 then One else (if bits == 2 then Two else TwoFive)

-- the length in bytes of a frame whose header has these second and third bytes
unfoldable pub raw_frame_length : ℕ → ℕ → ℕ
raw_frame_length second third =
    length_of (record {
      version = raw_version (second / 8 % 4);
      frequency_index = third / 4 % 4;
      channels = 2;
    })
    (record { rate_index = third / 16; padding = third / 2 % 2 == 1 })

-- the number of channels that the fourth byte of a header stands for
abbrev pub raw_channels : ℕ → ℕ
raw_channels fourth = if fourth / 64 == 3 then 1 else 2

-- the third byte of a header has the bit rate index of a frame
abbrev pub has_raw_rate : ℕ → Bool
has_raw_rate third = not (third / 16 == 0) && not (third / 16 == 15)

-- A header of the same class as another may be at the front of these bytes: a sync word, the
-- version, layer and sampling frequency of the other, a bit rate index of a frame, and as many
-- channels.
unfoldable pub may_follow_header : List ℕ → List ℕ → Bool
may_follow_header own next =
    (slice_index next 0 == 255) && (slice_index next 1 / 2 == slice_index own 1 / 2)
    && (slice_index next 2 / 4 % 4 == slice_index own 2 / 4 % 4)
    && has_raw_rate (slice_index next 2)
    && (raw_channels (slice_index next 3) == raw_channels (slice_index own 3))

-- a block may begin with these three bytes: with `ID3`, `TAG` or `APE`
abbrev pub may_begin_block : ℕ → ℕ → ℕ → Bool
may_begin_block first second third =
    if first == 73 then (second == 68) && (third == 51) else (if first == 84
    then (second == 65) && (third == 71) else ((first == 65) && ((second == 80) && (third == 69))))

-- the size in bytes of the side information of a frame whose header has these second and fourth
-- bytes
abbrev pub raw_side_size : ℕ → ℕ → ℕ
raw_side_size second fourth =
    if second / 8 % 4 == 3 then (if raw_channels fourth == 1 then 17 else 32)
    else (if raw_channels fourth == 1 then 9 else 17)

-- `Xing` or `Info` may begin with this byte
abbrev pub may_begin_text : ℕ → Bool
may_begin_text first = (first == 88) || (first == 73)
