-- The 36 bytes after the fields of an Info head, as LAME writes them (no standard has them): the
-- encoder's name and version, further fields of the encoder, and in the bytes 21 to 23 two numbers
-- of 12 bits, the encoder delay and the padding: how many samples the encoder put before the first
-- sample of its input and after the last.
use Rattle.std.specs.Prelude.{Bool, bytes_eq, codes, drop, if◌then◌else◌, List, nat_le, None}
use Rattle.std.specs.Prelude.{Option, replicate, slice_index, Some, take, ℕ, [], ◌%◌, ◌&&◌, ◌*◌}
use Rattle.std.specs.Prelude.{◌++◌, ◌+◌, ◌/◌, ◌||◌, ◌∷◌}
use Rattle.exact_span.specs.declared.extensions.HeadCounts.{HeadCounts}
use Rattle.info_header.specs.declared.fields.Info.{Info}

-- ---- what is read

-- the extension begins with the name of an encoder that counts: LAME, or a library of ffmpeg
unfoldable pub has_encoder : List ℕ → Bool
has_encoder extension =
    let text = take 4 extension in
    bytes_eq text (codes "LAME") || bytes_eq text (codes "Lavf") || bytes_eq text (codes "Lavc")

-- the delay: the upper 12 of the 24 bits in the bytes 21 to 23
abbrev pub delay_in : List ℕ → ℕ
delay_in extension = 16 * slice_index extension 21 + slice_index extension 22 / 16

-- the padding: the lower 12 of these bits
abbrev pub padding_in : List ℕ → ℕ
padding_in extension = 256 * (slice_index extension 22 % 16) + slice_index extension 23

-- what a head with this number of frames counts
abbrev pub counts_with_frames : Info → Option ℕ → Option HeadCounts
counts_with_frames info None = None
counts_with_frames info (Some frames) =
    if nat_le 1 frames && has_encoder info.extension
    then Some (record {
      frames = frames;
      delay = delay_in info.extension;
      padding = padding_in info.extension;
    })
    else None

-- What a head counts: a number of frames that isn't 0, delay and padding. It counts if it has such
-- a number and the name of such an encoder. No checksum is looked at. A file without a head counts
-- nothing.
abbrev pub counts_of : Option Info → Option HeadCounts
counts_of None = None
counts_of (Some info) = counts_with_frames info info.frames

-- ---- what is written

-- the name LAME, and 0 in all other bytes
abbrev pub plain_extension : List ℕ
plain_extension = codes "LAME" ++ replicate 32 0

-- the extension of the input if it has the name of an encoder that counts, otherwise the plain one
abbrev pub kept_extension : Option Info → List ℕ
kept_extension None = plain_extension
kept_extension (Some info) = if has_encoder info.extension then info.extension else plain_extension

-- two numbers of 12 bits in three bytes
abbrev pub three_bytes : ℕ → ℕ → List ℕ
three_bytes delay padding = delay / 16 ∷ (delay % 16 * 16 + padding / 256) ∷ padding % 256 ∷ []

-- The extension that is kept, with this delay and padding. The last eight bytes, music length,
-- music CRC and tag CRC, are 0.
unfoldable pub extension_of : Option Info → ℕ → ℕ → List ℕ
extension_of info delay padding =
    let old = kept_extension info in
    take 21 old ++ (three_bytes delay padding ++ (take 4 (drop 24 old) ++ replicate 8 0))
