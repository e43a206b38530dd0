-- The positions of a file that are played. A file of n frames after its head has n times 1,152
-- positions (576 in MPEG-2 and MPEG-2.5; ISO/IEC 11172-3 and 13818-3, 2.4.2.1), each a sample that
-- a decoder outputs for each channel. Position x is in frame x / 1152 (or 576), and in granule x /
-- 576.
use Rattle.std.specs.Prelude.{if◌then◌else◌, min, nat_lt, None, Option, option_map, Some, ℕ, ◌*◌}
use Rattle.std.specs.Prelude.{◌+◌, ◌-◌, ◌≤◌}
use Rattle.exact_span.specs.{Extensions.counts_of, declared.extensions.HeadCounts.HeadCounts}
use Rattle.exact_span.specs.declared.played.Played.{Played}
use Rattle.frame_header.specs.{Fields.ClassFields, Tables.samples_of}
use Rattle.info_header.specs.declared.fields.Info.{Info}

-- how many samples a frame has in each channel
abbrev pub samples_in : ClassFields → ℕ
samples_in class = samples_of class.version

-- the delay of a decoder in samples, as players reckon it; no document says so, DECISIONS has what
-- was found
abbrev pub decoder_delay : ℕ
decoder_delay = 529

-- Where the played positions end: with the last frame or, where the head counts at least as many
-- frames as there are, `padding` - `decoder_delay` positions before the end of the frames that it
-- counts, if that is earlier.
abbrev pub counted_end : ℕ → ℕ → HeadCounts → ℕ
counted_end samples frames counts =
    if nat_lt counts.frames frames then frames * samples
    else min (frames * samples) (counts.frames * samples + decoder_delay - counts.padding)

-- the positions that a head counts: after its delay and the decoder's, up to its padding
abbrev pub counted_played : ℕ → ℕ → HeadCounts → Played
counted_played samples frames counts = record {
  start = counts.delay + decoder_delay;
  end = counted_end samples frames counts;
}

-- the positions that a head counts, or all
abbrev pub played_or_all : ℕ → ℕ → Option HeadCounts → Played
played_or_all samples frames None = record { start = 0; end = frames * samples }
played_or_all samples frames (Some counts) = counted_played samples frames counts

-- the played positions of a file with this head and this many frames: the positions that the head
-- counts, or all where it counts nothing
unfoldable pub played_of : Option Info → ClassFields → ℕ → Played
played_of info class frames = played_or_all (samples_in class) frames (counts_of info)

-- how many positions are played
abbrev pub length_of_played : Played → ℕ
length_of_played played = played.end - played.start

-- the positions that the head counts, if it counts
unfoldable pub counted_positions : Option Info → ClassFields → ℕ → Option Played
counted_positions info class frames =
    option_map (counted_played (samples_in class) frames) (counts_of info)

-- how many positions of `frames` frames are after the last played one
abbrev pub rest_of : ClassFields → ℕ → Played → ℕ
rest_of class frames played = frames * samples_in class - played.end

-- the greatest delay that fits in 12 bits, plus the decoder's
abbrev pub latest_start : ℕ
latest_start = 4624

-- the greatest padding that fits in 12 bits, less the decoder's delay
abbrev pub longest_rest : ℕ
longest_rest = 3566

-- positions that a head counts for `frames` frames: they begin after the decoder's delay, with at
-- most as many positions before and after them as 12 bits allow
pub record AreCounted (class : ClassFields) (frames : ℕ) (played : Played) : Type 0 where
  pub late : decoder_delay ≤ played.start
  pub start : played.start ≤ latest_start
  pub rest : rest_of class frames played ≤ longest_rest
