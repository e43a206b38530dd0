-- Heard positions: the played positions of a file whose frames are written again, where they are in
-- what is written, and the delay and the padding with which a player plays them.
use Rattle.std.specs.Prelude.{flat_map, if◌then◌else◌, List, max, min, nat_le, nat_lt, None, Option}
use Rattle.std.specs.Prelude.{Some, ℕ, [], ◌&&◌, ◌*◌, ◌+◌, ◌-◌, ◌∷◌}
use Rattle.exact_span.specs.PlayedPositions.{decoder_delay, samples_in}
use Rattle.exact_span.specs.declared.{played.Played.Played, written.Heard.Heard}
use Rattle.exact_span.specs.declared.written.WrittenFrames.{WrittenFrames}
use Rattle.frame_header.specs.Fields.{ClassFields}

-- ---- frames that are written one after another

-- the first position of these frames that may be heard: the first that is played, or that of the
-- first of these frames if that is later
abbrev pub first_in : ℕ → Played → WrittenFrames → ℕ
first_in samples played written = max played.start (written.from * samples)

-- the position after the last of these frames that may be heard: where the played ones end, or
-- these frames if they end earlier
abbrev pub end_in : ℕ → Played → WrittenFrames → ℕ
end_in samples played written = min played.end (written.to * samples)

-- where a position of these frames is in what is written
abbrev pub place_in : ℕ → WrittenFrames → ℕ → ℕ
place_in samples written position = written.at * samples + (position - written.from * samples)

-- where the played positions of these frames are in what is written, if there are any
abbrev pub heard_in : ℕ → Played → WrittenFrames → List Heard
heard_in samples played written =
    if nat_lt (first_in samples played written) (end_in samples played written)
    then (record {
      first = place_in samples written (first_in samples played written);
      end = place_in samples written (end_in samples played written);
    }) ∷ [] else []

-- ---- all of them

-- where the last of these ends, or `end` if there is none
abbrev pub end_of_last : ℕ → List Heard → ℕ
end_of_last end [] = end
end_of_last end (heard ∷ others) = end_of_last heard.end others

-- from the beginning of the first of these to the end of the last, if there are any
unfoldable pub first_to_last : List Heard → Option Heard
first_to_last [] = None
first_to_last (heard ∷ others) =
    Some (record { first = heard.first; end = end_of_last heard.end others })

-- from the beginning of some to the end of others that are after them, if there are any of both
abbrev pub joined_heard : Option Heard → Option Heard → Option Heard
joined_heard None others = others
joined_heard (Some heard) None = Some heard
joined_heard (Some heard) (Some others) = Some (record { first = heard.first; end = others.end })

-- Where the heard positions are in what is written, from the first to the last, if there are any:
-- those positions of the file that are played and whose frames are written.
unfoldable pub heard_of : ClassFields → Played → List WrittenFrames → Option Heard
heard_of class played written =
    first_to_last (flat_map (heard_in (samples_in class) played) written)

-- ---- delay and padding

-- the delay to be written: the positions before the first heard one, less what players add; no
-- delay says less than 0
abbrev pub heard_delay : Heard → ℕ
heard_delay heard = heard.first - decoder_delay

-- the padding to be written: the positions of the frames after the last heard one, plus what
-- players take off
abbrev pub heard_padding : ClassFields → ℕ → Heard → ℕ
heard_padding class frames heard = frames * samples_in class - heard.end + decoder_delay

-- two numbers, if both have at most 12 bits
abbrev pub if_in_12_bits : ℕ → ℕ → Option (ℕ × ℕ)
if_in_12_bits delay padding =
    if nat_le delay 4095 && nat_le padding 4095 then Some (delay, padding) else None

-- the delay and the padding with which players play the heard positions of `frames` frames that are
-- written, if both have at most 12 bits
unfoldable pub heard_numbers : ClassFields → ℕ → Heard → Option (ℕ × ℕ)
heard_numbers class frames heard =
    if_in_12_bits (heard_delay heard) (heard_padding class frames heard)
