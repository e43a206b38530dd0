-- A stream that is made from a number: frames whose main data are drawn from it and use the bit
-- reservoir (main_data_begin, ISO/IEC 11172-3, 2.4.2.7). The same number and count of frames give
-- the same bytes. All frames are MPEG-1, 128 kbit/s at 44,100 Hz in two channels, so 417 bytes long
-- with an own area of 381.
use Rattle.std.specs.List.{range_with_len}
use Rattle.std.specs.Prelude.{false, length, List, map, max, slice_index, suc, take, zero, ℕ, []}
use Rattle.std.specs.Prelude.{◌%◌, ◌*◌, ◌++◌, ◌+◌, ◌-◌, ◌/◌, ◌∷◌}
use Rattle.bit_fields.specs.Bits.{bits, bytes}
use Rattle.drill.specs.Draws.{draws, state_after}
use Rattle.frame_header.specs.{Fields.HeaderFields, declared.version.Version.TheVariants.One}
use Rattle.frame_writer.specs.{Frames.{bytes_of_frames, Frame}, Laid.zeros}
use Rattle.side_info.specs.{Granule.no_granule, Side.{no_side, payload_bits}}
use Rattle.side_info.specs.declared.{granule.Granule.Granule, side.Side.Side}

-- ---- one frame

-- the four bytes ff fb 90 00 (hexadecimal)
abbrev pub drill_header : HeaderFields
drill_header = record {
  version = One;
  protected = false;
  slot = record { rate_index = 9; padding = false };
  frequency_index = 0;
  private_bit = false;
  mode = 0;
  mode_extension = 0;
  copyright = false;
  original = false;
  emphasis = 0;
}

-- how many bytes there are for the main data of a frame: its own area, and the bytes before it that
-- its main_data_begin counts
abbrev pub drill_room : ℕ → ℕ
drill_room begin = 381 + begin

-- the part2_3_length of each granule and channel, at most twice the
-- bytes of room: together they are at most as many bits as the room has
abbrev pub drawn_lengths : ℕ → ℕ → List ℕ
drawn_lengths begin state = map (λ draw. draw % (2 * drill_room begin + 1)) (draws 4 state)

-- the global_gain of each granule and channel, from 100 to 199
abbrev pub drawn_gains : ℕ → List ℕ
drawn_gains state = map (λ draw. 100 + draw % 100) (draws 4 (state_after 4 state))

-- a granule with this length and this gain, all other fields 0
abbrev pub granule_with : ℕ → ℕ → Granule
granule_with bit_count gain = record no_granule { part2_3_length = bit_count; global_gain = gain }

-- granule i of these, counted through the channels of the first granule and then of the second
abbrev pub nth_drawn : List ℕ → List ℕ → ℕ → Granule
nth_drawn lengths gains i = granule_with (slice_index lengths i) (slice_index gains i)

-- the granules with these lengths and gains
abbrev pub granules_with : List ℕ → List ℕ → List (List Granule)
granules_with lengths gains =
    (nth_drawn lengths gains 0 ∷ nth_drawn lengths gains 1 ∷ [])
    ∷ (nth_drawn lengths gains 2 ∷ nth_drawn lengths gains 3 ∷ []) ∷ []

-- side information with this main_data_begin and these granules, all other fields 0
abbrev pub side_with : ℕ → List ℕ → List ℕ → Side
side_with begin lengths gains =
    record no_side { main_data_begin = begin; granules = granules_with lengths gains }

-- four draws are the lengths, four more the gains; all other fields except main_data_begin are 0
unfoldable pub drawn_side : ℕ → ℕ → Side
drawn_side begin state = side_with begin (drawn_lengths begin state) (drawn_gains state)

-- `count` draws as bytes, each from 00 to 3f (hexadecimal)
abbrev pub drawn_bytes : ℕ → ℕ → List ℕ
drawn_bytes count state = map (λ draw. draw % 64) (draws count state)

-- the first `count` bits of bytes, and zeros after them to the end of the last byte
abbrev pub first_bits : ℕ → List ℕ → List ℕ
first_bits count octets = bytes (take count (bits octets) ++ zeros (8 * length octets - count))

-- the main data, in as few bytes as hold these bits: a draw for each byte, the unused low bits of
-- the last one 0
unfoldable pub drawn_payload : ℕ → ℕ → List ℕ
drawn_payload bit_count state = first_bits bit_count (drawn_bytes ((bit_count + 7) / 8) state)

-- the length of the main data in bits
abbrev pub drawn_bits : ℕ → ℕ → ℕ
drawn_bits begin state = payload_bits (drawn_side begin state)

-- the frame: eight draws for its side information, and then one for each byte of its main data
abbrev pub drawn_frame : ℕ → ℕ → Frame
drawn_frame begin state = record {
  kept = record { header = drill_header; side = drawn_side begin state };
  payload = drawn_payload (drawn_bits begin state) (state_after 8 state);
}

-- how many draws a frame takes
abbrev pub draws_of : ℕ → ℕ → ℕ
draws_of begin state = 8 + (drawn_bits begin state + 7) / 8

-- ---- all frames

-- what is known before a frame: the state of the draws, and the place
-- among the bytes of all areas at which the main data before it end
pub record DrillState : Type 0 where
  pub state : ℕ
  pub ended : ℕ

-- the place where the own area of frame i begins
abbrev pub area_start : ℕ → ℕ
area_start i = 381 * i

-- where the main data of frame i begin: after those before them, but at most 511 bytes before its
-- own area
abbrev pub data_start : ℕ → DrillState → ℕ
data_start i b = max b.ended (area_start i - 511)

-- the main_data_begin of frame i
abbrev pub data_begin : ℕ → DrillState → ℕ
data_begin i b = area_start i - data_start i b

-- frame i, given what is known before it
abbrev pub next_drill_frame : ℕ → DrillState → Frame
next_drill_frame i b = drawn_frame (data_begin i b) b.state

-- what is known before the next frame
abbrev pub next_drill_state : ℕ → DrillState → DrillState
next_drill_state i b = record {
  state = state_after (draws_of (data_begin i b) b.state) b.state;
  ended = data_start i b + length (next_drill_frame i b).payload;
}

-- what is known before frame i
unfoldable pub drill_state_at : ℕ → ℕ → DrillState
drill_state_at seed zero = record { state = seed; ended = 0 }
drill_state_at seed (suc i) = next_drill_state i (drill_state_at seed i)

-- frame i
abbrev pub drill_frame_at : ℕ → ℕ → Frame
drill_frame_at seed i = next_drill_frame i (drill_state_at seed i)

-- the first `count` frames that a number gives
unfoldable pub drill_frames : ℕ → ℕ → List Frame
drill_frames seed count = map (drill_frame_at seed) (range_with_len 0 count)

-- their bytes: the main data of each where its main_data_begin says, and zeros everywhere else in
-- the areas
unfoldable pub drill_stream : ℕ → ℕ → List ℕ
drill_stream seed count = bytes_of_frames (drill_frames seed count)
