-- Where the main data of the frames are in the file (main_data_begin, ISO/IEC 11172-3 and 13818-3,
-- 2.4.2.7). The areas of the head and of all frames, joined in order, are the main data of the
-- file. A frame's own main data begin main_data_begin bytes before its own area, counting bytes of
-- areas alone.
use Rattle.std.specs.List.{enumerate_from}
use Rattle.std.specs.Prelude.{Bool, drop, false, flat_map, if◌then◌else◌, List, map, nat_lt, None}
use Rattle.std.specs.Prelude.{Option, slice_get, Some, suc, sum_by, take, zero, ℕ, [], ◌&&◌, ◌*◌}
use Rattle.std.specs.Prelude.{◌++◌, ◌+◌, ◌-◌, ◌==◌, ◌||◌, ◌∷◌}
use Rattle.bit_fields.specs.Bits.{bits}
use Rattle.frame_header.specs.Fields.{HeaderFields, SlotFields}
use Rattle.frame_header.specs.Tables.{area_of, class_of, overhead_of}
use Rattle.side_info.specs.{Frame.side_in, Side.{granules_in, no_side, payload_bits, payload_bytes}}
use Rattle.side_info.specs.declared.{granule.Granule.Granule, side.Side.Side}
use Rattle.sync_survey.specs.{Row.Row, declared.places.{Head.Head, PlacedFrame.PlacedFrame}}

-- ---- frames with their side information

-- a frame with the side information in these bytes, which begin with the frame's own; whether it is
-- lost depends on the frames before it (`marked_rows` below)
abbrev pub row_in : ℕ → HeaderFields → List ℕ → Row
row_in offset h bytes = record { offset = offset; header = h; side = side_in h bytes; lost = false }

-- a frame of the file with its side information
abbrev pub row_of : List ℕ → PlacedFrame → Row
row_of file p = row_in p.offset p.header (drop p.offset file)

-- these frames of the file, each with its side information
abbrev pub rows_of : List ℕ → List PlacedFrame → List Row
rows_of file ps = map (row_of file) ps

-- ---- places

-- the length in bytes of the area of a frame with this header
abbrev pub own_area : HeaderFields → ℕ
own_area h = area_of (class_of h) h.slot h.protected

-- the length in bytes of the head's area, or 0 without a head
abbrev pub head_area : Option Head → ℕ
head_area None = 0
head_area (Some head) = own_area head.header

-- the place among the main data where the own area of frame i begins: after the areas of the head
-- and of the frames before it
unfoldable pub place : Option Head → List Row → ℕ → ℕ
place head rows i = head_area head + sum_by (λ (r : Row). own_area r.header) (take i rows)

-- the place where the main data of a frame begin, given the place of its own area
abbrev pub start_of_data : ℕ → Row → ℕ
start_of_data place r = place - r.side.main_data_begin

-- the place where the main data of a frame end, given the place of its own area
abbrev pub end_of_data : ℕ → Row → ℕ
end_of_data place r = start_of_data place r + payload_bytes r.side

-- the frame has no main data
abbrev pub is_silent : Row → Bool
is_silent r = payload_bits r.side == 0

-- the frame's main data begin before all areas, given the place of its own area
abbrev pub points_too_far : ℕ → Row → Bool
points_too_far place r = nat_lt place r.side.main_data_begin

-- the frame's main data begin before all areas, and there are no main data before them, which would
-- end after 0: what main_data_begin points to was before the stream, and was cut off
abbrev pub lacks_data : ℕ → ℕ → Row → Bool
lacks_data place ended r = ended == 0 && points_too_far place r

-- where the main data end after a frame, given the place of its own area and where the main data
-- before it end: a silent or lost frame doesn't change this
abbrev pub data_end_after : ℕ → ℕ → Option Row → ℕ
data_end_after place ended None = ended
data_end_after place ended (Some r) =
    if is_silent r || lacks_data place ended r then ended else end_of_data place r

-- the place where the main data before frame i end: the end of the main data of the last frame
-- before it that is neither silent nor lost, or 0 if there is none
unfoldable pub data_end_before : Option Head → List Row → ℕ → ℕ
data_end_before head rows zero = 0
data_end_before head rows (suc i) =
    data_end_after (place head rows i) (data_end_before head rows i) (slice_get rows i)

-- ---- lost frames

-- Frame i is lost: its main data begin before the stream, and every
-- frame before it is silent or lost. (The law `LostFramesLead` says
-- that `data_end_before` is 0 exactly if no other frame is before it.)
abbrev pub is_lost : Option Head → List Row → ℕ → Row → Bool
is_lost head rows i r = lacks_data (place head rows i) (data_end_before head rows i) r

-- frame i, marked if it is lost
abbrev pub marked_row : Option Head → List Row → ℕ → Row → Row
marked_row head rows i r = record r { lost = is_lost head rows i r }

-- all frames, each marked if it is lost
unfoldable pub marked_rows : Option Head → List Row → List Row
marked_rows head rows = map (λ (p : ℕ × Row). marked_row head rows p.0 p.1) (enumerate_from 0 rows)

-- ---- the main data themselves

-- the area of the frame that begins at an offset
abbrev pub area_bytes : List ℕ → ℕ → HeaderFields → List ℕ
area_bytes file offset h =
    take (own_area h) (drop (overhead_of (class_of h) h.protected) (drop offset file))

-- the area of the head, which counts like every other; none without a head
abbrev pub head_bytes : List ℕ → Option Head → List ℕ
head_bytes file None = []
head_bytes file (Some head) = area_bytes file head.offset head.header

-- all areas, joined in order
unfoldable pub main_bytes : List ℕ → Option Head → List Row → List ℕ
main_bytes file head rows =
    head_bytes file head ++ flat_map (λ (r : Row). area_bytes file r.offset r.header) rows

-- the bits of a frame's main data, which begin at this place (2.4.1.7 and 2.4.2.7)
abbrev pub payload_at : List ℕ → ℕ → Side → List ℕ
payload_at main start s = take (payload_bits s) (drop (8 * start) (bits main))

-- bits split into parts of these lengths, in order
unfoldable pub split_bits : List ℕ → List ℕ → List (List ℕ)
split_bits [] bs = []
split_bits (n ∷ ns) bs = take n bs ∷ split_bits ns (drop n bs)

-- ---- the stream

-- What a frame of a stream is, wherever it is: the header except its bit rate index
-- and padding, the side information except main_data_begin, and the main data of
-- each granule and channel. A lost frame has none: its side fields are all 0.
pub record StreamFrame : Type 0 where
  pub header : HeaderFields
  pub side : Side
  pub payload : List (List ℕ)

-- the slot of a frame whose slot is left out
abbrev pub no_slot : SlotFields
no_slot = record { rate_index = 0; padding = false }

-- the lengths in bits of the main data of each granule and channel, in order
abbrev pub granule_lengths : HeaderFields → Side → List ℕ
granule_lengths h s = map (λ (g : Granule). g.part2_3_length) (granules_in (class_of h) s)

-- the side information of a frame, all 0 if the frame is lost
abbrev pub row_side : Row → Side
row_side r = if r.lost then no_side else r.side

-- frame i of the stream
abbrev pub stream_frame : List ℕ → Option Head → List Row → ℕ → Row → StreamFrame
stream_frame main head rows i r = record {
  header = record r.header { slot = no_slot };
  side = record (row_side r) { main_data_begin = 0 };
  payload = split_bits (granule_lengths r.header (row_side r))
      (payload_at main (start_of_data (place head rows i) r) (row_side r));
}

-- all frames of the stream
unfoldable pub stream_frames : List ℕ → Option Head → List Row → List StreamFrame
stream_frames main head rows =
    map (λ (p : ℕ × Row). stream_frame main head rows p.0 p.1) (enumerate_from 0 rows)
