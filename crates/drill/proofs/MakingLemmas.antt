-- Frames of a stream that are given to a writer, one more at a time.
use Rattle.std.proofs.Common.{ap, append_assoc, ap₂, arith, false, length, length-append, List, map}
use Rattle.std.proofs.Common.{min, refl, subst, suc, sym, take, zero, zero-add, ℕ, [], ◌*◌, ◌++◌}
use Rattle.std.proofs.Common.{◌+◌, ◌-◌, ◌/◌, ◌<◌, ◌∙◌, ◌∷◌, ◌≡◌, ◌≤◌}
use Rattle.std.proofs.lemmas.List.{length-replicate, length-take-le, FromFn.map-range_with_len_more}
use Rattle.std.specs.List.{range_with_len}
use Rattle.bit_fields.{proofs.BitsLemmas.{length-bits, length-bytes}, specs.Bits.bits}
use Rattle.drill.proofs.DrawnSideLemmas.{drawn_side-begin, drawn_side-room}
use Rattle.drill.{proofs.DrawsLemmas.length-drawn, specs.Draws.state_after}
use Rattle.drill.specs.Drill.{area_start, data_begin, drawn_frame, drawn_payload, draws_of}
use Rattle.drill.specs.Drill.{drill_frame_at, drill_frames, drill_header, drill_state_at}
use Rattle.drill.specs.Drill.{drill_stream, DrillState, first_bits, next_drill_state}
use Rattle.drill.specs.Making.{drill_writing, HasMade, IsBeforeFrame, IsNextDrawn, next_frame}
use Rattle.drill.specs.declared.making.DrillWriter.{DrillWriter}
use Rattle.frame_header.specs.Fields.{ClassFields}
use Rattle.frame_header.specs.Tables.{area_of, class_of, frequency_of, length_of, overhead_of}
use Rattle.frame_header.specs.Tables.{rate_of, side_size_of, window_of}
use Rattle.frame_writer.proofs.FrameLemmas.{laid-steps, later-frames}
use Rattle.frame_writer.specs.Frames.{all_frame_data, bytes_of_frames, Frame, reach_after_frame}
use Rattle.frame_writer.specs.{Frames.{reach_of, WaitingFrames}, Laid.{BeginsWithin, zeros}}
use Rattle.frame_writer.specs.Writing.{AcceptsFrame, IsNewQueue, waiting_bytes, WritesPart, Writing}
use Rattle.outside.proofs.BufferOutputLemmas.{passed_then_prefix, prefix_in_front}
use Rattle.outside.proofs.FilesLemmas.{appended_nothing, appended_twice}
use Rattle.outside.specs.{BufferOutput.{AppendedPrefix, AppendsWaiting}, Files.{Files, IsFileThere}}

-- ---- one frame

-- the area has 381 bytes
pub area-is : area_of (class_of drill_header) drill_header.slot false ≡ 381
unfolding area_of length_of rate_of frequency_of overhead_of side_size_of
area-is = refl

-- the bits that are kept and the zeros are as many as the bits of the bytes
pub length-spelled : {count : ℕ} (octets : List ℕ) → count ≤ 8 * length octets
    → length (take count (bits octets) ++ zeros (8 * length octets - count)) ≡ 8 * length octets
length-spelled octets few =
    grind (arith, length-append, length-take-le, length-bits, length-replicate)

-- keeping the first bits of bytes keeps the number of bytes
pub length-first_bits : {count : ℕ} (octets : List ℕ) → count ≤ 8 * length octets
    → length (first_bits count octets) ≡ length octets
length-first_bits octets few = search (arith, length-bytes, length-spelled)

-- the main data have as many bytes as are needed for their bits
pub length-payload : (bit_count state : ℕ)
    → length (drawn_payload bit_count state) ≡ (bit_count + 7) / 8
unfolding drawn_payload
length-payload bit_count state = grind (arith, length-drawn, length-first_bits)

-- there is room for the main data
pub payload-within : (begin state : ℕ) → length (drawn_frame begin state).payload ≤ 381 + begin
payload-within begin state = grind (arith, length-payload, drawn_side-room)

-- later main data reach back at most 511 bytes
pub reach-most : (held : WaitingFrames) → held.class ≡ class_of drill_header → reach_of held ≤ 511
reach-most held same = omega (arith, ap (λ (c : ClassFields). window_of c.version) same)

-- ---- where the main data of a frame begin and end

-- the main data before a frame end within the areas of the frames before it
pub before-ended : (seed i : ℕ) → (drill_state_at seed i).ended ≤ area_start i
unfolding drill_state_at
before-ended seed zero = omega arith
before-ended seed (suc i) = grind (arith, payload-within, before-ended seed i)

next-begin : (i : ℕ) (b : DrillState) → b.ended ≤ area_start i
    → min 511 (data_begin i b + 381 - length (drawn_frame (data_begin i b) b.state).payload)
    ≡ data_begin (suc i) (next_drill_state i b)
next-begin i b ended = omega (arith, ended, payload-within (data_begin i b) b.state)

-- main_data_begin is at most 511
pub begin-few : (seed i : ℕ) → data_begin i (drill_state_at seed i) ≤ 511
begin-few seed i = omega (arith, before-ended seed i)

reach-frame : (begin state : ℕ)
    → reach_after_frame (class_of drill_header) (drawn_frame begin state)
    ≡ min 511 (begin + 381 - length (drawn_frame begin state).payload)
reach-frame begin state = grind (arith, drawn_side-begin, area-is)

module _ {seed i : ℕ} {old : DrillWriter} (is : IsBeforeFrame seed i old) where
  abbrev b : DrillState
  b = drill_state_at seed i

  -- the next frame is frame i
  pub frame-is : next_frame old ≡ drill_frame_at seed i
  frame-is = ap₂ drawn_frame is.reach is.state

  -- how far later main data reach after this frame is the next main_data_begin
  pub reach-next : (held : WaitingFrames)
      → reach_of held ≡ reach_after_frame (class_of drill_header) (next_frame old)
      → reach_of held ≡ data_begin (suc i) (drill_state_at seed (suc i))
  unfolding drill_state_at
  reach-next held reach = grind (arith, frame-is, reach-frame, next-begin, before-ended)

  -- after this frame the writer is before the next one
  pub before-more : {new : DrillWriter} → IsNextDrawn new → new.draws.state
      ≡ state_after (draws_of (reach_of old.writer) old.draws.state) old.draws.state
      → reach_of new.writer ≡ reach_after_frame (class_of drill_header) (next_frame old)
      → IsBeforeFrame seed (suc i) new
  unfolding drill_state_at
  before-more next state reach = grind (arith, reach-next)

-- a new writer is before the first frame
pub before-first : {seed : ℕ} {making : DrillWriter} → making.draws.state ≡ seed
    → IsNewQueue (class_of drill_header) making.writer → IsBeforeFrame seed 0 making
unfolding drill_state_at
before-first state new = grind arith

-- ---- all frames

-- a stream of no frames is empty
pub frames-none : (seed : ℕ) → drill_frames seed 0 ≡ []
unfolding drill_frames
frames-none seed = refl

-- a stream of one more frame ends with this frame
pub frames-more : (seed i : ℕ)
    → drill_frames seed (suc i) ≡ drill_frames seed i ++ drill_frame_at seed i ∷ []
unfolding drill_frames
frames-more seed i =
    grind (arith, map-range_with_len_more (drill_frame_at seed) 0 i i (zero-add i), zero-add i)

range-sum : (f : ℕ → Frame) (from first second : ℕ) → map f (range_with_len from (first + second))
    ≡ map f (range_with_len from first) ++ map f (range_with_len (from + first) second)
range-sum f from zero second = grind (arith, zero-add)
range-sum f from (suc first) second =
    ap (λ n. map f (range_with_len from n))
    (let e : suc first + second ≡ suc (first + second) = omega arith in e)
    ∙ ap (λ (xs : List Frame). f from ∷ xs) (range-sum f (from + 1) first second
    ∙ ap (λ n. map f (range_with_len (from + 1) first) ++ map f (range_with_len n second))
    (let e : from + 1 + first ≡ from + suc first = omega arith in e))

-- the frames from one on
frames_behind : ℕ → ℕ → ℕ → List Frame
frames_behind seed i count = map (drill_frame_at seed) (range_with_len i count)

frames-behind : (seed : ℕ) {i count : ℕ} → i ≤ count
    → drill_frames seed i ++ frames_behind seed i (count - i) ≡ drill_frames seed count
unfolding drill_frames frames_behind
frames-behind seed {i} {count} within =
    grind (arith, zero-add i, range-sum (drill_frame_at seed) 0 i (count - i))

begins-behind : (seed i count : ℕ) {free : ℕ} → data_begin i (drill_state_at seed i) ≤ free
    → BeginsWithin free (all_frame_data (frames_behind seed i count))
unfolding frames_behind
begins-behind seed i zero within = tt
begins-behind seed i (suc count) within = grind (arith, drawn_side-begin)

-- ---- what was appended

module _ (name : List ℕ) where
  -- at first nothing was appended
  pub made-none : (seed : ℕ) (making : DrillWriter) {files : Files} → IsFileThere files name
      → IsNewQueue (class_of drill_header) making.writer → making.unsent ≡ []
      → HasMade name (drill_writing making) (drill_frames seed 0) files files
  made-none seed making there new none = grind (arith, appended_nothing, frames-none)

  module _ {seed i : ℕ} {old : DrillWriter} (is : IsBeforeFrame seed i old) {before mid : Files}
      (made : HasMade name (drill_writing old) (drill_frames seed i) before mid) where
    -- with one more frame the stream is one frame longer
    pub made-more : {new : Writing} {after : Files}
        → AcceptsFrame name (next_frame old) (drill_writing old) new mid after
        → HasMade name new (drill_frames seed (suc i)) before after
    made-more on = grind (arith, appended_twice, frame-is, frames-more)

    -- if a write failed at a frame, a prefix of the stream was appended
    pub made-part : {count : ℕ} {held : WaitingFrames} {after : Files} → i < count
        → reach_of held ≡ reach_after_frame (class_of drill_header) (next_frame old)
        → WritesPart name (next_frame old) (drill_writing old) held mid after
        → AppendedPrefix name (drill_stream seed count) before after
    unfolding drill_stream
    made-part {count} {held} {after} within reach part =
        let are = part.writer [] made.passed (drill_frames seed i) made.writer in
        let given : drill_frames seed i ++ next_frame old ∷ [] ≡ drill_frames seed (suc i) =
        grind (arith, frame-is, frames-more) in
        let left = frames_behind seed (suc i) (count - suc i) in
        let next = reach-next is held reach in
        let begins : BeginsWithin held.waiting.free (all_frame_data left) =
        begins-behind seed (suc i) (count - suc i) (omega (arith, next)) in
        let later = later-frames left are.written begins in
        let whole : bytes_of_frames (drill_frames seed count) ≡ are.taken ++ later.0 =
        grind (arith, frames-behind) in
        let passed : AppendsWaiting name (made.passed ++ part.settled) part.settled before mid =
        record { passed = made.passed; split = refl; files = made.files } in
        subst (λ (xs : List ℕ). AppendedPrefix name xs before after) (sym whole)
        (prefix_in_front [] are.taken later.0 (subst (λ (xs : List ℕ). AppendedPrefix name xs before
        after) are.is (passed_then_prefix passed part.prefix)))

  -- the bytes of the frames were appended, except those that wait
  pub made-passed : (seed count : ℕ) {w : Writing} {before after : Files}
      → HasMade name w (drill_frames seed count) before after
      → AppendsWaiting name (drill_stream seed count) (waiting_bytes w) before after
  unfolding drill_stream
  made-passed seed count made = grind (arith, laid-steps, append_assoc)
