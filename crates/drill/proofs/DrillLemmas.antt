-- The stream of a number consists of frames alone, with all main data laid into their areas.
use Rattle.std.proofs.Common.{ap, append-nil, append_assoc, ap₂, arith, bytes_eq, codes, drop}
use Rattle.std.proofs.Common.{false, inl, inr, length, length-append, List, lit<, lit≤, map, None}
use Rattle.std.proofs.Common.{Ok, refl, subst, suc, sym, take, zero, ℕ, [], ◌%◌, ◌*◌, ◌++◌, ◌+◌}
use Rattle.std.proofs.Common.{◌-◌, ◌/◌, ◌<◌, ◌^◌, ◌||◌, ◌∙◌, ◌∷◌, ◌≡◌, ◌≤◌, ◌⊎◌}
use Rattle.std.proofs.{Math.{Path.transport, Seq.take-append-add}, lemmas.Bool.{cases_lt, ne_eqb}}
use Rattle.std.proofs.lemmas.List.{drop_at, length-drop, length-map, length-replicate}
use Rattle.std.proofs.lemmas.List.{length-take-le, nil_from_length}
use Rattle.std.proofs.lemmas.List.Elements.{All-append, All-cons, All-head, All-nil, All-replicate}
use Rattle.std.proofs.lemmas.List.{Elements.{All-tail, All-take}, FromFn.length-range_with_len}
use Rattle.std.{proofs.lemmas.Nat.mod_below, specs.List.{All, range_with_len}}
use Rattle.bit_fields.proofs.BitsLemmas.{AreBelow-append, AreBelow-take, AreBits-bits}
use Rattle.bit_fields.proofs.BitsLemmas.{AreBytes-bytes, bits-bytes, bits-cons, bits-one}
use Rattle.bit_fields.proofs.BitsLemmas.{bytes-eight, bytes-nil, length-bits, length-bits_of}
use Rattle.bit_fields.proofs.BitsLemmas.{number-append, number-bits_of, number-bits_of-below}
use Rattle.bit_fields.proofs.BitsLemmas.{take-bits_of}
use Rattle.bit_fields.specs.Bits.{AreBits, bits, bits_of, bytes, number}
use Rattle.drill.proofs.BareStreamLemmas.{bare-holds, bare-survey, bare_fields, IsBare}
use Rattle.drill.proofs.DrawnSideLemmas.{drawn_side-begin, drawn_side-fits, drawn_side-pairs}
use Rattle.drill.proofs.DrawsLemmas.{length-drawn}
use Rattle.drill.proofs.MakingLemmas.{area-is, before-ended, begin-few, length-payload}
use Rattle.drill.proofs.MakingLemmas.{length-spelled, payload-within}
use Rattle.drill.specs.Draws.{draws, next_state, state_after}
use Rattle.drill.specs.Drill.{area_start, data_begin, data_start, drawn_bits, drawn_bytes}
use Rattle.drill.specs.Drill.{drawn_payload, drawn_side, drill_frame_at, drill_frames, drill_header}
use Rattle.drill.specs.Drill.{drill_state_at, drill_stream, first_bits}
use Rattle.drill.specs.StreamLaws.{drill_fields, FirstBeginsInItsArea, StreamsAreLong}
use Rattle.drill.specs.StreamLaws.{StreamsAreSurveyed, StreamsHold}
use Rattle.frame_header.specs.Fields.{HeaderFields, IsHeader}
use Rattle.frame_header.specs.Tables.{class_of, overhead_of, side_size_of}
use Rattle.frame_writer.specs.Frames.{all_frame_data, areas_length, bytes_of_frames}
use Rattle.frame_writer.specs.Frames.{fields_of_frames, Frame, frame_area, frame_data, framed_bytes}
use Rattle.frame_writer.specs.Laid.{CanDataBeLaidFrom, frame_data_end, frame_data_start, laid_data}
use Rattle.frame_writer.specs.Laid.{laid_data_from, zeros}
use Rattle.info_header.specs.HeadText.{has_text, head_text_of, low_offset}
use Rattle.laying.proofs.{EntryByteLemmas.{length-front, shaped}, LaidDataLemmas.length-laid}
use Rattle.laying.proofs.LaidFrameLemmas.{areas-all}
use Rattle.laying.specs.LaidFiles.{AreStreamEntries, IsStreamEntry, rows_from, stream_entry}
use Rattle.side_info.specs.{Frame.frame_front_bytes, Side.payload_bytes}
use Rattle.sync_survey.proofs.FoldersLemmas.{survey_of-short}
use Rattle.sync_survey.specs.Faults.{HoldsStream, survey_fields}

-- ---- one frame

AreBits-zeros : (n : ℕ) → AreBits (zeros n)
AreBits-zeros zero = tt
AreBits-zeros (suc n) = (lit< tt, AreBits-zeros n)

header-is : IsHeader drill_header
header-is = record {
  slot = (lit≤ tt, lit≤ tt);
  frequency_index = lit≤ tt;
  mode = lit≤ tt;
  mode_extension = lit≤ tt;
  emphasis = lit≤ tt;
}

-- the bits that are kept of bytes, and zeros after them
abbrev spelled : ℕ → List ℕ → List ℕ
spelled count octets = take count (bits octets) ++ zeros (8 * length octets - count)

AreBits-spelled : (count : ℕ) (octets : List ℕ) → AreBits (spelled count octets)
AreBits-spelled count octets = AreBelow-append 2 (take count (bits octets))
    (zeros (8 * length octets - count)) (AreBelow-take 2 count (bits octets) (AreBits-bits octets))
    (AreBits-zeros (8 * length octets - count))

bits-first : {count : ℕ} (octets : List ℕ) → count ≤ 8 * length octets
    → bits (first_bits count octets) ≡ spelled count octets
bits-first {count} octets few = bits-bytes (length octets)
    (AreBits-spelled count octets) (length-spelled octets few)

-- after its bits the payload is 0
filled : (count state : ℕ)
    → drop count (bits (drawn_payload count state)) ≡ zeros (8 * ((count + 7) / 8) - count)
unfolding drawn_payload
filled count state =
    let octets = drawn_bytes ((count + 7) / 8) state in
    let many = length-drawn ((count + 7) / 8) state in
    let few : count ≤ 8 * length octets = omega (arith, many) in
    ap (drop count) (bits-first octets few)
    ∙ drop_at (take count (bits octets)) (zeros (8 * length octets - count)) count
    (length-take-le count (bits octets) (omega (arith, few, length-bits octets)))
    ∙ ap (λ n. zeros (8 * n - count)) many

octets-are : (count state : ℕ) → Rattle.bit_fields.specs.Bits.AreBytes (drawn_payload count state)
unfolding drawn_payload
octets-are count state = AreBytes-bytes (spelled count (drawn_bytes ((count + 7) / 8) state))
    (AreBits-spelled count (drawn_bytes ((count + 7) / 8) state))

-- the main data have as many bytes as are needed for the bits that were drawn
pub bytes-is : (begin state : ℕ)
    → payload_bytes (drawn_side begin state) ≡ (drawn_bits begin state + 7) / 8
unfolding payload_bytes
bytes-is begin state = refl

is_entry : (seed i : ℕ) → IsStreamEntry (class_of drill_header) (drill_frame_at seed i)
is_entry seed i =
    let b = drill_state_at seed i in
    let begin = data_begin i b in
    let count = drawn_bits begin b.state in
    record {
      header = header-is;
      class = refl;
      pairs = drawn_side-pairs begin b.state;
      fits = drawn_side-fits b.state (begin-few seed i);
      octets = octets-are count (state_after 8 b.state);
      size = length-payload count (state_after 8 b.state) ∙ sym (bytes-is begin b.state);
      filled = grind (arith, filled, bytes-is);
    }

-- ---- all frames from one on

abbrev pub from_on : ℕ → ℕ → ℕ → List Frame
from_on seed i count = map (drill_frame_at seed) (range_with_len i count)

entries-are : (seed i count : ℕ) → AreStreamEntries (class_of drill_header) (from_on seed i count)
entries-are seed i zero = tt
entries-are seed i (suc count) = (is_entry seed i, entries-are seed (i + 1) count)

-- after a frame the main data end where its own main data end
pub ended-next : (seed i : ℕ) → (drill_state_at seed (suc i)).ended
    ≡ data_start i (drill_state_at seed i) + length (drill_frame_at seed i).payload
unfolding drill_state_at
ended-next seed i = refl

can-be-laid : (seed i count : ℕ) → CanDataBeLaidFrom (drill_state_at seed i).ended (area_start i)
    (all_frame_data (from_on seed i count))
can-be-laid seed i zero = tt
can-be-laid seed i (suc count) =
    let b = drill_state_at seed i in
    let begin = drawn_side-begin (data_begin i b) b.state in
    let ended = before-ended seed i in
    let one : suc i ≡ i + 1 = omega arith in
    let next : (drill_state_at seed (suc i)).ended ≡ frame_data_end (area_start i)
    (frame_data (drill_frame_at seed i)) = omega (arith, ended-next seed i, begin, ended) in
    let place : area_start (suc i) ≡ area_start i + frame_area (drill_frame_at seed i).kept =
    omega (arith, area-is) in (
      omega (arith, begin, ended),
      omega (arith, begin, ended, area-is, payload-within (data_begin i b) b.state),
      transport (λ j. CanDataBeLaidFrom (next j) (place j)
          (all_frame_data (from_on seed (one j) count)))
          (can-be-laid seed (suc i) count),
    )

-- ---- no text of a head

abbrev IsLow : ℕ → Type 0
IsLow byte = byte < 64

number-zeros : (n : ℕ) → number (zeros n) ≡ 0
unfolding number
number-zeros zero = refl
number-zeros (suc n) = omega (arith, number-zeros n)

-- the first bits of a byte, and zeros after them, are below 64
part-low : (high low : ℕ) {octet : ℕ} → octet < 64 → octet / 2 ^ low % 2 ^ high * 2 ^ low < 64
part-low high low {octet} small = omega (
  arith,
  small,
  mod-most (octet / 2 ^ low) (2 ^ high),
  part-most (octet / 2 ^ low % 2 ^ high) (octet / 2 ^ low) octet (2 ^ low)
      (mod-most (octet / 2 ^ low) (2 ^ high)) (div-most octet (2 ^ low)),
)
  where
    mod-most : (n k : ℕ) → n % k ≤ n
    mod-most n k = grind arith

    div-most : (n k : ℕ) → n / k * k ≤ n
    div-most n k = grind arith

    part-most : (a b n k : ℕ) → a ≤ b → b * k ≤ n → a * k ≤ n
    part-most a b n k less most = grind arith

last-low : {count octet : ℕ} → count < 8 → octet < 64
    → number (take count (bits_of 8 octet) ++ zeros (8 - count)) < 64
last-low {count} {octet} few small =
    let low = 8 - count in
    let eight : 8 ≡ count + low = omega (arith, few) in
    let front : take count (bits_of 8 octet) ≡ bits_of count (octet / 2 ^ low) =
    ap (λ n. take count (bits_of n octet)) eight ∙ take-bits_of count low octet in
    let is : number (take count (bits_of 8 octet) ++ zeros low)
    ≡ octet / 2 ^ low % 2 ^ count * 2 ^ low + 0 =
    grind (arith, number-append, number-bits_of, length-replicate, number-zeros) in
    omega (arith, is, part-low count low small)

-- the whole first byte, and what is kept of the others
spelled-front : (o : ℕ) (os : List ℕ) {count : ℕ} → 8 ≤ count
    → spelled count (o ∷ os) ≡ bits_of 8 o ++ spelled (count - 8) os
spelled-front o os {count} many =
    let long = length-bits_of 8 o in
    let split : count ≡ length (bits_of 8 o) + (count - 8) = omega (arith, many, long) in
    let left : 8 * length (o ∷ os) - count ≡ 8 * length os - (count - 8) = omega (arith, many) in
    ap₂ (λ (xs : List ℕ) n. xs ++ zeros n)
    (ap₂ take split (bits-cons o os) ∙ take-append-add (bits_of 8 o) (bits os) (count - 8)) left
    ∙ append_assoc (bits_of 8 o) (take (count - 8) (bits os)) (zeros (8 * length os - (count - 8)))

first-byte : {o : ℕ} (os : List ℕ) {count : ℕ} → All IsLow (o ∷ os)
    → length (o ∷ os) ≡ (count + 7) / 8 → (8 ≤ count → All IsLow (first_bits (count - 8) os))
    → (count < 8) ⊎ (8 ≤ count) → All IsLow (first_bits count (o ∷ os))
first-byte {o} os {count} low long later (inl few) =
    let one : os ≡ [] = nil_from_length os (omega (arith, few, long)) in
    let eight = take count (bits_of 8 o) ++ zeros (8 - count) in
    let long_eight : length eight ≡ 8 = omega (
      arith,
      few,
      length-append (take count (bits_of 8 o)) (zeros (8 - count)),
      length-take-le count (bits_of 8 o) (omega (arith, few, length-bits_of 8 o)),
      length-replicate {A = ℕ} (8 - count) 0,
    ) in
    let is : spelled count (o ∷ os) ≡ eight ++ [] = grind (arith, bits-one, append-nil) in
    subst (λ (xs : List ℕ). All IsLow xs) (sym (ap bytes is ∙ bytes-eight eight [] long_eight
    ∙ ap (λ (xs : List ℕ). number eight ∷ xs) bytes-nil))
    (All-cons IsLow (number eight) [] (last-low few (All-head IsLow o os low))
    (All-nil IsLow))
first-byte {o} os {count} low long later (inr many) =
    let this = All-head IsLow o os low in
    let number_is : number (bits_of 8 o) ≡ o = number-bits_of-below 8 (omega (arith, this)) in
    subst (λ (xs : List ℕ). All IsLow xs)
    (sym (ap bytes (spelled-front o os many)
    ∙ bytes-eight (bits_of 8 o) (spelled (count - 8) os) (length-bits_of 8 o)))
    (All-cons IsLow (number (bits_of 8 o)) (first_bits (count - 8) os)
    (omega (arith, number_is, this)) (later many))

first-low : (octets : List ℕ) (count : ℕ) → All IsLow octets → length octets ≡ (count + 7) / 8
    → All IsLow (first_bits count octets)
first-low [] count low long =
    let none : spelled count [] ≡ [] = grind (arith, nil_from_length, length-spelled) in
    subst (λ (xs : List ℕ). All IsLow xs) (sym (ap bytes none ∙ bytes-nil)) (All-nil IsLow)
first-low (o ∷ os) count low long = first-byte os low long (λ many. first-low os (count - 8)
    (All-tail IsLow o os low) (omega (arith, many, long))) (cases_lt count 8)

drawn-low : (count state : ℕ) → All IsLow (drawn_bytes count state)
unfolding draws
drawn-low zero state = All-nil IsLow
drawn-low (suc count) state =
    All-cons IsLow _ _ (mod_below _ 64 (lit< tt)) (drawn-low count (next_state state))

payload-low : (count state : ℕ) → All IsLow (drawn_payload count state)
unfolding drawn_payload
payload-low count state = first-low (drawn_bytes ((count + 7) / 8) state) count
    (drawn-low ((count + 7) / 8) state) (length-drawn ((count + 7) / 8) state)

-- no byte of any area is above 3f
laid-low : (seed i count end start : ℕ)
    → All IsLow (laid_data_from end start (all_frame_data (from_on seed i count)))
laid-low seed i zero end start = All-replicate IsLow (start - end) 0 (lit< tt)
laid-low seed i (suc count) end start =
    let b = drill_state_at seed i in
    let p = frame_data (drill_frame_at seed i) in
    All-append IsLow (zeros (frame_data_start start p - end)) _
    (All-replicate IsLow (frame_data_start start p - end) 0 (lit< tt))
    (All-append IsLow p.payload _
    (payload-low (drawn_bits (data_begin i b) b.state) (state_after 8 b.state))
    (laid-low seed (i + 1) count (frame_data_end start p) (start + p.area)))

no-text : (text : List ℕ) → All IsLow text
    → (bytes_eq text (codes "Xing") || bytes_eq text (codes "Info")) ≡ false
no-text [] low = refl
no-text (b ∷ text) low =
    let small = All-head IsLow b text low in
    rw (ne_eqb b 88 (λ e. omega (arith, e, small)), ne_eqb b 73 (λ e. omega (arith, e, small))) refl

no-head : {header : HeaderFields} (own : List ℕ) → header ≡ drill_header → All IsLow (drop 36 own)
    → head_text_of drill_header own ≡ None
unfolding head_text_of has_text low_offset side_size_of
no-head own is low = rw (no-text (take 4 (drop 36 own)) (All-take IsLow 4 (drop 36 own) low)) refl

front-size : (seed i : ℕ)
    → length (frame_front_bytes drill_header (drill_frame_at seed i).kept.side) ≡ 36
unfolding overhead_of side_size_of
front-size seed i = length-front header-is
    (shaped (is_entry seed i).pairs)

-- ---- the stream

-- before the first frame no main data end after 0
pub first-begin : (seed : ℕ) → (drill_state_at seed 0).ended ≡ 0
unfolding drill_state_at
first-begin seed = refl

-- the frames are the first and those from the second on
pub frames-first : (seed count : ℕ)
    → drill_frames seed (suc count) ≡ drill_frame_at seed 0 ∷ from_on seed 1 count
unfolding drill_frames
frames-first seed count = refl

-- the stream is the first frame and those from the second on
pub stream-first : (seed count : ℕ)
    → drill_stream seed (suc count) ≡ bytes_of_frames (drill_frame_at seed 0 ∷ from_on seed 1 count)
unfolding drill_stream
stream-first seed count = ap bytes_of_frames (frames-first seed count)

-- the stream is nothing but frames that can be laid
pub is_bare : (seed count : ℕ)
    → IsBare (class_of drill_header) (drill_frame_at seed 0) (from_on seed 1 count)
is_bare seed count =
    let f = drill_frame_at seed 0 in
    let area_data = laid_data (all_frame_data (from_on seed 0 (suc count))) in
    let front = frame_front_bytes drill_header f.kept.side in
    record {
      entries = entries-are seed 0 (suc count);
      fits = grind (arith, first-begin seed, can-be-laid seed 0 (suc count));
      no_head = no-head (front ++ take (frame_area f.kept) area_data) refl
          (subst (λ (xs : List ℕ). All IsLow xs)
          (sym (drop_at front (take (frame_area f.kept) area_data) 36 (front-size seed 0)))
          (All-take IsLow (frame_area f.kept) area_data (laid-low seed 0 (suc count) 0 0)));
    }

-- ---- its length

stream-long : (seed i count : ℕ) (octets : List ℕ) → length octets ≡ 381 * count
    → length (framed_bytes (fields_of_frames (from_on seed i count)) octets) ≡ 417 * count
stream-long seed i zero octets many = refl
stream-long seed i (suc count) octets many =
    let f = drill_frame_at seed i in
    let front = frame_front_bytes drill_header f.kept.side in
    let area = take (frame_area f.kept) octets in
    let more = framed_bytes (fields_of_frames (from_on seed (i + 1) count))
    (drop (frame_area f.kept) octets) in
    omega (
      arith,
      many,
      area-is,
      front-size seed i,
      length-append front (area ++ more),
      length-append area more,
      length-take-le (frame_area f.kept) octets (omega (arith, many, area-is)),
      stream-long seed (i + 1) count (drop (frame_area f.kept) octets)
          (omega (arith, many, area-is, length-drop (frame_area f.kept) octets)),
    )

areas-long : (seed i count : ℕ)
    → areas_length (fields_of_frames (from_on seed i count)) ≡ 381 * count
areas-long seed i zero = refl
areas-long seed i (suc count) = omega (arith, area-is, areas-long seed (i + 1) count)

-- the stream has 417 bytes for each frame
pub streams-long : StreamsAreLong
unfolding drill_stream drill_frames
streams-long seed count =
    let fits =
    subst (λ n. CanDataBeLaidFrom n 0 (all_frame_data (from_on seed 0 count))) (first-begin seed)
    (can-be-laid seed 0 count) in
    stream-long seed 0 count (laid_data (all_frame_data (from_on seed 0 count)))
    (omega (
      arith,
      length-laid 0 (all_frame_data (from_on seed 0 count)) (omega arith) fits,
      areas-all 0 (from_on seed 0 count),
      areas-long seed 0 count,
    ))

-- the stream holds the frames that were drawn
pub streams-hold : StreamsHold
streams-hold seed zero some = absurd (omega (arith, some))
streams-hold seed (suc count) some =
    transport (λ i. HoldsStream (sym (stream-first seed count) i)
    (map stream_entry (sym (frames-first seed count) i)))
    (bare-holds
    (is_bare seed count))

fields-first : (seed count : ℕ)
    → bare_fields (drill_frame_at seed 0) (from_on seed 1 count) ≡ drill_fields seed (suc count)
fields-first seed count = λ i. record {
  frames = rows_from 0 (sym (frames-first seed count) i);
  blocks = [];
  head = None;
  junk = 0;
  first = 0;
  class = class_of drill_header;
  length = length (sym (stream-first seed count) i);
}

-- the stream has the survey of these frames
pub streams-surveyed : StreamsAreSurveyed
streams-surveyed seed zero allowed some few within = absurd (omega (arith, some))
streams-surveyed seed (suc count) allowed some few within =
    let size = streams-long seed (suc count) in
    let more = from_on seed 1 count in
    survey_of-short (drill_stream seed (suc count)) allowed (omega (arith, size, few))
    ∙ ap (λ (file : List ℕ). survey_fields file allowed) (stream-first seed count)
    ∙ bare-survey (is_bare seed count)
    (omega (
      arith,
      within,
      length-map (range_with_len 1 count) (drill_frame_at seed),
      length-range_with_len 1 count,
    ))
    ∙ ap Ok (fields-first seed count)

-- the first frame's main data begin in its own area
pub first-own : FirstBeginsInItsArea
first-own seed =
    omega
    (arith, drawn_side-begin (data_begin 0 (drill_state_at seed 0)) (drill_state_at seed 0).state)
