-- The frames of a surveyed file: their main data are within the
-- file, and have as many bits as their side information says.
use Rattle.std.proofs.Common.{ap, ap₂, arith, Bool, cond, drop, false, flat_map, length}
use Rattle.std.proofs.Common.{length-append, length-drop, List, map, Ok, Option, option_map, refl}
use Rattle.std.proofs.Common.{slice_get, Some, subst, suc, sum_by, take, true, zero, ℕ, [], ◌*◌}
use Rattle.std.proofs.{Common.{◌++◌, ◌+◌, ◌-◌, ◌/◌, ◌∙◌, ◌∷◌, ◌≡◌, ◌≤◌}, lemmas.Bool.ltb-false}
use Rattle.std.proofs.lemmas.List.{drop_at, length-take-le, take_at, Sums.sum_by-cons}
use Rattle.std.specs.List.{cons_option, enumerate_from}
use Rattle.bit_fields.proofs.BitsLemmas.{AreBelow-append, AreBelow-drop, AreBelow-take}
use Rattle.bit_fields.proofs.BitsLemmas.{AreBits-bits, AreBytes-bytes, bits-bytes, length-bits}
use Rattle.bit_fields.{proofs.BitsLemmas.length-bytes, specs.Bits.{AreBits, AreBytes, bits}}
use Rattle.frame_header.proofs.{HeaderLemmas.IsClass-class_of, SlotLemmas.area-is}
use Rattle.frame_header.specs.Fields.{ClassFields, HeaderFields}
use Rattle.frame_writer.{proofs.LaidLemmas.length-zeros, specs.{Frames.Frame, Laid.zeros}}
use Rattle.laying.proofs.BlockLemmas.{surveyed-blocks}
use Rattle.laying.proofs.RelayLemmas.{AreOnward, onward-all, onward-first, onward-rest}
use Rattle.laying.specs.LaidFiles.{AreStreamEntries, HasPairs, IsStreamEntry, stream_entry}
use Rattle.laying.specs.{Laws.SurveysCanBeRelaid, Relaid.{all_frames, packed_bytes}}
use Rattle.laying.specs.Surveys.{AreWholeRows, CanBeRelaid, HasWholeHead, IsWholeFrameAt}
use Rattle.laying.specs.Surveys.{IsWholeRow}
use Rattle.side_info.proofs.{FrameLemmas.shaped-side_in, SideLemmas.{bits_least, IsShaped}}
use Rattle.side_info.specs.Side.{no_side, payload_bits, payload_bytes, SideFits}
use Rattle.side_info.specs.declared.side.Side.{Side}
use Rattle.sync_survey.proofs.ChainLemmas.{item_chain-ends, whole_item_at-is}
use Rattle.sync_survey.proofs.EmptiedLemmas.{no_bytes}
use Rattle.sync_survey.proofs.ItemsLemmas.{header_front-in_range, stands-at}
use Rattle.sync_survey.proofs.{PlacedRowLemmas.survey_fields-placed, StartLemmas.start-first}
use Rattle.sync_survey.proofs.SurveyPartsLemmas.{data-none_well, frames_from, survey_fields-parts}
use Rattle.sync_survey.proofs.SurveyedFileLemmas.{survey_of-parts}
use Rattle.sync_survey.specs.Chains.{AreEndToEnd, frame_of_item, frames_of, PlacedItem}
use Rattle.sync_survey.specs.Faults.{stream_of_survey, survey_fields, SurveyFields}
use Rattle.sync_survey.specs.Items.{item_at, size_of}
use Rattle.sync_survey.specs.MainData.{area_bytes, head_area, head_bytes, main_bytes, marked_row}
use Rattle.sync_survey.specs.MainData.{marked_rows, own_area, payload_at, place, row_side, rows_of}
use Rattle.sync_survey.specs.MainData.{start_of_data, stream_frame, stream_frames, StreamFrame}
use Rattle.sync_survey.specs.{Row.Row, Survey.{AreWellPlaced, IsWellPlaced, survey_of}}
use Rattle.sync_survey.specs.Walk.{head_of, numbered_frames, stream_chain}
use Rattle.sync_survey.specs.declared.{chains.Region.TheVariants.Stream, items.Item.Item}
use Rattle.sync_survey.specs.declared.{items.Item.TheVariants.Frame as FrameItem, places.Head.Head}
use Rattle.sync_survey.specs.declared.places.{PlacedFrame.PlacedFrame, Start.Start}

-- ---- whole frames

abbrev AreWholeFrames : List ℕ → List PlacedFrame → Type 0
AreWholeFrames file [] = Unit {0}
AreWholeFrames file (p ∷ ps) = IsWholeFrameAt file p.offset p.header × AreWholeFrames file ps

frame_more : (file : List ℕ) (at : ℕ) (item : Item) (ps : List PlacedFrame) → item_at file at ≡ item
    → at + size_of item ≤ length file → AreWholeFrames file ps
    → AreWholeFrames file (cons_option (frame_of_item at item) ps)
frame_more file at (FrameItem h) ps is within are = search (arith, header_front-in_range, stands-at)
frame_more file at _ ps is within are = are

ends-frames : (file : List ℕ) (from : ℕ) (ps : List PlacedItem) (to : ℕ)
    → AreEndToEnd Stream file from ps to → AreWholeFrames file (frames_of ps)
ends-frames file from [] to ends = tt
ends-frames file from (p ∷ ps) to ends =
    let here = whole_item_at-is Stream file p.offset p.item ends.1 in
    frame_more file p.offset p.item (frames_of ps)
    here.is here.within (ends-frames file (p.offset + size_of p.item) ps to ends.2)

numbered_frames-whole : (file : List ℕ) (head : Option Head) (ps : List PlacedFrame)
    → AreWholeFrames file ps → AreWholeFrames file (numbered_frames head ps)
numbered_frames-whole file head ps are = grind arith

-- side information with lists as long as the arrays has pairs of granules and channels
pub shaped_pairs : {s : Side} → IsShaped s → HasPairs s
shaped_pairs shaped = grind arith

rows-whole : (file : List ℕ) (ps : List PlacedFrame) → AreWholeFrames file ps
    → AreWholeRows file (rows_of file ps)
rows-whole file [] are = tt
rows-whole file (p ∷ ps) are =
    search (arith, shaped_pairs, shaped-side_in, rows-whole file ps are.1)

marks-whole : (file : List ℕ) (head : Option Head) (rows : List Row) (n : ℕ) (more : List Row)
    → AreWholeRows file more → AreWholeRows file
    (map (λ (p : ℕ × Row). marked_row head rows p.0 p.1) (enumerate_from n more))
marks-whole file head rows n [] are = tt
marks-whole file head rows n (r ∷ more) are =
    grind (arith, rows, marks-whole file head rows (n + 1) more are.1)

-- rows that are whole in the file are whole when marked
pub marked_rows-whole : (file : List ℕ) (head : Option Head) (rows : List Row)
    → AreWholeRows file rows → AreWholeRows file (marked_rows head rows)
unfolding marked_rows
marked_rows-whole file head rows are = marks-whole file head rows 0 rows are

-- the head is a whole frame too
head_by : {file : List ℕ} {p : PlacedFrame} (o : Option ℕ) → IsWholeFrameAt file p.offset p.header
    → HasWholeHead file
    (option_map (λ at. record { offset = p.offset; header = p.header; text_at = at }) o)
head_by o is = grind arith

-- the head of a whole frame is whole
pub head-whole : {file : List ℕ} {p : PlacedFrame} → IsWholeFrameAt file p.offset p.header
    → HasWholeHead file (head_of file p)
unfolding head_of
head-whole {file} {p} is = head_by _ is

-- ---- the main data of the file

area-length : {file : List ℕ} {offset : ℕ} {h : HeaderFields} → IsWholeFrameAt file offset h
    → length (area_bytes file offset h) ≡ own_area h
area-length is = grind (arith, area-is, IsClass-class_of, length-take-le, length-drop)

areas-length : (file : List ℕ) (rows : List Row) → AreWholeRows file rows
    → length (flat_map (λ (r : Row). area_bytes file r.offset r.header) rows)
    ≡ sum_by (λ (r : Row). own_area r.header) rows
areas-length file [] are = refl
areas-length file (r ∷ rows) are =
    search (arith, length-append, area-length, sum_by-cons, areas-length file rows are.1)

head-length : (file : List ℕ) (head : Option Head) → HasWholeHead file head
    → length (head_bytes file head) ≡ head_area head
head-length file head is = grind (arith, area-length)

area-among : (rows : List Row) (i : ℕ) {r : Row} → slice_get rows i ≡ Some r
    → sum_by (λ (q : Row). own_area q.header) (take i rows) + own_area r.header
    ≤ sum_by (λ (q : Row). own_area q.header) rows
area-among [] i is = absurd cc
area-among (q ∷ rows) zero {r} is =
    let same : q ≡ r = cc in
    omega (
      arith,
      ap (λ (x : Row). own_area x.header) same,
      sum_by-cons (λ (x : Row). own_area x.header) q rows,
    )
area-among (q ∷ rows) (suc i) {r} is = search (arith, sum_by-cons, area-among rows i is)

-- the main data of the file reach to the end of the area of each frame
pub main-reaches : (file : List ℕ) (head : Option Head) (rows : List Row) (i : ℕ) {r : Row}
    → HasWholeHead file head → AreWholeRows file rows → slice_get rows i ≡ Some r
    → place head rows i + own_area r.header ≤ length (main_bytes file head rows)
unfolding place main_bytes
main-reaches file head rows i {r} front are is =
    omega (
      arith,
      length-append (head_bytes file head)
          (flat_map (λ (q : Row). area_bytes file q.offset q.header) rows),
      head-length file head front,
      areas-length file rows are,
      area-among rows i is,
    )

rows-first : (file : List ℕ) (i : ℕ) (rows : List Row) → AreWholeRows file rows
    → AreWholeRows file (take i rows)
rows-first file zero [] are = tt
rows-first file zero (r ∷ rows) are = tt
rows-first file (suc i) [] are = tt
rows-first file (suc i) (r ∷ rows) are = (are.0, rows-first file i rows are.1)

-- the main data before frame i have as many bytes as its place says
pub main-place : (file : List ℕ) (head : Option Head) (rows : List Row) (i : ℕ)
    → HasWholeHead file head → AreWholeRows file rows
    → length (main_bytes file head (take i rows)) ≡ place head rows i
unfolding place main_bytes
main-place file head rows i front are =
    omega (
      arith,
      length-append (head_bytes file head)
          (flat_map (λ (q : Row). area_bytes file q.offset q.header) (take i rows)),
      head-length file head front,
      areas-length file (take i rows) (rows-first file i rows are),
    )

-- ---- bits in bytes

zeros-bits : (n : ℕ) → AreBits (zeros n)
zeros-bits zero = tt
zeros-bits (suc n) = (omega arith, zeros-bits n)

module _ (bs : List ℕ) (are : AreBits bs) where
  abbrev pub count : ℕ
  count = (length bs + 7) / 8

  abbrev pub filling : List ℕ
  filling = zeros (8 * count - length bs)

  whole : length (bs ++ filling) ≡ 8 * count
  whole = omega (arith, length-append bs filling, length-zeros (8 * count - length bs))

  filled-bits : AreBits (bs ++ filling)
  filled-bits = AreBelow-append 2 bs filling are (zeros-bits (8 * count - length bs))

  -- bits packed into bytes have as many bytes as hold them
  pub length-packed_bytes : length (packed_bytes bs) ≡ count
  length-packed_bytes = length-bytes count (bs ++ filling) whole

  -- the packed bits are bytes
  pub AreBytes-packed_bytes : AreBytes (packed_bytes bs)
  AreBytes-packed_bytes = AreBytes-bytes (bs ++ filling) filled-bits

  -- the bits of the packed bytes are the bits, followed by zeros
  pub bits-packed_bytes : bits (packed_bytes bs) ≡ bs ++ filling
  bits-packed_bytes = bits-bytes count filled-bits whole

-- ---- a frame with its main data

-- the side information has its pairs, whether or not the frame was lost
pub side_paired : (lost : Bool) {s : Side} → HasPairs s → HasPairs (cond lost no_side s)
side_paired lost pairs = grind arith

-- the fields of the side information are within their bits, whether or not the frame was lost
pub side_fits : {c : ClassFields} (lost : Bool) {s : Side} → SideFits c s
    → SideFits c (cond lost no_side s)
side_fits lost fits = grind arith

bytes_of_bits : (s : Side) {n : ℕ} → n ≡ payload_bits s → (n + 7) / 8 ≡ payload_bytes s
unfolding payload_bytes
bytes_of_bits s is = ap (λ m. (m + 7) / 8) is

-- a lost frame has no main data, and those of another frame end within its own area
data-ends : {head : Option Head} {c : ClassFields} {rows : List Row} {i : ℕ} {r : Row}
    → IsWellPlaced head c rows i r → (lost : Bool) → r.lost ≡ lost
    → payload_bytes (cond lost no_side r.side)
    ≤ (place head rows i + own_area r.header) - start_of_data (place head rows i) r
data-ends is true lost = omega (arith, no_bytes)
data-ends {rows = rows} is false lost = grind (arith, data-none_well, rows, ltb-false)

module _ (file : List ℕ) {head : Option Head} {c : ClassFields} {rows : List Row}
    (front : HasWholeHead file head) (are : AreWholeRows file rows)
    (placed : AreWellPlaced head c rows) where
  abbrev main : List ℕ
  main = main_bytes file head rows

  module _ (i : ℕ) {r : Row} (found : slice_get rows i ≡ Some r) (row : IsWholeRow file r) where
    abbrev own_bits : List ℕ
    own_bits = payload_at main (start_of_data (place head rows i) r) (row_side r)

    data-bits : AreBits own_bits
    data-bits = grind (arith, AreBelow-take, rows, AreBelow-drop, AreBits-bits)

    data-length : length own_bits ≡ payload_bits (row_side r)
    data-length =
        let start = start_of_data (place head rows i) r in
        length-take-le (payload_bits (row_side r)) (drop (8 * start) (bits main))
        (omega (
          arith,
          length-drop (8 * start) (bits main),
          length-bits main,
          bits_least (row_side r),
          data-ends (placed i r found) r.lost refl,
          main-reaches file head rows i front are found,
        ))

    abbrev own : Frame
    own =
        record {
          kept = record { header = r.header; side = row_side r };
          payload = packed_bytes own_bits;
        }

    bytes-is : (length own_bits + 7) / 8 ≡ payload_bytes (row_side r)
    bytes-is = bytes_of_bits (row_side r) data-length

    own-filled : drop (payload_bits (row_side r)) (bits (packed_bytes own_bits))
        ≡ zeros (8 * payload_bytes (row_side r) - payload_bits (row_side r))
    own-filled = grind (arith, bits-packed_bytes, data-bits, drop_at, data-length, bytes-is)

    -- the frame can be laid
    pub own-entry : IsStreamEntry c own
    own-entry =
        let well = placed i r found in
        record {
          header = row.frame.header;
          class = well.class_is;
          pairs = side_paired r.lost row.pairs;
          fits = side_fits r.lost well.fits;
          octets = AreBytes-packed_bytes own_bits data-bits;
          size = length-packed_bytes own_bits data-bits ∙ bytes-is;
          filled = own-filled;
        }

    -- in the stream it is the frame of its row
    pub own-stream : stream_entry own ≡ stream_frame main head rows i r
    own-stream = grind (arith, bits-packed_bytes, data-bits, take_at, data-length)

  -- ---- all of them

  abbrev each : ℕ × Row → Frame
  each p = record {
    kept = record { header = p.1.header; side = row_side p.1 };
    payload =
        packed_bytes (payload_at main (start_of_data (place head rows p.0) p.1) (row_side p.1));
  }

  each-entries : (n : ℕ) (more : List Row) → AreWholeRows file more → AreOnward rows n more
      → AreStreamEntries c (map each (enumerate_from n more))
  each-entries n [] whole_rows at = tt
  each-entries n (r ∷ more) whole_rows at = (
    own-entry n (onward-first rows n more at) whole_rows.0,
    each-entries (n + 1) more whole_rows.1 (onward-rest rows n more refl at),
  )

  each-stream : (n : ℕ) (more : List Row) → AreWholeRows file more → AreOnward rows n more
      → map stream_entry (map each (enumerate_from n more))
      ≡ map (λ (p : ℕ × Row). stream_frame main head rows p.0 p.1) (enumerate_from n more)
  each-stream n [] whole_rows at = refl
  each-stream n (r ∷ more) whole_rows at =
      ap₂ (λ (x : StreamFrame) (xs : List StreamFrame). x ∷ xs)
      (own-stream n (onward-first rows n more at) whole_rows.0)
      (each-stream (n + 1) more whole_rows.1 (onward-rest rows n more refl at))

-- ---- the frames of a survey

-- the frames are entries, and their stream is the survey's
pub record AreFramesOf (file : List ℕ) (s : SurveyFields) : Type 0 where
  pub entries : AreStreamEntries s.class (all_frames file s)
  pub stream_is : map stream_entry (all_frames file s) ≡ stream_of_survey file s

-- the frames of a survey whose file can be repacked are frames with side information and main data
pub frames-of : {file : List ℕ} {s : SurveyFields} → CanBeRelaid file s → AreFramesOf file s
unfolding all_frames stream_of_survey stream_frames
frames-of {file} {s} has = record {
  entries = each-entries file has.head has.rows has.placed 0
      s.frames has.rows (onward-all s.frames);
  stream_is = each-stream file has.head has.rows has.placed 0
      s.frames has.rows (onward-all s.frames);
}

-- ---- a file without fault

record IsWholeSurvey (file : List ℕ) (s : SurveyFields) : Type 0 where
  pub head : HasWholeHead file s.head
  pub rows : AreWholeRows file s.frames

survey_fields-whole : {file : List ℕ} (allowed : ℕ) {s : SurveyFields}
    → survey_fields file allowed ≡ Ok s → IsWholeSurvey file s
survey_fields-whole {file} allowed {s} e =
    let parts = survey_fields-parts e in
    let start : Start = parts.0 in
    let stream = stream_chain file start in
    let first = (start-first parts.1.start_is).frame in
    let whole_first : IsWholeFrameAt file start.first.offset start.first.header =
    record {
      header = header_front-in_range _ (stands-at file
          start.first.offset (FrameItem start.first.header) first.is);
      within = first.within;
    } in
    subst (IsWholeSurvey file) parts.2
    (record {
      head = head-whole whole_first;
      rows =
          marked_rows-whole file (head_of file start.first) (rows_of file (frames_from file start))
          (rows-whole file (frames_from file start)
          (numbered_frames-whole file (head_of file start.first) (frames_of stream.items)
          (ends-frames file
          start.first.offset stream.items stream.stop
          (item_chain-ends Stream file start.first.offset))));
    })

-- by a survey without fault its file can be repacked
pub surveys-had : SurveysCanBeRelaid
surveys-had file allowed s e =
    grind (
      arith,
      survey_fields-whole allowed e,
      survey_fields-parts e,
      survey_fields-placed file allowed e,
      surveyed-blocks file allowed s e,
    )

-- by a survey of a file that isn't too long its file can be repacked
pub survey-had : {file : List ℕ} (allowed : ℕ) {s : SurveyFields} → survey_of file allowed ≡ Ok s
    → CanBeRelaid file s
survey-had {file} allowed {s} e = surveys-had file allowed s (survey_of-parts file allowed e).1
