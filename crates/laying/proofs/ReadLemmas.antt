-- The main data of frames, read area by area.
use Rattle.std.proofs.Common.{ap, append-nil, append_assoc, ap₂, arith, Bool, cond, drop, eqb, Err}
use Rattle.std.proofs.Common.{false, flat_map, IfErr, inl, inr, length, length-append, length-drop}
use Rattle.std.proofs.Common.{List, min, None, Ok, OnOk, Option, refl, replicate, Result, slice_get}
use Rattle.std.proofs.Common.{Some, subst, suc, sum_by, sym, take, true, zero, ℕ, [], ◌*◌, ◌++◌}
use Rattle.std.proofs.Common.{◌+◌, ◌-◌, ◌/◌, ◌==◌, ◌∙◌, ◌∷◌, ◌≡◌, ◌≢◌, ◌≤◌, ◌⊎◌}
use Rattle.std.proofs.{Math.Seq.drop-append-add, lemmas.Bool.{ltb-false, Decides.eqb_tells}}
use Rattle.std.proofs.lemmas.List.{drop-drop, length-replicate, length-take-le, nil_from_length}
use Rattle.std.proofs.lemmas.List.{take-append-drop, Sums.sum_by-cons}
use Rattle.bit_fields.proofs.BitsLemmas.{AreBelow-drop, AreBelow-take, AreBits-bits, bits-front}
use Rattle.bit_fields.proofs.BitsLemmas.{bits-injective, length-bits}
use Rattle.bit_fields.specs.Bits.{AreBits, AreBytes, bits, bytes}
use Rattle.frame_header.specs.Fields.{ClassFields, HeaderFields}
use Rattle.frame_header.specs.Tables.{class_of, length_of, overhead_of, window_of}
use Rattle.frame_header.specs.declared.version.Version.{Version, TheVariants.One}
use Rattle.laying.proofs.BeginLemmas.{begin-near}
use Rattle.laying.proofs.SurveyFrameLemmas.{AreBytes-packed_bytes, bits-packed_bytes, main-place}
use Rattle.laying.specs.Areas.{ReadsArea}
use Rattle.laying.specs.Passing.{IsAreaOf, IsWindowOverFrames, IsWindowOverLast, skipped_area_bytes}
use Rattle.laying.specs.{Relaid.{packed_bytes, payload_of}, Surveys.CanBeRelaid}
use Rattle.outside.proofs.{CountsLemmas.only_reads_same, FilesLemmas.there_holds}
use Rattle.outside.specs.{Counts.OnlyReads, Files.{Files, Holds, IsFileThere, Told, Untold}}
use Rattle.outside.specs.{Pass.{HasPassCause, IsReadPassFault, Route}, Seen.Seen}
use Rattle.outside.specs.declared.pass.PassFault.{PassFault, TheVariants.{Read, Shrunk, Write}}
use Rattle.reservoir.specs.Window.{AreBitsPacked, IsWindowOver, main_bits}
use Rattle.side_info.specs.{Side.{no_side, payload_bits, payload_bytes}, declared.side.Side.Side}
use Rattle.sync_survey.{proofs.SurveyPartsLemmas.data-none_well, specs.Faults.SurveyFields}
use Rattle.sync_survey.specs.MainData.{area_bytes, data_end_before, end_of_data, head_area}
use Rattle.sync_survey.specs.MainData.{head_bytes, main_bytes, own_area, payload_at, place}
use Rattle.sync_survey.specs.{MainData.start_of_data, Row.Row}
use Rattle.sync_survey.specs.Survey.{FramesAreLaid, IsSurveyLaidOut, IsWellPlaced}
use Rattle.sync_survey.specs.declared.places.Head.{Head}

-- ---- a frame within the file

-- the bytes of an area are at its place
pub area-at : (file : List ℕ) (offset : ℕ) (h : HeaderFields) {at size : ℕ}
    → at ≡ offset + overhead_of (class_of h) h.protected → size ≡ own_area h
    → take size (drop at file) ≡ area_bytes file offset h
area-at file offset h at_is size_is = grind (arith, drop-drop)

-- consecutive frames end no earlier than they begin
pub laid-behind : (from : ℕ) {to : ℕ} (rows : List Row) → FramesAreLaid from rows to → from ≤ to
laid-behind from [] laid = laid
laid-behind from {to} (r ∷ rows) laid = omega (
  arith,
  laid.0,
  laid-behind (r.offset + length_of (class_of r.header) r.header.slot) rows laid.2,
)

-- each of consecutive frames ends no later than the last
pub laid-within : (from : ℕ) {to : ℕ} (rows : List Row) (i : ℕ) {r : Row}
    → FramesAreLaid from rows to → slice_get rows i ≡ Some r
    → r.offset + length_of (class_of r.header) r.header.slot ≤ to
laid-within from [] i laid is = absurd cc
laid-within from (q ∷ rows) zero laid is = grind (arith, laid-behind)
laid-within from {to} (q ∷ rows) (suc i) {r} laid is =
    laid-within (q.offset + length_of (class_of q.header) q.header.slot) rows i laid.2 is

-- ---- one more area

take-next : (rows : List Row) (i : ℕ) {r : Row} → slice_get rows i ≡ Some r
    → take (i + 1) rows ≡ take i rows ++ r ∷ []
take-next [] i is = absurd cc
take-next (q ∷ rows) zero is = ap (λ (x : Row). x ∷ []) cc
take-next (q ∷ rows) (suc i) {r} is = grind (arith, take-next rows i is)

sum-last : (rows : List Row) (r : Row) → sum_by (λ (q : Row). own_area q.header) (rows ++ r ∷ [])
    ≡ sum_by (λ (q : Row). own_area q.header) rows + own_area r.header
sum-last [] r = sum_by-cons (λ (q : Row). own_area q.header) r [] ∙ omega arith
sum-last (q ∷ rows) r = search (arith, sum_by-cons, sum-last rows r)

areas-last : (file : List ℕ) (rows : List Row) (r : Row)
    → flat_map (λ (q : Row). area_bytes file q.offset q.header) (rows ++ r ∷ []) ≡ flat_map
    (λ (q : Row). area_bytes file q.offset q.header) rows ++ area_bytes file r.offset r.header
areas-last file [] r = append-nil (area_bytes file r.offset r.header)
areas-last file (q ∷ rows) r = grind (arith, append_assoc, flat_map, areas-last file rows r)

-- the place of the next frame is further on by the area of this one
pub place-next : (head : Option Head) (rows : List Row) (i : ℕ) {r : Row}
    → slice_get rows i ≡ Some r → place head rows (i + 1) ≡ place head rows i + own_area r.header
unfolding place
place-next head rows i {r} is = grind (arith, sum_by, take-next rows i is, sum-last (take i rows) r)

-- one more frame adds the bytes of its area to the main data
pub main-next : (file : List ℕ) (head : Option Head) (rows : List Row) (i : ℕ) {r : Row}
    → slice_get rows i ≡ Some r → main_bytes file head (take (i + 1) rows)
    ≡ main_bytes file head (take i rows) ++ area_bytes file r.offset r.header
unfolding main_bytes
main-next file head rows i {r} is =
    grind (arith, flat_map, take-next rows i is, areas-last file (take i rows) r, append_assoc)

-- the areas of concatenated frames are the areas of the first frames, then of the others
areas-append : (file : List ℕ) (rows more : List Row)
    → flat_map (λ (q : Row). area_bytes file q.offset q.header) (rows ++ more)
    ≡ flat_map (λ (q : Row). area_bytes file q.offset q.header) rows
    ++ flat_map (λ (q : Row). area_bytes file q.offset q.header) more
areas-append file [] more = refl
areas-append file (q ∷ rows) more = grind (arith, append_assoc, areas-append file rows more)

-- the main data of the first frames are the beginning of the main data of all
pub main-front : (file : List ℕ) (head : Option Head) (rows : List Row) (n : ℕ)
    → (rest : List ℕ) × (main_bytes file head rows ≡ main_bytes file head (take n rows) ++ rest)
unfolding main_bytes
main-front file head rows n =
    let areas = λ (l : List Row). flat_map (λ (q : Row). area_bytes file q.offset q.header) l in (
      areas (drop n rows),
      ap (λ (l : List Row). head_bytes file head ++ areas l) (sym (take-append-drop n rows))
          ∙ ap (λ (l : List ℕ). head_bytes file head ++ l)
          (areas-append file (take n rows) (drop n rows))
          ∙ sym (append_assoc (head_bytes file head) (areas (take n rows)) (areas (drop n rows))),
    )

-- ---- the main data of one frame in a window

-- where the main data are, and how far a window has to reach
pub record IsWithin (head : Option Head) (rows : List Row) (i : ℕ) (r : Row) : Type 0 where
  pub begins : r.side.main_data_begin ≤ place head rows i
  pub apart : data_end_before head rows i ≤ place head rows i - r.side.main_data_begin
  pub near : r.side.main_data_begin ≤ 511
  pub ends : payload_bytes r.side ≤ own_area r.header + r.side.main_data_begin

window_most : (c : ClassFields) → window_of c.version ≤ 511
window_most c = by_version c.version
  where
    by_version : (v : Version) → window_of v ≤ 511
    by_version One = omega arith
    by_version _ = omega arith

-- the main data of a frame that isn't lost are within the areas up to its own
pub data-within : {head : Option Head} {c : ClassFields} {rows : List Row} {i : ℕ} {r : Row}
    → IsWellPlaced head c rows i r → r.lost ≡ false → IsWithin head rows i r
data-within {head} {c} {rows} {i} {r} is kept =
    let stands =
    data-none_well {place = place head rows i}
    {ended = data_end_before head rows i} {r = r} is.sound (sym is.mark ∙ kept) in
    let begins : r.side.main_data_begin ≤ place head rows i =
    grind (arith, ltb-false) in
    record {
      begins = begins;
      apart = grind (arith, ltb-false);
      near = omega (arith, begin-near {c = c} {s = r.side} is.fits, window_most c);
      ends = omega (
        arith,
        begins,
        ltb-false (place head rows i + own_area r.header)
            (end_of_data (place head rows i) r) stands.within,
      );
    }

-- the bytes for this many bits hold them
pub bits-least : (n : ℕ) → n ≤ 8 * ((n + 7) / 8)
bits-least n = omega arith

-- bytes that hold these bits are the bits packed
pub packed_bytes-is : {new bs : List ℕ} {count : ℕ} → AreBytes new → AreBits bs → length bs ≡ count
    → AreBitsPacked new count bs → new ≡ packed_bytes bs
packed_bytes-is octets are many is =
    grind (arith, bits-injective, AreBytes-packed_bytes, bits-packed_bytes)

-- the bits cut from the window are the frame's main data
pub cut-is : (file : List ℕ) {main new : List ℕ} (s : SurveyFields) {i : ℕ} {r : Row}
    {area begin count : ℕ} → slice_get s.frames i ≡ Some r → r.lost ≡ false
    → IsWithin s.head s.frames i r → length main
    ≡ place s.head s.frames (i + 1) → main ≡ main_bytes file s.head (take (i + 1) s.frames)
    → area ≡ own_area r.header → begin ≡ r.side.main_data_begin → count ≡ payload_bits r.side
    → count ≤ 8 * payload_bytes r.side → AreBytes new
    → AreBitsPacked new count (main_bits main (length main - area - begin) count)
    → new ≡ payload_of file s i r
cut-is file {main} {new} s {i} {r} {area} {begin} {count} found kept within long is area_is begin_is
    count_is least octets cut =
    let front = main-front file s.head s.frames (i + 1) in
    let start : length main - area - begin ≡ start_of_data (place s.head s.frames i) r =
    omega (arith, long, place-next s.head s.frames i found, area_is, begin_is) in
    let at = start_of_data (place s.head s.frames i) r in
    let reach : 8 * at + payload_bits r.side ≤ 8 * length main = omega
    (arith, long, place-next s.head s.frames i found, within.begins, within.ends, least, count_is)
    in
    let bits_are : main_bits main (length main - area - begin) count
    ≡ payload_at (main_bytes file s.head s.frames) at r.side =
    ap₂ (λ n m. take m (drop (8 * n) (bits main))) start count_is
    ∙ sym (bits-front main front.0 at (payload_bits r.side) reach)
    ∙ ap (λ (l : List ℕ). take (payload_bits r.side) (drop (8 * at) (bits l)))
    (ap (λ (l : List ℕ). l ++ front.0) is ∙ sym front.1) in
    let own = main_bits main (length main - area - begin) count in
    let are : AreBits own =
    AreBelow-take 2 count (drop (8 * (length main - area - begin)) (bits main))
    (AreBelow-drop 2 (8 * (length main - area - begin)) (bits main) (AreBits-bits main)) in
    let many : length own ≡ count =
    length-take-le count (drop (8 * (length main - area - begin)) (bits main)) (omega (
      arith,
      start,
      reach,
      count_is,
      length-bits main,
      length-drop (8 * (length main - area - begin)) (bits main),
    )) in
    packed_bytes-is octets are many cut
    ∙ ap packed_bytes bits_are
    ∙ ap (λ lost.
    packed_bytes (payload_at (main_bytes file s.head s.frames) at (cond lost no_side r.side)))
    (sym kept)

-- a lost frame has no main data
no_data : (main : List ℕ) (at : ℕ) → [] ≡ packed_bytes (payload_at main at no_side)
unfolding bytes payload_bits
no_data main at = refl

-- a lost frame has no main data
pub lost-is : (file : List ℕ) (s : SurveyFields) (i : ℕ) (r : Row) → r.lost ≡ true
    → [] ≡ payload_of file s i r
lost-is file s i r lost = grind (arith, no_data)

-- a window holds as many bytes as it is over, or 2,048
pub window-holds : {held : List ℕ} (main : List ℕ) → IsWindowOver held main
    → min 2048 (length main) ≤ length held
window-holds main is = omega (arith, ap length is ∙ length-drop (length main - 2048) main)

-- main data have an eighth as many bytes as bits, rounded up
pub bytes-are : (s : Side) → payload_bytes s ≡ (payload_bits s + 7) / 8
unfolding payload_bytes
bytes-are s = refl

-- ---- areas that were read into a window

abbrev some : List ℕ → Option (List ℕ)
some l = Some l

-- with the area of the next frame the window is over one more frame
pub last-next : {before after area input : List ℕ} {files : Files} {s : SurveyFields} {first i : ℕ}
    {r : Row} → slice_get s.frames i ≡ Some r → IsWindowOverLast before input files s first i
    → IsAreaOf area input files r
    → ((main : List ℕ) → IsWindowOver before main → IsWindowOver after (main ++ area))
    → IsWindowOverLast after input files s first (i + 1)
last-next found over has more = grind (arith, length-append, place-next, main-next, append_assoc)

-- a window with one more area is over the areas up to this frame
pub area-next : {before after input : List ℕ} {files now : Files} {s : SurveyFields} {first i : ℕ}
    {r : Row} {offset : ℕ} {h : HeaderFields} → slice_get s.frames i ≡ Some r → now ≡ files
    → offset ≡ r.offset → h ≡ r.header → IsWindowOverLast before input files s first i
    → ReadsArea input now offset h before after → IsWindowOverLast after input now s first (i + 1)
area-next {before} {after} {input} {now = now} {s = s} {first = first} {i =
    i} {r = r} found stay at header over read =
    last-next found
    (subst (λ f. IsWindowOverLast before input f s first i) (sym stay) over)
    (record {
      long = read.long ∙ ap own_area header;
      is = λ file holds. read.is file holds ∙ ap₂ (area_bytes file) at header;
    })
    read.over

-- with no area read yet
pub last-none : {window input : List ℕ} {files : Files} {s : SurveyFields} {first : ℕ}
    → (first ≡ 0 → ⊥) → IsWindowOver window []
    → ((file : List ℕ) → Holds files input file → CanBeRelaid file s)
    → IsWindowOverLast window input files s first first
last-none {s = s} {first = first} some held has =
    let skipped : skipped_area_bytes s first ≡ place s.head s.frames first =
    ap (λ b. cond b 0 (place s.head s.frames first)) (other first some) in
    record {
      main = [];
      held = held;
      long = omega (arith, skipped);
      is = λ file holds.
          let whole = has file holds in
          let front = main_bytes file s.head (take first s.frames) in (
            front,
            main-place file s.head s.frames first whole.head whole.rows ∙ sym skipped,
            sym (append-nil front),
          );
    }
  where
    told : (n : ℕ) → (n ≡ 0 → ⊥) → ((eqb n 0 ≡ true) × (n ≡ 0)) ⊎ ((eqb n 0 ≡ false) × (n ≢ 0))
        → (n == 0) ≡ false
    told n some (inl same) = absurd (some same.1)
    told n some (inr differ) = differ.0

    other : (n : ℕ) → (n ≡ 0 → ⊥) → (n == 0) ≡ false
    other n some = told n some (eqb_tells n 0)

-- the last 2,048 bytes of the last areas are the last of all areas
last-kept : {held : List ℕ} (front main : List ℕ) → 2048 ≤ length main → IsWindowOver held main
    → IsWindowOver held (front ++ main)
last-kept front main many is = grind (arith, length-append, drop-append-add)

skipped-most : (s : SurveyFields) (first : ℕ)
    → skipped_area_bytes s first ≤ place s.head s.frames first
skipped-most s first = by (first == 0)
  where
    by : (b : Bool) → cond b 0 (place s.head s.frames first) ≤ place s.head s.frames first
    by true = omega arith
    by false = omega arith

-- a window over the last areas is over all, if those have 2,048 bytes or are all
pub last-whole : {window input : List ℕ} (files : Files) {s : SurveyFields} {first i : ℕ}
    → IsFileThere files input
    → (first ≡ 0) ⊎ (place s.head s.frames first + 2048 ≤ place s.head s.frames i)
    → IsWindowOverLast window input files s first i → IsWindowOverFrames window input files s i
last-whole files there (inl none) over = grind (arith, nil_from_length)
last-whole (Untold touched) {s} {first} there (inr far) over =
    let skipped : List ℕ = replicate (skipped_area_bytes s first) 0 in
    record {
      main = skipped ++ over.main;
      held = grind (arith, last-kept, skipped-most);
      long = grind (arith, length-append, length-replicate);
      is = λ file holds. absurd holds;
    }
last-whole {input = input} (Told f) there (inr far) over =
    let held = there_holds f there in
    let own = over.is held.0 held.1 in
    record {
      main = own.0 ++ over.main;
      held = grind (arith, last-kept, skipped-most);
      long = length-append own.0 over.main ∙ ap (λ n. n + length over.main) own.1 ∙ over.long;
      is = grind arith;
    }
  where
    only-one : (a b : List ℕ) → some a ≡ some b → a ≡ b
    only-one a b e = cc

-- ---- before the first frame

-- the place of the first frame is after the head's area
pub place-first : (head : Option Head) (rows : List Row) → place head rows 0 ≡ head_area head
unfolding place
place-first head rows = omega arith

-- before the first frame the main data are the head's area
pub main-first : (file : List ℕ) (head : Option Head) (rows : List Row)
    → main_bytes file head (take 0 rows) ≡ head_bytes file head
unfolding main_bytes
main-first file head rows = append-nil (head_bytes file head)

-- if there is no head, an empty window is over the areas before the first frame
pub over-none : {window : List ℕ} (input : List ℕ) (files : Files) {s : SurveyFields} {first : ℕ}
    → first ≡ 0 → s.head ≡ None → IsWindowOver window []
    → IsWindowOverLast window input files s first first
over-none {window} input files {s} zeroth none held =
    subst (λ n. IsWindowOverLast window input files s n n) (sym zeroth) (record {
      main = [];
      held = held;
      long = sym (place-first s.head s.frames ∙ ap head_area none);
      is = λ file holds. ([], refl, main-first file s.head s.frames ∙ ap (head_bytes file) none);
    })

-- a window with the area of the head is over the areas before the first frame
pub over-head : {window area input : List ℕ} {files : Files} {s : SurveyFields} {first : ℕ}
    {head : Head} → first ≡ 0 → s.head ≡ Some head → length area ≡ own_area head.header
    → ((file : List ℕ) → Holds files input file → area ≡ area_bytes file head.offset head.header)
    → IsWindowOver window area → IsWindowOverLast window input files s first first
over-head {window} {area} {input} {files} {s} zeroth some long
    is held =
    subst (λ n. IsWindowOverLast window input files s n n) (sym zeroth) (record {
      main = area;
      held = held;
      long = omega (arith, long ∙ sym (place-first s.head s.frames ∙ ap head_area some));
      is = λ file holds. (
        [],
        refl,
        main-first file s.head s.frames ∙ ap (head_bytes file) some ∙ sym
            (is file holds),
      );
    })

-- where an input could be read nothing was counted, and where not, reads alone
pub read-counts : {T : Type 0} (way : Route) (old new : Seen) (result : Result T PassFault)
    → OnOk result (new.counts ≡ old.counts)
    → IfErr result (HasPassCause way old.files old.counts new.counts)
    → IfErr result IsReadPassFault → OnlyReads old.counts new.counts
read-counts way old new (Ok x) done cause read =
    subst (OnlyReads old.counts) (sym done) (only_reads_same old.counts)
read-counts way old new (Err Read) done cause read = cause.1
read-counts way old new (Err (Shrunk first second)) done cause read = cause.5
read-counts way old new (Err Write) done cause read = absurd read

-- the head is within the length
pub head-within : {s : SurveyFields} {head : Head} → IsSurveyLaidOut s → s.head ≡ Some head
    → head.offset + length_of (class_of head.header) head.header.slot ≤ s.length
head-within laid is = grind arith
