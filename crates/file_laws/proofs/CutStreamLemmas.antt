-- The stream of a file that was cut short: the first
-- frames of the file's stream, with the same main data.
use Rattle.std.proofs.Common.{ap, append_assoc, ap₂, arith, Bool, cond, drop, length, length-append}
use Rattle.std.proofs.Common.{length-drop, List, map, Option, refl, Some, subst, suc, sym, take}
use Rattle.std.proofs.Common.{zero, ℕ, [], ◌++◌, ◌+◌, ◌-◌, ◌∙◌, ◌∷◌, ◌≡◌, ◌≤◌}
use Rattle.std.proofs.lemmas.{Bool.ltb-false, Grind.flat_map-append}
use Rattle.std.proofs.lemmas.List.{drop-take, length-take-le, map-append, take-take}
use Rattle.std.proofs.lemmas.{List.Sums.sum_by-cons, Option.slice_get_within}
use Rattle.std.specs.{List.enumerate_from, Prelude.{flat_map, option_map, slice_get, sum_by}}
use Rattle.bit_fields.proofs.BitsLemmas.{bits-front}
use Rattle.file_laws.proofs.CutFrameLemmas.{AreIn, IsIn}
use Rattle.file_laws.proofs.CutItemLemmas.{cut, drop-cut, length-cut}
use Rattle.frame_header.proofs.{HeaderLemmas.IsClass-class_of, SlotLemmas.area-is}
use Rattle.frame_header.specs.Fields.{ClassFields, HeaderFields, IsHeader}
use Rattle.frame_header.specs.Tables.{class_of, length_of, overhead_of}
use Rattle.info_header.specs.HeadText.{head_text_of}
use Rattle.side_info.{proofs.SideLemmas.bits_least, specs.Side.{no_side, payload_bits}}
use Rattle.sync_survey.proofs.FaultsLemmas.{end-more, enumerate-append, map-numbers, place-more}
use Rattle.sync_survey.proofs.SurveyPartsLemmas.{data-none_well}
use Rattle.sync_survey.specs.MainData.{area_bytes, granule_lengths, head_area, head_bytes}
use Rattle.sync_survey.specs.MainData.{lacks_data, main_bytes, marked_row, marked_rows, own_area}
use Rattle.sync_survey.specs.MainData.{payload_at, place, row_side, rows_of, split_bits}
use Rattle.sync_survey.specs.MainData.{start_of_data, stream_frame, stream_frames, StreamFrame}
use Rattle.sync_survey.specs.{Row.Row, Survey.AreWellPlaced, Walk.{frame_bytes, head_of}}
use Rattle.sync_survey.specs.declared.places.{Head.Head, PlacedFrame.PlacedFrame}

-- ---- marks

marks-front : (head : Option Head) (rows more : List Row) → marked_rows head (rows ++ more)
    ≡ marked_rows head rows ++ map (λ (p : ℕ × Row). marked_row head
    (rows ++ more) p.0 p.1) (enumerate_from (length rows) more)
unfolding marked_rows
marks-front head rows more =
    let each = λ (p : ℕ × Row). marked_row head (rows ++ more) p.0 p.1 in
    ap (map each) (enumerate-append 0 rows more)
    ∙ map-append each (enumerate_from 0 rows) (enumerate_from (0 + length rows) more)
    ∙ ap (λ n. map each (enumerate_from 0 rows) ++ map each (enumerate_from n more))
    (let e : 0 + length rows ≡ length rows = omega arith in e)
    ∙ ap (λ (rs : List Row). rs ++ map each (enumerate_from (length rows) more))
    (map-numbers 0 rows (λ i r low.
    let before : i ≤ length rows = omega (arith, low) in
    λ j. record r {
      lost =
          lacks_data (place-more head rows more before j) (end-more head rows more i before j) r;
    }))

-- ---- numbered rows

numbers-same : {A : Type 0} (f g : ℕ → Row → A) (n : ℕ) (rows : List Row)
    → ((i : ℕ) (r : Row) → slice_get rows i ≡ Some r → f (n + i) r ≡ g (n + i) r)
    → map (λ (p : ℕ × Row). f p.0 p.1) (enumerate_from n rows)
    ≡ map (λ (p : ℕ × Row). g p.0 p.1) (enumerate_from n rows)
numbers-same f g n [] same = refl
numbers-same f g n (r ∷ rows) same =
    let none : n + 0 ≡ n = omega arith in
    ap₂ (λ a b. a ∷ b) (subst (λ m. f m r ≡ g m r) none (same 0 r refl))
    (numbers-same f g (n + 1) rows (λ i q is. let e : n + suc i ≡ n + 1 + i = omega arith in
    subst (λ m. f m q ≡ g m q) e (same (suc i) q is)))

-- ---- bits of the first bytes

no-bits : payload_bits no_side ≡ 0
unfolding payload_bits
no-bits = refl

-- ---- areas

module _ (file : List ℕ) {n : ℕ} (within : n ≤ length file) where
  abbrev now : List ℕ
  now = cut file within

  module _ (at : ℕ) {h : HeaderFields} (is : IsHeader h)
      (high : at + length_of (class_of h) h.slot ≤ n) where
    abbrev over : ℕ
    over = overhead_of (class_of h) h.protected

    parts : length_of (class_of h) h.slot ≡ over + own_area h
    parts = grind (arith, area-is, IsClass-class_of)

    area-same : area_bytes now at h ≡ area_bytes file at h
    area-same =
        let left = n - at in
        let split : left ≡ over + (left - over) = omega (arith, parts, high) in
        ap (λ (xs : List ℕ). take (own_area h) (drop over xs))
        (drop-cut file within (omega (arith, high)) ∙ ap (λ k. take k (drop at file)) split)
        ∙ ap (take (own_area h)) (drop-take over (left - over) (drop at file))
        ∙ take-take (own_area h) (left - over) (drop over (drop at file))
        (omega (arith, parts, high))

    area-long : length (area_bytes now at h) ≡ own_area h
    area-long = grind (arith, length-take-le, parts, length-drop, length-cut)

  marks-in : (head : Option Head) (all : List Row) (k : ℕ) (rows : List Row)
      → AreIn file within rows → AreIn file within
      (map (λ (p : ℕ × Row). marked_row head all p.0 p.1) (enumerate_from k rows))
  marks-in head all k [] are = tt
  marks-in head all k (r ∷ rows) are = (are.0, marks-in head all (k + 1) rows are.1)

  marked_rows-in : (head : Option Head) (rows : List Row) → AreIn file within rows
      → AreIn file within (marked_rows head rows)
  unfolding marked_rows
  marked_rows-in head rows are = marks-in head rows 0 rows are

  abbrev areas : List ℕ → List Row → List ℕ
  areas f rows = flat_map (λ (r : Row). area_bytes f r.offset r.header) rows

  abbrev all_own : List Row → ℕ
  all_own rows = sum_by (λ (r : Row). own_area r.header) rows

  areas-same : (rows : List Row) → AreIn file within rows → areas now rows ≡ areas file rows
  areas-same [] are = refl
  areas-same (r ∷ rows) are = grind (arith, area-same, areas-same rows are.1)

  areas-long : (rows : List Row) → AreIn file within rows → length (areas now rows) ≡ all_own rows
  areas-long [] are = refl
  areas-long (r ∷ rows) are =
      omega (
        arith,
        length-append (area_bytes now r.offset r.header) (areas now rows),
        area-long r.offset are.0.header are.0.high,
        areas-long rows are.1,
        sum_by-cons (λ (q : Row). own_area q.header) r rows,
      )

  -- the areas of a frame and of the frames before it are among all areas
  own-within : (rows : List Row) (i : ℕ) {r : Row} → slice_get rows i ≡ Some r
      → all_own (take i rows) + own_area r.header ≤ all_own rows
  own-within [] i is = absurd cc
  own-within (q ∷ rows) zero {r} is =
      let one : q ≡ r = cc in
      let same : own_area q.header ≡ own_area r.header = ap (λ (x : Row). own_area x.header) one in
      omega (arith, same, sum_by-cons (λ (x : Row). own_area x.header) q rows)
  own-within (q ∷ rows) (suc i) {r} is =
      omega (
        arith,
        own-within rows i is,
        sum_by-cons (λ (x : Row). own_area x.header) q rows,
        sum_by-cons (λ (x : Row). own_area x.header) q (take i rows),
      )

  -- ---- the head

  module _ (p : PlacedFrame) (is : IsIn file within p.offset p.header) where
    abbrev head_with : Option ℕ → Option Head
    head_with o =
        option_map (λ text. record { offset = p.offset; header = p.header; text_at = text }) o

    head_by : (o : Option ℕ) → (head_bytes now (head_with o) ≡ head_bytes file (head_with o))
        × (length (head_bytes now (head_with o)) ≡ head_area (head_with o))
    head_by o = grind (arith, area-same, area-long)

    head-parts : (head_bytes now (head_of file p) ≡ head_bytes file (head_of file p))
        × (length (head_bytes now (head_of file p)) ≡ head_area (head_of file p))
    unfolding head_of
    head-parts = head_by (head_text_of p.header (frame_bytes file p))

    abbrev head : Option Head
    head = head_of file p

    -- ---- the main data

    main-front : (rows more : List Row) → AreIn file within rows
        → (rest : List ℕ) × (main_bytes file head (rows ++ more) ≡ main_bytes now head rows ++ rest)
    unfolding main_bytes
    main-front rows more are = (
      areas file more,
      ap₂ (λ (xs ys : List ℕ). xs ++ ys) (sym head-parts.0)
          (flat_map-append (λ (r : Row). area_bytes file r.offset r.header) rows more
          ∙ ap (λ (xs : List ℕ). xs ++ areas file more) (sym (areas-same rows are)))
          ∙ sym (append_assoc (head_bytes now head) (areas now rows) (areas file more)),
    )

    main-long : (rows : List Row) → AreIn file within rows
        → length (main_bytes now head rows) ≡ head_area head + all_own rows
    unfolding main_bytes
    main-long rows are = omega (
      arith,
      length-append (head_bytes now head) (areas now rows),
      head-parts.1,
      areas-long rows are,
    )

    place-within : (rows : List Row) (i : ℕ) {r : Row} → AreIn file within rows → slice_get rows i
        ≡ Some r → place head rows i + own_area r.header ≤ length (main_bytes now head rows)
    unfolding place
    place-within rows i {r} are found = omega (arith, main-long rows are, own-within rows i found)

    -- ---- the frames of the stream

    module _ {class : ClassFields} {rows : List Row} (more : List Row)
        (are : AreIn file within rows)
        (placed : AreWellPlaced head class rows) where
      abbrev main : List ℕ
      main = main_bytes now head rows

      payload_by : (i : ℕ) {r : Row} {lost : Bool} → slice_get rows i ≡ Some r → r.lost ≡ lost
          → let start = start_of_data (place head rows i) r in
          payload_at (main ++ (main-front rows more are).0) start (cond lost no_side r.side)
          ≡ payload_at main start (cond lost no_side r.side)
      payload_by i found is =
          grind (
            arith,
            main-front,
            no-bits,
            data-none_well,
            ltb-false,
            bits-front,
            bits_least,
            place-within,
          )

      frame-same : (i : ℕ) {r : Row} → slice_get rows i ≡ Some r
          → stream_frame (main_bytes file head (rows ++ more)) head (rows ++ more) i r
          ≡ stream_frame main head rows i r
      frame-same i {r} found =
          let low : i ≤ length rows = omega (arith, slice_get_within rows i r found) in
          let start = start_of_data (place head rows i) r in
          let payload : payload_at (main_bytes file head (rows ++ more)) (start_of_data (place head
          (rows ++ more) i) r) (row_side r) ≡ payload_at main start (row_side r) =
          ap₂ (λ (m : List ℕ) k. payload_at m (start_of_data k r) (row_side r))
          (main-front rows more are).1 (place-more head rows more low)
          ∙ payload_by i found refl in
          ap (λ (bs : List ℕ). record {
            header = (stream_frame main head rows i r).header;
            side = (stream_frame main head rows i r).side;
            payload = split_bits (granule_lengths r.header (row_side r)) bs;
          }) payload

      -- the stream of the first frames begins the stream of all
      pub stream-front : (rest : List StreamFrame) × (stream_frames main head rows ++ rest
          ≡ stream_frames (main_bytes file head (rows ++ more)) head (rows ++ more))
      unfolding stream_frames
      stream-front =
          let each = λ (p : ℕ × Row). stream_frame (main_bytes file head (rows ++ more)) head
          (rows ++ more) p.0 p.1 in
          let later = map each (enumerate_from (0 + length rows) more) in
          let zero_more : (i : ℕ) → 0 + i ≡ i = λ i. omega arith in (
            later,
            sym (ap (map each) (enumerate-append 0 rows more)
                ∙ map-append each (enumerate_from 0 rows) (enumerate_from (0 + length rows) more)
                ∙ ap (λ (fs : List StreamFrame). fs ++ later)
                (numbers-same (stream_frame (main_bytes file head (rows ++ more)) head
                (rows ++ more)) (stream_frame main head rows) 0 rows (λ i r found.
                subst (λ k. stream_frame (main_bytes file head (rows ++ more)) head (rows ++ more) k
                r ≡ stream_frame main head rows k r) (sym (zero_more i)) (frame-same i found)))),
          )

    -- with the rows marked, the stream of the first frames begins the stream of all frames too
    pub marked_rows-front : {class : ClassFields} (ps : List PlacedFrame) (gone : List Row)
        → AreIn file within (rows_of file ps)
        → AreWellPlaced head class (marked_rows head (rows_of file ps))
        → (rest : List StreamFrame) × (stream_frames (main_bytes now head
        (marked_rows head (rows_of file ps))) head (marked_rows head (rows_of file ps)) ++ rest
        ≡ stream_frames (main_bytes file head (marked_rows head (rows_of file ps ++ gone))) head
        (marked_rows head (rows_of file ps ++ gone)))
    marked_rows-front {class} ps gone are placed =
        let rows = rows_of file ps in
        let later = map (λ (p : ℕ × Row). marked_row head (rows ++ gone) p.0 p.1)
        (enumerate_from (length rows) gone) in
        let found =
        stream-front later (marked_rows-in head rows are) placed in (
          found.0,
          found.1 ∙ ap (λ (rs : List Row). stream_frames (main_bytes file head rs) head rs)
              (sym (marks-front head rows gone)),
        )
