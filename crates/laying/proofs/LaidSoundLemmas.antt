-- No frame of a laid file is at fault, and none is lost.
use Rattle.std.proofs.Common.{ap, ap₂, arith, Bool, cond, drop, false, length, List, map, None}
use Rattle.std.proofs.Common.{Option, option_map, refl, slice_get, Some, subst, suc, sym, take}
use Rattle.std.proofs.Common.{zero, zero-add, ℕ, [], ◌+◌, ◌<◌, ◌==◌, ◌∙◌, ◌∷◌, ◌≡◌, ◌≤◌}
use Rattle.std.proofs.lemmas.Bool.{and_right, le-ltb, ne_eqb}
use Rattle.std.{proofs.lemmas.Option.{slice_get-map, slice_get_within}, specs.List.enumerate_from}
use Rattle.frame_header.specs.Fields.{ClassFields}
use Rattle.frame_writer.specs.Frames.{all_frame_data, Frame, frame_data}
use Rattle.frame_writer.specs.Laid.{areas_end, CanDataBeLaid, data_end, frame_data_end}
use Rattle.frame_writer.specs.Laid.{frame_data_start}
use Rattle.laying.proofs.LaidDataLemmas.{data_end-next, IsWellLaid, take-last, well-laid}
use Rattle.laying.proofs.LaidFrameLemmas.{areas-sum, IsRowOf, row-get, rows-length, same-class}
use Rattle.laying.proofs.LaidFrameLemmas.{StandFrom}
use Rattle.laying.specs.LaidFiles.{AreStreamEntries, frame_length, rows_from}
use Rattle.side_info.specs.{Frame.stored_crc, Side.payload_bytes}
use Rattle.sync_survey.{proofs.SurveyPartsLemmas.{AreSound, IsSound, StandWell}, specs.Laws.AreNear}
use Rattle.sync_survey.specs.MainData.{data_end_after, data_end_before, end_of_data, head_area}
use Rattle.sync_survey.specs.MainData.{is_lost, lacks_data, marked_row, marked_rows, place}
use Rattle.sync_survey.specs.{MainData.{points_too_far, start_of_data}, Row.Row}
use Rattle.sync_survey.specs.declared.places.Head.{Head}

-- ---- one frame

either_most : (b : Bool) {m n most : ℕ} → m ≤ most → n ≤ most → cond b m n ≤ most
either_most b first second = grind arith

-- the place of the own area is after the areas of the head and of the
-- frames before it; main data were laid from the end of the head's area on
module _ {file : List ℕ} {c : ClassFields} (head : ℕ) (end : ℕ) {area_start : ℕ} {f : Frame}
    {r : Row}
    (row : IsRowOf file c f r)
    (begins : end + f.kept.side.main_data_begin ≤ area_start)
    (ends : frame_data_end area_start (frame_data f) ≤ area_start + (frame_data f).area) where
  begin-is : r.side.main_data_begin ≡ f.kept.side.main_data_begin
  begin-is = ap (λ s. s.main_data_begin) row.side

  -- where they were laid
  pub start-there : start_of_data (head + area_start) r
      ≡ head + frame_data_start area_start (frame_data f)
  start-there = omega (arith, begin-is, begins)

  end-there : end_of_data (head + area_start) r ≡ head + frame_data_end area_start (frame_data f)
  end-there = omega (arith, start-there, ap payload_bytes row.side, row.entry.size)

  -- its main data don't begin too far back
  pub reaches : points_too_far (head + area_start) r ≡ false
  reaches = le-ltb _ _ (omega (arith, begin-is, begins))

  -- its main data are all there
  pub has_data : (ended : ℕ) → lacks_data (head + area_start) ended r ≡ false
  has_data ended = and_right (ended == 0) (points_too_far (head + area_start) r) reaches

  well : {ended : ℕ} → ended ≤ head + end → StandWell (head + area_start) ended r
  well before = grind (arith, reaches, le-ltb, start-there, end-there)

  -- after it the main data end no later than those that
  -- were laid; a silent frame doesn't change where they end
  pub behind-most : {ended : ℕ} → ended ≤ head + end
      → data_end_after (head + area_start) ended (Some r)
      ≤ head + frame_data_end area_start (frame_data f)
  behind-most before = grind (arith, either_most, end-there)

  -- it isn't at fault
  pub sound-there : {allowed ended count : ℕ} → ended ≤ head + end → count < allowed
      → IsSound (stored_crc (drop r.offset file)) c allowed (head + area_start) ended count r
  sound-there before few = grind (arith, same-class, well, ne_eqb)

-- ---- all of them

piece_get : (fs : List Frame) (i : ℕ) {f : Frame} → slice_get fs i ≡ Some f
    → slice_get (all_frame_data fs) i ≡ Some (frame_data f)
piece_get fs i is = grind (arith, slice_get-map, option_map)

piece_none : (at : ℕ) (fs : List Frame) (i : ℕ) → slice_get (rows_from at fs) i ≡ None
    → slice_get (all_frame_data fs) i ≡ None
piece_none at [] i is = refl
piece_none at (f ∷ fs) zero is = absurd cc
piece_none at (f ∷ fs) (suc i) is = piece_none (at + frame_length f) fs i is

module _ (file : List ℕ) (c : ClassFields) (head : Option Head) (at : ℕ) (fs : List Frame)
    (area_data : List ℕ) (entries : AreStreamEntries c fs) (stand : StandFrom file at fs area_data)
    (fits : CanDataBeLaid (all_frame_data fs)) where
  abbrev rows : List Row
  rows = rows_from at fs

  abbrev area_start : ℕ → ℕ
  area_start i = areas_end 0 (take i (all_frame_data fs))

  abbrev end : ℕ → ℕ
  end i = data_end 0 0 (take i (all_frame_data fs))

  -- frame i, its row and where it was laid
  record IsAt (i : ℕ) (r : Row) : Type 0 where
    frame : Frame
    found : slice_get (all_frame_data fs) i ≡ Some (frame_data frame)
    own : slice_get fs i ≡ Some frame
    row : IsRowOf file c frame r
    laid : IsWellLaid 0 0 (all_frame_data fs) i (frame_data frame)

  is_at : {i : ℕ} {r : Row} → slice_get rows i ≡ Some r → IsAt i r
  is_at {i} {r} is =
      let found = row-get c file at fs area_data i r entries stand is in
      let piece = piece_get fs i found.1 in
      record {
        frame = found.0;
        found = piece;
        own = found.1;
        row = found.2;
        laid = grind (arith, well-laid 0 (all_frame_data fs) i fits piece);
      }

  -- the place of a frame is after the head's area and the areas of the frames before it
  pub place-there : (i : ℕ) → place head rows i ≡ head_area head + area_start i
  unfolding place
  place-there i = ap (λ n. head_area head + n) (sym (zero-add _) ∙ areas-sum at 0 fs i)

  behind_by : (i : ℕ) (o : Option Row) → slice_get rows i ≡ o → data_end_before head rows i
      ≤ head_area head + end i → data_end_after (place head rows i) (data_end_before head rows i) o
      ≤ head_area head + end (suc i)
  behind_by i None is before = grind (arith, take-last, piece_none)
  behind_by i (Some r) is before =
      let here = is_at is in
      let most = behind-most (head_area head) (end i)
      here.row here.laid.begins here.laid.ends before in
      omega (
        arith,
        most,
        ap (λ n. data_end_after n (data_end_before head rows i) (Some r)) (place-there i),
        data_end-next 0 0 (all_frame_data fs) i here.found,
      )

  -- before frame i the main data end no later than those that were laid
  ended-most : (i : ℕ) → data_end_before head rows i ≤ head_area head + end i
  unfolding data_end_before
  ended-most zero = omega arith
  ended-most (suc i) = behind_by i (slice_get rows i) refl (ended-most i)

  -- all frames are sound
  pub laid-sound : (allowed : ℕ) → length fs ≤ allowed → AreSound file head c allowed rows
  laid-sound allowed few i r is =
      let here = is_at is in
      let within : i < allowed =
      omega (arith, few, slice_get_within rows i r is, rows-length at fs) in
      subst (λ n. IsSound (stored_crc (drop r.offset file)) c allowed n
      (data_end_before head rows i) i r)
      (sym (place-there i))
      (sound-there (head_area head) (end i) here.row
      here.laid.begins here.laid.ends (ended-most i) within)

  none_lost : (i : ℕ) {r : Row} → slice_get rows i ≡ Some r → is_lost head rows i r ≡ r.lost
  none_lost i {r} is = grind (arith, is_at is, place-there i, has_data)

  marks : (n : ℕ) (more : List Row)
      → ((i : ℕ) (r : Row) → slice_get more i ≡ Some r → is_lost head rows (n + i) r ≡ r.lost)
      → map (λ (p : ℕ × Row). marked_row head rows p.0 p.1) (enumerate_from n more) ≡ more
  marks n [] kept = refl
  marks n (r ∷ more) kept =
      let none : n + 0 ≡ n = omega arith in
      let same : is_lost head rows n r ≡ r.lost = grind arith in
      let own : marked_row head rows n r ≡ r = λ j. record r { lost = same j } in
      ap₂ (λ (q : Row) (qs : List Row). q ∷ qs) own (marks (n + 1) more
      (λ i q is. ap (λ m. is_lost head rows m q) (omega arith) ∙ kept (suc i) q is))

  -- none is marked
  pub marked_rows-none : marked_rows head rows ≡ rows
  unfolding marked_rows
  marked_rows-none = search (arith, marks, zero-add, none_lost)

  -- the main data of frame i begin where they were laid
  pub starts-there : (i : ℕ) (r : Row) → slice_get rows i ≡ Some r
      → (f : Frame) × (slice_get fs i ≡ Some f) × (start_of_data (place head rows i) r
      ≡ head_area head + frame_data_start (area_start i) (frame_data f))
  starts-there i r is = grind (arith, is_at is, place-there i, start-there)

-- the main data of each frame begin within the areas of the frames before it, without the head's
pub laid-near : (file : List ℕ) (c : ClassFields) (at : ℕ) (fs : List Frame) (area_data : List ℕ)
    → AreStreamEntries c fs → StandFrom file at fs area_data → CanDataBeLaid (all_frame_data fs)
    → AreNear (rows_from at fs)
laid-near file c at fs area_data entries stand fits i r is =
    grind (
      arith,
      is_at file c None at fs area_data entries stand fits is,
      place-there file c None at fs area_data entries stand fits i,
    )
