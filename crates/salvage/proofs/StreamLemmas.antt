-- The stream of what is read, island by island, is the stream of all frames in the survey.
use Rattle.std.proofs.Common.{ap, append_assoc, ap₂, arith, Bool, cond, drop, false, flat_map}
use Rattle.std.proofs.Common.{IfSome, length, length-append, length-drop, length-take, List, map}
use Rattle.std.proofs.Common.{None, not, Ok, Option, refl, Some, subst, suc, sym, take, true, ℕ, []}
use Rattle.std.proofs.{Common.{◌*◌, ◌++◌, ◌+◌, ◌-◌, ◌∙◌, ◌∷◌, ◌≡◌, ◌≤◌}, lemmas.Bool.not-false}
use Rattle.std.proofs.lemmas.List.{drop-append-le, take-append-le, Concat.flat_map-append}
use Rattle.std.specs.List.{enumerate_from}
use Rattle.bit_fields.{proofs.BitsLemmas.{bits-append, length-bits}, specs.Bits.bits}
use Rattle.frame_header.specs.Fields.{ClassFields, HeaderFields}
use Rattle.frame_header.specs.Tables.{area_of, class_of, length_of}
use Rattle.salvage.proofs.{KeptLemmas.sound_within, LaidOutLemmas.damaged_fields-from}
use Rattle.salvage.proofs.SoundLemmas.{judged_from, judged_rows-from}
use Rattle.salvage.specs.DamagedFiles.{damaged_fields, damaged_from, DamagedFields, things_from}
use Rattle.salvage.specs.{JudgedFrames.state_after_frame, Progress.IsDamagedLaidOut}
use Rattle.salvage.specs.SoundFrames.{FrameIslands, is_sound, islands_of, judged_islands}
use Rattle.salvage.specs.SoundFrames.{judged_rows}
use Rattle.salvage.specs.Stream.{island_stream, islands_stream, salvaged_stream, stream_from}
use Rattle.salvage.specs.Walk.{first_frame}
use Rattle.side_info.specs.{Side.{no_side, payload_bits, payload_bytes}, declared.side.Side.Side}
use Rattle.sync_survey.proofs.EmptiedLemmas.{no_bits}
use Rattle.sync_survey.proofs.FaultsLemmas.{place-more, place-next, place-none}
use Rattle.sync_survey.{proofs.StepLemmas.laid_end, specs.Faults.stream_of_survey}
use Rattle.sync_survey.specs.MainData.{area_bytes, granule_lengths, head_area, head_bytes}
use Rattle.sync_survey.specs.MainData.{main_bytes, no_slot, own_area, payload_at, place, row_side}
use Rattle.sync_survey.specs.MainData.{rows_of, split_bits, start_of_data, stream_frame}
use Rattle.sync_survey.specs.{MainData.{stream_frames, StreamFrame}, Row.Row, Start.front_end_of}
use Rattle.sync_survey.specs.{Survey.{FramesAreLaid, IsWholeHead}, Walk.head_of}
use Rattle.sync_survey.specs.declared.places.{Head.Head, PlacedFrame.PlacedFrame}
use Rattle.sync_survey.specs.declared.rows.ReservoirState.{ReservoirState}

-- ---- frames in order

-- a frame of the stream, given the place of its own area
abbrev frame_at : List ℕ → ℕ → Row → StreamFrame
frame_at main place r = record {
  header = record r.header { slot = no_slot };
  side = record (row_side r) { main_data_begin = 0 };
  payload = split_bits (granule_lengths r.header (row_side r))
      (payload_at main (start_of_data place r) (row_side r));
}

abbrev frames_at : List ℕ → ℕ → List Row → List StreamFrame
frames_at main place [] = []
frames_at main place (r ∷ rows) =
    frame_at main place r ∷ frames_at main (place + own_area r.header) rows

frames_rest : (main : List ℕ) (head : Option Head) (rows rest : List Row)
    → map (λ (p : ℕ × Row). stream_frame main head (rows ++ rest) p.0 p.1)
    (enumerate_from (length rows) rest) ≡ frames_at main (place head rows (length rows)) rest
frames_rest main head rows [] = refl
frames_rest main head rows (r ∷ rest) =
    let one : length rows + 1 ≡ length (rows ++ r ∷ []) =
    omega (arith, length-append rows (r ∷ [])) in
    ap₂ (λ (f : StreamFrame) (l : List StreamFrame). f ∷ l)
    (ap (λ n. frame_at main n r) (place-more head rows (r ∷ rest) (omega arith)))
    (ap₂ (λ (l : List Row) n. map (λ (p : ℕ × Row). stream_frame main head l p.0 p.1)
    (enumerate_from n rest)) (sym (append_assoc rows (r ∷ []) rest)) one
    ∙ frames_rest main head (rows ++ r ∷ []) rest
    ∙ ap (λ n. frames_at main n rest) (place-next head rows r))

frames-at : (main : List ℕ) (head : Option Head) (rows : List Row)
    → stream_frames main head rows ≡ frames_at main (head_area head) rows
unfolding stream_frames
frames-at main head rows =
    frames_rest main head [] rows ∙ ap (λ n. frames_at main n rows) (sym (place-none head))

-- the areas of frames
abbrev areas : List Row → ℕ
areas [] = 0
areas (r ∷ rows) = own_area r.header + areas rows

frames-append : (main : List ℕ) (place : ℕ) (xs ys : List Row) → frames_at main place (xs ++ ys)
    ≡ frames_at main place xs ++ frames_at main (place + areas xs) ys
frames-append main place [] ys = ap (λ n. frames_at main n ys) (omega arith)
frames-append main place (r ∷ xs) ys =
    grind (arith, frames-append main (place + own_area r.header) xs ys)

-- ---- main data among others

drop_front : (xs ys : List ℕ) (n : ℕ) → drop (length xs + n) (xs ++ ys) ≡ drop n ys
drop_front [] ys n = ap (λ m. drop m ys) (omega arith)
drop_front (x ∷ xs) ys n =
    let next : suc (length xs + n) ≡ suc (length xs) + n = omega arith in
    ap (λ m. drop m (x ∷ (xs ++ ys))) (sym next) ∙ drop_front xs ys n

payload_among : (before main behind : List ℕ) (start : ℕ) (s : Side)
    → 8 * start + payload_bits s ≤ 8 * length main
    → payload_at (before ++ (main ++ behind)) (length before + start) s ≡ payload_at main start s
payload_among before main behind start s within =
    let n = payload_bits s in
    let place : 8 * (length before + start) ≡ length (bits before) + 8 * start =
    omega (arith, length-bits before) in
    ap (λ l. take n (drop (8 * (length before + start)) l))
    (bits-append before (main ++ behind) ∙ ap (λ l. bits before ++ l) (bits-append main behind))
    ∙ ap (λ m. take n (drop m (bits before ++ (bits main ++ bits behind)))) place
    ∙ ap (take n) (drop_front (bits before) (bits main ++ bits behind) (8 * start) ∙ drop-append-le
    (8 * start) (bits main) (bits behind) (omega (arith, within, length-bits main)))
    ∙ take-append-le n (drop (8 * start) (bits main)) (bits behind)
    (omega (arith, within, length-bits main, length-drop (8 * start) (bits main)))

-- the main data of a frame that is kept are among the main data of its island
abbrev Fits : ℕ → ℕ → Row → Type 0
Fits size place r = (r.side.main_data_begin ≤ place)
    × (8 * (place - r.side.main_data_begin) + payload_bits r.side ≤ 8 * size)

abbrev AllFit : ℕ → ℕ → List Row → Type 0
AllFit size place [] = Unit {0}
AllFit size place (r ∷ rows) =
    (r.lost ≡ false → Fits size place r) × AllFit size (place + own_area r.header) rows

-- a frame without main data has none in the stream
pub payload_none : (main : List ℕ) (start : ℕ) → payload_at main start no_side ≡ []
payload_none main start = ap (λ n. take n (drop (8 * start) (bits main))) no_bits

frame_among : (before main behind : List ℕ) {place : ℕ} (r : Row) (lost : Bool) → r.lost ≡ lost
    → (lost ≡ false → Fits (length main) place r)
    → frame_at (before ++ (main ++ behind)) (length before + place) r ≡ frame_at main place r
frame_among before main behind {place} r true is fits =
    let none : row_side r ≡ no_side = ap (λ b. cond b no_side r.side) is in
    ap (λ l. record {
      header = record r.header { slot = no_slot };
      side = record (row_side r) { main_data_begin = 0 };
      payload = split_bits (granule_lengths r.header (row_side r)) l;
    })
    (ap (λ s. payload_at (before ++ (main ++ behind)) (start_of_data (length before + place) r) s)
    none
    ∙ payload_none (before ++ (main ++ behind)) (start_of_data (length before + place) r)
    ∙ sym (payload_none main (start_of_data place r))
    ∙ sym (ap (λ s. payload_at main (start_of_data place r) s) none))
frame_among before main behind {place} r false is fits =
    let own : row_side r ≡ r.side = ap (λ b. cond b no_side r.side) is in
    let fit = fits refl in
    let start : start_of_data (length before + place) r ≡ length before + start_of_data place r =
    omega (arith, fit.0) in
    ap (λ l. record {
      header = record r.header { slot = no_slot };
      side = record (row_side r) { main_data_begin = 0 };
      payload = split_bits (granule_lengths r.header (row_side r)) l;
    })
    (ap₂ (λ n s. payload_at (before ++ (main ++ behind)) n s) start own
    ∙ payload_among before main behind (start_of_data place r) r.side fit.1
    ∙ sym (ap (λ s. payload_at main (start_of_data place r) s) own))

frames_among : (before main behind : List ℕ) (place : ℕ) (rows : List Row)
    → AllFit (length main) place rows
    → frames_at (before ++ (main ++ behind)) (length before + place) rows
    ≡ frames_at main place rows
frames_among before main behind place [] fit = refl
frames_among before main behind place (r ∷ rows) fit =
    grind (
      arith,
      frame_among,
      frames_among before main behind (place + own_area r.header) rows
          fit.1,
    )

-- ---- the frames of an island that are kept

areas_judged : (b : ReservoirState) (rows : List Row) → areas (judged_from b rows) ≡ areas rows
areas_judged b [] = refl
areas_judged b (r ∷ rows) = grind (arith, areas_judged (state_after_frame b r) rows)

fits_by : {size : ℕ} (b : ReservoirState) (r : Row) → not (is_sound b.place b.ended r) ≡ false
    → b.place + own_area r.header ≤ size → Fits size b.place r
unfolding payload_bytes
fits_by b r mark room = grind (arith, sound_within, not-false)

judged_fit : {size : ℕ} (b : ReservoirState) (rows : List Row) → b.place + areas rows ≤ size
    → AllFit size b.place (judged_from b rows)
judged_fit b [] room = tt
judged_fit {size} b (r ∷ rows) room =
    grind
    (arith, fits_by, judged_fit {size = size} (state_after_frame b r) rows (omega (arith, room)))

-- ---- the areas of whole frames

abbrev AreWhole : List ℕ → List Row → Type 0
AreWhole file [] = Unit {0}
AreWhole file (r ∷ rows) =
    (r.offset + length_of (class_of r.header) r.header.slot ≤ length file) × AreWhole file rows

laid_whole : (file : List ℕ) (from : ℕ) (rows : List Row) {to : ℕ} → to ≤ length file
    → FramesAreLaid from rows to → AreWhole file rows
laid_whole file from [] within laid = tt
laid_whole file from (r ∷ rows) {to} within laid =
    grind (
      arith,
      laid_end,
      laid_whole file (r.offset + length_of (class_of r.header) r.header.slot)
          rows within laid.2,
    )

whole_parts : (file : List ℕ) (xs ys : List Row) → AreWhole file (xs ++ ys)
    → AreWhole file xs × AreWhole file ys
whole_parts file [] ys whole = (tt, whole)
whole_parts file (r ∷ xs) ys whole = grind (arith, whole_parts file xs ys whole.1)

length_area : (file : List ℕ) (offset : ℕ) (h : HeaderFields)
    → offset + length_of (class_of h) h.slot ≤ length file
    → length (area_bytes file offset h) ≡ own_area h
unfolding area_of
length_area file offset h within = grind (arith, length-take, length-drop)

module _ (file : List ℕ) where
  abbrev area_in : Row → List ℕ
  area_in r = area_bytes file r.offset r.header

  length_areas : (rows : List Row) → AreWhole file rows
      → length (flat_map area_in rows) ≡ areas rows
  length_areas [] whole = refl
  length_areas (r ∷ rows) whole = length-append (area_in r) (flat_map area_in rows)
      ∙ ap₂ (λ m n. m + n) (length_area file r.offset r.header whole.0) (length_areas rows whole.1)

  main-is : (head : Option Head) (rows : List Row)
      → main_bytes file head rows ≡ head_bytes file head ++ flat_map area_in rows
  unfolding main_bytes
  main-is head rows = refl

  -- ---- island by island

  abbrev of_island : List PlacedFrame → List Row
  of_island island = judged_rows None (rows_of file island)

  island_fits : (head : Option Head) (rows : List Row) {size : ℕ}
      → head_area head + areas (judged_rows head rows) ≤ size
      → AllFit size (head_area head) (judged_rows head rows)
  island_fits head rows room = grind (arith, judged_rows-from, judged_fit, areas_judged)

  later_stream : (before : List ℕ) (later : List (List PlacedFrame))
      → AreWhole file (flat_map of_island later)
      → frames_at (before ++ flat_map area_in (flat_map of_island later)) (length before)
      (flat_map of_island later)
      ≡ flat_map (λ island. island_stream file None (of_island island)) later
  later_stream before [] whole = refl
  later_stream before (island ∷ later) whole =
      let own = of_island island in
      let others = flat_map of_island later in
      let main = flat_map area_in own in
      let behind = flat_map area_in others in
      let parts = whole_parts file own others whole in
      let joined : before ++ flat_map area_in (own ++ others) ≡ before ++ (main ++ behind) =
      ap (λ l. before ++ l) (flat_map-append area_in own others) in
      let size = length_areas own parts.0 in
      let none : length before ≡ length before + 0 = omega arith in
      let start : length before + areas own ≡ length (before ++ main) =
      omega (arith, length-append before main, size) in
      ap (λ l. frames_at l (length before) (own ++ others)) joined
      ∙ frames-append (before ++ (main ++ behind)) (length before) own others
      ∙ ap₂ (λ (a b : List StreamFrame). a ++ b)
      (ap (λ n. frames_at (before ++ (main ++ behind)) n own) none
      ∙ frames_among before main behind 0 own
      (island_fits None (rows_of file island) (omega (arith, size)))
      ∙ ap (λ l. frames_at l 0 own) (sym (main-is None own))
      ∙ sym (frames-at (main_bytes file None own) None own))
      (ap₂ (λ l n. frames_at l n others) (sym (append_assoc before main behind)) start
      ∙ later_stream (before ++ main) later parts.1)

  length_head : (head : Option Head) (first : ℕ) {size : ℕ} (class : ClassFields)
      → IfSome head (IsWholeHead first class size) → size ≤ length file
      → length (head_bytes file head) ≡ head_area head
  length_head head first class whole few = grind (arith, length_area)

  all_stream : (head : Option Head) (islands : FrameIslands) → length (head_bytes file head)
      ≡ head_area head → AreWhole file (judged_islands file head islands)
      → stream_frames (main_bytes file head (judged_islands file head islands)) head
      (judged_islands file head islands) ≡ islands_stream file head islands
  all_stream head islands known whole =
      let own = judged_rows head (rows_of file islands.first) in
      let others = flat_map of_island islands.later in
      let main = head_bytes file head ++ flat_map area_in own in
      let behind = flat_map area_in others in
      let parts = whole_parts file own others whole in
      let joined : main_bytes file head (own ++ others) ≡ main ++ behind =
      grind (arith, main-is, flat_map-append, append_assoc, flat_map) in
      let size : length main ≡ head_area head + areas own = omega (
        arith,
        length-append (head_bytes file head) (flat_map area_in own),
        known,
        length_areas own parts.0,
      ) in
      let none : head_area head ≡ length {A = ℕ} [] + head_area head = omega arith in
      frames-at (main_bytes file head (own ++ others)) head (own ++ others)
      ∙ ap (λ l. frames_at l (head_area head) (own ++ others)) joined
      ∙ frames-append (main ++ behind) (head_area head) own others
      ∙ ap₂ (λ (a b : List StreamFrame). a ++ b)
      (ap (λ n. frames_at (main ++ behind) n own) none
      ∙ frames_among [] main behind (head_area head) own
      (island_fits head (rows_of file islands.first) (omega (arith, size)))
      ∙ ap (λ l. frames_at l (head_area head) own) (sym (main-is head own))
      ∙ sym (frames-at (main_bytes file head own) head own))
      (ap (λ n. frames_at (main ++ behind) n others) (sym size)
      ∙ later_stream main islands.later parts.1)

-- ---- the stream of a file

from_first : (file : List ℕ) {first : PlacedFrame} → first_frame file (front_end_of file)
    ≡ Some first → islands_stream file (head_of file first) (islands_of (things_from file first))
    ≡ salvaged_stream file
unfolding salvaged_stream
from_first file is = sym (ap (stream_from file) is)

told_stream : (file : List ℕ) (front_end : ℕ) (first : PlacedFrame)
    → IsDamagedLaidOut (damaged_from file front_end first)
    → stream_of_survey file (damaged_from file front_end first).survey
    ≡ islands_stream file (head_of file first) (islands_of (things_from file first))
unfolding damaged_from stream_of_survey
told_stream file front_end first laid = grind (arith, all_stream, length_head, laid_whole)

-- the stream of a file is the stream of its islands of frames
pub stream-told : (file : List ℕ) {d : DamagedFields} → damaged_fields file ≡ Ok d
    → IsDamagedLaidOut d → stream_of_survey file d.survey ≡ salvaged_stream file
stream-told file {d} e laid =
    let is = damaged_fields-from e in
    ap (λ (c : DamagedFields). stream_of_survey file c.survey) (sym is.same)
    ∙ told_stream file (front_end_of file) is.first (subst IsDamagedLaidOut (sym is.same) laid)
    ∙ from_first file is.first_is
