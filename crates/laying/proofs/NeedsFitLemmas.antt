-- Every part of a stream fits. In the file each frame's main data don't overlap those
-- before, end within its own area and begin at most the window before it. So before each
-- frame at least as many bytes are free as there are after the main data before it, up
-- to the window. This is true also with silent and lost frames in between, which don't
-- change where main data end. After a whole window of free bytes no frame has fewer.
use Rattle.std.proofs.Common.{ap, arith, Bool, cond, drop, false, List, map, None, Option, refl}
use Rattle.std.proofs.Common.{slice_get, slice_range, Some, subst, suc, sum_by, sym, take, true}
use Rattle.std.proofs.Common.{zero, ℕ, [], ◌+◌, ◌-◌, ◌||◌, ◌∙◌, ◌∷◌, ◌≡◌, ◌≤◌}
use Rattle.std.proofs.lemmas.{Bool.{eqb-true, ltb-false}, List.{drop-map, take-map}}
use Rattle.std.proofs.lemmas.List.Sums.{sum_by-cons}
use Rattle.frame_header.specs.{Fields.{ClassFields, IsHeader}, Tables.window_of}
use Rattle.laying.proofs.BeginLemmas.{begin-near}
use Rattle.laying.proofs.RelayLemmas.{AreOnward, onward-all, onward-first, onward-rest}
use Rattle.laying.specs.{Needs.need_of, NeedsFit.IsPlacedSurvey, Passing.needs_from}
use Rattle.side_info.specs.Side.{payload_bits, payload_bytes}
use Rattle.slot_plan.proofs.{FreeByteLemmas.within-fit, PartLemmas.class-range}
use Rattle.slot_plan.proofs.ReserveLemmas.{AllFit, fit-from, layout-fit}
use Rattle.slot_plan.specs.{FreeBytes.FitsBehind, Layouts.{FrameLengths, HasLayout}}
use Rattle.slot_plan.specs.{Parts.{AreNeedsOfClass, own_frame}, Reserve.free_bytes_behind}
use Rattle.sync_survey.proofs.SurveyPartsLemmas.{data-none_well, StandWell}
use Rattle.sync_survey.specs.Faults.{SurveyFields}
use Rattle.sync_survey.specs.MainData.{data_end_after, data_end_before, end_of_data, is_silent}
use Rattle.sync_survey.specs.{MainData.{lacks_data, own_area, place}, Row.Row, Survey.AreWellPlaced}
use Rattle.sync_survey.specs.declared.places.Head.{Head}

-- ---- one frame

-- the bytes after the main data before a place, up to the window
abbrev shown : ℕ → ℕ → ℕ → ℕ
shown window place ended = (place - ended) - ((place - ended) - window)

-- A frame's main data fit in the free bytes before it and its own
-- area, and the end of the main data after it is within the areas.
-- After it at least as many bytes are free as the window shows there.
abbrev Goes : (window place ended area bytes free : ℕ) → Type 0
Goes window place ended area bytes free = (bytes ≤ free + area) × (ended ≤ place + area)
    × (shown window (place + area) ended ≤ free_bytes_behind window free bytes area)

-- a silent frame has no main data
pub silent_bytes : (r : Row) → is_silent r ≡ true → payload_bytes r.side ≡ 0
unfolding payload_bytes
silent_bytes r silent = omega (arith, eqb-true (payload_bits r.side) 0 silent)

step_by : {window place ended free : ℕ} (r : Row) {silent lost : Bool} → is_silent r ≡ silent
    → lacks_data place ended r ≡ lost → (lost ≡ false → StandWell place ended r)
    → r.side.main_data_begin ≤ window → ended ≤ place → shown window place ended ≤ free
    → Goes window place (cond (silent || lost) ended (end_of_data place r)) (own_area r.header)
    (cond lost 0 (payload_bytes r.side)) free
step_by r h7 h8 well near ends some = grind (arith, silent_bytes, ltb-false)

-- ---- all frames

area_more : (f : Row → ℕ) (rows : List Row) (n : ℕ) {r : Row} → slice_get rows n ≡ Some r
    → sum_by f (take (suc n) rows) ≡ sum_by f (take n rows) + f r
area_more f [] n is = absurd cc
area_more f (q ∷ rows) zero {r} is = let same : q ≡ r = cc in omega (arith, ap f same)
area_more f (q ∷ rows) (suc n) {r} is = grind (arith, sum_by, sum_by-cons, area_more f rows n is)

place_more : (head : Option Head) (rows : List Row) (n : ℕ) {r : Row} → slice_get rows n ≡ Some r
    → place head rows (suc n) ≡ place head rows n + own_area r.header
unfolding place
place_more head rows n {r} is = omega (arith, area_more (λ (q : Row). own_area q.header) rows n is)

-- the end of the main data before the next frame is the end after this frame
pub end_more : (head : Option Head) (rows : List Row) (n : ℕ) {r : Row} → slice_get rows n ≡ Some r
    → data_end_before head rows (suc n)
    ≡ data_end_after (place head rows n) (data_end_before head rows n) (Some r)
unfolding data_end_before
end_more head rows n is = ap (data_end_after (place head rows n) (data_end_before head rows n)) is

-- the headers of these rows are valid headers of the standard
abbrev pub AreKnown : List Row → Type 0
AreKnown [] = Unit {0}
AreKnown (r ∷ rows) = IsHeader r.header × AreKnown rows

known-take : (n : ℕ) (rows : List Row) → AreKnown rows → AreKnown (take n rows)
known-take (suc n) (r ∷ rows) all = (all.0, known-take n rows all.1)
known-take _ _ all = tt

known-drop : (n : ℕ) (rows : List Row) → AreKnown rows → AreKnown (drop n rows)
known-drop (suc n) (r ∷ rows) all = known-drop n rows all.1
known-drop _ _ all = all

module _ {head : Option Head} {class : ClassFields} {rows : List Row}
    (placed : AreWellPlaced head class rows) where
  classes_from : (n : ℕ) (xs : List Row) → AreOnward rows n xs
      → AreNeedsOfClass class (map need_of xs)
  unfolding AreNeedsOfClass
  classes_from n [] stand = tt
  classes_from n (r ∷ xs) stand = (
    (placed n r (onward-first rows n xs stand)).class_is,
    classes_from (suc n) xs (onward-rest rows n xs (omega arith) stand),
  )

  known_from : (n : ℕ) (xs : List Row) → AreOnward rows n xs → AreKnown xs
  known_from n [] stand = tt
  known_from n (r ∷ xs) stand = (
    (placed n r (onward-first rows n xs stand)).known,
    known_from (suc n) xs (onward-rest rows n xs (omega arith) stand),
  )

  abbrev of_class : ℕ
  of_class = window_of class.version

  fit_from : (n : ℕ) (xs : List Row) {free : ℕ} → AreOnward rows n xs → data_end_before head rows n
      ≤ place head rows n → shown of_class (place head rows n) (data_end_before head rows n) ≤ free
      → AllFit of_class free (map own_frame (map need_of xs))
  unfolding AllFit
  fit_from n [] stand ends some = tt
  fit_from n (r ∷ xs) {free} stand ends some =
      let here = onward-first rows n xs stand in
      let is = placed n r here in
      let step = step_by r refl (sym is.mark)
      (λ none. data-none_well
      is.sound (sym is.mark ∙ none)) (begin-near is.fits) ends some in
      let at = place_more head rows n here in
      let ended = end_more head rows n here ∙ ap (λ b. cond (is_silent r || b)
      (data_end_before head rows n) (end_of_data (place head rows n) r)) (sym is.mark) in (
        step.0,
        fit_from (suc n) xs
            (onward-rest rows n xs (omega arith) stand) (omega (arith, at, ended, step.1))
            (omega (arith, at, ended, step.2)),
      )

  fit_all : AllFit of_class of_class (map own_frame (map need_of rows))
  unfolding data_end_before
  fit_all = fit_from 0 rows (onward-all rows) (omega arith) (omega arith)

-- the frames of a stream without a head fit after no free
-- bytes: none of them has main data before the first
pub rows-alone : {class : ClassFields} {rows : List Row} → AreWellPlaced None class rows
    → FitsBehind (window_of class.version) 0 (map need_of rows)
unfolding data_end_before place
rows-alone {class} {rows} placed =
    within-fit (map own_frame (map need_of rows)) (omega arith)
    (fit_from placed 0 rows (onward-all rows) (omega arith)
    (omega arith))

-- ---- a part of them

fit-take : (window free n : ℕ) (frames : List FrameLengths) → AllFit window free frames
    → AllFit window free (take n frames)
unfolding AllFit
fit-take window free (suc n) (frame ∷ frames) fit =
    (fit.0, fit-take window (free_bytes_behind window free frame.bytes frame.area) n frames fit.1)
fit-take window free _ _ fit = tt

range-map : {X Y : Type 0} (f : X → Y) (from to : ℕ) (xs : List X)
    → slice_range (map f xs) from to ≡ map f (slice_range xs from to)
range-map f from to xs = grind (arith, drop-map, take-map)

feasible-fit : (window : ℕ) (frames : List FrameLengths) → AllFit window window frames
    → HasLayout window window frames
unfolding HasLayout
feasible-fit window frames fit =
    grind (
      arith,
      layout-fit window 0 {before = window} {free = window} frames (omega arith) (omega arith) fit,
    )

-- the needs of a part are of the class, and have a layout after a whole window
abbrev pub Fits : SurveyFields → ℕ → ℕ → Type 0
Fits s from to =
    AreNeedsOfClass s.class (needs_from s from to)
    × HasLayout (window_of s.class.version) (window_of s.class.version)
    (map own_frame (needs_from s from to))

part_of : (s : SurveyFields) (from to : ℕ) → AreNeedsOfClass s.class (map need_of s.frames)
    → AllFit (window_of s.class.version) (window_of s.class.version)
    (map own_frame (map need_of s.frames)) → Fits s from to
part_of s from to classes fit =
    let window : ℕ = window_of s.class.version in
    let of_needs = range-map need_of from to s.frames in
    let frames = fit-take window window (to - from) _
    (fit-from window from (map own_frame (map need_of s.frames)) (feasible-fit window _ fit)) in (
      subst (AreNeedsOfClass s.class) of_needs
          (class-range s.class (map need_of s.frames) from to classes),
      feasible-fit window (map own_frame (needs_from s from to))
          (subst (AllFit window window) (range-map own_frame from to (map need_of s.frames)
          ∙ ap (map own_frame) of_needs) frames),
    )

-- every part of a placed survey fits in its own slots after a whole window
pub part-fits : (s : SurveyFields) (from to : ℕ) → IsPlacedSurvey s → Fits s from to
part-fits s from to placed = part_of s from to (classes_from placed 0
    s.frames (onward-all s.frames))
    (fit_all placed)

-- the frames of every part of a placed survey have headers of the standard
pub part-known : (s : SurveyFields) (from to : ℕ) → IsPlacedSurvey s
    → AreKnown (slice_range s.frames from to)
part-known s from to placed =
    known-take (to - from) (drop from s.frames)
    (known-drop from s.frames (known_from placed 0 s.frames (onward-all s.frames)))
