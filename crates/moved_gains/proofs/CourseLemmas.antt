-- The numbers of the frames of a file at their offsets.
use Rattle.std.proofs.Common.{arith, get_or, length, List, Ok, refl, slice_get, Some, subst, suc}
use Rattle.std.proofs.Common.{sym, zero, ℕ, [], ◌+◌, ◌<◌, ◌∙◌, ◌∷◌, ◌≡◌, ◌≤◌}
use Rattle.std.proofs.lemmas.{Bool.{le-ltb, lt-ltb}, Option.slice_get_read}
use Rattle.frame_header.proofs.{HeaderLemmas.IsClass-class_of, LengthLemmas.area_some}
use Rattle.frame_header.specs.{Fields.IsHeader, Tables.{class_of, length_of}}
use Rattle.moved_gains.proofs.LostOffsetLemmas.{AreRising, marked_rows-rising, rising_get}
use Rattle.moved_gains.proofs.LostOffsetLemmas.{rising_less, walk_rising}
use Rattle.moved_gains.specs.Course.{AreRowsNumbered, course_steps, number_at, steps_at_offset}
use Rattle.moved_gains.specs.{Moving.AreFramesOfClass, declared.course.Course.Course}
use Rattle.sync_survey.{proofs.SurveyLemmas.{survey_fields-is, walked}, specs.Chains.frames_of}
use Rattle.sync_survey.specs.{Faults.{survey_fields, SurveyFields}, MainData.{marked_rows, rows_of}}
use Rattle.sync_survey.specs.{Row.Row, Survey.{FramesAreLaid, IsSurveyLaidOut}}
use Rattle.sync_survey.specs.Walk.{numbered_frames, stream_chain}

-- ---- frames at rising offsets

before : (row : Row) (rows : List Row) {at : ℕ} → row.offset < at
    → number_at (row ∷ rows) at ≡ suc (number_at rows at)
before row rows low = grind (arith, lt-ltb)

behind : (row : Row) (rows : List Row) {at : ℕ} → at ≤ row.offset
    → number_at (row ∷ rows) at ≡ number_at rows at
behind row rows high = grind (arith, le-ltb)

-- no frame is before an offset that isn't after the first
none_before : {at from : ℕ} (rows : List Row) → at ≤ from → AreRising from rows
    → number_at rows at ≡ 0
none_before [] low rise = refl
none_before {at} (row ∷ rows) low rise =
    behind row rows (omega (arith, low, rise.0))
    ∙ none_before rows (omega (arith, low, rise.0)) rise.1

-- the number of a frame in order is its place
pub rising_numbered : (from : ℕ) (rows : List Row) → AreRising from rows → AreRowsNumbered rows
rising_numbered from [] rise i row is = absurd cc
rising_numbered from (q ∷ rows) rise zero row is = grind (arith, behind, none_before)
rising_numbered from (q ∷ rows) rise (suc i) row is =
    grind (arith, before, rising_get, rising_numbered (suc q.offset) rows rise.1 i row is)

-- ---- the frames of a survey

abbrev AreKnown : List Row → Type 0
AreKnown rows = (i : ℕ) (row : Row) → slice_get rows i ≡ Some row → IsHeader row.header

some_bytes : (row : Row) → IsHeader row.header → 0 < length_of (class_of row.header) row.header.slot
some_bytes row known = grind (arith, area_some, IsClass-class_of)

laid_rising : (from : ℕ) (rows : List Row) (to : ℕ) → AreKnown rows → FramesAreLaid from rows to
    → AreRising from rows
laid_rising from [] to known laid = tt
laid_rising from (row ∷ rows) to known laid =
    let next = row.offset + length_of (class_of row.header) row.header.slot in (
      laid.0,
      rising_less rows (omega (arith, some_bytes row (known 0 row refl)))
          (laid_rising next rows to (λ i r is. known (suc i) r is) laid.2),
    )

-- there are at most as many frames as bytes
laid_few : (from : ℕ) (rows : List Row) {to : ℕ} → AreKnown rows → FramesAreLaid from rows to
    → from + length rows ≤ to
laid_few from [] known laid = omega (arith, laid)
laid_few from (row ∷ rows) {to} known laid =
    omega (
      arith,
      laid.0,
      some_bytes row (known 0 row refl),
      laid_few (row.offset + length_of (class_of row.header) row.header.slot) rows
          (λ i r is. known (suc i) r is) laid.2,
    )

-- the frames of a survey that is laid out are in order
pub out_rising : {s : SurveyFields} → IsSurveyLaidOut s → AreRising s.first s.frames
out_rising {s} laid =
    laid_rising s.first s.frames s.length (λ i row is. (laid.placed i row is).known) laid.frames

-- the number of a frame of a survey that is laid out is its place
pub out_numbered : {s : SurveyFields} → IsSurveyLaidOut s → AreRowsNumbered s.frames
out_numbered {s} laid = rising_numbered s.first s.frames (out_rising laid)

-- the frames of a survey that is laid out are of its class
pub out_classed : {s : SurveyFields} → IsSurveyLaidOut s → AreFramesOfClass s.class s.frames
out_classed laid i row is = (laid.placed i row is).class_is

-- a survey that is laid out has at most as many frames as bytes
pub out_few : {s : SurveyFields} → IsSurveyLaidOut s → length s.frames ≤ s.length
out_few {s} laid = omega (
  arith,
  laid_few s.first s.frames (λ i row is. (laid.placed i row is).known) laid.frames,
)

-- the steps of frame i are the steps at its offset
pub frame_steps : (course : Course) (rows : List Row) {i : ℕ} {row : Row} → AreRowsNumbered rows → i
    < length rows → row ≡ get_or rows i row
    → steps_at_offset course rows row.offset ≡ course_steps course i
frame_steps course rows numbered_frames within is = grind (arith, slice_get_read)

-- the number of a frame of a surveyed file is its place
pub survey_numbered : (file : List ℕ) (allowed : ℕ) {s : SurveyFields}
    → survey_fields file allowed ≡ Ok s → AreRowsNumbered s.frames
survey_numbered file allowed {s} e =
    let is = survey_fields-is e in
    let walk = walked is in
    let frames =
    rows_of file (numbered_frames s.head (frames_of (stream_chain file is.start).items)) in
    subst AreRowsNumbered (sym walk.frames_are)
    (rising_numbered is.start.first.offset (marked_rows s.head frames)
    (marked_rows-rising s.head is.start.first.offset frames (walk_rising file is.start s.head)))
