-- Frames in order, as they are planned.
use Rattle.std.proofs.Common.{ap, append-nil, append_assoc, arith, Bool, cond, drop, false, get_or}
use Rattle.std.proofs.Common.{length, List, map, min, refl, slice_get, slice_range, Some, suc, sym}
use Rattle.std.proofs.Common.{true, zero, ℕ, [], ◌++◌, ◌+◌, ◌<◌, ◌∙◌, ◌∷◌, ◌≡◌, ◌≤◌, ◌⊎◌}
use Rattle.std.{proofs.lemmas.{Bool.cases_lt, Option.slice_get-get_or}, specs.List.enumerate_from}
use Rattle.frame_header.specs.Tables.{area_of, class_of}
use Rattle.frame_writer.specs.{Frames.{all_frame_data, Frame}, Laid.BeginsWithin, Writing.Writing}
use Rattle.laying.proofs.PassLemmas.{lays_as}
use Rattle.laying.proofs.PlannedFrameLemmas.{AreNeedsOf, next-map, relaid_frames-cons}
use Rattle.laying.specs.Fits.{FitsFromReach, last_reach, placed_area, placed_bytes, reach_behind}
use Rattle.laying.specs.{Needs.need_of, Passing.{LaysFrames, LaysPart}}
use Rattle.laying.specs.Relaid.{all_frames, planned_frame, relaid_frames, rest_behind, survey_frame}
use Rattle.outside.specs.{Files.{Files, Holds}, declared.pass.PassFault.PassFault}
use Rattle.slot_plan.specs.declared.needs.{Need.Need, Placed.Placed}
use Rattle.sync_survey.specs.{Faults.SurveyFields, Row.Row}

-- ---- lists

drop-next : {X : Type 0} (xs : List X) (i : ℕ) {x : X} → slice_get xs i ≡ Some x
    → drop i xs ≡ x ∷ drop (i + 1) xs
drop-next [] i is = absurd cc
drop-next (y ∷ xs) zero is = ap (λ z. z ∷ xs) cc
drop-next (y ∷ xs) (suc i) {x} is = grind (arith, drop-next xs i is)

-- a stretch is its first item and those after it
pub range-next : {X : Type 0} (xs : List X) {i to : ℕ} {x : X} → slice_get xs i ≡ Some x → i < to
    → slice_range xs i to ≡ x ∷ slice_range xs (i + 1) to
range-next xs is within = grind (arith, drop-next)

module _ {X : Type 0} (xs : List X) {i : ℕ} {x : X} (within : i < length xs)
    (is : x ≡ get_or xs i x) where
  -- the item at a place of a list is found there
  pub found-at : slice_get xs i ≡ Some x
  found-at = slice_get-get_or xs i x within ∙ ap (λ y. Some y) (sym is)

  -- what is left from a place on is the item there and those after it
  pub item-next : drop i xs ≡ x ∷ drop (i + 1) xs
  item-next = drop-next xs i found-at

-- the item at a place of a list is at that place of an equal list
pub read-at : {X : Type 0} {xs ys : List X} {i : ℕ} {x : X} → i < length ys → xs ≡ ys
    → x ≡ get_or xs i x → slice_get ys i ≡ Some x
read-at {X} within same is = grind (arith, found-at)

module _ {X : Type 0} (xs : List X) where
  -- these items are those from number n on
  abbrev pub AreOnward : ℕ → List X → Type 0
  AreOnward n more = (i : ℕ) (x : X) → slice_get more i ≡ Some x → slice_get xs (n + i) ≡ Some x

  -- the first of them is item n
  pub onward-first : (n : ℕ) {x : X} (more : List X) → AreOnward n (x ∷ more)
      → slice_get xs n ≡ Some x
  onward-first n {x} more are = ap (slice_get xs) (omega arith) ∙ are 0 x refl

  -- those after it are the items from the next number on
  pub onward-rest : (n : ℕ) {next : ℕ} {x : X} (more : List X) → next ≡ n + 1
      → AreOnward n (x ∷ more) → AreOnward next more
  onward-rest n more after are =
      λ i y is. ap (slice_get xs) (omega (arith, after)) ∙ are (suc i) y is

  -- all items are those from number 0 on
  pub onward-all : AreOnward 0 xs
  onward-all = λ i x is. ap (slice_get xs) (omega arith) ∙ is

-- what is left after a lead-in or a frame
pub left-range : {X : Type 0} (xs : List X) {i to next : ℕ} {x : X} (b : Bool)
    → slice_get xs i ≡ Some x → i < to → next ≡ i + cond b 0 1
    → rest_behind b x (slice_range xs (i + 1) to) ≡ slice_range xs next to
left-range xs b found within is = grind (arith, range-next)

-- ---- the frames of a file

each-get : (f : ℕ → Row → Frame) (n : ℕ) (rows : List Row) (i : ℕ) {r : Row}
    → slice_get rows i ≡ Some r
    → slice_get (map (λ (p : ℕ × Row). f p.0 p.1) (enumerate_from n rows)) i ≡ Some (f (n + i) r)
each-get f n [] i is = absurd cc
each-get f n (q ∷ rows) zero is = grind arith
each-get f n (q ∷ rows) (suc i) {r} is = grind (arith, each-get f (n + 1) rows i is)

-- the frame at a place of the survey is made from the row there
pub all-get : (file : List ℕ) (s : SurveyFields) (i : ℕ) {r : Row} → slice_get s.frames i ≡ Some r
    → slice_get (all_frames file s) i ≡ Some (survey_frame file s i r)
unfolding all_frames
all-get file s i {r} is = grind (arith, each-get (survey_frame file s) 0 s.frames i is)

-- ---- one place of a plan

module _ (s : SurveyFields) {i to next : ℕ} {row : Row} (p : Placed) (placed : List Placed)
    (found : slice_get s.frames i ≡ Some row) (within : i < to)
    (next_is : next ≡ i + cond p.lead_in 0 1) where
  needs-next : map need_of (slice_range s.frames i to)
      ≡ need_of row ∷ map need_of (slice_range s.frames (i + 1) to)
  needs-next = ap (map need_of) (range-next s.frames found within)

  needs-left : rest_behind p.lead_in (need_of row) (map need_of (slice_range s.frames (i + 1) to))
      ≡ map need_of (slice_range s.frames next to)
  needs-left = sym (next-map need_of p.lead_in row (slice_range s.frames (i + 1) to))
      ∙ ap (map need_of) (left-range s.frames p.lead_in found within next_is)

  -- the first place fits, and the others from the reach after it
  pub fits-next : (window : ℕ) {reach : ℕ}
      → FitsFromReach window reach (map need_of (slice_range s.frames i to)) (p ∷ placed)
      → (p.begin ≤ reach)
      × (placed_bytes p.lead_in (need_of row) ≤ p.begin + placed_area p (need_of row))
      × FitsFromReach window (reach_behind window p (need_of row))
      (map need_of (slice_range s.frames next to)) placed
  unfolding FitsFromReach
  fits-next window fits = grind (arith, needs-next, needs-left)

  -- all places reach as far as those after the first do
  pub last-next : (window reach : ℕ)
      → last_reach window reach (map need_of (slice_range s.frames i to)) (p ∷ placed)
      ≡ last_reach window (reach_behind window p (need_of row))
      (map need_of (slice_range s.frames next to)) placed
  unfolding last_reach
  last-next window reach = grind (arith, needs-next, needs-left)

  -- the first is the frame in its place, and the others come after it
  pub relaid_frames-next : (file : List ℕ)
      → relaid_frames (slice_range (all_frames file s) i to) (p ∷ placed) ≡
      planned_frame p (survey_frame file s i row)
      ∷ relaid_frames (slice_range (all_frames file s) next to) placed
  relaid_frames-next file = grind (arith, all-get, range-next, relaid_frames-cons, left-range)

-- ---- as many places as frames

-- if a place is left, a frame is
pub fits-some : (window reach : ℕ) (s : SurveyFields) {i to : ℕ} (p : Placed) (placed : List Placed)
    → FitsFromReach window reach (map need_of (slice_range s.frames i to)) (p ∷ placed) → i < to
unfolding FitsFromReach
fits-some window reach s {i} {to} p placed fits = by_cases (cases_lt i to)
  where
    none-fits : (needs : List Need) → needs ≡ [] → FitsFromReach window reach needs (p ∷ placed) → ⊥
    none-fits [] none fits = fits
    none-fits (need ∷ needs) none fits = absurd cc

    by_cases : (i < to) ⊎ (to ≤ i) → i < to
    by_cases h = grind arith

-- ---- the end

-- after no places the reach stays
pub fits-none : (window reach : ℕ) (needs : List Need) → last_reach window reach needs [] ≡ reach
unfolding last_reach
fits-none window reach needs = grind arith

-- no frames are laid in any places
pub relaid_frames-none : (placed : List Placed) → relaid_frames [] placed ≡ []
unfolding relaid_frames
relaid_frames-none placed = refl

-- no frames are laid in no places
pub relaid_frames-end : (frames : List Frame) → relaid_frames frames [] ≡ []
unfolding relaid_frames
relaid_frames-end frames = grind arith

-- ---- where later frames begin

-- the frames that are left begin within reach
pub begins-left : (window reach : ℕ) (needs : List Need) (fs : List Frame) (placed : List Placed)
    (more : List Frame) → AreNeedsOf needs fs → FitsFromReach window reach needs placed
    → BeginsWithin (last_reach window reach needs placed) (all_frame_data more)
    → BeginsWithin reach (all_frame_data (relaid_frames fs placed ++ more))
unfolding FitsFromReach last_reach relaid_frames
begins-left window reach needs fs placed more are fits begins = grind arith

-- a failed write among the first frames is one among all of them
pub part_more : {input output : List ℕ} {made : List ℕ → List Frame} (rest : List ℕ → List Frame)
    {whole : List ℕ → List Frame} {reach last : ℕ}
    {old : Writing} {before after : Files} {fault : PassFault}
    → ((file : List ℕ) → Holds before input file → (more : List Frame) → BeginsWithin last
    (all_frame_data more) → BeginsWithin reach (all_frame_data (rest file ++ more)))
    → ((file : List ℕ) → Holds before input file → made file ++ rest file ≡ whole file)
    → LaysPart input output made reach old before after fault
    → LaysPart input output whole last old before after fault
part_more {made = made} rest begins same part = record {
  settled = part.settled;
  prefix = part.prefix;
  done = part.done;
  held = part.held;
  writer = part.writer;
  is = λ file holds more within.
      let found = part.is file holds (rest file ++ more) (begins file holds more within) in (
        found.0,
        found.1 ∙ sym (append_assoc (made file) (rest file) more)
            ∙ ap (λ (l : List Frame). l ++ more) (same file holds),
        found.2,
      );
}

-- ---- one place, by whether it is a lead-in

-- after a lead-in the reach is longer by its area, up to a window
pub reach-lead : (window : ℕ) (p : Placed) (need : Need) → p.lead_in ≡ true
    → reach_behind window p need
    ≡ min window (p.begin + area_of (class_of need.header) p.slot false)
reach-lead window p need is = grind arith

-- The first of these frames were passed to the writer, and the rest of them are to follow.
pub record LaysUpTo (input output : List ℕ) (whole rest : List ℕ → List Frame) (old new : Writing)
    (before after : Files) : Type 0 where
  pub made : List ℕ → List Frame
  pub lays : LaysFrames input output made old new before after
  pub left : (file : List ℕ) → Holds before input file → whole file ≡ made file ++ rest file

-- a place takes at most one frame
pub step-most : (b : Bool) → cond b 0 1 ≤ 1
step-most b = grind arith

module _ {input output : List ℕ} {whole rest : List ℕ → List Frame} {old new : Writing}
    {before after : Files} (sofar : LaysUpTo input output whole rest old new before after) where
  -- if nothing is left to lay, all frames were laid
  pub lays-all : ((file : List ℕ) → Holds before input file → rest file ≡ [])
      → LaysFrames input output whole old new before after
  lays-all none = grind (arith, lays_as, append-nil)
