-- The main data of the frames so far are where they may be, whatever is known of the file.
use Rattle.std.proofs.Common.{ap, arith, false, length, List, map, None, not, Ok, Option}
use Rattle.std.proofs.Common.{option_map, refl, slice_get, Some, subst, suc, sum_by, sym, take}
use Rattle.std.proofs.{Common.{zero, ℕ, [], ◌++◌, ◌+◌, ◌<◌, ◌∙◌, ◌∷◌, ◌≡◌}, lemmas.Bool.not-false}
use Rattle.std.{proofs.lemmas.List.Sums.sum_by-cons, specs.List.{cons_option, enumerate_from}}
use Rattle.frame_header.proofs.{ClassLemmas.same_class-is, HeaderLemmas.IsClass-class_of}
use Rattle.frame_header.specs.{Fields.{ClassFields, IsClass, IsHeader, same_class}, Tables.class_of}
use Rattle.side_info.{proofs.FrameLemmas.fits-side_in, specs.Side.SideFits}
use Rattle.sync_survey.proofs.ChainLemmas.{item_chain-ends, whole_item_at-is}
use Rattle.sync_survey.proofs.FaultsLemmas.{each_push, end-more, end-next, none-of, place-more}
use Rattle.sync_survey.proofs.FaultsLemmas.{place-next, place-none}
use Rattle.sync_survey.proofs.ItemsLemmas.{header_front-in_range, stands-at}
use Rattle.sync_survey.proofs.StartLemmas.{start-first}
use Rattle.sync_survey.proofs.SurveyPartsLemmas.{all_faults-none_sound, AreSound, faults-none_sound}
use Rattle.sync_survey.proofs.SurveyPartsLemmas.{frames_from, IsSound, sound-no_data}
use Rattle.sync_survey.proofs.SurveyPartsLemmas.{survey_fields-parts}
use Rattle.sync_survey.specs.Chains.{AreEndToEnd, frame_of_item, frames_of, PlacedItem}
use Rattle.sync_survey.specs.Faults.{class_from, data_faults, faults_at, first_of, survey_fields}
use Rattle.sync_survey.specs.{Faults.SurveyFields, Items.{item_at, size_of}, Looks.KeepsFrame}
use Rattle.sync_survey.specs.MainData.{data_end_after, data_end_before, head_area, lacks_data}
use Rattle.sync_survey.specs.{MainData.{marked_row, marked_rows, own_area, place, rows_of}, Row.Row}
use Rattle.sync_survey.specs.{Start.start_of, Survey.{AreWellPlaced, IsWellPlaced}}
use Rattle.sync_survey.specs.Walk.{head_of, numbered_frames, stream_chain}
use Rattle.sync_survey.specs.declared.chains.Region.{Region, TheVariants.Stream}
use Rattle.sync_survey.specs.declared.{found.SurveySoFar.SurveySoFar, items.Item.Item}
use Rattle.sync_survey.specs.declared.{items.Item.TheVariants.Frame, places.Head.Head}
use Rattle.sync_survey.specs.declared.places.{PlacedFrame.PlacedFrame, Start.Start}
use Rattle.sync_survey.specs.declared.rows.ReservoirState.{ReservoirState}

-- ---- the same class

class-sound : {c d : ClassFields} → not (same_class c d) ≡ false → c ≡ d
class-sound {c} {d} e = same_class-is (not-false (same_class c d) e)

-- ---- one more frame

-- the frames so far are well placed, and the two numbers are the place and the end after them
pub record ArePlacedTo (head : Option Head) (class : ClassFields) (rows : List Row)
    (place_now ended : ℕ) : Type 0 where
  pub frames : AreWellPlaced head class rows
  pub place_is : place_now ≡ place head rows (length rows)
  pub ended_is : ended ≡ data_end_before head rows (length rows)

-- before the first frame the place is after the head's area
pub placed_none : {head : Option Head} (class : ClassFields) {place_now : ℕ}
    → place_now ≡ head_area head → ArePlacedTo head class [] place_now 0
unfolding data_end_before
placed_none class is = grind (arith, place-none)

-- the same frames have the same place and end
pub placed_same : {head : Option Head} {class : ClassFields} {old new : List Row}
    {before behind : ReservoirState} → new ≡ old → behind ≡ before
    → ArePlacedTo head class old before.place before.ended
    → ArePlacedTo head class new behind.place behind.ended
placed_same same stays placed = grind arith

-- a frame is well placed, given place and end
pub placed_by : {head : Option Head} {class : ClassFields} {rows : List Row} {i : ℕ} {r : Row}
    {place_now ended : ℕ} → place_now ≡ place head rows i → ended ≡ data_end_before head rows i
    → IsHeader r.header → class_of r.header ≡ class → SideFits class r.side
    → r.lost ≡ lacks_data place_now ended r → data_faults place_now ended r ≡ []
    → IsWellPlaced head class rows i r
placed_by at ends known same fits mark none = grind arith

-- frames before more are still well placed
placed_before : (head : Option Head) (class : ClassFields) (rows more : List Row) (i : ℕ) (r : Row)
    → i < length rows → IsWellPlaced head class rows i r
    → IsWellPlaced head class (rows ++ more) i r
placed_before head class rows more i r lt is = grind (arith, placed_by, place-more, end-more)

module _ {head : Option Head} {class : ClassFields} (said allowed : ℕ) (r : Row) {rows : List Row}
    {place_now ended : ℕ} (count : ℕ) (placed : ArePlacedTo head class rows place_now ended)
    (known : IsHeader r.header)
    (none : first_of (faults_at said class allowed place_now ended count r) ≡ None)
    (fits : SideFits (class_of r.header) r.side) where
  -- the frame with its mark
  abbrev frame : Row
  frame = record r { lost = lacks_data place_now ended r }

  sound : IsSound said class allowed place_now ended count r
  sound = faults-none_sound said class allowed place_now ended count r (none-of none)

  class_is : class_of r.header ≡ class
  class_is = class-sound sound.same

  last : IsWellPlaced head class (rows ++ frame ∷ []) (length rows) frame
  last = grind (arith, placed_by, place-more, end-more, class_is, sound-no_data, sound)

  each : (i : ℕ) (q : Row) → slice_get (rows ++ frame ∷ []) i ≡ Some q
      → IsWellPlaced head class (rows ++ frame ∷ []) i q
  each = each_push (IsWellPlaced head class (rows ++ frame ∷ [])) rows frame (λ i q before found.
      placed_before head class rows (frame ∷ []) i q before (placed.frames i q found)) last

  one_more : ArePlacedTo head class (rows ++ frame ∷ []) (place_now + own_area r.header)
      (data_end_after place_now ended (Some r))
  one_more = record {
    frames = each;
    place_is = omega (arith, placed.place_is, place-next head rows frame);
    ended_is = grind (arith, end-next);
  }

-- a frame that was kept is well placed after those before it
pub placed_next : (head : Option Head) (class : ClassFields) (said allowed : ℕ) (r : Row)
    (old new : SurveySoFar) → IsHeader r.header → KeepsFrame said class allowed r old new
    → ArePlacedTo head class old.rows.items old.before.place old.before.ended
    → ArePlacedTo head class new.rows.items new.before.place new.before.ended
placed_next head class said allowed r old new known keeps placed =
    grind (
      arith,
      one_more said allowed r (length old.rows.items) placed known keeps.sound keeps.fits,
    )

-- ---- the frames of a file without fault

-- marks change no place and no end
module _ (head : Option Head) (rows : List Row) where
  abbrev marks_from : ℕ → List Row → List Row
  marks_from n xs = map (λ (p : ℕ × Row). marked_row head rows p.0 p.1) (enumerate_from n xs)

  abbrev areas_in : List Row → ℕ
  areas_in l = sum_by (λ (r : Row). own_area r.header) l

  areas-marked : (i n : ℕ) (xs : List Row)
      → areas_in (take i (marks_from n xs)) ≡ areas_in (take i xs)
  areas-marked (suc i) n (x ∷ xs) = search (arith, sum_by-cons, areas-marked i (n + 1) xs)
  areas-marked _ n _ = refl

  get-marked : (i n : ℕ) (xs : List Row)
      → slice_get (marks_from n xs) i ≡ option_map (marked_row head rows (n + i)) (slice_get xs i)
  get-marked i n [] = refl
  get-marked zero n (x ∷ xs) = ap (λ m. Some (marked_row head rows m x)) (omega arith)
  get-marked (suc i) n (x ∷ xs) = grind (arith, option_map, get-marked i (n + 1) xs)

  -- marks don't change the place of a frame
  pub place-marked_rows : (i : ℕ) → place head (marked_rows head rows) i ≡ place head rows i
  unfolding place marked_rows
  place-marked_rows i = ap (λ m. head_area head + m) (areas-marked i 0 rows)

  -- the frame at an index is the one there, marked
  pub found-marked_rows : (i : ℕ)
      → slice_get (marked_rows head rows) i ≡ option_map (marked_row head rows i) (slice_get rows i)
  unfolding marked_rows
  found-marked_rows i = grind (arith, get-marked, option_map)

  behind-marked : (i m n : ℕ) (o : Option Row)
      → data_end_after m n (option_map (marked_row head rows i) o) ≡ data_end_after m n o
  behind-marked i m n o = grind arith

  -- marks don't change the end before a frame
  pub end-marked_rows : (i : ℕ)
      → data_end_before head (marked_rows head rows) i ≡ data_end_before head rows i
  unfolding data_end_before
  end-marked_rows zero = refl
  end-marked_rows (suc i) =
      grind (arith, found-marked_rows, behind-marked, place-marked_rows, end-marked_rows i)

  -- what is made of a frame that may be there was made of one that is
  pub from_some : {f : Row → Row} {o : Option Row} {q : Row} → option_map f o ≡ Some q
      → (r : Row) × (o ≡ Some r) × (f r ≡ q)
  from_some e = grind arith

row_fits : (file : List ℕ) (ps : List PlacedFrame) (i : ℕ) {r : Row} → IsClass (class_of r.header)
    → slice_get (rows_of file ps) i ≡ Some r → SideFits (class_of r.header) r.side
row_fits file [] i class is = absurd cc
row_fits file (p ∷ ps) zero class is = grind (arith, fits-side_in)
row_fits file (p ∷ ps) (suc i) {r} class is = row_fits file ps i class is

class-start : (file : List ℕ) {start : Start} → start_of file ≡ Ok start
    → IsClass (class_from start)
class-start file {start} is =
    let h = start.first.header in
    IsClass-class_of (header_front-in_range _
    (stands-at file start.first.offset (Frame h) (start-first is).frame.is))

-- the headers of items that follow end to end
AllKnown : List PlacedFrame → Type 0
AllKnown [] = Unit {0}
AllKnown (p ∷ ps) = IsHeader p.header × AllKnown ps

known_cons : (file : List ℕ) (at : ℕ) (item : Item) (ps : List PlacedFrame) → item_at file at ≡ item
    → AllKnown ps → AllKnown (cons_option (frame_of_item at item) ps)
unfolding AllKnown
known_cons file at (Frame h) ps is behind = search (arith, header_front-in_range, stands-at)
known_cons file at _ ps is behind = behind

known_items : (part : Region) (file : List ℕ) (from : ℕ) (ps : List PlacedItem) (to : ℕ)
    → AreEndToEnd part file from ps to → AllKnown (frames_of ps)
unfolding AllKnown
known_items part file from [] to ends = tt
known_items part file from (p ∷ ps) to ends =
    grind (
      arith,
      known_cons,
      whole_item_at-is,
      known_items part file (p.offset + size_of p.item) ps to ends.2,
    )

numbered_frames-known : (head : Option Head) (ps : List PlacedFrame) → AllKnown ps
    → AllKnown (numbered_frames head ps)
unfolding AllKnown
numbered_frames-known head ps all = grind arith

row_known : (file : List ℕ) (ps : List PlacedFrame) (i : ℕ) {r : Row} → AllKnown ps
    → slice_get (rows_of file ps) i ≡ Some r → IsHeader r.header
unfolding AllKnown
row_known file [] i all is = absurd cc
row_known file (p ∷ ps) zero all is = grind arith
row_known file (p ∷ ps) (suc i) {r} all is = row_known file ps i all.1 is

well_placed : (file : List ℕ) {allowed : ℕ} {start : Start} {head : Option Head}
    (ps : List PlacedFrame) → start_of file ≡ Ok start → AllKnown ps
    → AreSound file head (class_from start) allowed (rows_of file ps)
    → AreWellPlaced head (class_from start) (marked_rows head (rows_of file ps))
well_placed file {allowed} {start} {head} ps begins all sound =
    λ i q found.
    let rows : List Row = rows_of file ps in
    let parts = from_some head rows
    (sym (found-marked_rows head rows i) ∙ found) in
    let r : Row = parts.0 in
    let here = sound i r parts.1 in
    let same = class-sound here.same in
    let fits =
    row_fits file ps i (subst IsClass (sym same) (class-start file begins)) parts.1 in
    subst (IsWellPlaced head (class_from start) (marked_rows head rows) i) parts.2
    (placed_by (sym (place-marked_rows head rows i))
    (sym (end-marked_rows head rows i))
    (row_known file ps i all parts.1) same (subst (λ c. SideFits c r.side) same fits) refl
    (sound-no_data _ (class_from start) allowed (place head rows i)
    (data_end_before head rows i) i r here))

-- the frames of a file without fault are well placed
pub survey_fields-placed : (file : List ℕ) (allowed : ℕ) {s : SurveyFields}
    → survey_fields file allowed ≡ Ok s → AreWellPlaced s.head s.class s.frames
survey_fields-placed file allowed {s} e =
    let parts = survey_fields-parts e in
    let start = parts.0 in
    let head = head_of file start.first in
    let stream = stream_chain file start in
    let all = numbered_frames-known head (frames_of stream.items) (known_items Stream file
    start.first.offset stream.items stream.stop (item_chain-ends Stream file start.first.offset)) in
    let sound = all_faults-none_sound file head (class_from start) allowed _ parts.1.frames in
    subst (λ (t : SurveyFields). AreWellPlaced t.head t.class t.frames) parts.2
    (well_placed file (frames_from file start) parts.1.start_is all sound)
