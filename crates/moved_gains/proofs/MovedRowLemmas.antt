-- Rows with other offsets and with side information that says the same of main
-- data: the same frames are lost, and none has a fault that had none.
use Rattle.std.proofs.Common.{ap, ap₂, arith, Bool, drop, false, List, ltb, map, None, Option}
use Rattle.std.proofs.Common.{option_map, refl, slice_get, Some, subst, suc, sum_by, sym, take}
use Rattle.std.proofs.Common.{zero, zero-add, ℕ, [], ◌&&◌, ◌+◌, ◌==◌, ◌∙◌, ◌∷◌, ◌≡◌}
use Rattle.std.proofs.lemmas.{List.{take-map, Sums.sum_by-cons}, Option.slice_get-map, Simd.map-map}
use Rattle.std.specs.List.{enumerate_from}
use Rattle.frame_header.specs.Fields.{ClassFields}
use Rattle.moved_gains.proofs.MovedGainLemmas.{begin-unless, payload-unless, payload_bits-unless}
use Rattle.moved_gains.specs.Gains.{moved_side_unless_lost}
use Rattle.requests.specs.declared.shift.Steps.{Steps}
use Rattle.side_info.proofs.{FrameLemmas.shaped-side_in, SideLemmas.IsShaped}
use Rattle.side_info.specs.{Frame.stored_crc, Side.{payload_bits, payload_bytes}}
use Rattle.side_info.specs.declared.side.Side.{Side}
use Rattle.sync_survey.proofs.{ItemListLemmas.frame_by, SurveyPartsLemmas.{AreSound, IsSoundAt}}
use Rattle.sync_survey.specs.Faults.{has_wrong_crc}
use Rattle.sync_survey.specs.MainData.{data_end_after, data_end_before, end_of_data, head_area}
use Rattle.sync_survey.specs.MainData.{is_lost, lacks_data, marked_row, marked_rows, own_area}
use Rattle.sync_survey.specs.{MainData.{place, rows_of}, Row.Row, Walk.{end_fault, numbered_frames}}
use Rattle.sync_survey.specs.declared.places.{Head.Head, PlacedFrame.PlacedFrame}
use Rattle.sync_survey.specs.declared.survey_fault.SurveyFault.{SurveyFault}

abbrev pub row_by : (ℕ → ℕ) → Row → Row
row_by to r = record r { offset = to r.offset }

abbrev pub head_by : (ℕ → ℕ) → Head → Head
head_by to head = record head { offset = to head.offset }

-- what is true of all frames and of those after the first is true of those that have numbers
pub numbered_either : (P : List PlacedFrame → Type 0) (o : Option Head) {p : PlacedFrame}
    {ps : List PlacedFrame} → P (p ∷ ps) → P ps → P (numbered_frames o (p ∷ ps))
numbered_either P o all rest = grind arith

-- the frames that have numbers, elsewhere
pub numbered_frames-by : (to : ℕ → ℕ) (o : Option Head) (frames : List PlacedFrame)
    → numbered_frames (option_map (head_by to) o) (map (frame_by to) frames)
    ≡ map (frame_by to) (numbered_frames o frames)
numbered_frames-by to o frames = grind arith

-- the end of the file is still no fault
pub end_fault-by : (file new : List ℕ) (to : ℕ → ℕ) (frames : List PlacedFrame)
    (o : Option SurveyFault) → end_fault file frames o ≡ None
    → end_fault new (map (frame_by to) frames) None ≡ None
end_fault-by file new to frames o e = grind arith

-- ---- lists of what is made of numbered rows

numbered_from : {X : Type 0} {by : Row → Row} (f g : ℕ → Row → X) (n : ℕ) (rows : List Row)
    → ((i : ℕ) (r : Row) → slice_get rows i ≡ Some r → f (n + i) (by r) ≡ g (n + i) r)
    → map (λ (p : ℕ × Row). f p.0 p.1) (enumerate_from n (map by rows))
    ≡ map (λ (p : ℕ × Row). g p.0 p.1) (enumerate_from n rows)
numbered_from f g n [] same = refl
numbered_from {X} {by} f g n (r ∷ rows) same =
    ap₂ (λ (x : X) (xs : List X). x ∷ xs)
    (subst (λ m. f m (by r) ≡ g m r) (omega arith) (same 0 r refl))
    (numbered_from f g (n + 1) rows
    (λ i q is. subst (λ m. f m (by q) ≡ g m q) (omega arith) (same (suc i) q is)))

-- what is made of changed rows by their numbers is what is made of the rows, if it is of each
pub numbered-same : {X : Type 0} {by : Row → Row} (f : ℕ → Row → X) {g : ℕ → Row → X}
    (rows : List Row) → ((i : ℕ) (r : Row) → slice_get rows i ≡ Some r → f i (by r) ≡ g i r)
    → map (λ (p : ℕ × Row). f p.0 p.1) (enumerate_from 0 (map by rows))
    ≡ map (λ (p : ℕ × Row). g p.0 p.1) (enumerate_from 0 rows)
numbered-same {by = by} f {g} rows same = numbered_from f g 0 rows
    (λ i r is. subst (λ m. f m (by r) ≡ g m r) (sym (zero-add i)) (same i r is))

-- ---- rows with other offsets and side information

-- side information that says the same of main data
pub record KeepsData (old new : Side) : Type 0 where
  pub begin : new.main_data_begin ≡ old.main_data_begin
  pub bits : payload_bits new ≡ payload_bits old
  pub bytes : payload_bytes new ≡ payload_bytes old

module _ (to : ℕ → ℕ) (side : Row → Side) (head : Option Head) (rows : List Row) where
  -- the row at its new offset, with this side information
  abbrev pub changed : Row → Row
  changed r = record r { offset = to r.offset; side = side r }

  abbrev new_head : Option Head
  new_head = option_map (head_by to) head

  abbrev new_rows : List Row
  new_rows = map changed rows

  areas : (rs : List Row) → sum_by (λ (r : Row). own_area r.header) (map changed rs)
      ≡ sum_by (λ (r : Row). own_area r.header) rs
  areas [] = refl
  areas (r ∷ rs) =
      sum_by-cons (λ (q : Row). own_area q.header) (changed r) (map changed rs)
      ∙ ap (λ n. own_area r.header + n) (areas rs)
      ∙ sym (sum_by-cons (λ (q : Row). own_area q.header) r rs)

  head_area-by : (o : Option Head) → head_area (option_map (head_by to) o) ≡ head_area o
  head_area-by o = grind arith

  -- the areas are where they were
  pub place-by : (i : ℕ) → place new_head new_rows i ≡ place head rows i
  unfolding place
  place-by i = ap₂ (λ m n. m + n) (head_area-by head)
      (ap (sum_by (λ (r : Row). own_area r.header)) (take-map changed i rows) ∙ areas (take i rows))

  -- the changed row at i is the row at i, changed
  row_get : (rs : List Row) (i : ℕ) {q : Row} → slice_get (map changed rs) i ≡ Some q
      → (r : Row) × (slice_get rs i ≡ Some r) × (changed r ≡ q)
  row_get [] i is = absurd cc
  row_get (r ∷ rs) zero is = (r, refl, cc)
  row_get (r ∷ rs) (suc i) {q} is = row_get rs i is

  module _ (keeps : (i : ℕ) (r : Row) → slice_get rows i ≡ Some r → KeepsData r.side (side r)) where
    lacks-by : {place_now new_place ended new_ended : ℕ} {r : Row} → (side r).main_data_begin
        ≡ r.side.main_data_begin → new_place ≡ place_now → new_ended ≡ ended
        → lacks_data new_place new_ended (changed r) ≡ lacks_data place_now ended r
    lacks-by begin same_place same_ended =
        ap₂ (λ (a b : Bool). a && b) (ap (λ n. n == 0) same_ended) (ap₂ ltb same_place begin)

    data_end-by : {place_now new_place : ℕ} {r : Row} → KeepsData r.side (side r)
        → new_place ≡ place_now → end_of_data new_place (changed r) ≡ end_of_data place_now r
    data_end-by kept same_place = grind arith

    behind-by : {place_now new_place ended new_ended : ℕ} {o : Option Row}
        → ((r : Row) → o ≡ Some r → KeepsData r.side (side r)) → new_place ≡ place_now
        → new_ended ≡ ended → data_end_after new_place new_ended (option_map changed o)
        ≡ data_end_after place_now ended o
    behind-by kept same_place same_ended = grind arith

    end-by : (i : ℕ) → data_end_before new_head new_rows i ≡ data_end_before head rows i
    unfolding data_end_before
    end-by zero = refl
    end-by (suc i) = grind (arith, slice_get-map, behind-by, keeps, place-by, end-by i)

    -- the same frames are lost
    pub lost-by : (i : ℕ) (r : Row) → (side r).main_data_begin ≡ r.side.main_data_begin
        → is_lost new_head new_rows i (changed r) ≡ is_lost head rows i r
    lost-by i r begin = lacks-by begin (place-by i) (end-by i)

    -- with right check words the frames have no fault if they had none
    pub sound-by : (file new : List ℕ) {class : ClassFields} {allowed : ℕ}
        → ((i : ℕ) (r : Row) → slice_get rows i ≡ Some r
        → has_wrong_crc (stored_crc (drop (to r.offset) new)) (changed r) ≡ false)
        → AreSound file head class allowed rows → AreSound new new_head class allowed new_rows
    sound-by file new {class} {allowed} words sound i q is =
        let found = row_get rows i is in
        let r = found.0 in
        let own = keeps i r found.1 in
        let here = sound i r found.1 in
        subst (IsSoundAt new new_head class allowed new_rows i) found.2 (record {
          same = here.same;
          word = words i r found.1;
          main = grind (arith, lost-by, place-by, end-by, data_end-by);
          few = here.few;
        })

-- ---- side information with lists as long as the arrays

-- all side information has lists as long as those that are read
abbrev pub AreShaped : List Row → Type 0
AreShaped rows = (i : ℕ) (r : Row) → slice_get rows i ≡ Some r → IsShaped r.side

-- rows of a file have side information with lists as long as the arrays
pub rows_shaped : (file : List ℕ) (ps : List PlacedFrame) → AreShaped (rows_of file ps)
rows_shaped file [] i r is = absurd cc
rows_shaped file (p ∷ ps) zero r is = grind (arith, shaped-side_in p.header (drop p.offset file))
rows_shaped file (p ∷ ps) (suc i) r is = rows_shaped file ps i r is

marks_shaped : (head : Option Head) (all : List Row) (n : ℕ) (rows : List Row) → AreShaped rows
    → AreShaped (map (λ (p : ℕ × Row). marked_row head all p.0 p.1) (enumerate_from n rows))
marks_shaped head all n [] shaped i q is = absurd cc
marks_shaped head all n (r ∷ rows) shaped zero q is =
    let same : marked_row head all n r ≡ q = cc in
    subst (λ (x : Row). IsShaped x.side) same (shaped 0 r refl)
marks_shaped head all n (r ∷ rows) shaped (suc i) q is =
    marks_shaped head all (n + 1) rows (λ i r is. shaped (suc i) r is) i q is

-- marks don't change that
pub marked_shaped : (head : Option Head) (rows : List Row) → AreShaped rows
    → AreShaped (marked_rows head rows)
unfolding marked_rows
marked_shaped head rows shaped i r is = marks_shaped head rows 0 rows shaped i r is

-- ---- rows that are elsewhere, with moved gains unless they stay

-- the row at its new offset, with its gains moved unless its frame stays
abbrev pub image_row : (ℕ → ℕ) → (ℕ → Steps) → (ℕ → Bool) → Row → Row
image_row to steps stays r = record r {
  offset = to r.offset;
  side = moved_side_unless_lost (stays r.offset) (steps r.offset) r.side;
}

module _ (to : ℕ → ℕ) (steps : ℕ → Steps) (stays : ℕ → Bool) (head : Option Head)
    (rows : List Row) (shaped : AreShaped rows) where
  abbrev far_head : Option Head
  far_head = option_map (head_by to) head

  abbrev far_rows : List Row
  far_rows = map (image_row to steps stays) rows

  abbrev side_by : Row → Side
  side_by r = moved_side_unless_lost (stays r.offset) (steps r.offset) r.side

  keeps : (i : ℕ) (r : Row) → slice_get rows i ≡ Some r → KeepsData r.side (side_by r)
  keeps i r is = record {
    begin = begin-unless (stays r.offset) (steps r.offset) r.side;
    bits = payload_bits-unless (stays r.offset) (steps r.offset) (shaped i r is);
    bytes = payload-unless (stays r.offset) (steps r.offset) (shaped i r is);
  }

  -- with right check words the frames have no fault if they had none
  pub sound-image : (file new : List ℕ) {class : ClassFields} {allowed : ℕ}
      → ((i : ℕ) (r : Row) → slice_get rows i ≡ Some r
      → has_wrong_crc (stored_crc (drop (to r.offset) new)) (image_row to steps stays r) ≡ false)
      → AreSound file head class allowed rows → AreSound new far_head class allowed far_rows
  sound-image file new {class} {allowed} words sound =
      sound-by to side_by head rows keeps file new words sound

  -- the same rows are marked, so that the marked rows are there as each marked row is
  pub marked-image : (far : Row → Row) → ((i : ℕ) (r : Row) → slice_get rows i ≡ Some r
      → record (image_row to steps stays r) { lost = is_lost head rows i r }
      ≡ far (marked_row head rows i r))
      → marked_rows far_head far_rows ≡ map far (marked_rows head rows)
  unfolding marked_rows
  marked-image far same =
      numbered-same (marked_row far_head far_rows) rows
      (λ i r is. ap (λ b. record (image_row to steps stays r) { lost = b })
      (lost-by to side_by head rows keeps i r
      (begin-unless (stays r.offset) (steps r.offset) r.side)) ∙ same i r is)
      ∙ sym (map-map far (λ (p : ℕ × Row). marked_row head rows p.0 p.1) (enumerate_from 0 rows))
