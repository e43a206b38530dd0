-- The first of several faults, and the faults of a frame in order.
use Rattle.std.proofs.Common.{ap, ap₂, arith, false, flat_map, get_or, length, length-append, List}
use Rattle.std.proofs.Common.{map, None, Option, refl, slice_get, slice_set, Some, suc, sum_by, sym}
use Rattle.std.proofs.Common.{true, zero, ℕ, [], ◌++◌, ◌+◌, ◌<◌, ◌∙◌, ◌∷◌, ◌≡◌, ◌≤◌}
use Rattle.std.proofs.lemmas.Bool.{cases_lt}
use Rattle.std.proofs.lemmas.List.{length-map, map-append, take-append-le, take_all}
use Rattle.std.proofs.lemmas.List.{Concat.flat_map-append, Sums.sum_by_push}
use Rattle.std.{proofs.lemmas.Option.slice_get_within, specs.List.enumerate_from}
use Rattle.std.specs.Option.{option_or}
use Rattle.frame_header.specs.{Fields.ClassFields, Tables.class_of}
use Rattle.sync_survey.specs.Faults.{all_faults, count_faults, crc_faults, data_faults, faults_at}
use Rattle.sync_survey.specs.{Faults.{first_of, frame_faults, later_faults}, Items.same_class}
use Rattle.sync_survey.specs.MainData.{data_end_after, data_end_before, head_area, is_lost}
use Rattle.sync_survey.specs.{MainData.{marked_row, marked_rows, own_area, place}, Row.Row}
use Rattle.sync_survey.specs.declared.{places.Head.Head, survey_fault.SurveyFault.SurveyFault}
use Rattle.sync_survey.specs.declared.survey_fault.SurveyFault.TheVariants.{Mixed}

-- ---- lists of faults

-- the first fault of two lists is the first of one or, if it has none, of the other
pub first-append : (xs ys : List SurveyFault)
    → first_of (xs ++ ys) ≡ option_or (first_of xs) (first_of ys)
first-append xs ys = grind arith

-- a list without a first fault is empty
pub none-of : {xs : List SurveyFault} → first_of xs ≡ None → xs ≡ []
none-of e = grind arith

-- more faults after it don't change the first fault
pub some-append : (xs ys : List SurveyFault) {fault : SurveyFault} → first_of xs ≡ Some fault
    → first_of (xs ++ ys) ≡ Some fault
some-append xs ys e = grind arith

-- ---- one frame

module _ (said : ℕ) (class : ClassFields) (allowed place ended count : ℕ) (r : Row) where
  -- the first fault of a frame of another class is its class
  pub first-mixed : same_class (class_of r.header) class ≡ false
      → first_of (faults_at said class allowed place ended count r) ≡ Some (Mixed r.offset)
  unfolding faults_at
  first-mixed differ = rw differ refl

  -- for a frame of the class, the first of the later faults is the first of all
  pub first-same : same_class (class_of r.header) class ≡ true
      → first_of (later_faults said allowed place ended count r)
      ≡ first_of (faults_at said class allowed place ended count r)
  unfolding faults_at
  first-same same = rw same refl

module _ (said allowed place ended count : ℕ) (r : Row) where
  by_parts : option_or (option_or (first_of (crc_faults said r))
      (first_of (data_faults place ended r))) (first_of (count_faults count allowed r))
      ≡ first_of (later_faults said allowed place ended count r)
  by_parts = grind (arith, first-append)

  -- the fault of the check word comes first
  pub first-word : {fault : SurveyFault} → first_of (crc_faults said r) ≡ Some fault
      → first_of (later_faults said allowed place ended count r) ≡ Some fault
  first-word is = sym by_parts ∙ rw is refl

  -- without that, the fault of the main data comes first
  pub first-data : {fault : SurveyFault} → first_of (crc_faults said r) ≡ None
      → first_of (data_faults place ended r) ≡ Some fault
      → first_of (later_faults said allowed place ended count r) ≡ Some fault
  first-data none is = sym by_parts ∙ rw (none, is) refl

  -- without these, the fault of the number of frames comes first, if any
  pub first-count : first_of (crc_faults said r) ≡ None → first_of (data_faults place ended r)
      ≡ None → first_of (later_faults said allowed place ended count r)
      ≡ first_of (count_faults count allowed r)
  first-count none sound = sym by_parts ∙ rw (none, sound) refl

-- ---- one more frame after these

-- more frames after them don't change those that are there
pub get_more : (rows more : List Row) (i : ℕ) → i < length rows
    → slice_get (rows ++ more) i ≡ slice_get rows i
get_more [] more i lt = absurd (omega (arith, lt))
get_more (r ∷ rows) more zero lt = refl
get_more (r ∷ rows) more (suc i) lt = get_more rows more i (omega (arith, lt))

-- the frame that was added is after all others
pub get_next : (rows : List Row) (r : Row) → slice_get (rows ++ r ∷ []) (length rows) ≡ Some r
get_next [] r = refl
get_next (q ∷ rows) r = get_next rows r

-- what holds for each of these and for one more holds for all
pub each_push : (P : ℕ → Row → Type 0) (rows : List Row) (r : Row)
    → ((i : ℕ) (q : Row) → i < length rows → slice_get rows i ≡ Some q → P i q) → P (length rows) r
    → (i : ℕ) (q : Row) → slice_get (rows ++ r ∷ []) i ≡ Some q → P i q
each_push P rows r each last i q found =
    grind (arith, cases_lt, get_more, slice_get_within, length-append, get_next)

-- the frame that was added is what is read at the number of the others
pub get_last : (rows : List Row) (r other : Row) → get_or (rows ++ r ∷ []) (length rows) other ≡ r
get_last [] r other = refl
get_last (q ∷ rows) r other = get_last rows r other

-- what is set there replaces it
pub set_last : (rows : List Row) (r q : Row)
    → slice_set (rows ++ r ∷ []) (length rows) q ≡ rows ++ q ∷ []
set_last [] r q = refl
set_last (p ∷ rows) r q = ap (λ l. p ∷ l) (set_last rows r q)

module _ (head : Option Head) (rows : List Row) where
  -- more frames after it don't change the place of a frame
  pub place-more : (more : List Row) {i : ℕ} → i ≤ length rows
      → place head (rows ++ more) i ≡ place head rows i
  unfolding place
  place-more more within = grind (arith, sum_by, take-append-le, more)

  -- the place after one more frame is further on by its own area
  pub place-next : (r : Row) → place head (rows ++ r ∷ []) (length (rows ++ r ∷ []))
      ≡ place head rows (length rows) + own_area r.header
  unfolding place
  place-next r = grind (arith, sum_by, take_all, sum_by_push)

-- where the main data before frame i end, by a rule on where the area of each frame begins, where
-- the data before it end, and the frame
pub record IsRuled (head : Option Head) (rule : ℕ → ℕ → Option Row → ℕ)
    (end : List Row → ℕ → ℕ) : Type 0 where
  pub more : (rows more : List Row) (i : ℕ) → i ≤ length rows → end (rows ++ more) i ≡ end rows i
  pub next : (rows : List Row) (r : Row) → end (rows ++ r ∷ []) (length (rows ++ r ∷ []))
      ≡ rule (place head rows (length rows)) (end rows (length rows)) (Some r)

module _ (head : Option Head) (rule : ℕ → ℕ → Option Row → ℕ) {end : List Row → ℕ → ℕ}
    (none : (rows : List Row) → end rows zero ≡ 0)
    (one : (rows : List Row) (i : ℕ)
    → end rows (suc i) ≡ rule (place head rows i) (end rows i) (slice_get rows i)) where
  ruled-more : (rows more : List Row) (i : ℕ) → i ≤ length rows → end (rows ++ more) i ≡ end rows i
  ruled-more rows more zero within = none (rows ++ more) ∙ sym (none rows)
  ruled-more rows more (suc i) within =
      let before : i ≤ length rows = omega (arith, within) in
      one (rows ++ more) i
      ∙ ap (λ n. rule n (end (rows ++ more) i) (slice_get (rows ++ more) i))
      (place-more head rows more before)
      ∙ ap (λ n. rule (place head rows i) n (slice_get (rows ++ more) i))
      (ruled-more rows more i before)
      ∙ ap (rule (place head rows i) (end rows i)) (get_more rows more i within)
      ∙ sym (one rows i)

  ruled-next : (rows : List Row) (r : Row) → end (rows ++ r ∷ []) (length (rows ++ r ∷ []))
      ≡ rule (place head rows (length rows)) (end rows (length rows)) (Some r)
  ruled-next rows r =
      let n = length rows in
      let long : length (rows ++ r ∷ []) ≡ suc n = omega (arith, length-append rows (r ∷ [])) in
      ap (end (rows ++ r ∷ [])) long
      ∙ one (rows ++ r ∷ []) n
      ∙ ap (λ m. rule m (end (rows ++ r ∷ []) n) (slice_get (rows ++ r ∷ []) n))
      (place-more head rows (r ∷ []) (omega arith))
      ∙ ap (λ m. rule (place head rows n) m (slice_get (rows ++ r ∷ []) n))
      (ruled-more rows (r ∷ []) n (omega arith))
      ∙ ap (rule (place head rows n) (end rows n)) (get_next rows r)

  -- by such a rule, the end before a frame depends only on the frames before it
  pub ruled : IsRuled head rule end
  ruled = record { more = ruled-more; next = ruled-next }

module _ (head : Option Head) (rows : List Row) where
  -- more frames after it don't change where main data end before a frame
  pub end-more : (more : List Row) (i : ℕ) → i ≤ length rows
      → data_end_before head (rows ++ more) i ≡ data_end_before head rows i
  unfolding data_end_before
  end-more =
      (ruled head data_end_after {end = data_end_before head} (λ rows. refl)
      (λ rows i. refl)).more rows

  -- one more frame moves the end as its own main data do
  pub end-next : (r : Row) → data_end_before head (rows ++ r ∷ []) (length (rows ++ r ∷ []))
      ≡ data_end_after (place head rows (length rows)) (data_end_before head rows (length rows))
      (Some r)
  unfolding data_end_before
  end-next =
      (ruled head data_end_after {end = data_end_before head} (λ rows. refl)
      (λ rows i. refl)).next rows

-- ---- all frames, in order

-- two joined lists are numbered on from the first to the second
pub enumerate-append : {X : Type 0} (n : ℕ) (xs ys : List X)
    → enumerate_from n (xs ++ ys) ≡ enumerate_from n xs ++ enumerate_from (n + length xs) ys
enumerate-append n [] ys = ap (λ m. enumerate_from m ys) (omega arith)
enumerate-append n (x ∷ xs) ys = grind (arith, enumerate-append (n + 1) xs ys)

-- numbering a list keeps its length
pub enumerate-length : {X : Type 0} (n : ℕ) (xs : List X) → length (enumerate_from n xs) ≡ length xs
enumerate-length n [] = refl
enumerate-length n (x ∷ xs) = ap suc (enumerate-length (n + 1) xs)

-- two maps that agree for each number are the same
pub map-numbers : {X A : Type 0} {f g : ℕ → X → A} (n : ℕ) (xs : List X)
    → ((i : ℕ) (x : X) → i < n + length xs → f i x ≡ g i x)
    → map (λ (p : ℕ × X). f p.0 p.1) (enumerate_from n xs)
    ≡ map (λ (p : ℕ × X). g p.0 p.1) (enumerate_from n xs)
map-numbers n [] same = refl
map-numbers {f = f} {g = g} n (x ∷ xs) same = ap₂ (λ a b. a ∷ b) (same n x (omega arith))
    (map-numbers (n + 1) xs (λ i y lt. same i y (omega (arith, lt))))

-- two maps to lists that agree for each number are the same
pub flat_map-numbers : {X A : Type 0} {f g : ℕ → X → List A} (n : ℕ) (xs : List X)
    → ((i : ℕ) (x : X) → i < n + length xs → f i x ≡ g i x)
    → flat_map (λ (p : ℕ × X). f p.0 p.1) (enumerate_from n xs)
    ≡ flat_map (λ (p : ℕ × X). g p.0 p.1) (enumerate_from n xs)
flat_map-numbers n [] same = refl
flat_map-numbers {f = f} {g = g} n (x ∷ xs) same =
    ap₂ (λ a b. a ++ b) (same n x (omega arith))
    (flat_map-numbers (n + 1) xs (λ i y lt. same i y (omega (arith, lt))))

module _ (file : List ℕ) (head : Option Head) (class : ClassFields) (allowed : ℕ) where
  abbrev pub faults_of : List Row → ℕ → Row → List SurveyFault
  faults_of rows i r = frame_faults file head class allowed rows i r

  -- more frames after it don't change the faults of a frame
  pub frame-more : (rows more : List Row) {i : ℕ} (r : Row) → i ≤ length rows
      → faults_of (rows ++ more) i r ≡ faults_of rows i r
  frame-more rows more r within = grind (arith, place-more, more, end-more)

  -- the faults of these frames are unchanged, and those of the frames after them follow
  pub faults-more : (rows more : List Row) → all_faults file head class allowed (rows ++ more)
      ≡ all_faults file head class allowed rows ++ flat_map
      (λ (p : ℕ × Row). faults_of (rows ++ more) p.0 p.1) (enumerate_from (length rows) more)
  unfolding all_faults
  faults-more rows more =
      let each = λ (p : ℕ × Row). faults_of (rows ++ more) p.0 p.1 in
      let later = flat_map each (enumerate_from (length rows) more) in
      ap (flat_map each) (enumerate-append 0 rows more)
      ∙ flat_map-append each (enumerate_from 0 rows) (enumerate_from (0 + length rows) more)
      ∙ ap (λ n. flat_map each (enumerate_from 0 rows) ++ flat_map each (enumerate_from n more))
      (omega arith)
      ∙ ap (λ l. l ++ later) (flat_map-numbers 0 rows
      (λ i r lt. frame-more rows more r (omega (arith, lt))))

  module _ (rows : List Row) (r : Row) (none : all_faults file head class allowed rows ≡ []) where
    -- if the next frame has no fault, all have none
    pub none_more : first_of (faults_of rows (length rows) r) ≡ None
        → all_faults file head class allowed (rows ++ r ∷ []) ≡ []
    none_more sound = grind (arith, faults-more, frame-more, none-of)

    -- if the next frame has one, its first fault is the first of all
    pub first_more : (later : List Row) {fault : SurveyFault}
        → first_of (faults_of rows (length rows) r) ≡ Some fault
        → first_of (all_faults file head class allowed (rows ++ r ∷ later)) ≡ Some fault
    first_more later is = grind (arith, flat_map, faults-more, some-append, frame-more)

  -- no frames have no faults
  pub faults-none : all_faults file head class allowed [] ≡ []
  unfolding all_faults
  faults-none = refl

-- ---- lost frames are marked

module _ (head : Option Head) where
  -- marked frames are as many as before
  pub length-marked_rows : (rows : List Row) → length (marked_rows head rows) ≡ length rows
  unfolding marked_rows
  length-marked_rows rows = grind (arith, length-map, enumerate-length)

  -- if there are no frames, none is marked
  pub marked_rows-none : marked_rows head [] ≡ []
  unfolding marked_rows
  marked_rows-none = refl

  lost-more : (rows more : List Row) {i : ℕ} (r : Row) → i ≤ length rows
      → is_lost head (rows ++ more) i r ≡ is_lost head rows i r
  lost-more rows more r within = grind (arith, place-more, more, end-more)

  marked_row-more : (rows more : List Row) {i : ℕ} (r : Row) → i ≤ length rows
      → marked_row head (rows ++ more) i r ≡ marked_row head rows i r
  marked_row-more rows more r within = grind (arith, lost-more, more)

  -- one more frame doesn't change the marks of those before it
  pub marked_rows-push : (rows : List Row) (r : Row) → marked_rows head (rows ++ r ∷ [])
      ≡ marked_rows head rows ++ marked_row head rows (length rows) r ∷ []
  unfolding marked_rows
  marked_rows-push rows r =
      let whole = rows ++ r ∷ [] in
      let each = λ (p : ℕ × Row). marked_row head whole p.0 p.1 in
      ap (map each) (enumerate-append 0 rows (r ∷ []))
      ∙ map-append each (enumerate_from 0 rows) (enumerate_from (0 + length rows) (r ∷ []))
      ∙ ap₂ (λ (a b : List Row). a ++ b)
      (map-numbers 0 rows
      (λ i q lt. marked_row-more rows (r ∷ []) q (omega (arith, lt))))
      (ap (λ q. q ∷ []) (ap (λ n. marked_row head whole n r) (omega arith)
      ∙ marked_row-more rows (r ∷ []) r (omega arith)))

-- ---- where the first frame begins

-- before the first frame the place is after the head's area
pub place-none : (head : Option Head) → head_area head ≡ place head [] (length {A = Row} [])
unfolding place
place-none head = omega arith

-- before the first frame no main data end after 0
pub end-none : (head : Option Head) → 0 ≡ data_end_before head [] (length {A = Row} [])
unfolding data_end_before
end-none head = refl
