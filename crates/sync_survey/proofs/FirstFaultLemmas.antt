-- The faults of a file are listed in order of offset, so the first of them has the smallest.
use Rattle.std.proofs.Common.{ap, append_assoc, arith, Bool, cond, drop, Err, flat_map, IfErr, inl}
use Rattle.std.proofs.Common.{length, List, Ok, Option, option_to_list, refl, Result, Some, subst}
use Rattle.std.proofs.Common.{sym, ℕ, ⊎_elim, [], ◌++◌, ◌+◌, ◌∙◌, ◌∷◌, ◌≡◌, ◌≤◌, ◌⊎◌}
use Rattle.std.specs.List.{enumerate_from}
use Rattle.frame_header.specs.Fields.{ClassFields}
use Rattle.outside.specs.{Counts.Counts, Files.{Files, Holds}}
use Rattle.side_info.specs.Frame.{stored_crc}
use Rattle.sync_survey.proofs.{BytesFaultLemmas.fault_is, ChainLemmas.{cons_list, item_chain-ends}}
use Rattle.sync_survey.proofs.{ItemListLemmas.ends-within, StartLemmas.start-first}
use Rattle.sync_survey.specs.Chains.{AreEndToEnd, frame_of_item, frames_of, PlacedItem}
use Rattle.sync_survey.specs.Faults.{all_faults, data_faults, fault_if_true, fault_offset}
use Rattle.sync_survey.specs.Faults.{faults_at, faults_from, fields_from, first_of, frame_faults}
use Rattle.sync_survey.specs.Faults.{NoneBefore, own_faults, survey_fields, survey_from_start}
use Rattle.sync_survey.specs.{Items.{item_at, size_of}, MainData.{data_end_before, place, rows_of}}
use Rattle.sync_survey.specs.{Row.Row, Start.start_of}
use Rattle.sync_survey.specs.Survey.{IsSurveyFault, IsSurveyRefusal, survey_of}
use Rattle.sync_survey.specs.SurveyFaultKinds.{IsRefused, kind_of}
use Rattle.sync_survey.specs.Walk.{end_fault, fault_at, numbered_frames, walk_from}
use Rattle.sync_survey.specs.declared.{chains.Region.{Region, TheVariants.Stream}, items.Item.Item}
use Rattle.sync_survey.specs.declared.places.{Head.Head, PlacedFrame.PlacedFrame, Start.Start}
use Rattle.sync_survey.specs.declared.survey_fault.SurveyFault.{SurveyFault, TheVariants.TooLong}
use Rattle.sync_survey.specs.declared.surveys.Survey.{Survey}

-- ---- lists of faults

none-append : (at : ℕ) (xs ys : List SurveyFault) → NoneBefore at xs → NoneBefore at ys
    → NoneBefore at (xs ++ ys)
none-append at [] ys p q = q
none-append at (x ∷ xs) ys p q = (p.0, none-append at xs ys p.1 q)

none-less : {low high : ℕ} (xs : List SurveyFault) → low ≤ high → NoneBefore high xs
    → NoneBefore low xs
none-less [] le p = tt
none-less {low} {high} (x ∷ xs) le p = (omega (arith, le, p.0), none-less xs le p.1)

-- all of these faults are at one offset
abbrev AreAt : ℕ → List SurveyFault → Type 0
AreAt at [] = Unit {0}
AreAt at (fault ∷ later) = (fault_offset fault ≡ at) × AreAt at later

one_at : {at : ℕ} (b : Bool) (fault : SurveyFault) → fault_offset fault ≡ at
    → AreAt at (fault_if_true b fault)
one_at b fault is = grind arith

all_at : (at : ℕ) (xs ys : List SurveyFault) → AreAt at xs → AreAt at ys → AreAt at (xs ++ ys)
all_at at [] ys p q = q
all_at at (x ∷ xs) ys p q = (p.0, all_at at xs ys p.1 q)

at_none : (at : ℕ) (xs : List SurveyFault) → AreAt at xs → NoneBefore at xs
at_none at [] p = tt
at_none at (x ∷ xs) p = (omega (arith, p.0), at_none at xs p.1)

-- ---- the faults of a frame are at its offset

own_at : (place ended : ℕ) (r : Row) → AreAt r.offset (own_faults place ended r)
own_at place ended r = grind (arith, all_at, one_at)

unless_at : (at : ℕ) (b : Bool) (xs : List SurveyFault) → AreAt at xs → AreAt at (cond b [] xs)
unless_at at b xs p = grind arith

data_at : (place ended : ℕ) (r : Row) → AreAt r.offset (data_faults place ended r)
data_at place ended r = grind (arith, unless_at, own_at)

frame_at : (said : ℕ) (class : ClassFields) (allowed place ended count : ℕ) (r : Row)
    → AreAt r.offset (faults_at said class allowed place ended count r)
unfolding faults_at
frame_at said class allowed place ended count r = grind (arith, all_at, one_at, data_at)

-- ---- the faults of frames that follow each other

-- the offsets of these frames rise, from `at` to `to`
abbrev AreRising : ℕ → List Row → ℕ → Type 0
AreRising at [] to = at ≤ to
AreRising at (r ∷ rows) to = (at ≤ r.offset) × AreRising r.offset rows to

rising_ends : {at : ℕ} (rows : List Row) {to : ℕ} → AreRising at rows to → at ≤ to
rising_ends [] rise = rise
rising_ends (r ∷ rows) {to} rise = omega (arith, rise.0, rising_ends rows rise.1)

-- each frame has faults only at its own offset
abbrev AreOfEach : (ℕ → Row → List SurveyFault) → Type 0
AreOfEach each = (i : ℕ) (r : Row) → AreAt r.offset (each i r)

abbrev in_turn : (ℕ → Row → List SurveyFault) → ℕ → List Row → List SurveyFault
in_turn each n rows = flat_map (λ (p : ℕ × Row). each p.0 p.1) (enumerate_from n rows)

first_at : {at : ℕ} (xs ys : List SurveyFault) {fault : SurveyFault} → AreAt at xs
    → first_of (xs ++ ys) ≡ Some fault → NoneBefore at ys
    → (xs ≡ []) ⊎ ((fault_offset fault ≡ at) × NoneBefore (fault_offset fault) (xs ++ ys))
first_at [] ys all is later = inl refl
first_at {at} (x ∷ xs) ys all is later =
    grind (arith, all.0, none-append at (x ∷ xs) ys (at_none at (x ∷ xs) all) later)

module _ (each : ℕ → Row → List SurveyFault) (own : AreOfEach each) where
  rising_none : (at to n : ℕ)
      (rows : List Row) → AreRising at rows to → NoneBefore at (in_turn each n rows)
  rising_none at to n [] rise = tt
  rising_none at to n (r ∷ rows) rise =
      grind (
        arith,
        none-append,
        none-less,
        at_none r.offset (each n r) (own n r),
        rising_none r.offset to (n + 1) rows rise.1,
      )

  -- the first of the faults of frames and of what comes after them has the smallest offset
  least_first : (at to n : ℕ)
      (rows : List Row) (later : List SurveyFault) (fault : SurveyFault) → AreRising at rows to
      → NoneBefore to later
      → ((f : SurveyFault) → first_of later ≡ Some f → NoneBefore (fault_offset f) later)
      → first_of (in_turn each n rows ++ later) ≡ Some fault
      → NoneBefore (fault_offset fault) (in_turn each n rows ++ later)
  least_first at to n [] later fault rise behind last is = last fault is
  least_first at to n (r ∷ rows) later fault rise behind last is =
      let here = each n r in
      let rest = in_turn each (n + 1) rows in
      let regrouped : (here ++ rest) ++ later ≡ here ++ (rest ++ later) =
      append_assoc here rest later in
      let low : NoneBefore r.offset (rest ++ later) =
      grind (arith, none-append, rising_none, none-less, rising_ends) in
      ⊎_elim
      (λ none.
      let same : (here ++ rest) ++ later ≡ rest ++ later = ap (λ l. (l ++ rest) ++ later) none in
      subst (NoneBefore (fault_offset fault)) (sym same) (least_first r.offset to
      (n + 1) rows later fault rise.1 behind last (ap first_of (sym same) ∙ is)))
      (λ found. subst (NoneBefore (fault_offset fault)) (sym regrouped) found.1)
      (first_at here (rest ++ later) (own n r)
      (ap first_of (sym regrouped) ∙ is) low)

all_least : (file : List ℕ) (head : Option Head) (class : ClassFields) (allowed at to : ℕ)
    (rows : List Row) (later : List SurveyFault) (fault : SurveyFault) → AreRising at rows to
    → NoneBefore to later
    → ((f : SurveyFault) → first_of later ≡ Some f → NoneBefore (fault_offset f) later)
    → first_of (all_faults file head class allowed rows ++ later) ≡ Some fault
    → NoneBefore (fault_offset fault) (all_faults file head class allowed rows ++ later)
unfolding all_faults
all_least file head class allowed at to rows later fault rise behind last is =
    least_first (frame_faults file head class allowed rows)
    (λ i r. frame_at (stored_crc (drop r.offset file)) class allowed (place head rows i)
    (data_end_before head rows i) i r) at to 0 rows later fault rise behind last is

-- ---- the frames of a walk follow each other

rising_more : (file : List ℕ) (at : ℕ) (item : Item) (rows : List PlacedFrame) (to : ℕ)
    → AreRising at (rows_of file rows) to
    → AreRising at (rows_of file (option_to_list (frame_of_item at item) ++ rows)) to
rising_more file at item rows to rise = grind arith

rising_less : {low high : ℕ} (rows : List Row) (to : ℕ) → low ≤ high → AreRising high rows to
    → AreRising low rows to
rising_less [] to le rise = omega (arith, le, rise)
rising_less (r ∷ rows) to le rise = (omega (arith, le, rise.0), rise.1)

items_rise : (file : List ℕ) (part : Region) (from : ℕ) (ps : List PlacedItem) (to : ℕ)
    → AreEndToEnd part file from ps to → AreRising from (rows_of file (frames_of ps)) to
items_rise file part from [] to ends = omega (arith, ends)
items_rise file part from (p ∷ ps) to ends =
    grind (
      arith,
      rising_less,
      cons_list,
      rising_more,
      items_rise file part (p.offset + size_of p.item) ps to ends.2,
    )

rise_behind : (file : List ℕ) (at : ℕ) (ps : List PlacedFrame) (to : ℕ)
    → AreRising at (rows_of file ps) to → AreRising at (rows_of file (drop 1 ps)) to
rise_behind file at ps to rise = grind (arith, rising_less)

numbered_frames-rise : (file : List ℕ) (at : ℕ) (head : Option Head) (ps : List PlacedFrame)
    (to : ℕ) → AreRising at (rows_of file ps) to
    → AreRising at (rows_of file (numbered_frames head ps)) to
numbered_frames-rise file at head ps to rise = grind (arith, rise_behind)

-- ---- the fault where the walk ends

end_place : (file : List ℕ) (frames : List PlacedFrame) {stop : ℕ} {o : Option SurveyFault}
    → stop ≤ length file → fault_at stop (item_at file stop) ≡ o
    → NoneBefore stop (option_to_list (end_fault file frames o))
end_place file frames within is = grind arith

one_only : (o : Option SurveyFault) {fault : SurveyFault} → first_of (option_to_list o) ≡ Some fault
    → NoneBefore (fault_offset fault) (option_to_list o)
one_only o e = grind arith

-- the first fault of a file with this start has the smallest offset
pub first_is_least : (file : List ℕ) (allowed : ℕ) (start : Start) {fault : SurveyFault}
    → start.first.offset ≤ length file → first_of (faults_from file allowed start) ≡ Some fault
    → NoneBefore (fault_offset fault) (faults_from file allowed start)
unfolding faults_from walk_from
first_is_least file allowed start within is =
    grind (
      arith,
      item_chain-ends Stream file start.first.offset,
      all_least,
      numbered_frames-rise,
      items_rise,
      end_place,
      ends-within,
      one_only,
    )

-- ---- the refusal of a survey

start_is : (file : List ℕ) (allowed : ℕ) {start : Start} {fault : SurveyFault}
    (r : Result Start SurveyFault) → start_of file ≡ r → r ≡ Ok start
    → survey_from_start file allowed r
    ≡ Err fault → NoneBefore (fault_offset fault) (faults_from file allowed start)
start_is file allowed (Err f) begun same e = absurd cc
start_is file allowed {start} {fault} (Ok s) begun same e =
    let one : s ≡ start = cc in
    subst (λ t. NoneBefore (fault_offset fault) (faults_from file allowed t)) one
    (first_is_least file allowed s (omega (arith, (start-first begun).frame.within))
    (fault_is (first_of (faults_from file allowed s)) (fields_from file s) e))

survey_fields-first : (file : List ℕ) (allowed : ℕ) {fault : SurveyFault}
    → survey_fields file allowed ≡ Err fault → {start : Start} → start_of file ≡ Ok start
    → NoneBefore (fault_offset fault) (faults_from file allowed start)
unfolding survey_fields
survey_fields-first file allowed e begun = grind (arith, start_is)

none_at_all : (xs : List SurveyFault) → NoneBefore 0 xs
none_at_all [] = tt
none_at_all (x ∷ xs) = (omega arith, none_at_all xs)

-- a fault that has no offset, or one of the file
nowhere : (fault : SurveyFault) → (fault_offset fault ≡ 0) ⊎ (kind_of fault ≡ IsRefused)
nowhere fault = grind arith

long_by : (file : List ℕ) (allowed : ℕ) {fault : SurveyFault} {start : Start} (b : Bool)
    → start_of file ≡ Ok start → cond b (Err (TooLong (length file))) (survey_fields file allowed)
    ≡ Err fault → NoneBefore (fault_offset fault) (faults_from file allowed start)
long_by file allowed b begun e = grind (arith, none_at_all, survey_fields-first)

of_file : (file : List ℕ) (allowed : ℕ) {fault : SurveyFault} {start : Start}
    → start_of file ≡ Ok start → survey_of file allowed ≡ Err fault
    → NoneBefore (fault_offset fault) (faults_from file allowed start)
unfolding survey_of
of_file file allowed begun is = grind (arith, long_by)

abbrev IsFirstOf : Files → List ℕ → ℕ → SurveyFault → Type 0
IsFirstOf files name allowed fault = (bytes : List ℕ) → Holds files name bytes → (start : Start)
    → start_of bytes ≡ Ok start → NoneBefore (fault_offset fault) (faults_from bytes allowed start)

module _ (name : List ℕ) (files : Files) (allowed : ℕ) (before after : Counts) where
  refusal_first : (fault : SurveyFault) → IsSurveyFault name files allowed before after fault
      → (fault_offset fault ≡ 0) ⊎ (kind_of fault ≡ IsRefused) → IsFirstOf files name allowed fault
  refusal_first fault is h = grind (arith, none_at_all, of_file)

  -- a refusal of a file is the one with the smallest offset
  pub refused_first : (r : Result Survey SurveyFault)
      → IfErr r (IsSurveyRefusal name files allowed before after)
      → IfErr r (IsFirstOf files name allowed)
  refused_first (Ok s) is = tt
  refused_first (Err fault) is = refusal_first fault is.cause (nowhere fault)
