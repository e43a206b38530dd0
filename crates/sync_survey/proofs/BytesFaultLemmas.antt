-- The faults of bytes: all but those of a file that isn't there, is too long, or can't be read.
use Rattle.std.proofs.Common.{Bool, cond, drop, Err, false, flat_map, List, None, not, Ok, Option}
use Rattle.std.proofs.Common.{option_to_list, refl, Result, Some, subst, true, ℕ, [], ◌++◌, ◌+◌}
use Rattle.std.{proofs.Common.{◌==◌, ◌∷◌, ◌≡◌}, specs.List.enumerate_from}
use Rattle.frame_header.specs.{Fields.ClassFields, Tables.class_of}
use Rattle.side_info.specs.Frame.{stored_crc}
use Rattle.sync_survey.specs.Faults.{all_faults, class_from, data_faults, fault_if_true}
use Rattle.sync_survey.specs.Faults.{fault_or_survey, faults_at, faults_from, fields_from, first_of}
use Rattle.sync_survey.specs.Faults.{frame_faults, has_wrong_crc, overlaps, overruns, own_faults}
use Rattle.sync_survey.specs.Faults.{points_too_far, survey_fields, survey_from_start, SurveyFields}
use Rattle.sync_survey.specs.Items.{item_at, item_fits, same_class}
use Rattle.sync_survey.specs.{MainData.{data_end_before, lacks_data, place}, Row.Row}
use Rattle.sync_survey.specs.Start.{front_end_of, start_after_junk, start_at, start_of}
use Rattle.sync_survey.specs.SurveyFaultKinds.{RefusesRightly}
use Rattle.sync_survey.specs.{Walk.{end_fault, fault_at, walk_from}, declared.items.Item.Item}
use Rattle.sync_survey.specs.declared.items.Item.TheVariants.{Block, End, Frame, Free}
use Rattle.sync_survey.specs.declared.places.{Head.Head, PlacedFrame.PlacedFrame, Start.Start}
use Rattle.sync_survey.specs.declared.survey_fault.SurveyFault.{SurveyFault}
use Rattle.sync_survey.specs.declared.survey_fault.SurveyFault.TheVariants.{Absent, FreeFormat}
use Rattle.sync_survey.specs.declared.survey_fault.SurveyFault.TheVariants.{LostSync, Memory}
use Rattle.sync_survey.specs.declared.survey_fault.SurveyFault.TheVariants.{NoFrame, Read, Shrunk}
use Rattle.sync_survey.specs.declared.survey_fault.SurveyFault.TheVariants.{TooLong, Truncated}

abbrev pub IsOfBytes : SurveyFault → Type 0
IsOfBytes Absent = ⊥
IsOfBytes (TooLong size) = ⊥
IsOfBytes (Shrunk first second) = ⊥
IsOfBytes Read = ⊥
IsOfBytes Memory = ⊥
IsOfBytes _ = Unit {0}

-- a fault of bytes refuses the file, with the right numbers
pub of_bytes_rightly : (fault : SurveyFault) → IsOfBytes fault → RefusesRightly fault
of_bytes_rightly Absent is = absurd is
of_bytes_rightly (TooLong size) is = absurd is
of_bytes_rightly (Shrunk first second) is = absurd is
of_bytes_rightly Read is = absurd is
of_bytes_rightly Memory is = absurd is
of_bytes_rightly _ is = (refl, tt)

-- ---- lists of faults

abbrev AreOfBytes : List SurveyFault → Type 0
AreOfBytes [] = Unit {0}
AreOfBytes (fault ∷ later) = IsOfBytes fault × AreOfBytes later

one_of_bytes : (b : Bool) (fault : SurveyFault) → IsOfBytes fault
    → AreOfBytes (fault_if_true b fault)
one_of_bytes true fault is = (is, tt)
one_of_bytes false fault is = tt

both_of_bytes : (xs ys : List SurveyFault) → AreOfBytes xs → AreOfBytes ys → AreOfBytes (xs ++ ys)
both_of_bytes [] ys p q = q
both_of_bytes (x ∷ xs) ys p q = (p.0, both_of_bytes xs ys p.1 q)

first_of_bytes : (xs : List SurveyFault) {fault : SurveyFault} → AreOfBytes xs
    → first_of xs ≡ Some fault → IsOfBytes fault
first_of_bytes [] all is = absurd cc
first_of_bytes (x ∷ xs) {fault} all is = let same : x ≡ fault = cc in
    subst IsOfBytes same all.0

-- ---- a frame

own_of_bytes : (place ended : ℕ) (r : Row) → AreOfBytes (own_faults place ended r)
own_of_bytes place ended r =
    both_of_bytes _ _ (both_of_bytes _ _ (one_of_bytes (points_too_far place r) _ tt)
    (one_of_bytes (overlaps place ended r) _ tt)) (one_of_bytes (overruns place r) _ tt)

unless_of_bytes : (b : Bool) (xs : List SurveyFault) → AreOfBytes xs → AreOfBytes (cond b [] xs)
unless_of_bytes true xs p = tt
unless_of_bytes false xs p = p

data_of_bytes : (place ended : ℕ) (r : Row) → AreOfBytes (data_faults place ended r)
data_of_bytes place ended r = unless_of_bytes (lacks_data place ended r) (own_faults place ended r)
    (own_of_bytes place ended r)

module _ (said : ℕ) (class : ClassFields) (allowed place ended count : ℕ) (r : Row) where
  frame_of_bytes : AreOfBytes (faults_at said class allowed place ended count r)
  unfolding faults_at
  frame_of_bytes =
      both_of_bytes _ _
      (both_of_bytes _ _
      (both_of_bytes _ _ (one_of_bytes (not (same_class (class_of r.header) class)) _ tt)
      (one_of_bytes (has_wrong_crc said r) _ tt)) (data_of_bytes place ended r))
      (one_of_bytes (count == allowed) _ tt)

  -- the first fault of a frame refuses the file, with the right numbers
  pub frame_rightly : {fault : SurveyFault}
      → first_of (faults_at said class allowed place ended count r) ≡ Some fault
      → RefusesRightly fault
  frame_rightly {fault} is =
      of_bytes_rightly fault
      (first_of_bytes (faults_at said class allowed place ended count r) frame_of_bytes is)

-- ---- a file

each_of_bytes : (each : ℕ → Row → List SurveyFault) → ((i : ℕ) (r : Row) → AreOfBytes (each i r))
    → (n : ℕ) (rows : List Row)
    → AreOfBytes (flat_map (λ (p : ℕ × Row). each p.0 p.1) (enumerate_from n rows))
each_of_bytes each own n [] = tt
each_of_bytes each own n (r ∷ rows) =
    both_of_bytes (each n r) _ (own n r) (each_of_bytes each own (n + 1) rows)

frames_of_bytes : (file : List ℕ) (head : Option Head) (class : ClassFields) (allowed : ℕ)
    (rows : List Row) → AreOfBytes (all_faults file head class allowed rows)
unfolding all_faults
frames_of_bytes file head class allowed rows =
    each_of_bytes (frame_faults file head class allowed rows)
    (λ i r. frame_of_bytes (stored_crc (drop r.offset file)) class allowed (place head rows i)
    (data_end_before head rows i) i r) 0 rows

stop_of_bytes : (at : ℕ) (item : Item) {fault : SurveyFault} → fault_at at item ≡ Some fault
    → IsOfBytes fault
stop_of_bytes at (Frame h) {fault} is = let same : Truncated at ≡ fault = cc in
    subst IsOfBytes same tt
stop_of_bytes at Free {fault} is = let same : FreeFormat at ≡ fault = cc in
    subst IsOfBytes same tt
stop_of_bytes at (Block b) {fault} is = let same : Truncated at ≡ fault = cc in
    subst IsOfBytes same tt
stop_of_bytes at End is = absurd cc
stop_of_bytes at _ {fault} is = let same : LostSync at ≡ fault = cc in
    subst IsOfBytes same tt

last_of_bytes : (file : List ℕ) (frames : List PlacedFrame) (o : Option SurveyFault)
    → ((fault : SurveyFault) → o ≡ Some fault → IsOfBytes fault)
    → AreOfBytes (option_to_list (end_fault file frames o))
last_of_bytes file frames (Some fault) own = (own fault refl, tt)
last_of_bytes file [] None own = (tt, tt)
last_of_bytes file (p ∷ ps) None own = tt

file_of_bytes : (file : List ℕ) (allowed : ℕ) (start : Start)
    → AreOfBytes (faults_from file allowed start)
unfolding faults_from walk_from
file_of_bytes file allowed start =
    both_of_bytes _ _ (frames_of_bytes file _ (class_from start) allowed _)
    (last_of_bytes file _ _ (λ fault is. stop_of_bytes _ _ is))

fits_of_bytes : (at : ℕ) (start : Start) (b : Bool) (fault : SurveyFault)
    → cond b (Ok start) (Err (Truncated at)) ≡ Err fault → IsOfBytes fault
fits_of_bytes at start true fault is = absurd cc
fits_of_bytes at start false fault is = let same : Truncated at ≡ fault = cc in
    subst IsOfBytes same tt

junk_of_bytes : (at : ℕ) (o : Option PlacedFrame) (fault : SurveyFault)
    → start_after_junk at o ≡ Err fault → IsOfBytes fault
junk_of_bytes at (Some p) fault is = absurd cc
junk_of_bytes at None fault is = let same : NoFrame at ≡ fault = cc in subst IsOfBytes same tt

start_of_bytes : (file : List ℕ) (at : ℕ) (item : Item) (fault : SurveyFault)
    → start_at file at item ≡ Err fault → IsOfBytes fault
start_of_bytes file at (Frame h) fault is =
    fits_of_bytes at _ (item_fits file at (Frame h)) fault is
start_of_bytes file at Free fault is = let same : FreeFormat at ≡ fault = cc in
    subst IsOfBytes same tt
start_of_bytes file at (Block b) fault is = let same : Truncated at ≡ fault = cc in
    subst IsOfBytes same tt
start_of_bytes file at _ fault is = junk_of_bytes at _ fault is

begun_of_bytes : (file : List ℕ) {fault : SurveyFault} → start_of file ≡ Err fault → IsOfBytes fault
unfolding start_of
begun_of_bytes file {fault} is =
    start_of_bytes file (front_end_of file) (item_at file (front_end_of file)) fault is

-- a survey that is refused is refused with the fault that was found
pub fault_is : (o : Option SurveyFault) (fields : SurveyFields) {fault : SurveyFault}
    → fault_or_survey o fields ≡ Err fault → o ≡ Some fault
fault_is (Some f) fields e = cc
fault_is None fields e = absurd cc

survey_cases : (file : List ℕ) (allowed : ℕ) (r : Result Start SurveyFault) {fault : SurveyFault}
    → start_of file ≡ r → survey_from_start file allowed r ≡ Err fault → IsOfBytes fault
survey_cases file allowed (Err f) {fault} is e = let same : f ≡ fault = cc in
    subst IsOfBytes same (begun_of_bytes file is)
survey_cases file allowed (Ok start) {fault} is e =
    first_of_bytes (faults_from file allowed start) (file_of_bytes file allowed start)
    (fault_is (first_of (faults_from file allowed start)) (fields_from file start) e)

-- a fault with which a survey of bytes refuses them is a fault of bytes
pub survey_fields-of_bytes : (file : List ℕ) (allowed : ℕ) {fault : SurveyFault}
    → survey_fields file allowed ≡ Err fault → IsOfBytes fault
unfolding survey_fields
survey_fields-of_bytes file allowed {fault} e = survey_cases file allowed (start_of file) refl e
