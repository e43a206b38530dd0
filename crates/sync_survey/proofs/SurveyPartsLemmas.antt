-- What a survey without fault says of a file: where its stream starts, and that nothing is at fault
-- from there on.
use Rattle.std.proofs.Common.{ap, ap₂, arith, Bool, cond, drop, false, flat_map, length, List, None}
use Rattle.std.proofs.Common.{not, Ok, Option, option_to_list, refl, slice_get, Some, suc, sym}
use Rattle.std.proofs.Common.{zero, zero-add, ℕ, [], ◌++◌, ◌+◌, ◌<◌, ◌==◌, ◌∙◌, ◌∷◌, ◌≡◌, ◌≤◌}
use Rattle.std.proofs.lemmas.{Bool.ne_eqb, List.{length-map, FromFn.length-enumerate_from}}
use Rattle.std.{proofs.lemmas.Option.slice_get_within, specs.List.enumerate_from}
use Rattle.frame_header.specs.{Fields.ClassFields, Tables.class_of}
use Rattle.side_info.specs.Frame.{stored_crc}
use Rattle.sync_survey.proofs.{ChainLemmas.item_chain-ends, FaultsLemmas.none-of}
use Rattle.sync_survey.proofs.{ItemListLemmas.{ends-within, frames-few}, StartLemmas.start-first}
use Rattle.sync_survey.proofs.SurveyLemmas.{survey-whole, survey_fields-is, told_by}
use Rattle.sync_survey.specs.Chains.{frames_of}
use Rattle.sync_survey.specs.Faults.{all_faults, class_from, data_faults, fault_if_true, faults_at}
use Rattle.sync_survey.specs.Faults.{faults_from, fields_from, frame_faults, has_wrong_crc}
use Rattle.sync_survey.specs.Faults.{HoldsStream, overlaps, overruns, own_faults, points_too_far}
use Rattle.sync_survey.specs.Faults.{stream_of, stream_of_survey, survey_fields, SurveyFields}
use Rattle.sync_survey.specs.Items.{item_at, same_class}
use Rattle.sync_survey.specs.MainData.{data_end_before, lacks_data, place, row_of, rows_of}
use Rattle.sync_survey.specs.{MainData.stream_frames, Row.Row, Start.start_of}
use Rattle.sync_survey.specs.Walk.{all_blocks, end_fault, fault_at, head_of, numbered_frames}
use Rattle.sync_survey.specs.Walk.{stream_chain, walk_from}
use Rattle.sync_survey.specs.declared.{chains.Region.TheVariants.Stream, places.Head.Head}
use Rattle.sync_survey.specs.declared.places.{PlacedFrame.PlacedFrame, Start.Start}
use Rattle.sync_survey.specs.declared.survey_fault.SurveyFault.{SurveyFault}

-- ---- a survey, given its start

-- the frames that are numbered in a file with this start
abbrev pub frames_from : List ℕ → Start → List PlacedFrame
frames_from file start =
    numbered_frames (head_of file start.first) (frames_of (stream_chain file start).items)

-- the survey of a file with this start that has no fault
abbrev pub told_from : List ℕ → Start → SurveyFields
told_from file start = told_by file start (head_of file start.first)
    (rows_of file (frames_from file start)) (all_blocks file start)

-- the stream of the file starts so, and nothing is at fault in it
pub record IsRead (file : List ℕ) (allowed : ℕ) (start : Start) : Type 0 where
  pub start_is : start_of file ≡ Ok start
  pub frames : all_faults file (head_of file start.first) (class_from start) allowed
      (rows_of file (frames_from file start)) ≡ []
  pub end : end_fault file (frames_from file start)
      (fault_at (stream_chain file start).stop (item_at file (stream_chain file start).stop)) ≡ None

-- a file without fault has the survey that its start gives
pub survey_fields-told : {file : List ℕ} {allowed : ℕ} {start : Start} → IsRead file allowed start
    → survey_fields file allowed ≡ Ok (told_from file start)
survey_fields-told read = grind (arith, survey-whole)

empty_parts : (xs : List SurveyFault) {ys : List SurveyFault} → xs ++ ys ≡ []
    → (xs ≡ []) × (ys ≡ [])
empty_parts [] e = (refl, e)
empty_parts (x ∷ xs) e = absurd cc

no_last : {o : Option SurveyFault} → option_to_list o ≡ [] → o ≡ None
no_last e = grind arith

fields_from-told : (file : List ℕ) (start : Start) → fields_from file start ≡ told_from file start
unfolding fields_from walk_from
fields_from-told file start = refl

is_read : {file : List ℕ} {allowed : ℕ} {start : Start} → start_of file ≡ Ok start
    → faults_from file allowed start ≡ [] → IsRead file allowed start
unfolding faults_from walk_from
is_read is none = grind (arith, empty_parts, no_last)

-- a survey without fault has a start and is the survey that this gives
pub survey_fields-parts : {file : List ℕ} {allowed : ℕ} {s : SurveyFields}
    → survey_fields file allowed ≡ Ok s
    → (start : Start) × IsRead file allowed start × (told_from file start ≡ s)
survey_fields-parts {file} {allowed} {s} e =
    let is = survey_fields-is e in (
      is.start,
      is_read is.begins (none-of is.none),
      sym (fields_from-told file is.start) ∙ is.fields_are,
    )

-- ---- a frame without fault

nothing_false : {b : Bool} (fault : SurveyFault) → b ≡ false → fault_if_true b fault ≡ []
nothing_false fault e = ap (λ x. fault_if_true x fault) e

empty_both : {xs ys : List SurveyFault} → xs ≡ [] → ys ≡ [] → xs ++ ys ≡ []
empty_both e f = ap₂ (λ (us vs : List SurveyFault). us ++ vs) e f

-- main data are where they may be
pub record StandWell (place ended : ℕ) (r : Row) : Type 0 where
  pub begins : points_too_far place r ≡ false
  pub apart : overlaps place ended r ≡ false
  pub within : overruns place r ≡ false

-- the frame is of the class, its check word is right, its main data are where they may be or it is
-- lost, and it isn't one too many
pub record IsSound (said : ℕ) (class : ClassFields) (allowed place ended count : ℕ)
    (r : Row) : Type 0 where
  pub same : not (same_class (class_of r.header) class) ≡ false
  pub word : has_wrong_crc said r ≡ false
  pub main : lacks_data place ended r ≡ false → StandWell place ended r
  pub few : (count == allowed) ≡ false

own-none_well : {place ended : ℕ} {r : Row} → own_faults place ended r ≡ []
    → StandWell place ended r
own-none_well none = grind arith

well-no_own : {place ended : ℕ} {r : Row} → StandWell place ended r → own_faults place ended r ≡ []
well-no_own well = grind (arith, empty_both, nothing_false)

unless-none : {b : Bool} {xs : List SurveyFault} → cond b [] xs ≡ [] → b ≡ false → xs ≡ []
unless-none none is = grind arith

none-unless : {b : Bool} {xs : List SurveyFault} → (b ≡ false → xs ≡ []) → cond b [] xs ≡ []
none-unless none = grind arith

module _ (said : ℕ) (class : ClassFields) (allowed place ended count : ℕ) (r : Row) where
  -- a frame without fault is sound
  pub faults-none_sound : faults_at said class allowed place ended count r ≡ []
      → IsSound said class allowed place ended count r
  unfolding faults_at
  faults-none_sound none = grind arith

  -- a sound frame has no fault
  pub sound-no_faults : IsSound said class allowed place ended count r
      → faults_at said class allowed place ended count r ≡ []
  unfolding faults_at
  sound-no_faults sound = grind (arith, empty_both, nothing_false, none-unless, well-no_own)

  -- the main data of a sound frame have no fault
  pub sound-no_data : IsSound said class allowed place ended count r
      → data_faults place ended r ≡ []
  sound-no_data sound = grind (arith, none-unless, well-no_own)

-- main data without a fault are where they may be, unless the frame is lost
pub data-none_well : {place ended : ℕ} {r : Row} → data_faults place ended r ≡ []
    → lacks_data place ended r ≡ false → StandWell place ended r
data-none_well none is = grind (arith, own-none_well, unless-none)

-- ---- all frames

-- frame i of these is without fault
abbrev pub IsSoundAt : List ℕ → Option Head → ClassFields → ℕ → List Row → ℕ → Row → Type 0
IsSoundAt file head class allowed rows i r = IsSound (stored_crc (drop r.offset file)) class allowed
    (place head rows i) (data_end_before head rows i) i r

-- each of these frames is without fault
abbrev pub AreSound : List ℕ → Option Head → ClassFields → ℕ → List Row → Type 0
AreSound file head class allowed rows =
    (i : ℕ) (r : Row) → slice_get rows i ≡ Some r → IsSoundAt file head class allowed rows i r

-- if the lists made of all of these are empty, each of them is
none_each : (each : ℕ → Row → List SurveyFault) (n : ℕ) (rows : List Row)
    → flat_map (λ (p : ℕ × Row). each p.0 p.1) (enumerate_from n rows) ≡ [] → (i : ℕ) {r : Row}
    → slice_get rows i ≡ Some r → each (n + i) r ≡ []
none_each each n [] none i is = absurd cc
none_each each n (q ∷ rows) none zero is = grind (arith, empty_parts)
none_each each n (q ∷ rows) none (suc i) {r} is = ap (λ m. each m r) (omega arith)
    ∙ none_each each (n + 1) rows (empty_parts (each n q) none).1 i is

each_none : (each : ℕ → Row → List SurveyFault) (n : ℕ) (rows : List Row)
    → ((i : ℕ) (r : Row) → slice_get rows i ≡ Some r → each (n + i) r ≡ [])
    → flat_map (λ (p : ℕ × Row). each p.0 p.1) (enumerate_from n rows) ≡ []
each_none each n [] none = refl
each_none each n (q ∷ rows) none =
    empty_both (ap (λ m. each m q) (omega arith) ∙ none zero q refl)
    (each_none each (n + 1) rows (λ i r is. ap (λ m. each m r) (omega arith) ∙ none (suc i) r is))

module _ (file : List ℕ) (head : Option Head) (class : ClassFields) (allowed : ℕ)
    (rows : List Row) where
  -- frames without any fault are all sound
  pub all_faults-none_sound : all_faults file head class allowed rows ≡ []
      → AreSound file head class allowed rows
  unfolding all_faults
  all_faults-none_sound none = λ i r is.
      faults-none_sound (stored_crc (drop r.offset file)) class allowed (place head rows i)
      (data_end_before head rows i) i r
      (ap (λ m. frame_faults file head class allowed rows m r) (sym (zero-add i))
      ∙ none_each (frame_faults file head class allowed rows) 0 rows none i is)

  -- sound frames have no fault
  pub sound-no_all_faults : AreSound file head class allowed rows
      → all_faults file head class allowed rows ≡ []
  unfolding all_faults
  sound-no_all_faults sound =
      each_none (frame_faults file head class allowed rows) 0 rows (λ i r is.
      ap (λ m. frame_faults file head class allowed rows m r) (zero-add i)
      ∙ sound-no_faults (stored_crc (drop r.offset file)) class allowed (place head rows i)
      (data_end_before head rows i) i r (sound i r is))

-- ---- however many frames are allowed

-- sound frames are sound for any allowed number that isn't below their own
pub sound_allowed : (file : List ℕ) (head : Option Head) {class : ClassFields} {allowed other : ℕ}
    (rows : List Row) → length rows ≤ other → AreSound file head class allowed rows
    → AreSound file head class other rows
sound_allowed file head {other = other} rows few sound = λ i r is.
    let here = sound i r is in
    record {
      same = here.same;
      word = here.word;
      main = here.main;
      few = ne_eqb i other (λ e. omega (arith, few, e, slice_get_within rows i r is));
    }

numbered_frames-few : (head : Option Head) (frames : List PlacedFrame)
    → length (numbered_frames head frames) ≤ length frames
numbered_frames-few head frames = grind arith

-- there are no more frames than bytes
pub numbered-few : (file : List ℕ) {start : Start} → start_of file ≡ Ok start
    → length (rows_of file (frames_from file start)) ≤ length file
numbered-few file {start} is =
    let stream = stream_chain file start in
    let first = start.first.offset in
    let frame = (start-first is).frame in
    let ends = item_chain-ends Stream file first in
    omega (
      arith,
      length-map (frames_from file start) (row_of file),
      numbered_frames-few (head_of file start.first) (frames_of stream.items),
      frames-few Stream file first stream.items ends,
      ends-within Stream file first stream.items ends (omega (arith, frame.within)),
    )

-- a file without fault has none if any number of frames greater than the number of its bytes is
-- allowed
pub survey_fields-allowed : (file : List ℕ) (allowed : ℕ) {other : ℕ} {s : SurveyFields}
    → length file < other → survey_fields file allowed ≡ Ok s → survey_fields file other ≡ Ok s
survey_fields-allowed file allowed {other} {s} many e =
    let parts = survey_fields-parts e in
    let start = parts.0 in
    let read = parts.1 in
    let rows = rows_of file (frames_from file start) in
    let sound = all_faults-none_sound file (head_of file start.first)
    (class_from start) allowed rows read.frames in
    survey_fields-told (record {
      start_is = read.start_is;
      frames = sound-no_all_faults file (head_of file start.first) (class_from start) other rows
          (sound_allowed file (head_of file start.first) rows
          (omega (arith, many, numbered-few file read.start_is)) sound);
      end = read.end;
    })
    ∙ ap Ok parts.2

-- a file without fault is well-formed, and holds the stream that its survey gives
pub survey_fields-stream : (file : List ℕ) (allowed : ℕ) (s : SurveyFields)
    → survey_fields file allowed ≡ Ok s → HoldsStream file (stream_of_survey file s)
unfolding stream_of
survey_fields-stream file allowed s e =
    grind
    (arith, survey_fields-allowed file allowed {other = length file + 1} {s = s} (omega arith) e)

-- a file whose end has no fault has a frame
pub some_frames : (file : List ℕ) (frames : List PlacedFrame) (o : Option SurveyFault)
    → end_fault file frames o ≡ None → 0 < length frames
some_frames file frames o e = grind arith

-- the stream of a survey has as many frames as the survey
pub stream-length : (file : List ℕ) (s : SurveyFields)
    → length (stream_of_survey file s) ≡ length s.frames
unfolding stream_of_survey stream_frames
stream-length file s = grind (arith, length-map, length-enumerate_from)
