-- Frames of inputs by place: what they sound like, and their main data.
use Rattle.std.proofs.Common.{ap, ap₂, arith, bytes_eq, false, get_or, length, List, map, Option}
use Rattle.std.proofs.Common.{option_and_then, refl, slice_get, slice_range, Some, subst, suc, sym}
use Rattle.std.proofs.Common.{take, true, zero, zip, ℕ, [], ◌&&◌, ◌+◌, ◌-◌, ◌<◌, ◌∙◌, ◌∷◌, ◌≡◌}
use Rattle.std.{proofs.lemmas.List.length-map, specs.List.enumerate_from}
use Rattle.std.specs.Prelude.{All, slice_index_or, unwrap_or}
use Rattle.frame_header.specs.{Fields.ClassFields, HeaderBits.header_bits, Tables.class_of}
use Rattle.frame_writer.specs.Frames.{Frame}
use Rattle.joined_inputs.specs.{Inputs.InputFields, Parts.whole_part}
use Rattle.laying.proofs.{RelayLemmas.found-at, SurveyFrameLemmas.{own-entry, own-stream}}
use Rattle.laying.specs.{Areas.IsHeld, LaidFiles.{IsStreamEntry, stream_entry}, Relaid.survey_frame}
use Rattle.laying.specs.Surveys.{AreWholeRows, CanBeRelaid, IsWholeRow}
use Rattle.outside.proofs.FilesLemmas.{there_holds}
use Rattle.outside.specs.Files.{Contents, Files, IfTold, Told, Untold}
use Rattle.seam_plan.specs.{Frames.SpliceFrame, declared.splice.FramePlace.FramePlace}
use Rattle.seamless_edits.{proofs.SoundLemmas.sounds-tested, specs.Reading.{AreHeld, IsMainDataOf}}
use Rattle.seamless_edits.specs.Seamless.{sound_of, splice_frame, splice_frames}
use Rattle.seamless_edits.specs.Sounds.{all_splice_frames, AreOfClass, compared_side, frame_row}
use Rattle.seamless_edits.specs.Sounds.{input_payload, IsFramePlace, payload_at_place, row_at}
use Rattle.seamless_edits.specs.Sounds.{row_payload, same_front, same_sounds, sound_at, whole_in}
use Rattle.seamless_edits.specs.Sounds.{without_slot}
use Rattle.side_info.specs.Side.{side_bits}
use Rattle.sync_survey.specs.Faults.{stream_of_survey, SurveyFields}
use Rattle.sync_survey.specs.MainData.{main_bytes, row_side, stream_frame, stream_frames}
use Rattle.sync_survey.specs.{MainData.StreamFrame, Row.Row}

-- ---- lists by place

-- a mapped list has the item's image at the same place
pub map-get : {X Y : Type 0} (f : X → Y) (xs : List X) (i : ℕ) {x : X} → slice_get xs i ≡ Some x
    → slice_get (map f xs) i ≡ Some (f x)
map-get f [] i is = absurd cc
map-get f (y ∷ xs) zero {x} is = let same : y ≡ x = cc in ap (λ z. Some (f z)) same
map-get f (y ∷ xs) (suc i) {x} is = map-get f xs i is

-- zipped lists have both items at the same place
pub zip-get : {X Y : Type 0} (xs : List X) (ys : List Y) (i : ℕ) {x : X} {y : Y}
    → slice_get xs i ≡ Some x → slice_get ys i ≡ Some y → slice_get (zip xs ys) i ≡ Some (x, y)
zip-get [] ys i first second = absurd cc
zip-get (v ∷ xs) [] i first second = absurd cc
zip-get (v ∷ xs) (w ∷ ys) zero first second = grind arith
zip-get (v ∷ xs) (w ∷ ys) (suc i) {x} {y} first second = zip-get xs ys i first second

take-get : {X : Type 0} (n : ℕ) (xs : List X) (i : ℕ) {x : X} → i < n → slice_get xs i ≡ Some x
    → slice_get (take n xs) i ≡ Some x
take-get zero xs i within is = absurd (omega (arith, within))
take-get (suc n) [] i within is = absurd cc
take-get (suc n) (y ∷ xs) zero within is = is
take-get (suc n) (y ∷ xs) (suc i) {x} within is = take-get n xs i (omega (arith, within)) is

-- the items of a list up to a place
front-get : {X : Type 0} {n : ℕ} (xs : List X) {i : ℕ} {x : X} → i < n → slice_get xs i ≡ Some x
    → slice_get (slice_range xs 0 n) i ≡ Some x
front-get {n = n} xs {i} {x} within is = take-get (n - 0) xs i (omega (arith, within)) is

-- the place of an item is less than the length of the list
pub get-within : {X : Type 0} (xs : List X) (i : ℕ) {x : X} → slice_get xs i ≡ Some x
    → i < length xs
get-within [] i is = absurd cc
get-within (y ∷ xs) zero is = omega arith
get-within (y ∷ xs) (suc i) {x} is = omega (arith, get-within xs i is)

-- there is an item at each place less than the length
pub get-some : {X : Type 0} (xs : List X) (i : ℕ) → i < length xs
    → (x : X) × (slice_get xs i ≡ Some x)
get-some [] i within = absurd (omega (arith, within))
get-some (y ∷ xs) zero within = (y, refl)
get-some (y ∷ xs) (suc i) within = get-some xs i (omega (arith, within))

-- there is one item at a place
pub get-one : {X : Type 0} (xs : List X) (i : ℕ) {x y : X} → slice_get xs i ≡ Some x
    → slice_get xs i ≡ Some y → x ≡ y
get-one xs i first second = grind arith

-- the item at a place, or a given one if there is none
pub get-index : {X : Type 0} (xs : List X) (i : ℕ) {x : X} (other : X) → slice_get xs i ≡ Some x
    → x ≡ slice_index_or xs i other
get-index [] i other is = absurd cc
get-index (y ∷ xs) zero other is = cc
get-index (y ∷ xs) (suc i) {x} other is = get-index xs i other is

all-get : {X : Type 0} (P : X → Type 0) (xs : List X) (i : ℕ) {x : X} → All P xs
    → slice_get xs i ≡ Some x → P x
all-get P xs i {x} are is = subst P (sym (get-index xs i x is)) (are i x (get-within xs i is))

enumerated-get : {X : Type 0} (f : ℕ → Row → X) (n : ℕ) (rows : List Row) (i : ℕ) {r : Row}
    → slice_get rows i ≡ Some r
    → slice_get (map (λ (p : ℕ × Row). f p.0 p.1) (enumerate_from n rows)) i ≡ Some (f (n + i) r)
enumerated-get f n [] i is = absurd cc
enumerated-get f n (q ∷ rows) zero is = grind arith
enumerated-get f n (q ∷ rows) (suc i) {r} is = grind (arith, enumerated-get f (n + 1) rows i is)

-- ---- a frame of an input

whole-at : {file : List ℕ} (rows : List Row) (i : ℕ) {r : Row} → AreWholeRows file rows
    → slice_get rows i ≡ Some r → IsWholeRow file r
whole-at [] i are is = absurd cc
whole-at {file} (q ∷ rows) zero {r} are is = let same : q ≡ r = cc in
    subst (IsWholeRow file) same are.0
whole-at {file} (q ∷ rows) (suc i) {r} are is = whole-at rows i are.1 is

module _ (file : List ℕ) (s : SurveyFields) (i : ℕ) {r : Row}
    (found : slice_get s.frames i ≡ Some r) where
  abbrev in_stream : StreamFrame
  in_stream = stream_frame (main_bytes file s.head s.frames) s.head s.frames i r

  stream-get : slice_get (stream_of_survey file s) i ≡ Some in_stream
  unfolding stream_of_survey stream_frames
  stream-get =
      let at : 0 + i ≡ i = omega arith in
      let frame = stream_frame (main_bytes file s.head s.frames) s.head s.frames in
      enumerated-get frame 0 s.frames i found ∙ ap (λ n. Some (frame n r)) at

  splice-get : slice_get (splice_frames (whole_part file s)) i
      ≡ Some (splice_frame s.class (r, in_stream))
  splice-get =
      let within = get-within s.frames i found in
      let rows = front-get s.frames within found in
      let stream = front-get (stream_of_survey file s) within
      stream-get in
      map-get (splice_frame s.class) (zip (slice_range s.frames 0 (length s.frames))
      (slice_range (stream_of_survey file s) 0 (length s.frames))) i
      (zip-get (slice_range s.frames 0 (length s.frames))
      (slice_range (stream_of_survey file s) 0 (length s.frames)) i rows stream)

  module _ (has : CanBeRelaid file s) where
    -- the frame of this row is a frame of the class, with its main data
    pub entry-here : IsStreamEntry s.class (survey_frame file s i r)
    entry-here = grind (arith, own-entry, found, whole-at)

    entry-in : stream_entry (survey_frame file s i r) ≡ in_stream
    entry-in = own-stream file has.head has.rows has.placed i found
        (whole-at s.frames i has.rows found)

    sound-in : (option_and_then (λ (frames : List SpliceFrame). slice_get frames i)
        (Some (splice_frames (whole_part file s))))
        ≡ Some (splice_frame s.class (r, stream_entry (survey_frame file s i r)))
    sound-in =
        splice-get ∙ ap (λ (f : StreamFrame). Some (splice_frame s.class (r, f))) (sym entry-in)

-- ---- a frame of inputs

-- the input at a place can be read by its survey
pub known-at : {files : Files} (inputs : List InputFields) (n : ℕ) {i : InputFields}
    → AreHeld files inputs → slice_get inputs n ≡ Some i → IsHeld files i.name i.survey
known-at [] n known is = absurd cc
known-at {files} (j ∷ inputs) zero {i} known is =
    let same : j ≡ i = cc in subst (λ (k : InputFields). IsHeld files k.name k.survey) same known.0
known-at {files} (j ∷ inputs) (suc n) {i} known is = known-at inputs n known.1 is

-- the input at a frame's place is one of the inputs
pub input-within : {inputs : List InputFields} {place : FramePlace} → IsFramePlace inputs place
    → place.input < length inputs
input-within at = grind (arith, get-within)

-- the frame at a place is one of the input's frames
pub frame-within : {inputs : List InputFields} {place : FramePlace} {i : InputFields}
    → IsFramePlace inputs place → slice_get inputs place.input ≡ Some i
    → place.frame < length i.survey.frames
frame-within at given = grind (arith, get-one)

-- the main data of a frame are the main data at its place
pub payload-told : (files : Files) {inputs : List InputFields} {place : FramePlace}
    {i : InputFields} {bytes : List ℕ} → AreHeld files inputs → IsFramePlace inputs place
    → slice_get inputs place.input ≡ Some i
    → IsMainDataOf i.name files i.survey place.frame bytes
    → IfTold files (λ f. bytes ≡ payload_at_place f inputs place)
payload-told (Untold touched) known at given is = tt
payload-told (Told f) {inputs} {place} {i} known at given is =
    let k = place.frame in
    let s = i.survey in
    let told = there_holds f (known-at inputs place.input known given).there in
    let row = get-some s.frames k (frame-within at given) in
    let file : told.0 ≡ unwrap_or (f i.name) [] = grind arith in
    is told.0 told.1 row.0 row.1
    ∙ ap (row_payload told.0 k s) (sym row.1)
    ∙ ap (λ (b : List ℕ). row_payload b k s (slice_get s.frames k)) file
    ∙ sym (ap (input_payload f k) given)

-- what is at a place, where the contents of the files are known
pub record IsFrameAt (f : Contents) (inputs : List InputFields) (place : FramePlace)
    (class : ClassFields) : Type 0 where
  pub frame : Frame
  pub row : Row
  pub found : row_at inputs place ≡ Some row
  pub header : frame.kept.header ≡ row.header
  pub side : frame.kept.side ≡ row_side row
  pub entry : IsStreamEntry class frame
  pub sound : sound_at (all_splice_frames f inputs) place ≡ sound_of class (stream_entry frame)
  pub payload : payload_at_place f inputs place ≡ frame.payload

-- there is such a frame at each place of inputs of one class that can be read
pub frame-at : {f : Contents} {inputs : List InputFields} {place : FramePlace}
    {class : ClassFields} → AreHeld (Told f) inputs → AreOfClass class inputs
    → IsFramePlace inputs place → IsFrameAt f inputs place class
frame-at {f} {inputs} {place} {class} known one at =
    let s = at.item.survey in
    let i = place.frame in
    let held = known-at inputs place.input known at.input in
    let told = there_holds f held.there in
    let file = told.0 in
    let is : unwrap_or (f at.item.name) [] ≡ file =
    ap (λ (o : Option (List ℕ)). unwrap_or o []) told.1 in
    let row = get-some s.frames i at.frame in
    let r = row.0 in
    let has = held.exact file told.1 in
    let same : s.class ≡ class = all-get (λ (t : InputFields). t.survey.class ≡ class) inputs
    place.input one at.input in
    let lists = map-get (λ (t : InputFields). splice_frames (whole_in f t)) inputs place.input
    at.input in
    record {
      frame = survey_frame file s i r;
      row = r;
      found = ap (frame_row i) at.input ∙ row.1;
      header = refl;
      side = refl;
      entry = grind (arith, entry-here);
      sound = grind (arith, option_and_then, lists, sound-in);
      payload = grind arith;
    }

-- ---- two frames of inputs

module _ {f : Contents} {inputs : List InputFields} {p q : FramePlace}
    {class : ClassFields} (one : IsFrameAt f inputs p class)
    (other : IsFrameAt f inputs q class) where
  fronts-are : same_front class one.row other.row
      ≡ bytes_eq (header_bits (without_slot one.frame.kept.header))
      (header_bits (without_slot other.frame.kept.header))
      && bytes_eq (side_bits class (compared_side one.frame.kept.side))
      (side_bits class (compared_side other.frame.kept.side))
  fronts-are = grind (arith, bytes_eq)

  places-tested : same_front class one.row other.row && bytes_eq one.frame.payload
      other.frame.payload ≡ same_sounds (all_splice_frames f inputs) p q
  places-tested = grind (arith, bytes_eq, fronts-are, sounds-tested)

  -- if header or side information differ, the frames don't sound the same
  pub fronts-differ : same_front class one.row other.row ≡ false
      → false ≡ same_sounds (all_splice_frames f inputs) p q
  fronts-differ differ = grind (arith, bytes_eq, places-tested)

  -- if both are the same, the frames sound the same exactly if their main data do
  pub payloads-tested : same_front class one.row other.row ≡ true
      → bytes_eq (payload_at_place f inputs p)
      (payload_at_place f inputs q) ≡ same_sounds (all_splice_frames f inputs) p q
  payloads-tested same = grind (arith, bytes_eq, places-tested)

-- ---- what depends on the folder's contents

module _ {inputs : List InputFields} {p q : FramePlace} {class : ClassFields}
    {r t : Row}
    (one : AreOfClass class inputs) (first : IsFramePlace inputs p) (second : IsFramePlace inputs q)
    (here : row_at inputs p ≡ Some r)
    (there : row_at inputs q ≡ Some t) where
  rows-here : {f : Contents} (a : IsFrameAt f inputs p class) (b : IsFrameAt f inputs q class)
      → same_front class a.row b.row ≡ same_front class r t
  rows-here a b = grind arith

  -- if header or side information differ, the frames don't sound alike
  pub places-differ : (files : Files) → AreHeld files inputs → same_front class r t ≡ false
      → IfTold files (λ f. false ≡ same_sounds (all_splice_frames f inputs) p q)
  places-differ (Untold touched) known differ = tt
  places-differ (Told f) known differ =
      let a = frame-at known one first in
      let b = frame-at known one second in
      fronts-differ a b (rows-here a b ∙ differ)

  -- if both are the same, the frames sound alike exactly if their main data are the same
  pub places-compared : (files : Files) → AreHeld files inputs → same_front class r t ≡ true
      → (xs ys : List ℕ)
      → IfTold files (λ f. xs ≡ payload_at_place f inputs p)
      → IfTold files (λ f. ys ≡ payload_at_place f inputs q)
      → IfTold files (λ f. bytes_eq xs ys ≡ same_sounds (all_splice_frames f inputs) p q)
  places-compared (Untold touched) known same xs ys left right = tt
  places-compared (Told f) known same xs ys left right =
      let a = frame-at known one first in
      let b = frame-at known one second in
      ap₂ bytes_eq left right ∙ payloads-tested a b (rows-here a b ∙ same)

-- a frame of inputs of one class is of this class
pub class-here : (files : Files) {inputs : List InputFields} {place : FramePlace}
    {class : ClassFields} {r : Row} → AreHeld files inputs
    → AreOfClass class inputs → IsFramePlace inputs place → row_at inputs place ≡ Some r
    → class_of r.header ≡ class
class-here files {inputs} {place} {class} {r} known one at found =
    let s = at.item.survey in
    let held = known-at inputs place.input known at.input in
    let here : slice_get s.frames place.frame ≡ Some r = grind (arith, found) in
    (held.laid.placed place.frame r here).class_is ∙ all-get
    (λ (x : InputFields). x.survey.class ≡ class) inputs place.input one at.input

-- the input at a place has the class of all, where the inputs are made from other items
pub class-first : {X : Type 0} (f : X → InputFields) (xs : List X) {place : FramePlace}
    {class : ClassFields} {x : X} → AreOfClass class (map f xs)
    → IsFramePlace (map f xs) place → x ≡ get_or xs place.input x → (f x).survey.class ≡ class
class-first f xs {place} {class} {x} one at is =
    let within : place.input < length xs =
    omega (arith, get-within (map f xs) place.input at.input, length-map xs f) in
    all-get (λ (i : InputFields). i.survey.class ≡ class) (map f xs) place.input one
    (map-get f xs place.input (found-at xs within is))
