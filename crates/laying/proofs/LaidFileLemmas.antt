-- A laid file is well-formed, its survey finds what
-- was put into it, and its stream is the given frames.
use Rattle.std.proofs.Common.{ap, ap₂, arith, drop, false, length, List, map, Ok, Option}
use Rattle.std.proofs.Common.{option_map, refl, slice_get, Some, subst, suc, sym, take, zero}
use Rattle.std.proofs.Common.{zero-add, ℕ, [], ◌++◌, ◌+◌, ◌-◌, ◌∙◌, ◌∷◌, ◌≡◌, ◌≤◌}
use Rattle.std.proofs.lemmas.{List.{drop-drop, drop_at, take-append-le}, Option.slice_get-map}
use Rattle.std.specs.List.{concat, enumerate_from}
use Rattle.bit_fields.{proofs.BitsLemmas.{bits-append, drop-bits, length-bits}, specs.Bits.bits}
use Rattle.frame_header.specs.{Fields.{ClassFields, HeaderFields}, Tables.class_of}
use Rattle.frame_writer.specs.Frames.{all_frame_data, Frame, frame_data}
use Rattle.frame_writer.specs.Laid.{areas_end, frame_data_start, laid_data}
use Rattle.info_header.specs.declared.fields.Info.{Info}
use Rattle.laying.proofs.LaidChainLemmas.{blocks-are, frames-are, frames-stand, head-is}
use Rattle.laying.proofs.LaidChainLemmas.{head_area-is, no-end_fault, start, start-is}
use Rattle.laying.proofs.LaidDataLemmas.{laid-there}
use Rattle.laying.proofs.LaidFrameLemmas.{areas-there, row-get, rows-there, StandFrom}
use Rattle.laying.proofs.LaidSoundLemmas.{laid-near, laid-sound, marked_rows-none, starts-there}
use Rattle.laying.proofs.RelayLemmas.{AreOnward, onward-all, onward-first, onward-rest}
use Rattle.laying.specs.LaidFiles.{AreStreamEntries, frame_length, frames_offset, head_at}
use Rattle.laying.specs.LaidFiles.{IsLaidFile, IsStreamEntry, laid_fields, laid_file, rows_from}
use Rattle.laying.specs.LaidFiles.{stream_entry}
use Rattle.laying.specs.LaidLaws.{HasNoneLost, LaidFramesStay, LaidStream, LaidSurvey, LosesNoFrame}
use Rattle.side_info.{proofs.SideLemmas.bits_least, specs.Side.{payload_bits, payload_bytes}}
use Rattle.side_info.specs.declared.side.Side.{Side}
use Rattle.sync_survey.proofs.ApartLemmas.{near-same}
use Rattle.sync_survey.proofs.SurveyPartsLemmas.{frames_from, IsRead, sound-no_all_faults}
use Rattle.sync_survey.proofs.SurveyPartsLemmas.{survey_fields-allowed, survey_fields-stream}
use Rattle.sync_survey.proofs.SurveyPartsLemmas.{survey_fields-told, told_from}
use Rattle.sync_survey.specs.Faults.{all_faults, HoldsStream, stream_of_survey, survey_fields}
use Rattle.sync_survey.specs.Faults.{SurveyFields}
use Rattle.sync_survey.specs.MainData.{head_bytes, main_bytes, payload_at, place, rows_of}
use Rattle.sync_survey.specs.MainData.{start_of_data, stream_frame, stream_frames, StreamFrame}
use Rattle.sync_survey.specs.{Row.Row, Walk.head_of, declared.places.{Head.Head, Start.Start}}

-- ---- the main data of one frame

-- bits from the start of the main data on, if the main data are after the bytes of a head
pub payload_there : (main before area_data payload rest : List ℕ) (start at : ℕ) (s : Side)
    → main ≡ before ++ area_data → start ≡ length before + at → drop at area_data ≡ payload ++ rest
    → length payload ≡ payload_bytes s
    → payload_at main start s ≡ take (payload_bits s) (bits payload)
payload_there main before area_data payload rest start at s is place there long =
    let bytes : drop start main ≡ payload ++ rest =
    grind (arith, drop-drop, drop_at before area_data (length before) refl) in
    ap (take (payload_bits s)) (drop-bits start main ∙ ap bits bytes ∙ bits-append payload rest)
    ∙ take-append-le (payload_bits s) (bits payload) (bits rest)
    (omega (arith, bits_least s, length-bits payload, long))

-- ---- all frames

-- each of the frames can be laid
pub entry_get : (c : ClassFields) (fs : List Frame) (i : ℕ) (f : Frame) → AreStreamEntries c fs
    → slice_get fs i ≡ Some f → IsStreamEntry c f
entry_get c [] i f entries is = absurd cc
entry_get c (g ∷ fs) zero f entries is = grind arith
entry_get c (g ∷ fs) (suc i) f entries is = entry_get c fs i f entries.1 is

-- the row of a frame that begins at an offset
abbrev pub row_at : ℕ → Frame → Row
row_at at f = record { offset = at; header = f.kept.header; side = f.kept.side; lost = false }

-- the main data of frame i are the given ones
abbrev pub HasPayload : List ℕ → Option Head → List Row → ℕ → Frame → Type 0
HasPayload main head rows i f = (at : ℕ) → slice_get rows i ≡ Some (row_at at f)
    → payload_at main (start_of_data (place head rows i) (row_at at f)) f.kept.side
    ≡ take (payload_bits f.kept.side) (bits f.payload)

frames_by : (main : List ℕ) (head : Option Head) (rows : List Row) (n at : ℕ) (fs : List Frame)
    → ((i : ℕ) (f : Frame) → slice_get fs i ≡ Some f → HasPayload main head rows (n + i) f)
    → AreOnward rows n (rows_from at fs)
    → map (λ (p : ℕ × Row). stream_frame main head rows p.0 p.1)
    (enumerate_from n (rows_from at fs)) ≡ map stream_entry fs
frames_by main head rows n at [] has there = refl
frames_by main head rows n at (f ∷ fs) has there =
    let none : n + 0 ≡ n = omega arith in
    let later = rows_from (at + frame_length f) fs in
    let here = onward-first rows n later there in
    let area_data : payload_at main (start_of_data (place head rows n) (row_at at f)) f.kept.side
    ≡ take (payload_bits f.kept.side) (bits f.payload) = grind arith in
    let own : stream_frame main head rows n (row_at at f) ≡ stream_entry f =
    grind arith in
    ap₂ (λ (x : StreamFrame) (xs : List StreamFrame). x ∷ xs) own
    (frames_by main head rows (n + 1) (at + frame_length f) fs
    (λ i g is. subst (λ m. HasPayload main head rows m g) (omega arith) (has (suc i) g is))
    (onward-rest rows n later refl there))

-- frames whose main data are where their side information says are the given frames
pub entries_by : (main : List ℕ) (head : Option Head) (at : ℕ) (fs : List Frame)
    → ((i : ℕ) (f : Frame) → slice_get fs i ≡ Some f → HasPayload main head (rows_from at fs) i f)
    → stream_frames main head (rows_from at fs) ≡ map stream_entry fs
unfolding stream_frames
entries_by main head at fs has = search (arith, frames_by, zero-add, onward-all)

-- ---- the file

module _ {c : ClassFields} {front : List (List ℕ)} {first : HeaderFields} {info : Info}
    {frames : List Frame} {back : List (List ℕ)}
    (is : IsLaidFile c front first info frames back) where
  abbrev file : List ℕ
  file = laid_file front first info frames back

  abbrev begin : Start
  begin = start is

  abbrev at : ℕ
  at = frames_offset front first info

  abbrev head : Option Head
  head = Some (head_at (length (concat front)) first)

  abbrev rows : List Row
  rows = rows_from at frames

  abbrev area_data : List ℕ
  area_data = laid_data (all_frame_data frames)

  stand : StandFrom file at frames area_data
  stand = frames-stand is

  rows-are : rows_of file (frames_from file begin) ≡ rows
  rows-are = grind (arith, frames-are, rows-there, stand)

  no_faults : (allowed : ℕ) → length frames ≤ allowed → all_faults file (head_of file begin.first)
      (class_of begin.first.header) allowed (rows_of file (frames_from file begin)) ≡ []
  no_faults allowed few =
      ap₂ (λ (o : Option Head) (rs : List Row). all_faults file o (class_of first) allowed rs)
      (head-is is) rows-are
      ∙ ap (λ d. all_faults file head d allowed rows) is.class
      ∙ sound-no_all_faults file head c allowed rows
      (laid-sound file c head at frames area_data is.entries stand is.laid allowed few)

  read : {allowed : ℕ} → length frames ≤ allowed → IsRead file allowed begin
  read few = grind (arith, start-is, no_faults, no-end_fault)

  marked-are : (told_from file begin).frames ≡ rows
  marked-are = grind (arith, head-is, rows-are, marked_rows-none, stand)

  told : told_from file begin ≡ laid_fields front first info frames back
  unfolding laid_fields
  told = grind (arith, head-is, blocks-are, marked-are)

  -- its survey finds what was put into it
  pub survey-is : {allowed : ℕ} → length frames ≤ allowed
      → survey_fields file allowed ≡ Ok (laid_fields front first info frames back)
  survey-is {allowed} few = survey_fields-told (read few) ∙ ap Ok told

  -- ---- its stream

  main-is : main_bytes file head rows ≡ head_bytes file head ++ area_data
  unfolding main_bytes
  main-is = grind (arith, areas-there, stand)

  payloads : (i : ℕ) (f : Frame) → slice_get frames i ≡ Some f
      → HasPayload (main_bytes file head rows) head rows i f
  payloads i f found = λ offset row.
      let starts = starts-there file c head at frames area_data is.entries stand is.laid i
      (row_at offset f) row in
      let same : starts.0 ≡ f = cc in
      let piece : slice_get (all_frame_data frames) i ≡ Some (frame_data f) =
      slice_get-map frame_data frames i ∙ ap (option_map frame_data) found in
      let laid_at = laid-there 0 0 (all_frame_data frames) i (frame_data f) is.laid piece in
      let begins = frame_data_start (areas_end 0 (take i (all_frame_data frames))) (frame_data f) in
      let none : begins ≡ begins - 0 = omega arith in
      payload_there (main_bytes file head rows) (head_bytes file head) area_data f.payload laid_at.0
      (start_of_data (place head rows i) (row_at offset f)) begins f.kept.side main-is
      (starts.2 ∙ ap₂
      (λ n g. n + frame_data_start (areas_end 0 (take i (all_frame_data frames))) (frame_data g))
      (sym (head_area-is is)) same)
      (ap (λ n. drop n area_data) none ∙ laid_at.1) (entry_get c frames i f is.entries found).size

  stream-is : stream_of_survey file (laid_fields front first info frames back)
      ≡ map stream_entry frames
  unfolding stream_of_survey laid_fields
  stream-is = entries_by (main_bytes file head rows) head at frames payloads

  -- it holds the stream of its frames
  pub holds : HoldsStream file (map stream_entry frames)
  holds = subst (HoldsStream file) stream-is (survey_fields-stream file (length frames)
      (laid_fields front first info frames back) (survey-is (omega arith)))

  -- ---- none of its frames is lost

  none_lost : HasNoneLost (laid_fields front first info frames back)
  unfolding laid_fields
  none_lost = record {
    kept = λ i r found. (row-get c file at frames area_data i r is.entries stand found).2.kept;
    apart =
        ap (λ (rs : List Row). record (laid_fields front first info frames back) { frames = rs })
        (near-same head
        {rows = rows} (laid-near file c at frames area_data is.entries stand is.laid));
  }

  -- every survey of it is equal
  none_by : (allowed : ℕ) {s : SurveyFields} → survey_fields file allowed ≡ Ok s → HasNoneLost s
  none_by allowed {s} e =
      let one : Ok s ≡ Ok (laid_fields front first info frames back) =
      sym (survey_fields-allowed file allowed
      {other = length file + length frames + 1} {s = s} (omega arith) e)
      ∙ survey-is {allowed = length file + length frames + 1} (omega arith) in
      let same : laid_fields front first info frames back ≡ s = cc in
      subst HasNoneLost same none_lost

  -- no frame of it is lost, whether or not its head is set apart
  pub loses-none : LosesNoFrame file
  loses-none = record { well_formed = holds.well_formed; none = none_by }

-- no frame of a laid file is lost
pub laid-frames-stay : LaidFramesStay
laid-frames-stay = (λ c front first info frames back is. loses-none is)

-- a laid file holds the stream of its frames
pub laid-stream : LaidStream
laid-stream = (λ c front first info frames back is. holds is)

-- the survey of a laid file finds what was put into it
pub laid-survey : LaidSurvey
laid-survey c front first info frames back allowed is few = grind (arith, survey-is)
