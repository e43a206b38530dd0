-- A file that is nothing but frames, with all main data laid into their areas: it is well-formed, a
-- survey finds the frames that were given, and they are its stream.
use Rattle.std.proofs.Common.{ap, append-nil, append_assoc, ap₂, arith, drop, length, length-append}
use Rattle.std.proofs.Common.{List, map, None, Ok, Option, option_map, refl, slice_get, Some, subst}
use Rattle.std.proofs.Common.{sym, take, ℕ, [], ◌++◌, ◌+◌, ◌-◌, ◌∙◌, ◌∷◌, ◌≡◌, ◌≤◌}
use Rattle.std.proofs.lemmas.{List.{drop_all, length-take-le, take_at}, Option.slice_get-map}
use Rattle.frame_header.specs.{Fields.ClassFields, Tables.class_of}
use Rattle.frame_writer.specs.Frames.{all_frame_data, areas_length, bytes_of_frames}
use Rattle.frame_writer.specs.Frames.{fields_of_frames, Frame, frame_area, frame_data, framed_bytes}
use Rattle.frame_writer.specs.Laid.{areas_end, CanDataBeLaid, frame_data_start, laid_data}
use Rattle.info_header.specs.HeadText.{head_text_of}
use Rattle.laying.proofs.EntryByteLemmas.{entry_item, length-entry, shaped}
use Rattle.laying.proofs.LaidChainLemmas.{front_end-is, not_in_front, some_frames, start_by}
use Rattle.laying.proofs.LaidDataLemmas.{laid-there, length-laid}
use Rattle.laying.proofs.LaidFileLemmas.{entries_by, entry_get, HasPayload, payload_there, row_at}
use Rattle.laying.proofs.LaidFrameLemmas.{areas-all, areas-there, frame_items, framed_bytes-items}
use Rattle.laying.proofs.LaidFrameLemmas.{framed_bytes-stand, frames_at, rows-there, StandFrom}
use Rattle.laying.proofs.LaidSoundLemmas.{laid-sound, marked_rows-none, starts-there}
use Rattle.laying.specs.LaidFiles.{AreStreamEntries, frame_length, rows_from, stream_entry}
use Rattle.side_info.specs.Frame.{frame_front_bytes}
use Rattle.sync_survey.proofs.ChainLemmas.{whole_item_at-past}
use Rattle.sync_survey.proofs.ItemListLemmas.{item_at-known, items-item_chain, placed}
use Rattle.sync_survey.proofs.OneItemLemmas.{stands-only_at}
use Rattle.sync_survey.proofs.SurveyPartsLemmas.{frames_from, IsRead, sound-no_all_faults}
use Rattle.sync_survey.proofs.SurveyPartsLemmas.{survey_fields-stream, survey_fields-told}
use Rattle.sync_survey.proofs.SurveyPartsLemmas.{told_from}
use Rattle.sync_survey.specs.Chains.{blocks_of, frames_of, item_chain, ItemChain}
use Rattle.sync_survey.specs.Faults.{all_faults, HoldsStream, stream_of_survey, survey_fields}
use Rattle.sync_survey.specs.{Faults.SurveyFields, Items.{item_at, size_of}}
use Rattle.sync_survey.specs.MainData.{main_bytes, marked_rows, place, rows_of, start_of_data}
use Rattle.sync_survey.specs.{Row.Row, Start.start_of}
use Rattle.sync_survey.specs.Walk.{all_blocks, end_fault, fault_at, frame_bytes, head_of}
use Rattle.sync_survey.specs.{Walk.stream_chain, declared.chains.Region.TheVariants.{Front, Stream}}
use Rattle.sync_survey.specs.declared.items.Item.TheVariants.{End, Frame as FrameItem}
use Rattle.sync_survey.specs.declared.places.{Head.Head, Start.Start}

-- frames of the class, whose main data can be laid into their areas; the first has no text of a
-- head
pub record IsBare (c : ClassFields) (f : Frame) (more : List Frame) : Type 0 where
  pub entries : AreStreamEntries c (f ∷ more)
  pub fits : CanDataBeLaid (all_frame_data (f ∷ more))
  pub no_head : head_text_of f.kept.header (frame_front_bytes f.kept.header f.kept.side
      ++ take (frame_area f.kept) (laid_data (all_frame_data (f ∷ more)))) ≡ None

-- there is nothing but the frames
abbrev pub bare_fields : Frame → List Frame → SurveyFields
bare_fields f more = record {
  frames = rows_from 0 (f ∷ more);
  blocks = [];
  head = None;
  junk = 0;
  first = 0;
  class = class_of f.kept.header;
  length = length (bytes_of_frames (f ∷ more));
}

module _ {c : ClassFields} {f : Frame} {more : List Frame} (is : IsBare c f more) where
  abbrev frames : List Frame
  frames = f ∷ more

  abbrev file : List ℕ
  file = bytes_of_frames frames

  abbrev area_data : List ℕ
  area_data = laid_data (all_frame_data frames)

  abbrev own : List ℕ
  own = frame_front_bytes f.kept.header f.kept.side ++ take (frame_area f.kept) area_data

  abbrev rest : List ℕ
  rest = framed_bytes (fields_of_frames more) (drop (frame_area f.kept) area_data)

  abbrev begin : Start
  begin = record { front_end = 0; first = record { offset = 0; header = f.kept.header } }

  abbrev rows : List Row
  rows = rows_from 0 frames

  -- ---- the bytes

  many : areas_length (fields_of_frames frames) ≡ length area_data
  many = omega
      (arith, length-laid 0 (all_frame_data frames) (omega arith) is.fits, areas-all 0 frames)

  file-is : file ≡ own ++ rest
  file-is = grind (arith, append_assoc)

  stand : StandFrom file 0 frames area_data
  stand = framed_bytes-stand c file 0 frames area_data [] is.entries many (sym (append-nil file))

  long_area : length (take (frame_area f.kept) area_data) ≡ frame_area f.kept
  long_area = length-take-le (frame_area f.kept) area_data (omega (arith, many))

  long_own : length own ≡ size_of (FrameItem f.kept.header)
  long_own = grind (arith, length-entry, shaped, long_area)

  -- ---- the chains

  first_item : item_at file 0 ≡ FrameItem f.kept.header
  first_item =
      item_at-known file 0 0 (own ++ rest) (FrameItem f.kept.header) refl file-is
      ((entry_item (take (frame_area f.kept) area_data)
      is.entries.0.header (shaped is.entries.0.pairs) long_area).known rest)

  front_chain : item_chain Front file 0 ≡ record { items = []; stop = 0 }
  front_chain = items-item_chain Front file [] [] file refl (omega arith) refl
      (not_in_front file 0 first_item)

  start-is : start_of file ≡ Ok begin
  start-is =
      grind
      (arith, start_by, front_chain, front_end-is, first_item, file-is, length-append, long_own)

  stream : stream_chain file begin
      ≡ record { items = placed 0 (frame_items frames); stop = 0 + length file }
  stream =
      items-item_chain Stream file (frame_items frames) file []
      (framed_bytes-items c frames area_data is.entries many) (omega arith) (sym (append-nil file))
      (whole_item_at-past Stream file (0 + length file) (omega arith))

  -- ---- the head

  own_bytes : frame_bytes file begin.first ≡ own
  own_bytes = grind (arith, file-is, take_at, long_own)

  head-is : head_of file begin.first ≡ None
  unfolding head_of
  head-is = grind (arith, own_bytes, option_map)

  -- ---- frames and blocks

  placed-all : (at : ℕ) (fs : List Frame) → frames_of (placed at (frame_items fs)) ≡ frames_at at fs
  placed-all at [] = refl
  placed-all at (g ∷ gs) = grind (arith, placed-all (at + frame_length g) gs)

  no_blocks : (at : ℕ) (fs : List Frame) → blocks_of (placed at (frame_items fs)) ≡ []
  no_blocks at [] = refl
  no_blocks at (g ∷ gs) = no_blocks (at + frame_length g) gs

  frames-are : frames_from file begin ≡ frames_at 0 frames
  frames-are = grind (arith, head-is, stream, placed-all)

  blocks-are : all_blocks file begin ≡ []
  blocks-are = grind (arith, front_chain, stream, no_blocks)

  -- ---- the end

  ended_at : {r : ItemChain}
      → r ≡ record { items = placed 0 (frame_items frames); stop = 0 + length file }
      → fault_at r.stop (item_at file r.stop) ≡ None
  ended_at same =
      grind (
        arith,
        stands-only_at file (0 + length file) End (drop_all (0 + length file) file
            (omega arith)),
        drop_all (0 + length file) file (omega arith),
      )

  no-end_fault : end_fault file (frames_from file begin)
      (fault_at (stream_chain file begin).stop (item_at file (stream_chain file begin).stop)) ≡ None
  no-end_fault = grind (arith, frames-are, ended_at, stream, some_frames)

  -- ---- the survey

  rows-are : rows_of file (frames_from file begin) ≡ rows
  rows-are = ap (rows_of file) frames-are ∙ rows-there c file 0 frames area_data is.entries stand

  no_faults : {allowed : ℕ} → length frames ≤ allowed → all_faults file (head_of file begin.first)
      (class_of begin.first.header) allowed (rows_of file (frames_from file begin)) ≡ []
  no_faults {allowed} few =
      ap₂ (λ (o : Option Head) (rs : List Row). all_faults file o
      (class_of f.kept.header) allowed rs) head-is rows-are
      ∙ ap (λ d. all_faults file None d allowed rows) is.entries.0.class
      ∙ sound-no_all_faults file None c allowed rows
      (laid-sound file c None 0 frames area_data is.entries stand is.fits allowed few)

  read : {allowed : ℕ} → length frames ≤ allowed → IsRead file allowed begin
  read few = grind (arith, start-is, no_faults, no-end_fault)

  marked-are : (told_from file begin).frames ≡ rows
  marked-are = ap₂ marked_rows head-is rows-are
      ∙ marked_rows-none file c None 0 frames area_data is.entries stand is.fits

  told : told_from file begin ≡ bare_fields f more
  told = grind (arith, marked-are, blocks-are, head-is)

  -- the survey of the file finds its frames
  pub bare-survey : {allowed : ℕ} → length frames ≤ allowed
      → survey_fields file allowed ≡ Ok (bare_fields f more)
  bare-survey {allowed} few = survey_fields-told (read few) ∙ ap Ok told

  -- ---- its stream

  main-is : main_bytes file None rows ≡ [] ++ area_data
  unfolding main_bytes
  main-is = areas-there c file 0 frames is.entries stand

  payloads : (i : ℕ) {g : Frame} → slice_get frames i ≡ Some g
      → HasPayload (main_bytes file None rows) None rows i g
  payloads i {g} found = λ offset row.
      let starts = starts-there file c None 0 frames area_data is.entries stand is.fits i
      (row_at offset g) row in
      let same : starts.0 ≡ g = cc in
      let piece : slice_get (all_frame_data frames) i ≡ Some (frame_data g) =
      slice_get-map frame_data frames i ∙ ap (option_map frame_data) found in
      let laid_at = laid-there 0 0 (all_frame_data frames) i (frame_data g) is.fits piece in
      let begins = frame_data_start (areas_end 0 (take i (all_frame_data frames))) (frame_data g) in
      let none : begins ≡ begins - 0 = omega arith in
      payload_there (main_bytes file None rows) [] area_data g.payload laid_at.0
      (start_of_data (place None rows i) (row_at offset g)) begins g.kept.side main-is
      (starts.2 ∙ ap (λ h. 0
      + frame_data_start (areas_end 0 (take i (all_frame_data frames))) (frame_data h)) same)
      (ap (λ n. drop n area_data) none ∙ laid_at.1) (entry_get c frames i g is.entries found).size

  stream-is : stream_of_survey file (bare_fields f more) ≡ map stream_entry frames
  unfolding stream_of_survey
  stream-is = entries_by (main_bytes file None rows) None 0 frames payloads

  -- the file holds the stream of its frames
  pub bare-holds : HoldsStream file (map stream_entry frames)
  bare-holds = subst (HoldsStream file) stream-is (survey_fields-stream file (length frames)
      (bare_fields f more) (bare-survey (omega arith)))
