-- The chains of a laid file, where its stream starts, and its head.
use Rattle.std.proofs.Common.{ap, append-nil, arith, drop, length, length-append, List, None, Ok}
use Rattle.std.proofs.Common.{Option, option_map, refl, Some, sym, take, ℕ, [], ◌++◌, ◌+◌, ◌<◌, ◌∙◌}
use Rattle.std.proofs.{Common.{◌∷◌, ◌≡◌, ◌≤◌}, lemmas.List.{drop-drop, drop_all, drop_at, take_at}}
use Rattle.std.specs.List.{concat}
use Rattle.frame_header.specs.{Fields.{ClassFields, HeaderFields}, Tables.{class_of, overhead_of}}
use Rattle.frame_writer.specs.Frames.{all_frame_data, areas_length, bytes_of_frames}
use Rattle.frame_writer.specs.{Frames.{fields_of_frames, Frame}, Laid.laid_data}
use Rattle.info_header.specs.{InfoFrame.{info_frame, info_header_of}, declared.fields.Info.Info}
use Rattle.laying.proofs.BlockItemLemmas.{block_items, blocks-items, blocks-placed}
use Rattle.laying.proofs.InfoByteLemmas.{info_header, info_item, info_text, length-info_area}
use Rattle.laying.proofs.{InfoByteLemmas.length-info_frame, LaidDataLemmas.length-laid}
use Rattle.laying.proofs.LaidFrameLemmas.{areas-all, blocks-behind, frame_items, framed_bytes-items}
use Rattle.laying.proofs.LaidFrameLemmas.{framed_bytes-stand, frames-placed, frames_at, StandFrom}
use Rattle.laying.specs.LaidFiles.{blocks_from, frames_offset, head_at, IsLaidFile, laid_file}
use Rattle.sync_survey.proofs.ChainLemmas.{whole_item_at-past}
use Rattle.sync_survey.proofs.ItemListLemmas.{AreItems, item_at-known, items-append}
use Rattle.sync_survey.proofs.ItemListLemmas.{items-item_chain, placed}
use Rattle.sync_survey.proofs.{OneItemLemmas.stands-only_at, SameHeadLemmas.area-frame}
use Rattle.sync_survey.proofs.{StartLemmas.start_is, SurveyLemmas.overhead-within}
use Rattle.sync_survey.proofs.SurveyPartsLemmas.{frames_from}
use Rattle.sync_survey.specs.Chains.{item_chain, item_if_whole, ItemChain, whole_item_at}
use Rattle.sync_survey.specs.{Items.{item_at, size_of}, MainData.{head_area, head_bytes}}
use Rattle.sync_survey.specs.Start.{front_end_of, start_of}
use Rattle.sync_survey.specs.Walk.{all_blocks, end_fault, fault_at, frame_bytes, head_of}
use Rattle.sync_survey.specs.{Walk.stream_chain, declared.chains.Region.TheVariants.{Front, Stream}}
use Rattle.sync_survey.specs.declared.items.Item.{Item, TheVariants.{End, Frame as FrameItem}}
use Rattle.sync_survey.specs.declared.places.{Head.Head, PlacedFrame.PlacedFrame, Start.Start}

-- the front of a file ends where its chain stops
pub front_end-is : (file : List ℕ) → (item_chain Front file 0).stop ≡ front_end_of file
unfolding front_end_of
front_end-is file = refl

-- a whole frame after the blocks of the front is the first of the stream
pub start_by : (file : List ℕ) {at : ℕ} {h : HeaderFields} → at ≡ front_end_of file
    → item_at file at ≡ FrameItem h → at + size_of (FrameItem h) ≤ length file
    → start_of file ≡ Ok (record { front_end = at; first = record { offset = at; header = h } })
start_by file {at} {h} front is within = grind (arith, start_is file at (FrameItem h) front is)

-- no frame is an item of the front
pub not_in_front : (file : List ℕ) (at : ℕ) {h : HeaderFields} → item_at file at ≡ FrameItem h
    → whole_item_at Front file at ≡ None
unfolding whole_item_at
not_in_front file at is = ap (item_if_whole Front file at) is

abbrev head_with : PlacedFrame → ℕ → Head
head_with p at = record { offset = p.offset; header = p.header; text_at = at }

head_by : (p : PlacedFrame) {at : ℕ} {o : Option ℕ} → o ≡ Some at
    → option_map (λ n. head_with p n) o ≡ Some (head_with p at)
head_by p is = ap (option_map (λ n. head_with p n)) is

-- with at least one frame there is no fault at the end of the file
pub some_frames : (file : List ℕ) (at : ℕ) (fs : List Frame) → 0 < length fs
    → end_fault file (frames_at at fs) None ≡ None
some_frames file at [] some = absurd (omega (arith, some))
some_frames file at (f ∷ fs) some = refl

module _ {c : ClassFields} {front : List (List ℕ)} {first : HeaderFields} {info : Info}
    {frames : List Frame} {back : List (List ℕ)}
    (is : IsLaidFile c front first info frames back) where
  abbrev pub file : List ℕ
  file = laid_file front first info frames back

  abbrev pub h : HeaderFields
  h = info_header_of first

  abbrev pub from : ℕ
  from = length (concat front)

  abbrev pub head_size : ℕ
  head_size = size_of (FrameItem h)

  abbrev own : List ℕ
  own = info_frame first info

  abbrev area_data : List ℕ
  area_data = laid_data (all_frame_data frames)

  abbrev after : List ℕ
  after = bytes_of_frames frames ++ concat back

  abbrev later_items : List Item
  later_items = frame_items frames ++ block_items back is.blocks_behind

  abbrev pub start : Start
  start = record { front_end = from; first = record { offset = from; header = h } }

  -- ---- the bytes

  long_own : length own ≡ head_size
  long_own = length-info_frame is.header is.sizes

  -- the areas have as many bytes as were laid
  pub many : areas_length (fields_of_frames frames) ≡ length area_data
  many = grind (arith, length-laid, areas-all)

  file-is : file ≡ concat front ++ (own ++ after)
  unfolding laid_file
  file-is = refl

  stands : drop from file ≡ own ++ after
  stands = ap (drop from) file-is ∙ drop_at (concat front) (own ++ after) from refl

  -- the frames begin after the Info frame
  pub place-is : frames_offset front first info ≡ from + head_size
  place-is = omega (arith, long_own)

  frames_stand : drop (from + head_size) file ≡ after
  frames_stand = sym (drop-drop head_size from file) ∙ ap (drop head_size) stands
      ∙ drop_at own after head_size long_own

  long_file : length file ≡ from + (head_size + length after)
  long_file = grind (arith, file-is, length-append, long_own)

  -- each frame is there
  pub frames-stand : StandFrom file (frames_offset front first info) frames area_data
  frames-stand = grind (arith, framed_bytes-stand, many, place-is, frames_stand)

  -- ---- the chains

  first_item : item_at file from ≡ FrameItem h
  first_item = item_at-known file from from (own ++ after) (FrameItem h) refl stands
      ((info_item is.header is.sizes).known after)

  front_chain : item_chain Front file 0
      ≡ record { items = placed 0 (block_items front is.blocks_before); stop = from }
  front_chain =
      grind (arith, items-item_chain, blocks-items, file-is, not_in_front, first_item, placed)

  -- the stream starts with the Info frame
  pub start-is : start_of file ≡ Ok start
  start-is = start_by file (sym (ap (λ (r : ItemChain). r.stop) front_chain) ∙ front_end-is file)
      first_item (omega (arith, long_file))

  later_are : AreItems Stream later_items after
  later_are = grind (arith, items-append, framed_bytes-items, many, blocks-items)

  -- where the stream ends
  pub stop : ℕ
  stop = from + length (own ++ after)

  stop-past : length file ≤ stop
  unfolding stop
  stop-past = omega (arith, long_file, long_own, length-append own after)

  stream : stream_chain file start
      ≡ record { items = placed from (FrameItem h ∷ later_items); stop = stop }
  unfolding stop
  stream =
      items-item_chain Stream file (FrameItem h ∷ later_items) (own ++ after) []
      (own, after, refl, info_item is.header is.sizes, refl, later_are)
      (omega (arith, long_file))
      (stands ∙ sym (append-nil (own ++ after)))
      (whole_item_at-past Stream file (from + length (own ++ after)) stop-past)

  -- ---- the head

  own_bytes : frame_bytes file start.first ≡ own
  own_bytes = ap (take head_size) stands ∙ take_at own after head_size long_own

  -- the Info frame is the head
  pub head-is : head_of file start.first ≡ Some (head_at from first)
  unfolding head_of
  head-is = grind (arith, head_by, own_bytes, info_text)

  -- its area has as many bytes as the head's
  pub head_area-is : length (head_bytes file (Some (head_at from first)))
      ≡ head_area (Some (head_at from first))
  head_area-is =
      ap length
      (area-frame file start.first (overhead-within (info_header is.header is.sizes))
      ∙ ap (drop (overhead_of (class_of h) h.protected)) own_bytes)
      ∙ length-info_area is.header is.sizes

  -- ---- frames and blocks

  -- the frames are those that were given
  pub frames-are : frames_from file start ≡ frames_at (frames_offset front first info) frames
  frames-are = grind (arith, head-is, stream, frames-placed, frames_at, place-is)

  -- the blocks are those before the frames and those after them
  pub blocks-are : all_blocks file start ≡ blocks_from 0 front
      ++ blocks_from (frames_offset front first info + length (bytes_of_frames frames)) back
  blocks-are = grind (arith, front_chain, blocks-placed, stream, blocks-behind, many, place-is)

  -- ---- the end

  ended : fault_at stop (item_at file stop) ≡ None
  ended = ap (fault_at stop) (sym (stands-only_at file stop End (drop_all stop file stop-past)))

  ended_at : {r : ItemChain}
      → r ≡ record { items = placed from (FrameItem h ∷ later_items); stop = stop }
      → fault_at r.stop (item_at file r.stop) ≡ None
  ended_at same = ap (λ (q : ItemChain). fault_at q.stop (item_at file q.stop)) same ∙ ended

  -- nothing is at fault at the end
  pub no-end_fault : end_fault file (frames_from file start)
      (fault_at (stream_chain file start).stop (item_at file (stream_chain file start).stop)) ≡ None
  no-end_fault = grind (arith, frames-are, ended_at, stream, some_frames)
