-- Where the tag of a file is among its frames: before
-- all of them, or after some and before the others.
use Rattle.std.proofs.Common.{ap, append-nil, arith, Bool, cond, drop, false, inl, inr, length}
use Rattle.std.proofs.Common.{length-drop, List, None, Ok, Option, refl, Some, subst, sym, take}
use Rattle.std.proofs.Common.{true, ℕ, [], ◌++◌, ◌+◌, ◌<◌, ◌∙◌, ◌∷◌, ◌≡◌, ◌≤◌, ◌⊎◌}
use Rattle.std.proofs.lemmas.List.{length-map, length-take-le, map-append, Folds.find-append}
use Rattle.std.{proofs.lemmas.List.FromFn.length-enumerate_from, specs.List.{cons_option, find}}
use Rattle.std.specs.Option.{option_or}
use Rattle.frame_header.{proofs.HeaderLemmas.IsClass-class_of, specs.Fields.HeaderFields}
use Rattle.frame_header.specs.Tables.{class_of, length_of}
use Rattle.moved_gains.proofs.FoundTagLemmas.{found_item, last_more}
use Rattle.moved_gains.proofs.LostOffsetLemmas.{end_earlier, end_later, end_rises, EndBy, items_end}
use Rattle.moved_gains.proofs.LostOffsetLemmas.{rows_by, told_rows}
use Rattle.moved_gains.proofs.{MovedGainLemmas.IsShaped-moved, MovedRowLemmas.numbered_either}
use Rattle.moved_gains.proofs.ReadFileLemmas.{has_stream, HasStream, later_chain}
use Rattle.moved_gains.proofs.{SplitItemLemmas.split-tag, TagReadingLemmas.place-some}
use Rattle.moved_gains.{proofs.WrittenLemmas.AreSized, specs.{Edited.is_lost_at, Gains.moved_side}}
use Rattle.moved_gains.specs.Moving.{row_end}
use Rattle.moved_gains.specs.TagExtent.{is_tag, last_end, tag_block, tag_length, tag_offset}
use Rattle.requests.specs.declared.shift.Steps.{Steps}
use Rattle.side_info.proofs.FrameLemmas.{length-frame_with_side, shaped-side_in}
use Rattle.side_info.specs.Frame.{frame_with_side, side_in}
use Rattle.sync_survey.proofs.ChainLemmas.{IsItemOf, item_chain-ends, whole_item_at-is}
use Rattle.sync_survey.proofs.ItemListLemmas.{ends-stream}
use Rattle.sync_survey.proofs.ItemsLemmas.{header_front-in_range, stands-at}
use Rattle.sync_survey.proofs.SurveyLemmas.{overhead-within}
use Rattle.sync_survey.proofs.SurveyPartsLemmas.{frames_from, IsRead, survey_fields-parts}
use Rattle.sync_survey.proofs.SurveyPartsLemmas.{told_from}
use Rattle.sync_survey.specs.Chains.{AreEndToEnd, blocks_of, frame_of_item, frames_of, item_chain}
use Rattle.sync_survey.specs.{Chains.{ItemChain, PlacedItem}, Faults.{survey_fields, SurveyFields}}
use Rattle.sync_survey.specs.{Items.{item_at, size_of}, MainData.marked_rows, Row.Row}
use Rattle.sync_survey.specs.Walk.{end_fault, fault_at, head_of, numbered_frames, stream_chain}
use Rattle.sync_survey.specs.declared.chains.Region.{Region, TheVariants.{Front, Stream}}
use Rattle.sync_survey.specs.declared.items.Item.{Item, TheVariants.{Block, Frame}}
use Rattle.sync_survey.specs.declared.places.{Head.Head, Piece.Piece, PlacedFrame.PlacedFrame}
use Rattle.sync_survey.specs.declared.places.Start.{Start}

module _ (lost : ℕ → Bool) (file : List ℕ) where
  abbrev pub by : List PlacedFrame → List Row
  by frames = rows_by lost file frames

  -- ---- a moved frame keeps its length

  module _ (steps : ℕ → Steps) where
    one_sized : {part : Region} {at : ℕ} {h : HeaderFields} → IsItemOf part file at (Frame h)
        → (b : Bool) → length (cond b (take (length_of (class_of h) h.slot) (drop at file))
        (frame_with_side h (moved_side (steps at) (side_in h (drop at file)))
        (take (length_of (class_of h) h.slot) (drop at file)))) ≡ length_of (class_of h) h.slot
    one_sized {at = at} {h = h} here b =
        let size = length_of (class_of h) h.slot in
        let frame = take size (drop at file) in
        let fields = header_front-in_range (drop at file) (stands-at file at (Frame h) here.is) in
        let long : length frame ≡ size =
        length-take-le size (drop at file) (omega (arith, here.within, length-drop at file)) in
        let s = side_in h (drop at file) in
        let kept : length (frame_with_side h (moved_side (steps at) s) frame) ≡ length frame =
        length-frame_with_side h frame (IsClass-class_of fields)
        (IsShaped-moved (steps at) (shaped-side_in h (drop at file)))
        (omega (arith, overhead-within fields, long)) in
        by_lost b frame (frame_with_side h (moved_side (steps at) s) frame) size long (kept ∙ long)
      where
        by_lost : (b : Bool) (l m : List ℕ) (n : ℕ) → length l ≡ n → length m ≡ n
            → length (cond b l m) ≡ n
        by_lost true l m n a c = a
        by_lost false l m n a c = c

    sized_more : {part : Region} {at : ℕ} {item : Item} (frames : List PlacedFrame)
        → IsItemOf part file at item → AreSized steps file (by frames)
        → AreSized steps file (by (cons_option (frame_of_item at item) frames))
    sized_more frames here sized = grind (arith, one_sized)

    -- with moved gains the frames of items end to end are as long as before
    pub items_sized : (part : Region) (from : ℕ) (ps : List PlacedItem) (to : ℕ)
        → AreEndToEnd part file from ps to → AreSized steps file (by (frames_of ps))
    items_sized part from [] to ends = tt
    items_sized part from (p ∷ ps) to ends =
        sized_more (frames_of ps)
        (whole_item_at-is part file p.offset p.item ends.1)
        (items_sized part (p.offset + size_of p.item) ps to ends.2)

  -- ---- the frames before a block, and those after it

  -- a block is after some frames and before the others
  pub record IsCut (from : ℕ) (frames : List PlacedFrame) (b : Piece) (to : ℕ) : Type 0 where
    pub before : List PlacedFrame
    pub behind : List PlacedFrame
    pub all : frames ≡ before ++ behind
    pub front : EndBy from (by before) b.offset
    pub rest : EndBy (b.offset + b.block.length) (by behind) to
    pub some : 0 < b.block.length

  cut_later : {from at : ℕ} {frames : List PlacedFrame} {b : Piece} {to : ℕ} → from ≤ at
      → IsCut at frames b to → IsCut from frames b to
  cut_later {from} {at} {b = b} low cut = record {
    before = cut.before;
    behind = cut.behind;
    all = cut.all;
    front = end_earlier (by cut.before) b.offset low cut.front;
    rest = cut.rest;
    some = cut.some;
  }

  -- the frames of items split at the first tag among the items
  pub items_cut : {from : ℕ} (ps : List PlacedItem) {b : Piece} {to : ℕ}
      → AreEndToEnd Stream file from ps to → find is_tag (blocks_of ps) ≡ Some b
      → IsCut from (frames_of ps) b to
  items_cut {from} ps {b} {to} ends e =
      let split = split-tag from ps ends e in
      record {
        before = frames_of split.front;
        behind = frames_of split.rest;
        all = split.frames;
        front = items_end lost file Stream from split.front b.offset split.before;
        rest = items_end lost file Stream (b.offset + b.block.length) split.rest to split.behind;
        some = (whole_item_at-is Stream file b.offset (Block b.block)
            (found_item Stream file from ps to ends e)).some;
      }

-- ---- the end of the last frame

-- all frames end no later than the last
pub last_ends : (from : ℕ) (row : Row) (rows : List Row) {to : ℕ} → EndBy from (row ∷ rows) to
    → EndBy from (row ∷ rows) (last_end (row ∷ rows)) × (last_end (row ∷ rows) ≤ to)
last_ends from row [] ends = ((ends.0, ends.1, omega arith), ends.2)
last_ends from row (q ∷ rows) {to} ends =
    grind (arith, last_more, last_ends (row_end row) q rows ends.2)

-- ---- where the tag is

-- the tag is after some frames and before the others,
-- or there is none and all frames are before its offset
pub record IsAmong (s : SurveyFields) : Type 0 where
  pub before : List Row
  pub behind : List Row
  pub all : s.frames ≡ before ++ behind
  pub low : s.first < tag_offset s
  pub past : s.junk < tag_offset s + tag_length s
  pub front : EndBy s.first before (tag_offset s)
  pub rest : EndBy (tag_offset s + tag_length s) behind s.length
  pub up : tag_offset s + tag_length s ≤ s.length

-- the tag is after some frames and before the others, and no frame begins where
-- it begins, since a tag has bytes and no frame is after the offset for one
pub record IsApart (s : SurveyFields) : Type 0 where
  pub among : IsAmong s
  pub apart : (among.behind ≡ []) ⊎ (0 < tag_length s)

-- the tag is before the junk
pub record IsInFront (s : SurveyFields) : Type 0 where
  pub some : 0 < tag_length s
  pub before : tag_offset s + tag_length s ≤ s.junk

-- the tag is before the junk, or after some frames and before the others
pub record StandsSomewhere (steps : ℕ → Steps) (file : List ℕ) (s : SurveyFields) : Type 0 where
  pub size : length file ≡ s.length
  pub junk : s.junk ≤ s.first
  pub first : s.first ≤ s.length
  pub sized : AreSized steps file s.frames
  pub ends : EndBy s.first s.frames s.length
  pub some : 0 < length s.frames
  pub place : IsInFront s ⊎ IsAmong s

length-marked_rows : (head : Option Head) (rows : List Row)
    → length (marked_rows head rows) ≡ length rows
unfolding marked_rows
length-marked_rows head rows = grind (arith, length-map, length-enumerate_from)

-- without a tag its offset is the end of the last frame, and it has no bytes
pub tag_none : (s : SurveyFields) → tag_block s ≡ None
    → (tag_offset s ≡ last_end s.frames) × (tag_length s ≡ 0)
tag_none s is = (rw is refl, rw is refl)

module _ (steps : ℕ → Steps) {file : List ℕ} {allowed : ℕ} {start : Start}
    (read : IsRead file allowed start) where
  abbrev s : SurveyFields
  s = told_from file start

  abbrev first : ℕ
  first = start.first.offset

  abbrev h : HeaderFields
  h = start.first.header

  abbrev size : ℕ
  size = size_of (Frame h)

  abbrev head : Option Head
  head = head_of file start.first

  abbrev later : ItemChain
  later = later_chain file start

  abbrev front : ItemChain
  front = item_chain Front file 0

  abbrev lost : ℕ → Bool
  lost = is_lost_at s.frames

  has : HasStream file start
  has = has_stream read

  later_ends : AreEndToEnd Stream file (first + size) later.items later.stop
  later_ends = item_chain-ends Stream file (first + size)

  stop_within : later.stop ≤ length file
  stop_within = omega (arith, has.stop)

  -- the frames of the survey, by the items after the first
  rows_told : s.frames
      ≡ rows_by lost file (numbered_frames head (start.first ∷ frames_of later.items))
  rows_told =
      told_rows file start
      ∙ ap (λ (r : ItemChain). rows_by lost file (numbered_frames head (frames_of r.items)))
      has.stream

  later_end : EndBy (first + size) (rows_by lost file (frames_of later.items)) (length file)
  later_end = end_later (first + size) (rows_by lost file (frames_of later.items)) stop_within
      (items_end lost file Stream (first + size) later.items later.stop later_ends)

  later_sized : AreSized steps file (rows_by lost file (frames_of later.items))
  later_sized = items_sized lost file steps Stream (first + size) later.items later.stop later_ends

  cut_by : (o : Option Head) {b : Piece}
      → IsCut lost file (first + size) (frames_of later.items) b later.stop
      → IsCut lost file first (numbered_frames o (start.first ∷ frames_of later.items)) b later.stop
  cut_by None cut = record {
    before = start.first ∷ cut.before;
    behind = cut.behind;
    all = ap (λ (l : List PlacedFrame). start.first ∷ l) cut.all;
    front = (omega arith, omega (arith, has.first.some), cut.front);
    rest = cut.rest;
    some = cut.some;
  }
  cut_by (Some found) cut = grind (arith, cut_later, first, size)

  among_by : {b : Piece} → tag_block s ≡ Some b → first < b.offset → IsCut lost file first
      (numbered_frames head (start.first ∷ frames_of later.items)) b later.stop → IsApart s
  among_by {b} is beyond cut =
      let tag = place-some s is in
      let high =
      end_rises (b.offset + b.block.length) (rows_by lost file cut.behind) cut.rest in
      let among : IsAmong s = record {
        before = rows_by lost file cut.before;
        behind = rows_by lost file cut.behind;
        all = grind (arith, rows_told, rows_by, map-append);
        low = omega (arith, tag.0, beyond);
        past = omega (arith, tag.0, tag.1, beyond, has.low, cut.some);
        front = subst (EndBy first (rows_by lost file cut.before)) (sym tag.0) cut.front;
        rest = grind (arith, end_later, rows_by, stop_within);
        up = omega (arith, tag.0, tag.1, high, stop_within);
      } in
      record { among = among; apart = inr (omega (arith, tag.1, cut.some)) }

  some_frame : (rows : List Row) (frames : List PlacedFrame) → length rows ≡ length frames
      → end_fault file frames
      (fault_at (stream_chain file start).stop (item_at file (stream_chain file start).stop)) ≡ None
      → 0 < length rows
  some_frame rows frames same none = grind arith

  rows_ends : EndBy first s.frames (length file)
  rows_ends = subst (λ l. EndBy first l (length file)) (sym rows_told)
      (numbered_either (λ ps. EndBy first (rows_by lost file ps) (length file)) head
      (omega arith, omega (arith, has.first.some), later_end)
      (end_earlier (rows_by lost file (frames_of later.items)) (length file)
      (omega arith) later_end))

  frames_some : 0 < length s.frames
  frames_some = grind (arith, some_frame, frames_from, length-marked_rows, length-map)

  last_by : (rows : List Row) → rows ≡ s.frames → EndBy first rows (length file) → 0 < length rows
      → tag_block s ≡ None → IsApart s
  last_by [] same ends some is = absurd (omega (arith, some))
  last_by (row ∷ rows) same ends some is =
      let tag = tag_none s is in
      let last = last_ends first row rows ends in
      let beyond = end_rises (row_end row) rows last.0.2 in
      let place : tag_offset s ≡ last_end (row ∷ rows) = tag.0 ∙ ap last_end (sym same) in
      let among : IsAmong s = record {
        before = row ∷ rows;
        behind = [];
        all = sym same ∙ sym (append-nil (row ∷ rows));
        low = omega (arith, place, ends.0, ends.1, beyond);
        past = omega (arith, place, tag.1, ends.0, ends.1, beyond, has.low);
        front = subst (EndBy first (row ∷ rows)) (sym place) last.0;
        rest = omega (arith, place, tag.1, last.1);
        up = omega (arith, place, tag.1, last.1);
      } in
      record { among = among; apart = inl refl }

  blocks_later : blocks_of (stream_chain file start).items ≡ blocks_of later.items
  blocks_later = ap (λ (r : ItemChain). blocks_of r.items) has.stream

  place_by : (x y : Option Piece) → find is_tag (blocks_of front.items) ≡ x
      → find is_tag (blocks_of later.items) ≡ y → tag_block s ≡ option_or x y
      → IsInFront s ⊎ IsApart s
  place_by (Some b) y front_is later_is is =
      let tag = place-some s is in
      let ends = ends-stream Front file 0 front.items front.stop (item_chain-ends Front file 0) in
      let cut = items_cut lost file front.items ends front_is in
      let last =
      end_rises (b.offset + b.block.length) (rows_by lost file cut.behind) cut.rest in
      inl (record {
        some = omega (arith, tag.1, cut.some);
        before = omega (arith, tag.0, tag.1, last, has.front);
      })
  place_by None (Some b) front_is later_is is =
      let cut = items_cut lost file later.items later_ends later_is in
      let beyond = end_rises (first + size) (rows_by lost file cut.before) cut.front in
      inr (among_by is (omega (arith, beyond, has.first.some)) (cut_by head cut))
  place_by None None front_is later_is is = inr (last_by s.frames refl rows_ends frames_some is)

  -- the tag is before the junk, or apart from all frames
  pub apart_place : IsInFront s ⊎ IsApart s
  apart_place = grind (arith, place_by, find-append, blocks_later)

  somewhere : IsInFront s ⊎ IsApart s → IsInFront s ⊎ IsAmong s
  somewhere h = grind arith

  -- the tag is before the junk or among the frames
  pub stands : StandsSomewhere steps file s
  stands = record {
    size = refl;
    junk = has.low;
    first = omega (arith, has.first.within);
    sized = subst (AreSized steps file) (sym rows_told)
        (numbered_either (λ ps. AreSized steps file (rows_by lost file ps)) head
        (one_sized lost file steps has.first (lost first), later_sized) later_sized);
    ends = rows_ends;
    some = frames_some;
    place = somewhere apart_place;
  }

-- in every surveyed file the tag is before the junk or among the frames
pub stands_somewhere : (steps : ℕ → Steps) {file : List ℕ} (allowed : ℕ) {s : SurveyFields}
    → survey_fields file allowed ≡ Ok s → StandsSomewhere steps file s
stands_somewhere steps {file} allowed {s} e =
    let parts = survey_fields-parts e in
    subst (StandsSomewhere steps file) parts.2 (stands steps parts.1)

-- in every surveyed file no frame begins where the tag begins
pub stands_apart : (steps : ℕ → Steps) (file : List ℕ) (allowed : ℕ) {s : SurveyFields}
    → survey_fields file allowed ≡ Ok s → IsInFront s ⊎ IsApart s
stands_apart steps file allowed {s} e =
    let parts = survey_fields-parts e in
    subst (λ (t : SurveyFields). IsInFront t ⊎ IsApart t)
    parts.2 (apart_place steps parts.1)
