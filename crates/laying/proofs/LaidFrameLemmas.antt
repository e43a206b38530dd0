-- Frames into whose areas bytes were laid: the items that they
-- are, and what is read back from them where they are in a file.
use Rattle.std.proofs.Common.{ap, append_assoc, ap₂, arith, Bool, drop, false, flat_map, length}
use Rattle.std.proofs.Common.{length-append, length-drop, List, map, not, refl, slice_get, Some}
use Rattle.std.proofs.Common.{subst, suc, sum_by, sym, take, take-append-drop, true, zero, ℕ, []}
use Rattle.std.proofs.{Common.{◌&&◌, ◌++◌, ◌+◌, ◌==◌, ◌∙◌, ◌∷◌, ◌≡◌, ◌≤◌}, lemmas.Bool.eq-eqb}
use Rattle.std.proofs.lemmas.List.{drop-drop, drop_at, length-take-le, take_at, Sums.sum_by-cons}
use Rattle.frame_header.specs.{Fields.{ClassFields, same_class}, Tables.{class_of, overhead_of}}
use Rattle.frame_writer.specs.Frames.{all_frame_data, areas_length, fields_of_frames, Frame}
use Rattle.frame_writer.specs.{Frames.{frame_area, framed_bytes}, Laid.areas_end}
use Rattle.laying.proofs.BlockItemLemmas.{block_items, blocks-no_frame, blocks-placed}
use Rattle.laying.proofs.EntryByteLemmas.{entry_item, front-side, front-word, length-entry}
use Rattle.laying.proofs.EntryByteLemmas.{length-front, shaped}
use Rattle.laying.specs.LaidFiles.{AreBlocks, AreStreamEntries, blocks_from, frame_length}
use Rattle.laying.specs.LaidFiles.{IsStreamEntry, rows_from}
use Rattle.side_info.specs.{Frame.{frame_front_bytes, side_in, stored_crc}, Side.SideFits}
use Rattle.side_info.specs.declared.side.Side.{Side}
use Rattle.sync_survey.proofs.ItemListLemmas.{AreItems, placed}
use Rattle.sync_survey.specs.{Chains.{blocks_of, frames_of}, Faults.has_wrong_crc}
use Rattle.sync_survey.specs.{MainData.{area_bytes, own_area, rows_of}, Row.Row}
use Rattle.sync_survey.specs.declared.{chains.Region.TheVariants.Stream, items.Item.Item}
use Rattle.sync_survey.specs.declared.items.Item.TheVariants.{Frame as FrameItem}
use Rattle.sync_survey.specs.declared.places.PlacedFrame.{PlacedFrame}

-- ---- the items that they are

abbrev pub frame_items : List Frame → List Item
frame_items fs = map (λ f. FrameItem f.kept.header) fs

-- the side information of a frame fits the class of its header
pub own_fits : {c : ClassFields} {f : Frame} → IsStreamEntry c f
    → SideFits (class_of f.kept.header) f.kept.side
own_fits {f = f} entry = subst (λ d. SideFits d f.kept.side) (sym entry.class) entry.fits

-- frames with bytes in their areas are their items
pub framed_bytes-items : (c : ClassFields) (fs : List Frame) (bytes : List ℕ)
    → AreStreamEntries c fs → areas_length (fields_of_frames fs) ≡ length bytes
    → AreItems Stream (frame_items fs) (framed_bytes (fields_of_frames fs) bytes)
framed_bytes-items c [] bytes entries many = refl
framed_bytes-items c (f ∷ fs) bytes entries many =
    let k = f.kept in
    let n = frame_area k in
    let front = frame_front_bytes k.header k.side in
    let more = framed_bytes (fields_of_frames fs) (drop n bytes) in (
      front ++ take n bytes,
      more,
      sym (append_assoc front (take n bytes) more),
      entry_item (take n bytes) entries.0.header (shaped entries.0.pairs)
          (length-take-le n bytes (omega (arith, many))),
      refl,
      framed_bytes-items c fs (drop n bytes) entries.1 (omega (arith, many, length-drop n bytes)),
    )

-- the frames placed end to end, the first of them at an offset
abbrev pub frames_at : ℕ → List Frame → List PlacedFrame
frames_at at [] = []
frames_at at (f ∷ fs) =
    record { offset = at; header = f.kept.header } ∷ frames_at (at + frame_length f) fs

-- of frames and blocks placed end to end, the frames are these
pub frames-placed : (at : ℕ) (fs : List Frame) (blocks : List (List ℕ)) (are : AreBlocks blocks)
    → frames_of (placed at (frame_items fs ++ block_items blocks are)) ≡ frames_at at fs
frames-placed at [] blocks are = blocks-no_frame at blocks are
frames-placed at (f ∷ fs) blocks are =
    grind (arith, frames-placed (at + frame_length f) fs blocks are)

-- of frames and blocks placed end to end, the blocks are these
pub blocks-behind : (c : ClassFields) (at : ℕ) (fs : List Frame) (bytes : List ℕ)
    (blocks : List (List ℕ)) (are : AreBlocks blocks) → AreStreamEntries c fs
    → areas_length (fields_of_frames fs)
    ≡ length bytes → blocks_of (placed at (frame_items fs ++ block_items blocks are))
    ≡ blocks_from (at + length (framed_bytes (fields_of_frames fs) bytes)) blocks
blocks-behind c at [] bytes blocks are entries many = grind (arith, blocks-placed)
blocks-behind c at (f ∷ fs) bytes blocks are entries many =
    let k = f.kept in
    let n = frame_area k in
    let front = frame_front_bytes k.header k.side in
    let more = framed_bytes (fields_of_frames fs) (drop n bytes) in
    let long = length-entry (take n bytes) entries.0.header
    (shaped entries.0.pairs) (length-take-le n bytes (omega (arith, many))) in
    let place : at + frame_length f + length more ≡ at + length (front ++ (take n bytes ++ more)) =
    omega (
      arith,
      long,
      length-append front (take n bytes),
      length-append front (take n bytes ++ more),
      length-append (take n bytes) more,
    ) in
    blocks-behind c (at + frame_length f) fs (drop n bytes) blocks are
    entries.1 (omega (arith, many, length-drop n bytes)) ∙ ap (λ m. blocks_from m blocks) place

-- ---- where they are in a file

-- from an offset on the frames are consecutive, and their areas are these bytes
abbrev pub StandFrom : List ℕ → ℕ → List Frame → List ℕ → Type 0
StandFrom file at [] bytes = bytes ≡ []
StandFrom file at (f ∷ fs) bytes =
    (rest : List ℕ)
    × (drop at file
    ≡ frame_front_bytes f.kept.header f.kept.side ++ (take (frame_area f.kept) bytes ++ rest))
    × (frame_area f.kept ≤ length bytes)
    × StandFrom file (at + frame_length f) fs (drop (frame_area f.kept) bytes)

nothing : (bytes : List ℕ) → 0 ≡ length bytes → bytes ≡ []
nothing [] none = refl
nothing (b ∷ bytes) none = absurd (omega (arith, none))

-- if their bytes are in a file at an offset, the frames are consecutive from there on
pub framed_bytes-stand : (c : ClassFields) (file : List ℕ) (at : ℕ) (fs : List Frame)
    (bytes behind : List ℕ) → AreStreamEntries c fs
    → areas_length (fields_of_frames fs) ≡ length bytes
    → drop at file ≡ framed_bytes (fields_of_frames fs) bytes ++ behind → StandFrom file at fs bytes
framed_bytes-stand c file at [] bytes behind entries many is = nothing bytes many
framed_bytes-stand c file at (f ∷ fs) bytes behind entries many is =
    let k = f.kept in
    let n = frame_area k in
    let front = frame_front_bytes k.header k.side in
    let area = take n bytes in
    let more = framed_bytes (fields_of_frames fs) (drop n bytes) in
    let rest = more ++ behind in
    let stands : drop at file ≡ front ++ (area ++ rest) =
    grind (arith, append_assoc) in
    let long = length-entry area entries.0.header (shaped entries.0.pairs)
    (length-take-le n bytes (omega (arith, many))) in
    let next : drop (at + frame_length f) file ≡ rest =
    sym (drop-drop (frame_length f) at file)
    ∙ ap (drop (frame_length f)) (stands ∙ sym (append_assoc front area rest))
    ∙ drop_at (front ++ area) rest (frame_length f) long in (
      rest,
      stands,
      omega (arith, many),
      framed_bytes-stand c file (at + frame_length f) fs
          (drop n bytes) behind entries.1 (omega (arith, many, length-drop n bytes)) next,
    )

-- their rows are those of the given frames
pub rows-there : (c : ClassFields) (file : List ℕ) (at : ℕ) (fs : List Frame) (bytes : List ℕ)
    → AreStreamEntries c fs → StandFrom file at fs bytes
    → rows_of file (frames_at at fs) ≡ rows_from at fs
rows-there c file at [] bytes entries stand = refl
rows-there c file at (f ∷ fs) bytes entries stand =
    let k = f.kept in
    let n = frame_area k in
    let side : side_in k.header (drop at file) ≡ k.side =
    grind (arith, front-side, shaped, own_fits) in
    ap₂ (λ (s : Side) (rows : List Row).
    record { offset = at; header = k.header; side = s; lost = false } ∷ rows) side
    (rows-there c file (at + frame_length f) fs (drop n bytes) entries.1 stand.3)

-- their areas, concatenated, are the bytes that were laid
pub areas-there : (c : ClassFields) (file : List ℕ) (at : ℕ) (fs : List Frame) {bytes : List ℕ}
    → AreStreamEntries c fs → StandFrom file at fs bytes
    → flat_map (λ (r : Row). area_bytes file r.offset r.header) (rows_from at fs) ≡ bytes
areas-there c file at [] entries stand = sym stand
areas-there c file at (f ∷ fs) {bytes} entries stand =
    let k = f.kept in
    let n = frame_area k in
    let over = overhead_of (class_of k.header) k.header.protected in
    let area : area_bytes file at k.header ≡ take n bytes =
    grind (arith, drop_at, length-front, shaped, take_at, length-take-le) in
    ap₂ (λ (xs ys : List ℕ). xs ++ ys) area
    (areas-there c file (at + frame_length f) fs entries.1 stand.3)
    ∙ take-append-drop n bytes

-- ---- one of them

-- this is the row of a frame: it is of the class, and its check word is right
pub record IsRowOf (file : List ℕ) (c : ClassFields) (f : Frame) (r : Row) : Type 0 where
  pub header : r.header ≡ f.kept.header
  pub side : r.side ≡ f.kept.side
  pub kept : r.lost ≡ false
  pub entry : IsStreamEntry c f
  pub word : has_wrong_crc (stored_crc (drop r.offset file)) r ≡ false

word_by : {b : Bool} {said right : ℕ} → (b ≡ true → said ≡ right)
    → (b && not (said == right)) ≡ false
word_by is = grind arith

-- each of their rows is the row of a frame there
pub row-get : (c : ClassFields) (file : List ℕ) (at : ℕ) (fs : List Frame) (bytes : List ℕ) (i : ℕ)
    (r : Row) → AreStreamEntries c fs → StandFrom file at fs bytes
    → slice_get (rows_from at fs) i ≡ Some r
    → (f : Frame) × (slice_get fs i ≡ Some f) × IsRowOf file c f r
row-get c file at [] bytes i r entries stand is = absurd cc
row-get c file at (f ∷ fs) bytes zero r entries stand is =
    grind (arith, front-word, shaped, word_by)
row-get c file at (f ∷ fs) bytes (suc i) r entries stand is =
    row-get c file (at + frame_length f) fs
    (drop (frame_area f.kept) bytes) i r entries.1 stand.3 is

-- the area of frame i begins after the areas of the frames before it
pub areas-sum : (at area_start : ℕ) (fs : List Frame) (i : ℕ)
    → area_start + sum_by (λ (r : Row). own_area r.header) (take i (rows_from at fs))
    ≡ areas_end area_start (take i (all_frame_data fs))
areas-sum at area_start fs zero = omega arith
areas-sum at area_start [] (suc i) = omega arith
areas-sum at area_start (f ∷ fs) (suc i) =
    search (
      arith,
      sum_by-cons,
      areas-sum (at + frame_length f) (area_start + frame_area f.kept) fs i,
    )

-- the last area ends after the length of all areas together
pub areas-all : (area_start : ℕ) (fs : List Frame)
    → areas_end area_start (all_frame_data fs) ≡ area_start + areas_length (fields_of_frames fs)
areas-all area_start [] = omega arith
areas-all area_start (f ∷ fs) = omega (arith, areas-all (area_start + frame_area f.kept) fs)

-- there are as many rows as frames
pub rows-length : (at : ℕ) (fs : List Frame) → length (rows_from at fs) ≡ length fs
rows-length at [] = refl
rows-length at (f ∷ fs) = ap suc (rows-length (at + frame_length f) fs)

-- ---- the class

-- a class equals itself
pub same-class : (c : ClassFields) → same_class c c ≡ true
unfolding same_class
same-class c = grind (arith, eq-eqb)
