-- A file whose frames are in another one, each at an offset that depends only on its own, with
-- moved gains unless it stays: its frames have rows, faults and marks there as they have here,
-- and hold the same main data.
use Rattle.std.proofs.Common.{ap, ap₂, arith, Bool, drop, false, flat_map, length, List, map, not}
use Rattle.std.proofs.Common.{Ok, Option, option_map, refl, slice_get, Some, subst, suc, sym, true}
use Rattle.std.proofs.Common.{zero, ℕ, [], ◌&&◌, ◌++◌, ◌+◌, ◌==◌, ◌∙◌, ◌∷◌, ◌≡◌, ◌≤◌}
use Rattle.std.{proofs.lemmas.{Bool.eq-eqb, List.{drop_all, take_at}}, specs.List.enumerate_from}
use Rattle.bit_fields.specs.Bits.{AreBytes}
use Rattle.frame_header.proofs.{HeaderLemmas.IsClass-class_of, LengthLemmas.area_some}
use Rattle.frame_header.specs.Fields.{HeaderFields, IsHeader}
use Rattle.frame_header.specs.Tables.{class_of, length_of, overhead_of}
use Rattle.info_header.specs.HeadText.{head_text_of}
use Rattle.moved_gains.proofs.MovedFrameLemmas.{IsWhole, moved_whole}
use Rattle.moved_gains.proofs.MovedRowLemmas.{changed, end_fault-by, head_by, image_row}
use Rattle.moved_gains.proofs.MovedRowLemmas.{marked-image, numbered-same, rows_shaped, sound-image}
use Rattle.moved_gains.specs.{Edited.moved_frame_unless_lost, Gains.moved_side_unless_lost}
use Rattle.requests.specs.declared.shift.Steps.{Steps}
use Rattle.side_info.proofs.FrameLemmas.{IsRight, side_in-take, stored_crc-take}
use Rattle.side_info.specs.{Frame.{side_in, stored_crc}, declared.side.Side.Side}
use Rattle.sync_survey.proofs.{ItemListLemmas.frame_by, ItemsLemmas.header_front-in_range}
use Rattle.sync_survey.proofs.{OneItemLemmas.stands-only_at, SameHeadLemmas.area-frame}
use Rattle.sync_survey.proofs.SurveyLemmas.{overhead-within}
use Rattle.sync_survey.proofs.SurveyPartsLemmas.{all_faults-none_sound, frames_from, IsRead}
use Rattle.sync_survey.proofs.SurveyPartsLemmas.{sound-no_all_faults, told_from}
use Rattle.sync_survey.specs.Faults.{all_faults, class_from, has_wrong_crc}
use Rattle.sync_survey.specs.MainData.{area_bytes, head_bytes, is_lost, main_bytes, marked_row}
use Rattle.sync_survey.specs.MainData.{marked_rows, row_of, rows_of, stream_frame, stream_frames}
use Rattle.sync_survey.specs.{MainData.StreamFrame, Row.Row, Start.start_of}
use Rattle.sync_survey.specs.Walk.{frame_bytes, head_of, stream_chain}
use Rattle.sync_survey.specs.declared.{items.Item.TheVariants.End, places.Head.Head}
use Rattle.sync_survey.specs.declared.places.{PlacedFrame.PlacedFrame, Start.Start}

-- ---- the bytes of one frame

frame_long : {h : HeaderFields} → IsHeader h → 6 ≤ length_of (class_of h) h.slot
frame_long header = grind (arith, area_some, IsClass-class_of, header)

module _ (file : List ℕ) (p : PlacedFrame) (header : IsHeader p.header) where
  abbrev h : HeaderFields
  h = p.header

  abbrev bytes : List ℕ
  bytes = drop p.offset file

  -- the side information of a frame is in its own bytes
  pub own-side : side_in h (frame_bytes file p) ≡ side_in h bytes
  own-side = side_in-take h bytes (overhead-within header)

  -- its check word too
  own-word : stored_crc (frame_bytes file p) ≡ stored_crc bytes
  own-word = stored_crc-take bytes (frame_long header)

  wrong_by : {b : Bool} {said right : ℕ} → (b && not (said == right)) ≡ false → b ≡ true
      → said ≡ right
  wrong_by none is = grind arith

  -- a frame without a wrong check word has the right one or none
  pub own-right : has_wrong_crc (stored_crc bytes) (row_of file p) ≡ false
      → IsRight h (frame_bytes file p)
  own-right none protected = grind (arith, own-word, wrong_by, bytes, own-side)

  -- with the right one it isn't wrong
  not_wrong : IsRight h (frame_bytes file p)
      → has_wrong_crc (stored_crc bytes) (row_of file p) ≡ false
  not_wrong right = grind (arith, bytes, eq-eqb, own-word, right, own-side)

-- the check words of these frames are right
abbrev pub AreRight : List ℕ → List Row → Type 0
AreRight file rows = (i : ℕ) (r : Row) → slice_get rows i ≡ Some r
    → has_wrong_crc (stored_crc (drop r.offset file)) r ≡ false

module _ (to : ℕ → ℕ) (steps : ℕ → Steps) (stays : ℕ → Bool) (file new : List ℕ) where
  -- ---- frames in another file

  -- The bytes of the frame are in the other file at its new offset, with its gains moved unless it
  -- stays: so is its side information, its check word is right if it was, and its area is the same.
  pub record IsImage (p : PlacedFrame) : Type 0 where
    pub header : IsHeader p.header
    pub whole : AreBytes file → IsWhole p.header (frame_bytes file p)
    pub bytes : frame_bytes new (frame_by to p)
        ≡ moved_frame_unless_lost (stays p.offset) (steps p.offset) p.header (frame_bytes file p)
    pub side : side_in p.header (frame_bytes new (frame_by to p))
        ≡ moved_side_unless_lost (stays p.offset) (steps p.offset)
        (side_in p.header (frame_bytes file p))
    pub right : IsRight p.header (frame_bytes file p)
        → IsRight p.header (frame_bytes new (frame_by to p))
    pub area : drop (overhead_of (class_of p.header) p.header.protected)
        (frame_bytes new (frame_by to p))
        ≡ drop (overhead_of (class_of p.header) p.header.protected) (frame_bytes file p)

  abbrev pub AreImages : List PlacedFrame → Type 0
  AreImages [] = Unit {0}
  AreImages (p ∷ ps) = IsImage p × AreImages ps

  -- two lists of such frames are one together
  pub images-append : (ps qs : List PlacedFrame) → AreImages ps → AreImages qs
      → AreImages (ps ++ qs)
  images-append [] qs are more = more
  images-append (p ∷ ps) qs are more = (are.0, images-append ps qs are.1 more)

  -- a whole frame whose bytes are there with moved gains, unless it stays
  pub image_moved : {p : PlacedFrame} (rest : List ℕ) → IsWhole p.header (frame_bytes file p)
      → drop (to p.offset) new ≡ moved_frame_unless_lost (stays p.offset) (steps p.offset) p.header
      (frame_bytes file p) ++ rest → IsImage p
  image_moved {p} rest whole stands =
      let h = p.header in
      let frame = frame_bytes file p in
      let size = length_of (class_of h) h.slot in
      let moved = moved_whole (stays p.offset) (steps p.offset) whole in
      let same : frame_bytes new (frame_by to p)
      ≡ moved_frame_unless_lost (stays p.offset) (steps p.offset) h frame =
      grind (arith, take_at) in
      record {
        header = header_front-in_range frame whole.header;
        whole = λ all. whole;
        bytes = same;
        side = ap (side_in h) same ∙ moved.side;
        right = λ was. subst (IsRight h) (sym same) (moved.right (λ still. was));
        area = ap (drop (overhead_of (class_of h) h.protected)) same ∙ moved.same_area;
      }

  module _ {p : PlacedFrame} (image : IsImage p) where
    row-image : row_of new (frame_by to p) ≡ image_row to steps stays (row_of file p)
    row-image =
        ap (λ s. record { offset = to p.offset; header = p.header; side = s; lost = false })
        (sym (own-side new (frame_by to p) image.header) ∙ image.side
        ∙ ap (moved_side_unless_lost (stays p.offset) (steps p.offset))
        (own-side file p image.header))

    word-image : has_wrong_crc (stored_crc (drop p.offset file)) (row_of file p) ≡ false
        → has_wrong_crc (stored_crc (drop (to p.offset) new))
        (image_row to steps stays (row_of file p)) ≡ false
    word-image none =
        subst (λ (r : Row). has_wrong_crc (stored_crc (drop (to p.offset) new)) r ≡ false) row-image
        (not_wrong new (frame_by to p) image.header
        (image.right (own-right file p image.header none)))

    -- its area is the same
    pub area-image : area_bytes new (to p.offset) p.header ≡ area_bytes file p.offset p.header
    area-image =
        let room = overhead-within image.header in
        area-frame new (frame_by to p) room ∙ image.area ∙ sym (area-frame file p room)

  rows-image : (ps : List PlacedFrame) → AreImages ps
      → rows_of new (map (frame_by to) ps) ≡ map (image_row to steps stays) (rows_of file ps)
  rows-image [] are = refl
  rows-image (p ∷ ps) are = grind (arith, row-image, rows-image ps are.1)

  words-image : (ps : List PlacedFrame) → AreImages ps → AreRight file (rows_of file ps) → (i : ℕ)
      {r : Row} → slice_get (rows_of file ps) i ≡ Some r
      → has_wrong_crc (stored_crc (drop (to r.offset) new)) (image_row to steps stays r) ≡ false
  words-image [] are right i is = absurd cc
  words-image (p ∷ ps) are right zero is =
      grind (arith, word-image are.0 (right 0 (row_of file p) refl), right 0 (row_of file p) refl)
  words-image (p ∷ ps) are right (suc i) {r} is =
      words-image ps are.1 (λ i r is. right (suc i) r is) i is

  areas-image : (ps : List PlacedFrame) → AreImages ps
      → flat_map (λ (r : Row). area_bytes new (to r.offset) r.header) (rows_of file ps)
      ≡ flat_map (λ (r : Row). area_bytes file r.offset r.header) (rows_of file ps)
  areas-image [] are = refl
  areas-image (p ∷ ps) are = grind (arith, area-image, areas-image ps are.1)

-- ---- the head

head_placed : (to : ℕ → ℕ) (p : PlacedFrame) (o : Option ℕ)
    → option_map (λ at. record { offset = to p.offset; header = p.header; text_at = at }) o
    ≡ option_map (head_by to)
    (option_map (λ at. record { offset = p.offset; header = p.header; text_at = at }) o)
head_placed to p o = grind arith

module _ (to : ℕ → ℕ) (file new : List ℕ) (p : PlacedFrame) where
  -- a frame with the same bytes is a head there exactly if it is one here
  pub head-by : frame_bytes new (frame_by to p) ≡ frame_bytes file p
      → head_of new (frame_by to p) ≡ option_map (head_by to) (head_of file p)
  unfolding head_of
  head-by same =
      ap (λ l. option_map (λ at. record { offset = to p.offset; header = p.header; text_at = at })
      (head_text_of p.header l)) same
      ∙ head_placed to p (head_text_of p.header (frame_bytes file p))

  head_area_cases : (o : Option ℕ) → area_bytes new (to p.offset) p.header
      ≡ area_bytes file p.offset p.header → head_bytes new (option_map (head_by to) (option_map
      (λ at. record { offset = p.offset; header = p.header; text_at = at }) o)) ≡ head_bytes file
      (option_map (λ at. record { offset = p.offset; header = p.header; text_at = at }) o)
  head_area_cases o same = grind arith

  -- a head has the same area there if its frame has
  pub head_area-by : area_bytes new (to p.offset) p.header ≡ area_bytes file p.offset p.header
      → head_bytes new (option_map (head_by to) (head_of file p)) ≡ head_bytes file (head_of file p)
  unfolding head_of
  head_area-by same = head_area_cases (head_text_of p.header (frame_bytes file p)) same

-- ---- areas of rows that are marked or elsewhere

each_marked : (area : ℕ → HeaderFields → List ℕ) (head : Option Head) (all : List Row) (n : ℕ)
    (rows : List Row) → flat_map (λ (r : Row). area r.offset r.header)
    (map (λ (p : ℕ × Row). marked_row head all p.0 p.1) (enumerate_from n rows))
    ≡ flat_map (λ (r : Row). area r.offset r.header) rows
each_marked area head all n [] = refl
each_marked area head all n (r ∷ rows) = grind (arith, area, each_marked area head all (n + 1) rows)

all_marked : (area : ℕ → HeaderFields → List ℕ) (head : Option Head) (rows : List Row)
    → flat_map (λ (r : Row). area r.offset r.header) (marked_rows head rows)
    ≡ flat_map (λ (r : Row). area r.offset r.header) rows
unfolding marked_rows
all_marked area head rows = each_marked area head rows 0 rows

changed_areas : (to : ℕ → ℕ) (side : Row → Side) (head : Option Head) (all : List Row)
    (new : List ℕ) (rows : List Row) → flat_map (λ (r : Row). area_bytes new r.offset r.header)
    (map (changed to side head all) rows)
    ≡ flat_map (λ (r : Row). area_bytes new (to r.offset) r.header) rows
changed_areas to side head all new [] = refl
changed_areas to side head all new (r ∷ rows) =
    ap (λ l. area_bytes new (to r.offset) r.header ++ l) (changed_areas to side head all new rows)

-- ---- files

-- The other file starts there, all its frames are those of the file, which are there with
-- moved gains unless they stay, and its head is the file's, with the same area.
pub record IsFileImage (to : ℕ → ℕ) (steps : ℕ → Steps) (stays : ℕ → Bool) (file new : List ℕ)
    (start there : Start) : Type 0 where
  pub start_is : start_of new ≡ Ok there
  pub class : class_from there ≡ class_from start
  pub head : head_of new there.first ≡ option_map (head_by to) (head_of file start.first)
  pub head_area : head_bytes new (option_map (head_by to) (head_of file start.first))
      ≡ head_bytes file (head_of file start.first)
  pub frames : frames_from new there ≡ map (frame_by to) (frames_from file start)
  pub images : AreImages to steps stays file new (frames_from file start)
  pub past : length new ≤ (stream_chain new there).stop

module _ {to : ℕ → ℕ} {steps : ℕ → Steps} {stays : ℕ → Bool} {file new : List ℕ}
    {start there : Start} (image : IsFileImage to steps stays file new start there) where
  abbrev head : Option Head
  head = head_of file start.first

  abbrev far_head : Option Head
  far_head = option_map (head_by to) head

  abbrev rows : List Row
  rows = rows_of file (frames_from file start)

  rows_there : rows_of new (frames_from new there) ≡ map (image_row to steps stays) rows
  rows_there = grind (arith, rows-image, frames_from)

  -- it is without fault if the file is
  pub read-image : {allowed : ℕ} → IsRead file allowed start → IsRead new allowed there
  read-image {allowed} read =
      let sound = all_faults-none_sound file head (class_from start) allowed rows read.frames in
      let stop = (stream_chain new there).stop in
      let nothing : drop stop new ≡ [] = drop_all stop new image.past in
      record {
        start_is = image.start_is;
        frames =
            (λ i. all_faults new (image.head i) (image.class i) allowed (rows_there i))
            ∙ sound-no_all_faults new far_head (class_from start) allowed
            (map (image_row to steps stays) rows)
            (sound-image to steps stays head rows (rows_shaped file (frames_from file start)) file
            new
            (words-image to steps stays file new (frames_from file start) image.images
            (λ i r is. (sound i r is).word)) sound);
        end =
            grind
            (arith, stands-only_at new stop End nothing, end_fault-by, frames_from file start);
      }

  -- the same frames are marked there, so that the marked rows are there as each marked row is
  pub told-image : (far : Row → Row) → ((i : ℕ) (r : Row) → slice_get rows i ≡ Some r
      → record (image_row to steps stays r) { lost = is_lost head rows i r }
      ≡ far (marked_row head rows i r))
      → (told_from new there).frames ≡ map far (told_from file start).frames
  told-image far same =
      ap₂ marked_rows image.head rows_there
      ∙ marked-image to steps stays head rows (rows_shaped file (frames_from file start)) far same

  -- ---- the stream

  module _ (side : Row → Side) where
    abbrev marked : List Row
    marked = (told_from file start).frames

    abbrev by : Row → Row
    by = changed to side head marked

    -- no byte of the main data changes
    main-image : main_bytes new far_head (map by marked) ≡ main_bytes file head marked
    unfolding main_bytes
    main-image =
        ap₂ (λ (a b : List ℕ). a ++ b) image.head_area
        (changed_areas to side head marked new marked
        ∙ all_marked (λ at h. area_bytes new (to at) h) head rows
        ∙ areas-image to steps stays file new (frames_from file start) image.images
        ∙ sym (all_marked (area_bytes file) head rows))

    -- the stream is there as each of its frames is
    pub stream-image : (change : Row → StreamFrame → StreamFrame)
        → ((main : List ℕ) (i : ℕ) (r : Row) → slice_get marked i ≡ Some r
        → stream_frame main far_head (map by marked) i (by r)
        ≡ change r (stream_frame main head marked i r))
        → stream_frames (main_bytes new far_head (map by marked)) far_head (map by marked)
        ≡ map (λ (p : ℕ × Row). change p.1
        (stream_frame (main_bytes file head marked) head marked p.0 p.1)) (enumerate_from 0 marked)
    unfolding stream_frames
    stream-image change each =
        let main = main_bytes file head marked in
        ap (λ m. map (λ (p : ℕ × Row). stream_frame m far_head (map by marked) p.0 p.1)
        (enumerate_from 0 (map by marked))) main-image
        ∙ numbered-same (stream_frame main far_head (map by marked)) marked (each main)
