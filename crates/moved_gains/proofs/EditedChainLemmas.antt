-- The chains of the edited file are the file's, without the junk between them.
use Rattle.std.proofs.Common.{ap, append-nil, ap₂, arith, Bool, drop, length, length-append, List}
use Rattle.std.proofs.Common.{map, None, Ok, Option, option_map, refl, Some, subst, sym, true, ℕ}
use Rattle.std.proofs.Common.{[], ◌++◌, ◌+◌, ◌-◌, ◌∙◌, ◌∷◌, ◌≡◌, ◌≤◌}
use Rattle.std.proofs.lemmas.List.{drop-drop, drop_at}
use Rattle.bit_fields.specs.Bits.{AreBytes}
use Rattle.frame_header.specs.{Fields.HeaderFields, Tables.{class_of, overhead_of}}
use Rattle.moved_gains.proofs.EditedItemLemmas.{AreMovedAt, frame_whole, frames_moved, moved-cons}
use Rattle.moved_gains.proofs.EditedItemLemmas.{moved_are}
use Rattle.moved_gains.proofs.ImageLemmas.{area-image, image_moved, IsImage}
use Rattle.moved_gains.proofs.MovedFrameLemmas.{IsMoved, IsWhole, moved_whole, whole_item}
use Rattle.moved_gains.proofs.MovedRowLemmas.{numbered_frames-by}
use Rattle.moved_gains.proofs.ReadFileLemmas.{has_stream, HasStream, later_chain}
use Rattle.moved_gains.proofs.WholeFileLemmas.{front_end-is, not_in_front, start_by}
use Rattle.moved_gains.specs.Edited.{edited_file, is_lost_at, moved_frame_unless_lost, moved_items}
use Rattle.moved_gains.specs.Edited.{moved_stream}
use Rattle.requests.specs.declared.shift.Steps.{Steps}
use Rattle.sync_survey.proofs.ChainLemmas.{item_chain-ends, whole_item_at-past}
use Rattle.sync_survey.proofs.ItemBytesLemmas.{IsItem}
use Rattle.sync_survey.proofs.ItemListLemmas.{AreItems, blocks-nearer, frames-nearer, item_at-known}
use Rattle.sync_survey.proofs.ItemListLemmas.{items-item_chain, items-length, items_of, kept_items}
use Rattle.sync_survey.proofs.ItemListLemmas.{nearer, nearer-none, nearer_frame, nearer_piece}
use Rattle.sync_survey.proofs.ItemListLemmas.{placed, placed-nearer}
use Rattle.sync_survey.proofs.SameHeadLemmas.{head_bytes-nearer, head_of-nearer, nearer_head}
use Rattle.sync_survey.proofs.SurveyPartsLemmas.{frames_from, IsRead, told_from}
use Rattle.sync_survey.specs.Chains.{AreEndToEnd, blocks_of, bytes_of_items, frames_of, item_chain}
use Rattle.sync_survey.specs.{Chains.{ItemChain, PlacedItem}, Items.{item_at, size_of}}
use Rattle.sync_survey.specs.{MainData.head_bytes, Start.start_of}
use Rattle.sync_survey.specs.Walk.{all_blocks, frame_bytes, head_of, numbered_frames, stream_chain}
use Rattle.sync_survey.specs.declared.chains.Region.TheVariants.{Front, Stream}
use Rattle.sync_survey.specs.declared.{items.Item.TheVariants.Frame, places.Head.Head}
use Rattle.sync_survey.specs.declared.places.{Piece.Piece, PlacedFrame.PlacedFrame, Start.Start}

-- ---- the start of the edited file

-- the number of bytes of junk
abbrev pub gap_of : Start → ℕ
gap_of start = start.first.offset - start.front_end

-- the first frame is where the junk began
abbrev pub moved_start : Start → Start
moved_start start = record {
  front_end = start.front_end;
  first = record { offset = start.front_end; header = start.first.header };
}

-- ---- the bytes of the edited file

-- the first frame stays if it is a head, or lost
abbrev pub first_stays : (ℕ → Bool) → PlacedFrame → Option Head → Bool
first_stays lost first None = lost first.offset
first_stays lost first (Some head) = true

-- the bytes of the first frame in the edited file
abbrev pub first_bytes : (ℕ → Steps) → (ℕ → Bool) → List ℕ → PlacedFrame → Option Head → List ℕ
first_bytes steps lost file first o = moved_frame_unless_lost (first_stays lost first o)
    (steps first.offset) first.header (frame_bytes file first)

-- the stream begins with the first frame, moved unless
-- it is a head, and continues with the other items
pub moved_first : (steps : ℕ → Steps) (lost : ℕ → Bool) (file : List ℕ) (first : PlacedFrame)
    (ps : List PlacedItem) (o : Option Head) → moved_stream steps lost file o (record {
      offset = first.offset;
      item = Frame first.header;
    } ∷ ps) ≡ first_bytes steps lost file first o ++ moved_items steps lost file ps
moved_first steps lost file first ps o = grind (arith, moved-cons, append-nil)

-- the offsets of the lost frames of a file
abbrev pub lost_from : List ℕ → Start → ℕ → Bool
lost_from file start = is_lost_at (told_from file start).frames

module _ (steps : ℕ → Steps) {file : List ℕ} {allowed : ℕ} {start : Start} (all : AreBytes file)
    (read : IsRead file allowed start) where
  abbrev pub new_file : List ℕ
  new_file = edited_file steps file (told_from file start)

  abbrev lost : ℕ → Bool
  lost = lost_from file start

  abbrev first : ℕ
  first = start.first.offset

  abbrev front_end : ℕ
  front_end = start.front_end

  abbrev h : HeaderFields
  h = start.first.header

  abbrev size : ℕ
  size = size_of (Frame h)

  abbrev gap : ℕ
  gap = gap_of start

  abbrev head : Option Head
  head = head_of file start.first

  has : HasStream file start
  has = has_stream read

  -- ---- the chains of the file

  abbrev front : ItemChain
  front = item_chain Front file 0

  abbrev later : ItemChain
  later = later_chain file start

  abbrev items : List PlacedItem
  items = record { offset = first; item = Frame h } ∷ later.items

  -- the items of the front are end to end
  pub front_ends : AreEndToEnd Front file 0 front.items front.stop
  front_ends = item_chain-ends Front file 0

  -- the items after the first frame are end to end too
  pub later_ends : AreEndToEnd Stream file (first + size) later.items later.stop
  later_ends = item_chain-ends Stream file (first + size)

  ends : AreEndToEnd Stream file first items later.stop
  ends = (refl, has.there, later_ends)

  -- ---- the bytes

  abbrev before : List ℕ
  before = bytes_of_items file front.items

  abbrev own : List ℕ
  own = first_bytes steps lost file start.first head

  abbrev after : List ℕ
  after = moved_items steps lost file later.items

  -- the first frame is whole
  pub first_frame : IsWhole h (frame_bytes file start.first)
  first_frame = frame_whole file first all has.first.is has.first.within

  own_moved : IsMoved (first_stays lost start.first head) (steps first) h
      (frame_bytes file start.first) own
  own_moved = moved_whole (first_stays lost start.first head) (steps first) first_frame

  own_item : IsItem (Frame h) own
  own_item = whole_item own_moved.whole

  before_are : AreItems Front (items_of front.items) before
  before_are = kept_items Front file 0 front.items front.stop front_ends

  after_are : AreItems Stream (items_of later.items) after
  after_are = moved_are steps lost file (first + size) later.items later.stop all later_ends

  new-is : new_file ≡ before ++ (own ++ after)
  unfolding edited_file
  new-is =
      ap (λ (r : ItemChain). before ++ moved_stream steps lost file head r.items) has.stream
      ∙ ap (λ l. before ++ l) (moved_first steps lost file start.first later.items head)

  -- the bytes of the front end where the front ends
  pub before_long : length before ≡ front_end
  before_long = omega (
    arith,
    items-length Front file 0 front.items before front_ends before_are,
    has.front,
  )

  -- from there on the edited file has the first frame and what is after it
  pub new-stands : drop front_end new_file ≡ own ++ after
  new-stands = ap (drop front_end) new-is ∙ drop_at before (own ++ after) front_end before_long

  -- the edited file is shorter by the junk
  pub new-length : length new_file ≡ length file - gap
  new-length =
      omega (
        arith,
        ap length new-is,
        length-append {A = ℕ},
        before_long,
        own_item.size,
        items-length Stream file (first + size) later.items after later_ends after_are,
        has.stop,
        has.low,
        has.first.within,
      )

  -- ---- the chains of the edited file

  new_first : item_at new_file front_end ≡ Frame h
  new_first = item_at-known new_file front_end front_end (own ++ after) (Frame h) refl new-stands
      (own_item.known after)

  new_room : front_end + size ≤ length new_file
  new_room = omega (arith, new-length, has.low, has.first.within)

  -- the front of the edited file is the file's
  pub new-front : item_chain Front new_file 0 ≡ record { items = front.items; stop = front_end }
  new-front =
      let stop : 0 + length before ≡ front_end = omega (arith, before_long) in
      let same : placed 0 (items_of front.items) ≡ front.items =
      placed-nearer Front file 0 0 0 front.items front.stop front_ends (omega arith)
      ∙ nearer-none front.items in
      items-item_chain Front new_file (items_of front.items) before (own ++ after) before_are
      (omega arith) new-is
      (not_in_front new_file (0 + length before) (ap (item_at new_file) stop ∙ new_first))
      ∙ (λ i. record { items = same i; stop = stop i })

  -- the stream of the edited file has the same items, nearer by the junk
  pub new-stream : item_chain Stream new_file front_end
      ≡ record { items = map (nearer gap) items; stop = later.stop - gap }
  new-stream =
      let long : front_end + length (own ++ after) ≡ length new_file =
      omega (arith, ap length new-is, length-append before (own ++ after), before_long) in
      let stop : front_end + length (own ++ after) ≡ later.stop - gap =
      omega (arith, long, new-length, has.stop) in
      let same : placed front_end (items_of items) ≡ map (nearer gap) items =
      placed-nearer Stream file gap first front_end items later.stop ends
      (omega (arith, has.low)) in
      items-item_chain Stream new_file (items_of items) (own ++ after) []
      (own, after, refl, own_item, refl, after_are) (omega (arith, new_room))
      (new-stands ∙ sym (append-nil (own ++ after)))
      (whole_item_at-past Stream new_file (front_end + length (own ++ after)) (omega (arith, long)))
      ∙ (λ i. record { items = same i; stop = stop i })

  -- the edited file starts with the same frame
  pub new-start : start_of new_file ≡ Ok (moved_start start)
  new-start = grind (arith, start_by, front_end-is, new-front, new_first, new_room)

  -- ---- frames and blocks

  -- that frame begins where the front ends
  pub place : first - gap ≡ front_end
  place = omega (arith, has.low)

  -- it is the first frame, nearer by the junk
  pub nearer_first : nearer_frame gap start.first ≡ (moved_start start).first
  nearer_first = ap (λ n. record { offset = n; header = h }) place

  -- after the first frame is what was after it
  pub new-later : drop (front_end + size) new_file ≡ after ++ []
  new-later = sym (drop-drop size front_end new_file) ∙ ap (drop size) new-stands
      ∙ drop_at own after size own_item.size ∙ sym (append-nil after)

  later_moved : AreMovedAt steps lost file new_file gap (frames_of later.items)
  later_moved = frames_moved steps lost file new_file gap (first + size) (front_end + size)
      later.items later.stop [] all later_ends (omega (arith, has.low)) new-later

  moved_by : (o : Option Head)
      → drop front_end new_file ≡ first_bytes steps lost file start.first o ++ after → AreMovedAt
      steps lost file new_file gap (numbered_frames o (start.first ∷ frames_of later.items))
  moved_by None is = (
    image_moved (λ at. at - gap) steps lost file new_file after first_frame
        (ap (λ n. drop n new_file) place ∙ is),
    later_moved,
  )
  moved_by (Some found) is = later_moved

  -- the frames of the file are in the edited one, with moved gains if they aren't lost
  pub frames-moved : AreMovedAt steps lost file new_file gap (frames_from file start)
  frames-moved = subst (λ (r : ItemChain). AreMovedAt steps lost file new_file gap
      (numbered_frames head (frames_of r.items))) (sym has.stream) (moved_by head new-stands)

  first_image : IsImage (λ at. at - gap) steps (λ at. first_stays lost start.first head) file
      new_file start.first
  first_image =
      image_moved (λ at. at - gap) steps (λ at. first_stays lost start.first head) file new_file
      after first_frame (ap (λ n. drop n new_file) place ∙ new-stands)

  -- it is a head if the first frame is one
  pub new-head : head_of new_file (moved_start start).first ≡ option_map (nearer_head gap) head
  new-head =
      ap (head_of new_file) (sym nearer_first)
      ∙ head_of-nearer file new_file gap
      start.first (ap (drop (overhead_of (class_of h) h.protected - 2)) first_image.bytes
      ∙ own_moved.same_end)

  -- its area stays
  pub new-head_area : head_bytes new_file (option_map (nearer_head gap) head)
      ≡ head_bytes file head
  new-head_area = head_bytes-nearer file new_file gap start.first
      (area-image (λ at. at - gap) steps
      (λ at. first_stays lost start.first head) file new_file first_image)

  -- the frames are the file's, nearer by the junk
  pub new-frames : frames_from new_file (moved_start start)
      ≡ map (nearer_frame gap) (frames_from file start)
  new-frames =
      ap₂ numbered_frames new-head
      (ap (λ (r : ItemChain). frames_of r.items) new-stream ∙ frames-nearer gap items)
      ∙ numbered_frames-by (λ at. at - gap) head (frames_of items)
      ∙ ap (λ (r : ItemChain). map (nearer_frame gap) (numbered_frames head (frames_of r.items)))
      (sym has.stream)

  -- the blocks of the front stay, and those of the stream are nearer by the junk
  pub new-blocks : all_blocks new_file (moved_start start)
      ≡ blocks_of front.items ++ map (nearer_piece gap) (blocks_of (stream_chain file start).items)
  new-blocks =
      ap₂ (λ (a b : List Piece). a ++ b) (ap (λ (r : ItemChain). blocks_of r.items) new-front)
      (ap (λ (r : ItemChain). blocks_of r.items) new-stream ∙ blocks-nearer gap items
      ∙ ap (λ (r : ItemChain). map (nearer_piece gap) (blocks_of r.items)) (sym has.stream))
