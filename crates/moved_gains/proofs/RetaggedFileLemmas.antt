-- The survey of a file with another tag, and its stream.
use Rattle.std.proofs.Common.{ap, ap₂, arith, cond, drop, false, filter, inl, inr, length, List}
use Rattle.std.proofs.Common.{map, None, Ok, Option, option_map, option_to_list, refl, Some, subst}
use Rattle.std.proofs.Common.{sym, take, true, ℕ, [], ◌++◌, ◌+◌, ◌-◌, ◌==◌, ◌∙◌, ◌∷◌, ◌≡◌, ◌≤◌}
use Rattle.std.proofs.lemmas.{Bool.ne_eqb, List.{map-append, take_all}}
use Rattle.moved_gains.proofs.CleanFileLemmas.{blocks-append, frames-is, items, items-blocks}
use Rattle.moved_gains.proofs.CleanFileLemmas.{items-frames, rest, split}
use Rattle.moved_gains.proofs.FoundTagLemmas.{tag-there}
use Rattle.moved_gains.proofs.ImageLemmas.{area-image, head-by, head_area-by, images-append}
use Rattle.moved_gains.proofs.ImageLemmas.{IsFileImage, read-image, stream-image, told-image}
use Rattle.moved_gains.proofs.MovedItemLemmas.{AreKept, ends-append, item-moved, items-moved}
use Rattle.moved_gains.proofs.MovedItemLemmas.{no_steps}
use Rattle.moved_gains.proofs.MovedRowLemmas.{head_by, numbered_either, numbered_frames-by}
use Rattle.moved_gains.proofs.MovedRowLemmas.{place-by, row_by}
use Rattle.moved_gains.proofs.SplitBlockLemmas.{BeginBetween, blocks-before, blocks-behind}
use Rattle.moved_gains.proofs.SplitBlockLemmas.{blocks-stay, IsOld, items-begin}
use Rattle.moved_gains.proofs.{SplitItemLemmas.IsSplit, TagReadingLemmas.place-some}
use Rattle.moved_gains.proofs.TaggedByteLemmas.{front-moved, later-moved, new-length, new-own}
use Rattle.moved_gains.proofs.TaggedByteLemmas.{stays}
use Rattle.moved_gains.proofs.WholeFileLemmas.{clean, clean-start, IsClean, start_with}
use Rattle.moved_gains.specs.TagExtent.{file_with_tag, IsTagBytes, new_blocks, retagged_fields}
use Rattle.moved_gains.specs.TagExtent.{retagged_offset, stands_before, stands_behind, tag_block}
use Rattle.moved_gains.specs.TagExtent.{tag_length, tag_offset}
use Rattle.side_info.specs.declared.side.Side.{Side}
use Rattle.sync_survey.proofs.ChainLemmas.{frames-append, whole_item_at-whole}
use Rattle.sync_survey.proofs.ItemListLemmas.{blocks-by, ends-rise, frame_by, frames-by, piece_by}
use Rattle.sync_survey.proofs.{ItemListLemmas.placed_by, OneItemLemmas.stands-only_at}
use Rattle.sync_survey.proofs.SurveyPartsLemmas.{IsRead, survey_fields-parts, survey_fields-told}
use Rattle.sync_survey.proofs.SurveyPartsLemmas.{told_from}
use Rattle.sync_survey.specs.Chains.{AreEndToEnd, blocks_of, frames_of, PlacedItem, whole_item_at}
use Rattle.sync_survey.specs.Faults.{class_from, stream_of_survey, survey_fields, SurveyFields}
use Rattle.sync_survey.specs.MainData.{granule_lengths, payload_at, row_side, split_bits}
use Rattle.sync_survey.specs.{MainData.{start_of_data, stream_frame, stream_frames}, Row.Row}
use Rattle.sync_survey.specs.Walk.{all_blocks, head_of, numbered_frames}
use Rattle.sync_survey.specs.declared.chains.Region.TheVariants.{Stream}
use Rattle.sync_survey.specs.declared.{items.Item.TheVariants.Block, places.Head.Head}
use Rattle.sync_survey.specs.declared.places.{Piece.Piece, PlacedFrame.PlacedFrame, Start.Start}
use Rattle.tag_blocks.proofs.BlocksLemmas.{block_front-least}
use Rattle.tag_blocks.specs.declared.block.{Block.Block as TagBlock, Kind.TheVariants.Ape}

-- ---- the new tag among the items

-- the block of the new tag
abbrev ape : ℕ → TagBlock
ape n = record { kind = Ape; length = n }

-- the new tag's items at an offset, their blocks, and that they have no frames
record IsNewTag (new : List ℕ) (at n : ℕ) (blocks : List Piece) : Type 0 where
  own : List PlacedItem
  ends : AreEndToEnd Stream new at own (at + n)
  frames_none : frames_of own ≡ []
  blocks_are : blocks_of own ≡ blocks

abbrev blocks_at : ℕ → ℕ → List Piece
blocks_at at n = cond (n == 0) [] (record { offset = at; block = ape n } ∷ [])

new_tag : {new bytes : List ℕ} {at : ℕ} → take (length bytes) (drop at new) ≡ bytes
    → IsTagBytes bytes → IsNewTag new at (length bytes) (blocks_at at (length bytes))
new_tag {new} {bytes} {at} there (inl none) =
    let long : length bytes ≡ 0 = ap length none in
    subst (λ n. IsNewTag new at n (blocks_at at n)) (sym long)
    (record { own = []; ends = omega arith; frames_none = refl; blocks_are = refl })
new_tag {new} {bytes} {at} there (inr is) =
    let n = length bytes in
    let least = block_front-least bytes is in
    let whole : whole_item_at Stream bytes 0 ≡ Some (Block (ape n)) =
    whole_item_at-whole Stream bytes 0
    (Block (ape n)) (sym (stands-only_at bytes 0 (Block (ape n)) is)) refl (omega arith) in
    let all : take n (drop 0 bytes) ≡ bytes = take_all n bytes (omega arith) in
    let here = item-moved bytes new 0 at whole (there ∙ sym all) in
    let some : (n == 0) ≡ false = ne_eqb n 0 (λ e. omega (arith, e, least)) in
    record {
      own = record { offset = at; item = Block (ape n) } ∷ [];
      ends = (refl, here, refl);
      frames_none = refl;
      blocks_are = sym (rw some refl);
    }

module _ {file : List ℕ} {allowed : ℕ} {start : Start} (read : IsRead file allowed start)
    (no_junk : start.front_end ≡ start.first.offset) {bytes : List ℕ} (are : IsTagBytes bytes) where
  abbrev s : SurveyFields
  s = told_from file start

  abbrev n : ℕ
  n = length bytes

  abbrev new : List ℕ
  new = file_with_tag bytes s file

  abbrev to : ℕ → ℕ
  to = retagged_offset n s

  abbrev cut : ℕ
  cut = tag_offset s

  abbrev gone : ℕ
  gone = tag_length s

  abbrev head : Option Head
  head = head_of file start.first

  abbrev all : List PlacedFrame
  all = start.first ∷ rest read no_junk

  abbrev parts : IsSplit file (items read no_junk) 0 cut (cut + gone)
      (length file) (option_to_list (tag_block s))
  parts = split read no_junk

  -- the tag is within the file
  pub room : cut + gone ≤ length file
  room = ends-rise Stream file (cut + gone) parts.rest parts.behind

  tag : IsNewTag new cut n (blocks_at cut n)
  tag = new_tag (new-own bytes file s room) are

  -- ---- the items of the new file

  abbrev before : List PlacedItem
  before = map (placed_by to) parts.front

  abbrev behind : List PlacedItem
  behind = map (placed_by to) parts.rest

  abbrev new_items : List PlacedItem
  new_items = before ++ (tag.own ++ behind)

  low : AreEndToEnd Stream new 0 before (0 + (cut - 0))
      × AreKept to file new (frames_of parts.front)
  low = items-moved to file new 0 parts.front parts.before (front-moved bytes file s room)

  high : AreEndToEnd Stream new (cut + n) behind ((cut + n) + (length file - (cut + gone)))
      × AreKept to file new (frames_of parts.rest)
  high = items-moved to file new (cut + gone) parts.rest parts.behind
      (later-moved bytes file s room)

  new_ends : AreEndToEnd Stream new 0 new_items (length new)
  new_ends =
      let mid : 0 + (cut - 0) ≡ cut = omega arith in
      let end : (cut + n) + (length file - (cut + gone)) ≡ length new =
      omega (arith, new-length bytes file s room, room) in
      ends-append Stream new 0 before cut (tag.own ++ behind) (length new)
      (subst (λ m. AreEndToEnd Stream new 0 before m) mid low.0)
      (ends-append Stream new cut tag.own (cut + n) behind
      (length new) tag.ends (subst (λ m. AreEndToEnd Stream new (cut + n) behind m) end high.0))

  old_frames : frames_of parts.front ++ frames_of parts.rest ≡ all
  old_frames = sym parts.frames ∙ items-frames read no_junk

  new_frames : frames_of new_items ≡ map (frame_by to) all
  new_frames =
      frames-append before (tag.own ++ behind)
      ∙ ap₂ (λ (a b : List PlacedFrame). a ++ b) (frames-by to parts.front) (frames-append tag.own
      behind ∙ ap₂ (λ (a b : List PlacedFrame). a ++ b) tag.frames_none (frames-by to parts.rest))
      ∙ sym (map-append (frame_by to) (frames_of parts.front) (frames_of parts.rest))
      ∙ ap (map (frame_by to)) old_frames

  kept : AreKept to file new all
  kept = grind (arith, old_frames, images-append, no_steps, parts.front, parts.rest, low.1, high.1)

  -- ---- the blocks

  is_old : (o : Option Piece) → tag_block s ≡ o → IsOld s o
  is_old None is = tt
  is_old (Some b) is =
      let place = place-some s is in
      let there = tag-there allowed (survey_fields-told read) is in
      let least = block_front-least _ there.front in
      (sym place.0, omega (arith, place.1, least, there.long))

  old_blocks : s.blocks
      ≡ blocks_of parts.front ++ (option_to_list (tag_block s) ++ blocks_of parts.rest)
  old_blocks = sym (items-blocks read no_junk) ∙ parts.blocks

  front_begin : BeginBetween 0 cut (blocks_of parts.front)
  front_begin = items-begin file 0 parts.front cut parts.before

  rest_begin : BeginBetween (cut + gone) (length file) (blocks_of parts.rest)
  rest_begin = items-begin file (cut + gone) parts.rest (length file) parts.behind

  -- the blocks before the tag are those of the first items
  pub before_is : filter (stands_before s) s.blocks ≡ blocks_of parts.front
  before_is =
      ap (filter (stands_before s)) old_blocks
      ∙ blocks-before s (blocks_of parts.front) (blocks_of parts.rest) (tag_block s) (length file)
      front_begin rest_begin (is_old (tag_block s) refl)

  behind_is : filter (stands_behind s) s.blocks ≡ blocks_of parts.rest
  behind_is =
      ap (filter (stands_behind s)) old_blocks
      ∙ blocks-behind s (blocks_of parts.front) (blocks_of parts.rest) (tag_block s) (length file)
      front_begin rest_begin (is_old (tag_block s) refl)

  new_blocks_are : blocks_of new_items ≡ filter (stands_before s) s.blocks
      ++ (new_blocks n s ++ map (piece_by to) (filter (stands_behind s) s.blocks))
  new_blocks_are =
      let front = blocks-by to parts.front ∙ blocks-stay to 0 cut (blocks_of parts.front)
      front_begin (stays n s) in
      blocks-append before (tag.own ++ behind)
      ∙ ap₂ (λ (a b : List Piece). a ++ b) (front ∙ sym before_is)
      (blocks-append tag.own behind ∙ ap₂ (λ (a b : List Piece). a ++ b)
      tag.blocks_are (blocks-by to parts.rest ∙ ap (map (piece_by to)) (sym behind_is)))

  -- ---- the walk over the new file

  abbrev first : PlacedFrame
  first = frame_by to start.first

  abbrev new_start : Start
  new_start = start_with first

  new_clean : IsClean new 0 first (map (frame_by to) (rest read no_junk))
      (blocks_of new_items)
  new_clean = clean new 0 new_items first
      (map (frame_by to) (rest read no_junk)) new_ends new_frames

  new_head : head_of new first ≡ option_map (head_by to) head
  new_head = head-by to file new start.first kept.0.bytes

  -- the file with another tag is the file's image, with no gain moved
  new_image : IsFileImage to no_steps (λ at. true) file new start new_start
  new_image = record {
    start_is = clean-start new_clean;
    class = refl;
    head = new_head;
    head_area = head_area-by to file new start.first
        (area-image to no_steps (λ at. true) file new kept.0);
    frames = ap₂ numbered_frames new_head new_clean.frames ∙ numbered_frames-by to head all
        ∙ ap (map (frame_by to)) (sym (frames-is read no_junk));
    images = grind (arith, frames-is, numbered_either, rest, kept);
    past = omega (arith, new_clean.stop);
  }

  new_read : IsRead new allowed new_start
  new_read = read-image new_image read

  -- ---- what its survey finds

  new_told : told_from new new_start ≡ retagged_fields n s
  unfolding retagged_fields
  new_told =
      let rows = told-image new_image (row_by to)
      (λ i r is. refl) in
      let blocks : all_blocks new new_start ≡ filter (stands_before s) s.blocks
      ++ (new_blocks n s ++ map (piece_by to) (filter (stands_behind s) s.blocks)) =
      new_clean.blocks_are ∙ new_blocks_are in
      let junk : to start.first.offset ≡ to start.front_end = ap to (sym no_junk) in
      let long = new-length bytes file s room in
      λ i. record {
        frames = rows i;
        blocks = blocks i;
        head = new_head i;
        junk = junk i;
        first = to start.first.offset;
        class = class_from start;
        length = long i;
      }

  -- the survey is the one of the file with another tag
  pub survey-from : survey_fields new allowed ≡ Ok (retagged_fields n s)
  survey-from = survey_fields-told new_read ∙ ap Ok new_told

  -- the stream is the same
  pub stream-from : stream_of_survey new (retagged_fields n s) ≡ stream_of_survey file s
  unfolding stream_of_survey retagged_fields stream_frames
  stream-from =
      let side : Row → Side = λ r. r.side in
      stream-image new_image side
      (λ r frame. frame)
      (λ main i r is. ap (λ n. record (stream_frame main head s.frames i r) {
        payload = split_bits (granule_lengths r.header (row_side r))
            (payload_at main (start_of_data n r) (row_side r));
      }) (place-by to side head s.frames i))

-- ---- from the survey

-- a file without junk has its first frame where its front ends
pub no_junk-start : {s : SurveyFields} (file : List ℕ) (start : Start) → told_from file start ≡ s
    → s.junk ≡ s.first → start.front_end ≡ start.first.offset
no_junk-start file start told clean = grind (arith, clean)

-- a file with another tag has the survey of the file, with that tag
pub survey_fields-retagged_fields : (file : List ℕ) {bytes : List ℕ} (allowed : ℕ)
    {s : SurveyFields} → survey_fields file allowed ≡ Ok s → s.junk ≡ s.first → IsTagBytes bytes
    → survey_fields (file_with_tag bytes s file) allowed ≡ Ok (retagged_fields (length bytes) s)
survey_fields-retagged_fields file allowed e clean are =
    grind (arith, survey_fields-parts, survey-from, no_junk-start, clean)

-- The stream of a file with another tag is the same.
pub stream-retagged_fields : (file : List ℕ) {bytes : List ℕ} (allowed : ℕ) {s : SurveyFields}
    → survey_fields file allowed ≡ Ok s → s.junk ≡ s.first → IsTagBytes bytes
    → stream_of_survey (file_with_tag bytes s file) (retagged_fields (length bytes) s)
    ≡ stream_of_survey file s
stream-retagged_fields file allowed {s} e clean are =
    grind (arith, survey_fields-parts e, stream-from, no_junk-start, clean)
