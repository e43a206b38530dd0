-- A file of chosen frames has the same blocks before its frames as the file that they are from.
use Rattle.std.proofs.Common.{ap, append-nil, append_assoc, ap₂, arith, cond, drop, filter, length}
use Rattle.std.proofs.Common.{List, map, Ok, Option, option_map, option_to_list, refl, Some, sym}
use Rattle.std.proofs.Common.{take, true, ℕ, [], ◌++◌, ◌+◌, ◌∙◌, ◌∷◌, ◌≡◌, ◌≤◌}
use Rattle.std.proofs.lemmas.Bool.{and_from, and_parts, lt-ltb}
use Rattle.std.proofs.lemmas.List.{drop_at, length-append, length-drop, length-take-le, take_at}
use Rattle.std.specs.List.{concat, cons_option}
use Rattle.frame_header.specs.Fields.{HeaderFields}
use Rattle.frame_writer.specs.Frames.{bytes_of_frames, Frame}
use Rattle.info_header.specs.{InfoFrame.info_frame, declared.fields.Info.Info}
use Rattle.laying.specs.LaidFiles.{block_bytes, blocks_from, frames_offset, laid_fields, laid_file}
use Rattle.laying.specs.Written.{front_blocks, goes_in_front, is_id3v2_kind}
use Rattle.sync_survey.proofs.ChainLemmas.{item_chain-ends, whole_item_at-is}
use Rattle.sync_survey.proofs.{ItemBytesLemmas.block_front-bytes, ItemsLemmas.stands-at}
use Rattle.sync_survey.proofs.SurveyPartsLemmas.{survey_fields-parts}
use Rattle.sync_survey.specs.Chains.{AreEndToEnd, block_of_item, blocks_of, item_chain, PlacedItem}
use Rattle.sync_survey.specs.{Faults.{survey_fields, SurveyFields}, Items.{item_at, size_of}}
use Rattle.sync_survey.specs.{Walk.{all_blocks, stream_chain}, declared.chains.Region.Region}
use Rattle.sync_survey.specs.declared.{chains.Region.TheVariants.{Front, Stream}, items.Item.Item}
use Rattle.sync_survey.specs.declared.{items.Item.TheVariants.Block, places.Piece.Piece}
use Rattle.sync_survey.specs.declared.places.Start.{Start}
use Rattle.tag_blocks.{proofs.BlocksLemmas.block_front-least, specs.Blocks.block_front}
use Rattle.tag_blocks.specs.declared.block.Block.{Block as TagBlock}

-- ---- the blocks of a survey

-- its bytes begin with this block and no more
record IsOwn (file : List ℕ) (p : Piece) : Type 0 where
  block : block_front (block_bytes file p) ≡ Some p.block
  long : p.block.length ≡ length (block_bytes file p)

abbrev AreOwn : List ℕ → List Piece → Type 0
AreOwn file [] = Unit {0}
AreOwn file (p ∷ ps) = IsOwn file p × AreOwn file ps

whole-own : {file : List ℕ} {at : ℕ} {b : TagBlock} → block_front (drop at file) ≡ Some b
    → b.length ≤ length (drop at file)
    → IsOwn file (record { offset = at; block = b })
whole-own {file} {at} {b} is within = record {
  block = ap block_front (sym (append-nil (take b.length (drop at file))))
      ∙ block_front-bytes (drop at file) [] is within;
  long = sym (length-take-le b.length (drop at file) within);
}

own-more : (file : List ℕ) (at : ℕ) (item : Item) (blocks : List Piece) → item_at file at ≡ item
    → at + size_of item ≤ length file → AreOwn file blocks
    → AreOwn file (cons_option (block_of_item at item) blocks)
own-more file at (Block b) blocks is within are = (
  whole-own (stands-at file at (Block b) is)
      (omega (arith, within, length-drop at file)),
  are,
)
own-more file at _ blocks is within are = are

ends-own : (part : Region) (file : List ℕ) (from : ℕ) (ps : List PlacedItem) (to : ℕ)
    → AreEndToEnd part file from ps to → AreOwn file (blocks_of ps)
ends-own part file from [] to ends = tt
ends-own part file from (p ∷ ps) to ends =
    let here = whole_item_at-is part file p.offset p.item ends.1 in
    own-more file p.offset p.item (blocks_of ps) here.is here.within
    (ends-own part file (p.offset + size_of p.item) ps to ends.2)

own-append : (file : List ℕ) (xs ys : List Piece) → AreOwn file xs → AreOwn file ys
    → AreOwn file (xs ++ ys)
own-append file [] ys front back = back
own-append file (x ∷ xs) ys front back = (front.0, own-append file xs ys front.1 back)

all-own : (file : List ℕ) (start : Start) → AreOwn file (all_blocks file start)
all-own file start =
    let front = item_chain Front file 0 in
    let stream = stream_chain file start in
    own-append file (blocks_of front.items) (blocks_of stream.items)
    (ends-own Front file 0 front.items front.stop (item_chain-ends Front file 0))
    (ends-own Stream file start.first.offset stream.items stream.stop
    (item_chain-ends Stream file start.first.offset))

survey_fields-own : (file : List ℕ) (allowed : ℕ) {s : SurveyFields}
    → survey_fields file allowed ≡ Ok s → AreOwn file s.blocks
survey_fields-own file allowed e = grind (arith, survey_fields-parts, all-own)

-- the blocks that go before the frames
abbrev AreFront : List ℕ → List Piece → Type 0
AreFront file [] = Unit {0}
AreFront file (p ∷ ps) = IsOwn file p × (is_id3v2_kind p.block.kind ≡ true) × AreFront file ps

front-of : (file : List ℕ) (s : SurveyFields) (ps : List Piece) → AreOwn file ps
    → AreFront file (filter (goes_in_front s) ps)
front-of file s [] are = tt
front-of file s (p ∷ ps) are = grind (arith, and_parts, front-of file s ps are.1)

-- ---- before the bytes of another file

module _ (file : List ℕ) (t : SurveyFields) (bytes rest : List ℕ) where
  abbrev blocks : List Piece → List (List ℕ)
  blocks ps = map (block_bytes file) ps

  front-again : (ps : List Piece) (before : List ℕ) → AreFront file ps
      → bytes ≡ before ++ (concat (blocks ps) ++ rest)
      → length before + length (concat (blocks ps)) ≤ t.first
      → map (block_bytes bytes) (filter (goes_in_front t) (blocks_from (length before) (blocks ps)))
      ≡ blocks ps
  front-again [] before are is early = refl
  front-again (p ∷ ps) before are is early =
      let own = block_bytes file p in
      let at = length before in
      let here : Piece = record { offset = at; block = p.block } in
      let later = blocks_from (at + length own) (blocks ps) in
      let least = block_front-least own are.0.block in
      let many = length-append own (concat (blocks ps)) in
      let goes : goes_in_front t here ≡ true = grind (arith, and_from, lt-ltb) in
      let bytes_are = is ∙ ap (before ++◌) (append_assoc own (concat (blocks ps)) rest) in
      let first : block_bytes bytes here ≡ own = grind (arith, drop_at, take_at) in
      let moved = sym (length-append before own) in
      ap (λ o.
      map (block_bytes bytes)
      (filter (goes_in_front t)
      (option_to_list (option_map (λ b. record { offset = at; block = b }) o)
      ++ later))) are.0.block
      ∙ ap (λ b.
      map (block_bytes bytes)
      (cond b (here ∷ filter (goes_in_front t) later) (filter (goes_in_front t) later)))
      goes
      ∙ ap₂ (λ (x : List ℕ) (xs : List (List ℕ)). x ∷ xs) first
      (ap (λ n. map (block_bytes bytes) (filter (goes_in_front t) (blocks_from n (blocks ps))))
      moved
      ∙ front-again ps (before ++ own) are.2
      (bytes_are ∙ sym (append_assoc before own (concat (blocks ps) ++ rest)))
      (omega (arith, early, many, moved)))

-- blocks after the frames aren't front blocks
one-behind : (t : SurveyFields) {at : ℕ} (o : Option TagBlock) (ps : List Piece) → t.first ≤ at
    → filter (goes_in_front t)
    (option_to_list (option_map (λ b. record { offset = at; block = b }) o) ++ ps)
    ≡ filter (goes_in_front t) ps
one-behind t o ps late = grind arith

none-behind : (t : SurveyFields) {at : ℕ} (back : List (List ℕ)) → t.first ≤ at
    → filter (goes_in_front t) (blocks_from at back) ≡ []
none-behind t [] late = refl
none-behind t {at} (b ∷ back) late =
    grind (arith, one-behind, none-behind t {at = at + length b} back (omega (arith, late)))

filter-append : (t : SurveyFields) (xs ys : List Piece)
    → filter (goes_in_front t) (xs ++ ys)
    ≡ filter (goes_in_front t) xs ++ filter (goes_in_front t) ys
filter-append t [] ys = refl
filter-append t (x ∷ xs) ys = grind (arith, filter-append t xs ys)

module _ (file : List ℕ) {s : SurveyFields} (allowed : ℕ) (e : survey_fields file allowed ≡ Ok s)
    (first : HeaderFields) (info : Info)
    (frames : List Frame) (back : List (List ℕ)) where
  abbrev front : List (List ℕ)
  front = front_blocks file s

  abbrev made : List ℕ
  made = laid_file front first info frames back

  abbrev fields : SurveyFields
  fields = laid_fields front first info frames back

  -- the front blocks of the written file are those of the file that it is made from
  pub front-stays : front_blocks made fields ≡ front
  unfolding laid_file laid_fields
  front-stays =
      let at = frames_offset front first info + length (bytes_of_frames frames) in
      ap (map (block_bytes made))
      (filter-append fields (blocks_from 0 front) (blocks_from at back)
      ∙ ap (filter (goes_in_front fields) (blocks_from 0 front) ++◌)
      (none-behind fields back (omega arith))
      ∙ append-nil (filter (goes_in_front fields) (blocks_from 0 front)))
      ∙ front-again file fields made
      (info_frame first info ++ (bytes_of_frames frames ++ concat back))
      (filter (goes_in_front s) s.blocks) []
      (front-of file s s.blocks (survey_fields-own file allowed e)) refl (omega arith)
