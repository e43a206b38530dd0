-- A file without fault and without junk: all its bytes are items, which split at its tag.
use Rattle.std.proofs.Common.{ap, arith, length, List, None, Option, option_to_list, refl, Some}
use Rattle.std.proofs.Common.{subst, sym, ℕ, [], ◌++◌, ◌+◌, ◌∙◌, ◌∷◌, ◌≡◌}
use Rattle.std.{proofs.lemmas.List.Elements.filter_map-append, specs.List.find}
use Rattle.moved_gains.proofs.MovedItemLemmas.{ends-append}
use Rattle.moved_gains.proofs.ReadFileLemmas.{has_stream, HasStream, later_chain}
use Rattle.moved_gains.proofs.SplitItemLemmas.{final, IsSplit, last-told, split-last, split-tag}
use Rattle.moved_gains.proofs.{SplitItemLemmas.stop_of, TagReadingLemmas.place-some}
use Rattle.moved_gains.specs.TagExtent.{is_tag, tag_block, tag_length, tag_offset}
use Rattle.sync_survey.proofs.ChainLemmas.{frames-append, front-frames, item_chain-ends}
use Rattle.sync_survey.proofs.ItemListLemmas.{ends-stream}
use Rattle.sync_survey.proofs.SurveyPartsLemmas.{frames_from, IsRead, told_from}
use Rattle.sync_survey.specs.Chains.{AreEndToEnd, block_of_item, blocks_of, frames_of, item_chain}
use Rattle.sync_survey.specs.{Chains.{ItemChain, PlacedItem}, Faults.SurveyFields}
use Rattle.sync_survey.specs.Walk.{end_fault, head_of, numbered_frames, stream_chain}
use Rattle.sync_survey.specs.declared.{chains.Region.TheVariants.{Front, Stream}, places.Head.Head}
use Rattle.sync_survey.specs.declared.places.{Piece.Piece, PlacedFrame.PlacedFrame, Start.Start}
use Rattle.sync_survey.specs.declared.survey_fault.SurveyFault.{SurveyFault}

some_frames : (file : List ℕ) {frames : List PlacedFrame} (o : Option SurveyFault)
    → end_fault file frames o ≡ None → frames ≡ [] → ⊥
some_frames file o e none = grind arith

-- the blocks of concatenated items are the blocks of the first items, then of the others
pub blocks-append : (ps qs : List PlacedItem) → blocks_of (ps ++ qs) ≡ blocks_of ps ++ blocks_of qs
blocks-append ps qs = filter_map-append (λ (p : PlacedItem). block_of_item p.offset p.item) ps qs

module _ {file : List ℕ} {allowed : ℕ} {start : Start} (read : IsRead file allowed start)
    (no_junk : start.front_end ≡ start.first.offset) where
  abbrev s : SurveyFields
  s = told_from file start

  abbrev front : ItemChain
  front = item_chain Front file 0

  abbrev stream : ItemChain
  stream = stream_chain file start

  abbrev pub items : List PlacedItem
  items = front.items ++ stream.items

  abbrev pub rest : List PlacedFrame
  rest = frames_of (later_chain file start).items

  has : HasStream file start
  has = has_stream read

  -- all bytes are items
  pub items-end : AreEndToEnd Stream file 0 items (length file)
  items-end =
      ends-append Stream file 0 front.items start.first.offset stream.items (length file)
      (subst (λ n. AreEndToEnd Stream file 0 front.items n) (has.front ∙ no_junk)
      (ends-stream Front file 0 front.items front.stop (item_chain-ends Front file 0)))
      (subst (λ n. AreEndToEnd Stream file start.first.offset stream.items n)
      (ap (λ (r : ItemChain). r.stop) has.stream ∙ has.stop)
      (item_chain-ends Stream file start.first.offset))

  -- the frames of the stream are the first frame and the others
  pub stream-frames : frames_of stream.items ≡ start.first ∷ rest
  stream-frames = ap (λ (r : ItemChain). frames_of r.items) has.stream

  -- the frames of all items are the frames of the stream
  pub items-frames : frames_of items ≡ start.first ∷ rest
  items-frames = grind (arith, frames-append, front-frames, stream-frames)

  -- the blocks of the items are the survey's
  pub items-blocks : blocks_of items ≡ s.blocks
  items-blocks = blocks-append front.items stream.items

  abbrev head : Option Head
  head = head_of file start.first

  -- the frames of the survey are all frames, or all after the head
  pub frames-is : frames_from file start ≡ numbered_frames head (start.first ∷ rest)
  frames-is = ap (numbered_frames head) stream-frames

  split_by : (o : Option Piece) → tag_block s ≡ o → IsSplit file items 0 (tag_offset s)
      (tag_offset s + tag_length s) (length file) (option_to_list o)
  split_by (Some b) is = grind (arith, place-some, items-blocks, split-tag, items-end)
  split_by None is =
      let none : find is_tag (blocks_of items) ≡ None = ap (find is_tag) items-blocks ∙ is in
      let split =
      split-last file (length file) 0 items items-end items-frames none in
      let long : tag_length s ≡ 0 = rw is refl in
      let last : tag_offset s ≡ stop_of (final start.first rest) =
      grind (arith, frames-is, last-told, some_frames, frames_from) in
      let next : tag_offset s + tag_length s ≡ stop_of (final start.first rest) =
      omega (arith, long, last) in
      subst (λ m. IsSplit file items 0 m (tag_offset s + tag_length s) (length file) []) (sym last)
      (subst (λ n. IsSplit file items 0 (stop_of (final start.first rest)) n (length file) [])
      (sym next) split)

  -- the items split at the tag
  pub split : IsSplit file items 0 (tag_offset s) (tag_offset s + tag_length s) (length file)
      (option_to_list (tag_block s))
  split = split_by (tag_block s) refl
