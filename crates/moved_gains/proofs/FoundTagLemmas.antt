-- The tag's block that a survey finds: it is an APEv2 block, within the file, and is there.
use Rattle.std.proofs.Common.{ap, arith, Bool, cond, drop, Err, false, length, length-drop, List}
use Rattle.std.proofs.Common.{None, Ok, Option, refl, Some, subst, sym, take, true, ℕ, [], ◌+◌, ◌∙◌}
use Rattle.std.proofs.{Common.{◌∷◌, ◌≡◌, ◌≤◌}, lemmas.List.{append-nil, length-take-le}}
use Rattle.std.{proofs.lemmas.List.Folds.find-append, specs.List.{cons_option, find}}
use Rattle.std.specs.Option.{option_or}
use Rattle.moved_gains.specs.TagExtent.{is_tag, last_end, row_end, tag_block}
use Rattle.sync_survey.proofs.ChainLemmas.{item_chain-ends, whole_item_at-is}
use Rattle.sync_survey.proofs.{ItemBytesLemmas.kept_item, ItemsLemmas.stands}
use Rattle.sync_survey.proofs.SurveyPartsLemmas.{survey_fields-parts}
use Rattle.sync_survey.specs.Chains.{AreEndToEnd, block_of_item, blocks_of, item_chain, PlacedItem}
use Rattle.sync_survey.specs.Chains.{whole_item_at}
use Rattle.sync_survey.specs.Faults.{longest_file, survey_fields, SurveyFields}
use Rattle.sync_survey.specs.{Items.{IsItemFront, item_front, size_of}, Row.Row}
use Rattle.sync_survey.specs.Survey.{BlocksAreLaid, FramesAreLaid, IsSurveyLaidOut, survey_of}
use Rattle.sync_survey.specs.{Walk.{all_blocks, stream_chain}, declared.chains.Region.Region}
use Rattle.sync_survey.specs.declared.{chains.Region.TheVariants.{Front, Stream}, items.Item.Item}
use Rattle.sync_survey.specs.declared.{items.Item.TheVariants.Block, places.Piece.Piece}
use Rattle.sync_survey.specs.declared.{places.Start.Start, survey_fault.SurveyFault.SurveyFault}
use Rattle.tag_blocks.specs.{Blocks.block_front, declared.block.Block.Block as TagBlock}
use Rattle.tag_blocks.specs.declared.block.Kind.{Kind, TheVariants.Ape}

-- ---- the first of several blocks

ape_by : (at size : ℕ) {kind : Kind}
    → is_tag (record { offset = at; block = record { kind = kind; length = size } }) ≡ true
    → kind ≡ Ape
ape_by at size is = grind arith

-- a tag is an APEv2 block
pub tag_kind : (b : Piece) → is_tag b ≡ true
    → b.block ≡ record { kind = Ape; length = b.block.length }
tag_kind b is = grind (arith, ape_by)

found_by : {x b : Piece} (xs : List Piece) (P : Type 0) {t : Bool} → is_tag x ≡ t
    → cond t (Some x) (find is_tag xs) ≡ Some b → (is_tag x ≡ true → x ≡ b → P)
    → (is_tag x ≡ false → find is_tag xs ≡ Some b → P) → P
found_by xs P is e here later = grind arith

-- the first tag is the first block, or the first tag after it
pub found_case : {x b : Piece} (xs : List Piece) (P : Type 0) → find is_tag (x ∷ xs) ≡ Some b
    → (is_tag x ≡ true → x ≡ b → P) → (is_tag x ≡ false → find is_tag xs ≡ Some b → P) → P
found_case {x} {b} xs P e here later = found_by xs P refl e here later

-- what is found is a tag
pub found_tag : (xs : List Piece) {b : Piece} → find is_tag xs ≡ Some b → is_tag b ≡ true
found_tag [] e = absurd cc
found_tag (x ∷ xs) {b} e = found_case xs (is_tag b ≡ true) e
    (λ is same. subst (λ y. is_tag y ≡ true) same is) (λ none rest. found_tag xs rest)

-- ---- where it is

laid_from : (from : ℕ) (xs : List Piece) {to : ℕ} → BlocksAreLaid from xs to → from ≤ to
laid_from from [] laid = laid
laid_from from (x ∷ xs) {to} laid = grind (arith, laid_from (x.offset + x.block.length) xs laid.1)

tag_laid : (from : ℕ) (xs : List Piece) {to : ℕ} {b : Piece} → BlocksAreLaid from xs to
    → find is_tag xs ≡ Some b → b.offset + b.block.length ≤ to
tag_laid from [] laid e = absurd cc
tag_laid from (x ∷ xs) {to} {b} laid e =
    found_case xs (b.offset + b.block.length ≤ to) e
    (λ is same. subst (λ (y : Piece). y.offset + y.block.length ≤ to) same
    (laid_from (x.offset + x.block.length) xs laid.1))
    (λ none rest. tag_laid (x.offset + x.block.length) xs laid.1 rest)

-- the tag is within the length
pub tag-within : {s : SurveyFields} {b : Piece} → IsSurveyLaidOut s → tag_block s ≡ Some b
    → b.offset + b.block.length ≤ s.length
tag-within {s} {b} laid e = tag_laid 0 s.blocks laid.blocks e

-- ---- it is in the file

module _ (part : Region) (file : List ℕ) where
  one_found : (at : ℕ) {item : Item} (bs : List Piece) {b : Piece} → whole_item_at part file at
      ≡ Some item
      → (find is_tag bs ≡ Some b → whole_item_at part file b.offset ≡ Some (Block b.block))
      → find is_tag (cons_option (block_of_item at item) bs) ≡ Some b
      → whole_item_at part file b.offset ≡ Some (Block b.block)
  one_found at bs here later e = grind arith

  -- a block found among consecutive items is there
  pub found_item : (from : ℕ) (ps : List PlacedItem) (to : ℕ) {b : Piece}
      → AreEndToEnd part file from ps to → find is_tag (blocks_of ps) ≡ Some b
      → whole_item_at part file b.offset ≡ Some (Block b.block)
  found_item from [] to ends e = absurd cc
  found_item from (p ∷ ps) to {b} ends e = one_found p.offset (blocks_of ps)
      ends.1 (found_item (p.offset + size_of p.item) ps to ends.2) e

-- the bytes of a whole block are that block
pub own_block : (part : Region) (file : List ℕ) (at : ℕ) {b : TagBlock}
    → whole_item_at part file at ≡ Some (Block b)
    → (at + b.length ≤ length file) × (block_front (take b.length (drop at file)) ≡ Some b)
own_block part file at {b} is =
    let here = whole_item_at-is part file at (Block b) is in
    let own = take b.length (drop at file) in
    let kept = kept_item file at (Block b) here.is refl here.within in
    let front : item_front own ≡ Block b = ap item_front (sym (append-nil own)) ∙ kept.known [] in
    (here.within, subst (IsItemFront own) front (stands own))

-- the bytes of a tag, and their number
pub record IsTagThere (file : List ℕ) (b : Piece) : Type 0 where
  pub within : b.offset + b.block.length ≤ length file
  pub long : length (take b.block.length (drop b.offset file)) ≡ b.block.length
  pub front : block_front (take b.block.length (drop b.offset file))
      ≡ Some (record { kind = Ape; length = length (take b.block.length (drop b.offset file)) })

there_by : (part : Region) {file : List ℕ} {b : Piece} → is_tag b ≡ true
    → whole_item_at part file b.offset ≡ Some (Block b.block) → IsTagThere file b
there_by part {file} {b} tag is =
    let own = own_block part file b.offset is in
    let size = b.block.length in
    let long : length (take size (drop b.offset file)) ≡ size =
    length-take-le size (drop b.offset file) (omega (arith, own.0, length-drop b.offset file)) in
    record {
      within = own.0;
      long = long;
      front = grind (arith, tag_kind, long);
    }

all_cases : {file : List ℕ} (start : Start) {b : Piece} (o : Option Piece)
    → find is_tag (all_blocks file start) ≡ Some b
    → find is_tag (blocks_of (item_chain Front file 0).items) ≡ o
    → option_or o (find is_tag (blocks_of (stream_chain file start).items)) ≡ Some b
    → IsTagThere file b
all_cases {file} start {b} None found is e =
    there_by Stream (found_tag (all_blocks file start)
    found) (found_item Stream file start.first.offset (stream_chain file start).items
    (stream_chain file start).stop (item_chain-ends Stream file start.first.offset) e)
all_cases {file} start {b} (Some x) found is e =
    there_by Front (found_tag (all_blocks file start) found) (found_item Front file 0
    (item_chain Front file 0).items (item_chain Front file 0).stop (item_chain-ends Front file 0)
    (is ∙ e))

-- the tag's block that a survey finds is an APEv2 block in the file
pub tag-there : {file : List ℕ} (allowed : ℕ) {s : SurveyFields} {b : Piece}
    → survey_fields file allowed ≡ Ok s → tag_block s ≡ Some b → IsTagThere file b
tag-there {file} allowed {s} {b} e found =
    let parts = survey_fields-parts e in
    let start = parts.0 in
    let told : find is_tag (all_blocks file start) ≡ Some b = grind arith in
    all_cases start (find is_tag (blocks_of (item_chain Front file 0).items)) told refl
    (sym (find-append is_tag (blocks_of (item_chain Front file 0).items)
    (blocks_of (stream_chain file start).items)) ∙ told)

-- ---- the survey of a file that isn't too long

survey_cases : (file : List ℕ) (allowed : ℕ) (fault : SurveyFault) {s : SurveyFields} (long : Bool)
    → cond long (Err fault) (survey_fields file allowed) ≡ Ok s → survey_fields file allowed ≡ Ok s
survey_cases file allowed fault long e = grind arith

-- the survey of a file that isn't too long is the survey of its bytes
pub survey_of-survey_fields : (file : List ℕ) (allowed : ℕ) {s : SurveyFields}
    → survey_of file allowed ≡ Ok s → survey_fields file allowed ≡ Ok s
unfolding survey_of
survey_of-survey_fields file allowed {s} e = survey_cases file allowed _ _ e

-- a survey says how long the file is
pub survey_fields-length : (file : List ℕ) (allowed : ℕ) {s : SurveyFields}
    → survey_fields file allowed ≡ Ok s → length file ≡ s.length
survey_fields-length file allowed e = grind (arith, survey_fields-parts)

-- ---- the end of the last frame

-- one more frame before others doesn't change the end of the last
pub last_more : (r q : Row) (rows : List Row) → last_end (r ∷ q ∷ rows) ≡ last_end (q ∷ rows)
last_more r q rows = grind arith

-- the end of one frame is its own
pub last_one : (r : Row) → last_end (r ∷ []) ≡ row_end r
last_one r = refl

last_laid : (from : ℕ) (rows : List Row) {to : ℕ} → FramesAreLaid from rows to → last_end rows ≤ to
last_laid from [] laid = omega arith
last_laid from (r ∷ []) laid = omega (arith, last_one r, laid.2)
last_laid from (r ∷ q ∷ rows) {to} laid =
    omega (arith, last_more r q rows, last_laid (row_end r) (q ∷ rows) laid.2)

-- the end of the last frame isn't past the greatest length of a file
pub last-within : {s : SurveyFields} → IsSurveyLaidOut s → last_end s.frames ≤ longest_file
last-within {s} laid = omega (arith, last_laid s.first s.frames laid.frames, laid.few)
