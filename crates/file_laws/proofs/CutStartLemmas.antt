-- Where the stream of a file that was cut short starts.
use Rattle.std.proofs.Common.{ap, arith, codes, drop, Err, get_or, inl, inr, length, List, None, Ok}
use Rattle.std.proofs.Common.{Option, Some, sym, take, true, ℕ, ◌+◌, ◌-◌, ◌<◌, ◌∙◌, ◌≡◌, ◌≤◌}
use Rattle.std.proofs.lemmas.Bool.{and_parts, cases_lt, false≢true}
use Rattle.std.proofs.lemmas.List.{get_or-drop, get_or-take, take-take}
use Rattle.file_laws.proofs.CutItemLemmas.{cut, drop-cut, IsCutThrough, length-cut, text-long}
use Rattle.frame_header.proofs.HeaderLemmas.{IsClass-class_of}
use Rattle.frame_header.proofs.LengthLemmas.{least_length, length-least}
use Rattle.frame_header.specs.{Fields.{HeaderFields, IsHeader}, Tables.{class_of, length_of}}
use Rattle.frame_header.specs.declared.header.NotHeader.TheVariants.{No}
use Rattle.sync_survey.proofs.ChainLemmas.{whole_item_at-is}
use Rattle.sync_survey.proofs.ItemBytesLemmas.{block_of_kind-take, header_front-four, known_by}
use Rattle.sync_survey.proofs.ItemsLemmas.{header_front-in_range, stands-at}
use Rattle.sync_survey.proofs.OneItemLemmas.{no_header, stands-only_at}
use Rattle.sync_survey.proofs.StartLemmas.{anchored_frame-is, first_anchored-none}
use Rattle.sync_survey.specs.{Chains.belongs, Items.{header_front, IsItemFront, item_at, size_of}}
use Rattle.sync_survey.specs.Start.{anchored_frame, first_anchored, longest_junk, start_after_junk}
use Rattle.sync_survey.specs.declared.{chains.Region.TheVariants.Stream, items.Item.Item}
use Rattle.sync_survey.specs.declared.items.Item.TheVariants.{Block, End, Frame, Free, Nothing}
use Rattle.sync_survey.specs.declared.{items.Item.TheVariants.Zero, places.PlacedFrame.PlacedFrame}
use Rattle.sync_survey.specs.declared.survey_fault.SurveyFault.TheVariants.{NoFrame}
use Rattle.tag_blocks.proofs.BlocksLemmas.{block_front-any, block_front-begins, block_front-own}
use Rattle.tag_blocks.specs.Blocks.{begins, block_front, is_ape}
use Rattle.tag_blocks.specs.declared.block.{Block.Block as TagBlock, Kind.{Kind, TheVariants.Ape}}

-- ---- no frame after an item that was cut through and isn't known

least-24 : {h : HeaderFields} → IsHeader h → 24 ≤ length_of (class_of h) h.slot
least-24 is = grind (arith, length-least, IsClass-class_of, least_length)

ape-text : (bytes : List ℕ) → is_ape bytes ≡ true → take 8 bytes ≡ codes "APETAGEX"
unfolding is_ape
ape-text bytes is = grind (arith, text-long, codes, and_parts)

text-low : {j : ℕ} → j < 8 → get_or (codes "APETAGEX") j 0 < 255
text-low within = grind arith

few-known : {kind : Kind} {k : ℕ} → 25 ≤ k → k < known_by kind → (kind ≡ Ape) × (k < 32)
few-known many few = grind arith

module _ (file : List ℕ) {n : ℕ} (within : n ≤ length file) where
  abbrev now : List ℕ
  now = cut file within

  -- the frame at a later offset that would be whole
  record IsLater (at : ℕ) (h : HeaderFields) (offset : ℕ) : Type 0 where
    low : at < offset
    here : header_front (drop offset now) ≡ Ok h
    high : offset + 24 ≤ n

  header-kept : (at : ℕ) {h : HeaderFields} → header_front (drop at file) ≡ Ok h → at + 4 ≤ n
      → item_at now at ≡ Frame h
  header-kept at {h} here high =
      sym (stands-only_at now at (Frame h)
      (ap header_front (drop-cut file within (omega (arith, high)))
      ∙ header_front-four (take (n - at) (drop at file)) (drop at file)
      (take-take 4 (n - at) (drop at file) (omega (arith, high)))
      ∙ here))

  block-kept : (at : ℕ) {b : TagBlock} → block_front (drop at file) ≡ Some b
      → at + known_by b.kind ≤ n → item_at now at ≡ Block b
  block-kept at {b} here high =
      let bytes = drop at file in
      let k = n - at in
      sym (stands-only_at now at (Block b)
      (ap block_front (drop-cut file within (omega (arith, high)))
      ∙ block_front-any b.kind (take k bytes)
      (block_of_kind-take b.kind bytes (omega (arith, high)) ∙ block_front-own bytes here)))

  byte-there : {at offset : ℕ} → at ≤ offset → offset < n
      → get_or (drop offset now) 0 0 ≡ get_or (drop at file) (offset - at) 0
  byte-there low high = grind (arith, low, get_or-drop, get_or-take, high)

  ape-none : {at : ℕ} {b : TagBlock} {h : HeaderFields} {offset : ℕ}
      → block_front (drop at file) ≡ Some b → IsLater at h offset → (b.kind ≡ Ape) × (n - at < 32)
      → ⊥
  ape-none {at} {b} {h} {offset} here later few =
      let bytes = drop at file in
      let j = offset - at in
      let ape : begins Ape bytes ≡ true =
      grind (arith, block_front-begins bytes {b = b} here, here) in
      let small : j < 8 = omega (arith, few.1, later.low, later.high) in
      let low : get_or (drop offset now) 0 0 < 255 =
      omega (
        arith,
        text-low {j = j} small,
        byte-there {at = at} {offset = offset} (omega (arith, later.low))
            (omega (arith, later.high)),
        get_or-take 8 bytes j 0 small,
        ap (λ (xs : List ℕ). get_or xs j 0) (ape-text bytes ape),
      ) in
      let no : Ok h ≡ Err No = sym later.here ∙ no_header (drop offset now) low in
      absurd cc

  later-none : {at : ℕ} (item : Item) {h : HeaderFields} {offset : ℕ}
      → IsItemFront (drop at file) item → belongs Stream item ≡ true → n < at + size_of item
      → (item_at now at ≡ item → ⊥) → IsLater at h offset → ⊥
  later-none (Frame g) here is over unknown later = grind (arith, header-kept, here)
  later-none Free here is over unknown later = false≢true is
  later-none {at} (Block b) {h} {offset} here is over unknown later =
      elim (cases_lt (n - at) (known_by b.kind)) as (λ _. ⊥) [
        | inl few ↦ ape-none here later
            (few-known (omega (arith, later.low, later.high)) few)
        | inr many ↦ unknown (block-kept at here (omega (arith, many, later.low, later.high)))
      ]
  later-none Zero here is over unknown later = grind arith
  later-none End here is over unknown later = false≢true is
  later-none Nothing here is over unknown later = false≢true is

  no-placed : {o : Option PlacedFrame} → ((p : PlacedFrame) → o ≡ Some p → ⊥) → o ≡ None
  no-placed not = grind arith

  -- no frame is anchored after an item that was cut through
  pub no-anchor : {at : ℕ} {item : Item} → IsCutThrough file within Stream at item
      → (item_at now at ≡ item → ⊥) → {offset : ℕ} → at < offset → anchored_frame now offset ≡ None
  no-anchor {at} {item} through unknown {offset} behind =
      no-placed (λ p is.
      let anchored = anchored_frame-is is in
      let header : header_front (drop p.offset now) ≡ Ok p.header =
      stands-at now p.offset (Frame p.header) anchored.frame.is in
      let size = least-24 (header_front-in_range (drop p.offset now) header) in
      let whole = whole_item_at-is Stream file at item through.is in
      later-none item (stands-at file at item whole.is)
      whole.belongs through.over unknown
      (record {
        low = omega (arith, behind, anchored.offset);
        here = header;
        high = omega (arith, size, anchored.frame.within, length-cut file within);
      }))

  -- there is no frame
  pub no-start : {at : ℕ} {item : Item} → IsCutThrough file within Stream at item
      → (item_at now at ≡ item → ⊥)
      → start_after_junk at (first_anchored longest_junk now (at + 1)) ≡ Err (NoFrame at)
  no-start through unknown = grind (arith, first_anchored-none, no-anchor)
