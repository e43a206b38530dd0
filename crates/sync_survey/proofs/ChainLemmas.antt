-- Items that follow end to end: one more item, and what they are together.
use Rattle.std.proofs.Common.{ap, append-nil, append_assoc, arith, Bool, cond, drop, length, List}
use Rattle.std.proofs.Common.{None, Option, option_to_list, refl, Some, suc, sym, true, zero, ℕ, []}
use Rattle.std.proofs.Common.{◌++◌, ◌+◌, ◌-◌, ◌<◌, ◌∙◌, ◌∷◌, ◌≡◌, ◌≤◌}
use Rattle.std.proofs.lemmas.{Bool.{and_parts, leb-true}, List.{drop-drop, take-append-drop}}
use Rattle.std.{proofs.lemmas.List.Elements.filter_map-append, specs.List.cons_option}
use Rattle.sync_survey.proofs.ItemsLemmas.{size-some}
use Rattle.sync_survey.specs.Chains.{AreEndToEnd, belongs, block_of_item, blocks_of, bytes_of_items}
use Rattle.sync_survey.specs.Chains.{chain_onward, chain_up_to, chain_with_item, frame_of_item}
use Rattle.sync_survey.specs.Chains.{frames_of, item_bytes_in, item_chain, ItemChain, PlacedItem}
use Rattle.sync_survey.specs.Chains.{stopped_chain, whole_item_at}
use Rattle.sync_survey.specs.{Items.{item_at, item_fits, size_of}, declared.chains.Region.Region}
use Rattle.sync_survey.specs.declared.{chains.Region.TheVariants.Front, items.Item.Item}

-- ---- one item

-- a whole item of the part is at the offset
pub record IsItemOf (part : Region) (file : List ℕ) (at : ℕ) (item : Item) : Type 0 where
  pub is : item_at file at ≡ item
  pub belongs : belongs part item ≡ true
  pub within : at + size_of item ≤ length file
  pub some : 0 < size_of item

-- what is given only if it is whole is whole, and is the item
pub whole_cases : {b : Bool} {i j : Item} → cond b (Some i) None ≡ Some j → (b ≡ true) × (i ≡ j)
whole_cases e = grind arith

chain_onward-same : (at : ℕ) (next later : ℕ → ItemChain) (o : Option Item)
    → ((item : Item) → o ≡ Some item → next (at + size_of item) ≡ later (at + size_of item))
    → chain_onward at next o ≡ chain_onward at later o
chain_onward-same at next later o same = grind arith

module _ (part : Region) (file : List ℕ) where
  -- an item that fits is within the file
  pub within_file : (at : ℕ) (item : Item) → item_at file at ≡ item
      → belongs part item ≡ true → item_fits file at item ≡ true → IsItemOf part file at item
  within_file at item is belongs item_fits =
      grind (
        arith,
        size-some part file at item is belongs,
        leb-true (size_of item) (length file - at) item_fits,
      )

  -- an item of a part at an offset is a whole one
  pub whole_item_at-is : (at : ℕ) (item : Item)
      → whole_item_at part file at ≡ Some item → IsItemOf part file at item
  unfolding whole_item_at
  whole_item_at-is at item e = grind (arith, whole_cases, and_parts, within_file)

  -- a whole item of the part at an offset is the item there
  pub whole_item_at-whole : (at : ℕ) (item : Item) → item_at file at ≡ item
      → belongs part item ≡ true → at + size_of item ≤ length file
      → whole_item_at part file at ≡ Some item
  unfolding whole_item_at
  whole_item_at-whole at item is belongs within = grind arith

  none_behind : (at : ℕ) (o : Option Item)
      → whole_item_at part file at ≡ o → length file ≤ at → o ≡ None
  none_behind at o is past = grind (arith, whole_item_at-is)

  -- at the end of the file and past it no item begins
  pub whole_item_at-past : (at : ℕ) → length file ≤ at → whole_item_at part file at ≡ None
  whole_item_at-past at past = none_behind at (whole_item_at part file at) refl past

  -- ---- a chain

  one_more : (n at : ℕ) → chain_up_to (suc n) part file at
      ≡ chain_onward at (λ later. chain_up_to n part file later) (whole_item_at part file at)
  unfolding chain_up_to
  one_more n at = refl

  none_more : (at : ℕ) → chain_up_to zero part file at ≡ stopped_chain at
  unfolding chain_up_to
  none_more at = refl

  -- past the end any bound gives the same chain
  past : (n at : ℕ) → length file ≤ at → chain_up_to n part file at ≡ stopped_chain at
  past zero at le = none_more at
  past (suc n) at le = grind (arith, one_more, whole_item_at-past)

  -- any bound that is at least the number of bytes left gives the same chain
  enough : (m n at : ℕ) → length file ≤ m + at
      → length file ≤ n + at → chain_up_to m part file at ≡ chain_up_to n part file at
  enough zero n at le le' = past zero at (omega (arith, le)) ∙ sym (past n at (omega (arith, le)))
  enough (suc m) zero at le le' = grind (arith, past)
  enough (suc m) (suc n) at le le' =
      one_more m at
      ∙ chain_onward-same at (λ later. chain_up_to m part file later)
      (λ later. chain_up_to n part file later)
      (whole_item_at part file at) (λ item is.
      let here = whole_item_at-is at item is in
      enough m n (at + size_of item) (omega (arith, le, here.some))
      (omega (arith, le', here.some)))
      ∙ sym (one_more n at)

  -- a chain takes the item at its offset, and continues after it
  pub item_chain-step : (at : ℕ) → item_chain part file at
      ≡ chain_onward at (item_chain part file) (whole_item_at part file at)
  unfolding item_chain
  item_chain-step at =
      grind (arith, enough (length file) (suc (length file)), one_more (length file))

  -- if an item is at the offset, the chain begins with it
  pub item_chain-next : {at : ℕ} {item : Item} → whole_item_at part file at ≡ Some item
      → item_chain part file at ≡ chain_with_item at item (item_chain part file (at + size_of item))
  item_chain-next {at} is = item_chain-step at ∙ ap (chain_onward at (item_chain part file)) is

  -- if none is there, the chain stops
  pub item_chain-stopped_chain : (at : ℕ) → whole_item_at part file at ≡ None
      → item_chain part file at ≡ stopped_chain at
  item_chain-stopped_chain at is =
      item_chain-step at ∙ ap (chain_onward at (item_chain part file)) is

  -- ---- what the items of a chain are together

  chain_onward-ends : (at : ℕ) (next : ℕ → ItemChain) (o : Option Item) → whole_item_at part file at
      ≡ o → ((later : ℕ) → AreEndToEnd part file later (next later).items (next later).stop) →
      AreEndToEnd part file at (chain_onward at next o).items (chain_onward at next o).stop
  chain_onward-ends at next o is ends = grind arith

  ends_up_to : (n at : ℕ) → AreEndToEnd part file at
      (chain_up_to n part file at).items (chain_up_to n part file at).stop
  unfolding chain_up_to
  ends_up_to zero at = refl
  ends_up_to (suc n) at = chain_onward-ends at (λ later. chain_up_to n part file later)
      (whole_item_at part file at) refl (λ later. ends_up_to n later)

  -- the items of a chain follow end to end from its beginning to its stop
  pub item_chain-ends : (from : ℕ) → AreEndToEnd part file from
      (item_chain part file from).items (item_chain part file from).stop
  unfolding item_chain
  item_chain-ends from = ends_up_to (length file) from

  -- no item is after them: there are no more items than bytes
  chain_onward-last : (at : ℕ) (next : ℕ → ItemChain) (o : Option Item)
      → whole_item_at part file at ≡ o → ((item : Item) → o ≡ Some item
      → whole_item_at part file (next (at + size_of item)).stop ≡ None)
      → whole_item_at part file (chain_onward at next o).stop ≡ None
  chain_onward-last at next o is last = grind arith

  last_up_to : (n at : ℕ) → length file ≤ n + at
      → whole_item_at part file (chain_up_to n part file at).stop ≡ None
  unfolding chain_up_to
  last_up_to zero at le = whole_item_at-past at (omega (arith, le))
  last_up_to (suc n) at le =
      chain_onward-last at (λ later. chain_up_to n part file later)
      (whole_item_at part file at) refl
      (λ item is. last_up_to n (at + size_of item)
      (omega (arith, le, (whole_item_at-is at item is).some)))

  -- no further item begins where a chain stops
  pub item_chain-last : (from : ℕ) → whole_item_at part file (item_chain part file from).stop ≡ None
  unfolding item_chain
  item_chain-last from = last_up_to (length file) from (omega arith)

  -- items that follow end to end, with no further one after them, are the chain
  pub item_chain-only : (from : ℕ) (ps : List PlacedItem) {to : ℕ}
      → AreEndToEnd part file from ps to → whole_item_at part file to ≡ None
      → item_chain part file from ≡ record { items = ps; stop = to }
  item_chain-only from [] ends none = grind (arith, item_chain-stopped_chain)
  item_chain-only from (p ∷ ps) {to} ends none =
      grind (arith, item_chain-next, item_chain-only (p.offset + size_of p.item) ps ends.2 none)

  -- items that follow end to end and the bytes after them are the file's bytes from their beginning
  -- on
  pub bytes-ends : (from : ℕ) (ps : List PlacedItem) (to : ℕ)
      → AreEndToEnd part file from ps to → bytes_of_items file ps ++ drop to file ≡ drop from file
  bytes-ends from [] to ends = ap (λ at. drop at file) (sym ends)
  bytes-ends from (p ∷ ps) to ends =
      let size = size_of p.item in
      append_assoc (item_bytes_in file p) (bytes_of_items file ps) (drop to file)
      ∙ ap (λ rest. item_bytes_in file p ++ rest)
      (bytes-ends (p.offset + size) ps to ends.2 ∙ sym (drop-drop size p.offset file))
      ∙ take-append-drop size (drop p.offset file)
      ∙ ap (λ at. drop at file) ends.0

-- ---- frames and blocks among the items of a chain

-- an item that may be there comes before the others
pub cons_list : {X : Type 0} (o : Option X) (xs : List X)
    → cons_option o xs ≡ option_to_list o ++ xs
cons_list o xs = grind arith

no_frame : (at : ℕ) (item : Item) → belongs Front item ≡ true → frame_of_item at item ≡ None
no_frame at item is = grind arith

chain_onward-front : (file : List ℕ) (at : ℕ) (next : ℕ → ItemChain) (o : Option Item)
    → whole_item_at Front file at ≡ o → ((later : ℕ) → frames_of (next later).items ≡ [])
    → frames_of (chain_onward at next o).items ≡ []
chain_onward-front file at next o is none = grind (arith, whole_item_at-is, no_frame)

front_up_to : (n : ℕ) (file : List ℕ) (at : ℕ) → frames_of (chain_up_to n Front file at).items ≡ []
unfolding chain_up_to
front_up_to zero file at = refl
front_up_to (suc n) file at = chain_onward-front file at (λ later. chain_up_to n Front file later)
    (whole_item_at Front file at) refl (λ later. front_up_to n file later)

-- there are no frames in the front
pub front-frames : (file : List ℕ) (from : ℕ) → frames_of (item_chain Front file from).items ≡ []
unfolding item_chain
front-frames file from = front_up_to (length file) file from

-- the frame, if any, at the offset comes first of the frames
pub frames-next : (part : Region) (file : List ℕ) (at : ℕ) {item : Item}
    → whole_item_at part file at ≡ Some item →
    frames_of (item_chain part file at).items
    ≡ option_to_list (frame_of_item at item)
    ++ frames_of (item_chain part file (at + size_of item)).items
frames-next part file at is = grind (arith, item_chain-next, is, cons_list)

-- the block, if any, at the offset comes first of the blocks
pub blocks-next : (part : Region) (file : List ℕ) (at : ℕ) {item : Item}
    → whole_item_at part file at ≡ Some item →
    blocks_of (item_chain part file at).items
    ≡ option_to_list (block_of_item at item)
    ++ blocks_of (item_chain part file (at + size_of item)).items
blocks-next part file at is = grind (arith, item_chain-next, is, cons_list)

-- one more item was kept
pub kept_more : {X : Type 0} (old here : List X) {kept rest : List X} (later : List X)
    {item_if_whole : List X} → kept ≡ old ++ here → rest ≡ here ++ later
    → old ++ rest ≡ item_if_whole → kept ++ later ≡ item_if_whole
kept_more old here later e e' e'' = grind (arith, append_assoc)

-- if nothing is left to keep, all was kept
pub kept_whole : {X : Type 0} {kept rest item_if_whole : List X} → rest ≡ []
    → kept ++ rest ≡ item_if_whole → kept ≡ item_if_whole
kept_whole nothing e = grind (arith, append-nil)

-- the frames of two joined lists of items are those of the first and then those of the second
pub frames-append : (ps qs : List PlacedItem) → frames_of (ps ++ qs) ≡ frames_of ps ++ frames_of qs
frames-append ps qs = filter_map-append (λ (p : PlacedItem). frame_of_item p.offset p.item) ps qs
