-- The items of a file with moved gains are the same items, and its frames are where they were.
use Rattle.std.proofs.Common.{ap, append_assoc, arith, Bool, drop, length, length-drop, List, refl}
use Rattle.std.proofs.Common.{sym, take, true, ℕ, [], ◌++◌, ◌+◌, ◌-◌, ◌∙◌, ◌∷◌, ◌≡◌, ◌≤◌}
use Rattle.std.proofs.lemmas.{Bool.false≢true, List.{drop-drop, drop_at, length-take-le, take-take}}
use Rattle.std.specs.List.{cons_option}
use Rattle.bit_fields.{proofs.BitsLemmas.{AreBelow-drop, AreBelow-take}, specs.Bits.AreBytes}
use Rattle.frame_header.specs.Fields.{HeaderFields}
use Rattle.moved_gains.proofs.ImageLemmas.{AreImages, image_moved}
use Rattle.moved_gains.proofs.MovedFrameLemmas.{IsWhole, moved_whole, whole_item}
use Rattle.moved_gains.specs.Edited.{moved_item, moved_items}
use Rattle.requests.specs.declared.shift.Steps.{Steps}
use Rattle.sync_survey.proofs.ChainLemmas.{whole_item_at-is}
use Rattle.sync_survey.proofs.ItemBytesLemmas.{frame-least, header_front-four, IsItem, kept_item}
use Rattle.sync_survey.proofs.ItemListLemmas.{AreItems, items_of}
use Rattle.sync_survey.proofs.ItemsLemmas.{header_front-in_range, stands-at}
use Rattle.sync_survey.specs.Chains.{AreEndToEnd, belongs, frame_of_item, frames_of, item_bytes_in}
use Rattle.sync_survey.specs.{Chains.PlacedItem, Items.{item_at, size_of}}
use Rattle.sync_survey.specs.declared.{chains.Region.TheVariants.Stream, items.Item.Item}
use Rattle.sync_survey.specs.declared.items.Item.TheVariants.{Block, Frame, Zero}
use Rattle.sync_survey.specs.declared.places.PlacedFrame.{PlacedFrame}

-- ---- one item

-- the bytes of a whole frame of a file are a whole frame
pub frame_whole : (file : List ℕ) (at : ℕ) {h : HeaderFields} → AreBytes file
    → item_at file at ≡ Frame h → at + size_of (Frame h) ≤ length file
    → IsWhole h (take (size_of (Frame h)) (drop at file))
frame_whole file at {h} all is within =
    let bytes = drop at file in
    let size = size_of (Frame h) in
    let header = stands-at file at (Frame h) is in
    record {
      header = header_front-four (take size bytes) bytes
          (take-take 4 size bytes (frame-least (header_front-in_range bytes header))) ∙ header;
      size = length-take-le size bytes (omega (arith, within, length-drop at file));
      all = AreBelow-take 256 size bytes (AreBelow-drop 256 at file all);
    }

-- a whole item of a file with moved gains is the same item
pub moved_own : (steps : Steps) (lost : Bool) (file : List ℕ) (at : ℕ) (item : Item) → AreBytes file
    → item_at file at ≡ item → belongs Stream item ≡ true → at + size_of item ≤ length file
    → IsItem item (moved_item steps lost item (take (size_of item) (drop at file)))
moved_own steps lost file at (Frame h) all is belongs within =
    let frame = take (size_of (Frame h)) (drop at file) in
    whole_item
    (moved_whole lost steps (frame_whole file at all is within)).whole
moved_own steps lost file at (Block b) all is belongs within =
    kept_item file at (Block b) is belongs within
moved_own steps lost file at Zero all is belongs within = kept_item file at Zero is belongs within
moved_own steps lost file at _ all is belongs within = absurd (false≢true belongs)

-- ---- several items

-- no items have no bytes
pub moved-nil : (steps : ℕ → Steps) (lost : ℕ → Bool) (file : List ℕ)
    → moved_items steps lost file [] ≡ []
unfolding moved_items
moved-nil steps lost file = refl

-- moved items are the first item with its gains moved, then the others
pub moved-cons : (steps : ℕ → Steps) (lost : ℕ → Bool) (file : List ℕ) (p : PlacedItem)
    (ps : List PlacedItem) → moved_items steps lost file (p ∷ ps) ≡ moved_item (steps p.offset)
    (lost p.offset) p.item (item_bytes_in file p) ++ moved_items steps lost file ps
unfolding moved_items
moved-cons steps lost file p ps = refl

-- each of the moved items is still an item
pub moved_are : (steps : ℕ → Steps) (lost : ℕ → Bool) (file : List ℕ) (from : ℕ)
    (ps : List PlacedItem)
    (to : ℕ) → AreBytes file → AreEndToEnd Stream file from ps to
    → AreItems Stream (items_of ps) (moved_items steps lost file ps)
moved_are steps lost file from [] to all ends = moved-nil steps lost file
moved_are steps lost file from (p ∷ ps) to all ends =
    let here = whole_item_at-is Stream file p.offset p.item ends.1 in (
      moved_item (steps p.offset) (lost p.offset) p.item (item_bytes_in file p),
      moved_items steps lost file ps,
      moved-cons steps lost file p ps,
      moved_own (steps p.offset)
          (lost p.offset) file p.offset p.item all here.is here.belongs here.within,
      here.belongs,
      moved_are steps lost file (p.offset + size_of p.item) ps to all ends.2,
    )

-- ---- the frames among them

module _ (steps : ℕ → Steps) (lost : ℕ → Bool) (file new : List ℕ) (gap : ℕ) where
  -- the frames are there, `gap` bytes nearer to the beginning, with moved gains if they aren't lost
  abbrev pub AreMovedAt : List PlacedFrame → Type 0
  AreMovedAt = AreImages (λ at. at - gap) steps lost file new

  frame_more : (at : ℕ) (item : Item) (rest : List ℕ) (frames : List PlacedFrame) → AreBytes file
      → item_at file at ≡ item → at + size_of item ≤ length file → drop (at - gap) new
      ≡ moved_item (steps at) (lost at) item (take (size_of item) (drop at file)) ++ rest
      → AreMovedAt frames → AreMovedAt (cons_option (frame_of_item at item) frames)
  frame_more at (Frame h) rest frames all is within stands later =
      let p : PlacedFrame = record { offset = at; header = h } in (
        image_moved (λ at. at - gap) steps lost file new rest
            (frame_whole file at all is within) stands,
        later,
      )
  frame_more at _ rest frames all is within stands later = later

  -- the frames among items with moved gains are the file's
  -- with moved gains, `gap` bytes nearer to the beginning
  pub frames_moved : (from at : ℕ) (ps : List PlacedItem) (to : ℕ) (behind : List ℕ) → AreBytes file
      → AreEndToEnd Stream file from ps to → from ≡ at + gap → drop at new
      ≡ moved_items steps lost file ps ++ behind → AreMovedAt (frames_of ps)
  frames_moved from at [] to behind all ends there is = tt
  frames_moved from at (p ∷ ps) to behind all ends there is =
      let size = size_of p.item in
      let own = moved_item (steps p.offset) (lost p.offset) p.item (item_bytes_in file p) in
      let rest = moved_items steps lost file ps ++ behind in
      let here = whole_item_at-is Stream file p.offset p.item ends.1 in
      let place : p.offset - gap ≡ at = omega (arith, ends.0, there) in
      let stands : drop (p.offset - gap) new ≡ own ++ rest =
      grind (arith, moved-cons, append_assoc) in
      let next : drop (p.offset - gap + size) new ≡ rest =
      sym (drop-drop size (p.offset - gap) new) ∙ ap (drop size) stands
      ∙ drop_at own rest size (moved_own (steps p.offset)
      (lost p.offset) file p.offset p.item all here.is here.belongs here.within).size in
      frame_more p.offset p.item rest (frames_of ps) all here.is here.within stands
      (frames_moved (p.offset + size) (p.offset - gap + size) ps to behind all ends.2
      (omega (arith, place, ends.0, there)) next)
