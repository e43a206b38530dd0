-- Where the frames of the parts are written, and that what is heard of them is there.
use Rattle.std.proofs.Common.{All, ap, arith, Bool, cond, drop, false, flat_map, length, List, map}
use Rattle.std.proofs.Common.{min, None, Option, option_to_list, refl, Some, subst, suc, sym, true}
use Rattle.std.proofs.Common.{ℕ, [], ◌*◌, ◌++◌, ◌+◌, ◌-◌, ◌<◌, ◌∙◌, ◌∷◌, ◌≡◌, ◌≤◌}
use Rattle.std.proofs.lemmas.List.{drop_at, length-append, length-drop, length-map}
use Rattle.std.specs.Prelude.{IfSome, nat_lt, option_map}
use Rattle.exact_span.specs.Heard.{end_in, end_of_last, first_in, first_to_last, heard_in, heard_of}
use Rattle.exact_span.specs.{PlayedPositions.samples_in, declared.played.Played.Played}
use Rattle.exact_span.specs.declared.written.{Heard.Heard, WrittenFrames.WrittenFrames}
use Rattle.frame_header.specs.Fields.{ClassFields, IsClass, SlotFields}
use Rattle.frame_header.specs.{Tables.{samples_of, window_of}, declared.version.Version.Version}
use Rattle.frame_header.specs.declared.version.Version.TheVariants.{One, Two, TwoFive}
use Rattle.remove_edits.proofs.{ItemLemmas.lead-append, SpliceLemmas.{lead-most, own-length}}
use Rattle.remove_edits.specs.Ready.{AreItemsOfParts}
use Rattle.remove_edits.specs.Removed.{items_left, lead_in_count, part_needs_of, parts_written}
use Rattle.seam_plan.proofs.PartJointLemmas.{joined_in, splice_part_items-is}
use Rattle.seam_plan.{proofs.PartSpliceLemmas.has-lead-in, specs.Joins.join_slot}
use Rattle.seam_plan.specs.PartSplices.{frame_item, IsPartNeeds, item_needs, items_behind}
use Rattle.seam_plan.specs.PartSplices.{lead_in_splice_item, splice_items, splice_part_items}
use Rattle.seam_plan.specs.{PartSplices.SpliceItem, Stretches.AreInOrder}
use Rattle.seam_plan.specs.declared.stretches.Part.{Part}
use Rattle.slot_plan.specs.declared.needs.Need.{Need}
use Rattle.sync_survey.specs.Faults.{SurveyFields}

-- ---- frames that are written within a number of frames

-- these are all before the frame with this number
abbrev pub AreWrittenBefore : ℕ → List WrittenFrames → Type 0
AreWrittenBefore n [] = Unit {0}
AreWrittenBefore n (w ∷ written) = (w.at + (w.to - w.from) ≤ n) × AreWrittenBefore n written

-- these have frames, the first of them is this frame
-- or a later one, and each is behind the one before
abbrev pub AreWrittenFrom : ℕ → List WrittenFrames → Type 0
AreWrittenFrom n [] = Unit {0}
AreWrittenFrom n (w ∷ written) =
    (n ≤ w.at) × (w.from < w.to) × AreWrittenFrom (w.at + (w.to - w.from)) written

-- heard positions that end at this one or earlier
abbrev pub EndBefore : ℕ → List Heard → Type 0
EndBefore n [] = Unit {0}
EndBefore n (h ∷ heard) = (h.end ≤ n) × EndBefore n heard

ends-append : (n : ℕ) (xs ys : List Heard) → EndBefore n xs → EndBefore n ys
    → EndBefore n (xs ++ ys)
ends-append n [] ys first second = second
ends-append n (x ∷ xs) ys first second = (first.0, ends-append n xs ys first.1 second)

-- a position of frames is within them
place-within : (v : Version) {n : ℕ} (end from to at : ℕ) → at + (to - from) ≤ n
    → at * samples_of v + (min end (to * samples_of v) - from * samples_of v) ≤ n * samples_of v
place-within One end from to at within = grind arith
place-within Two end from to at within = grind arith
place-within TwoFive end from to at within = grind arith

one-ends : (v : Version) {n : ℕ} (played : Played) (w : WrittenFrames)
    → w.at + (w.to - w.from) ≤ n → EndBefore (n * samples_of v) (heard_in (samples_of v) played w)
one-ends v {n} played w within =
    by (nat_lt (first_in (samples_of v) played w) (end_in (samples_of v) played w))
  where
    some : List Heard
    some = record {
      first = w.at * samples_of v + (first_in (samples_of v) played w - w.from * samples_of v);
      end = w.at * samples_of v + (end_in (samples_of v) played w - w.from * samples_of v);
    } ∷ []

    by : (b : Bool) → EndBefore (n * samples_of v) (cond b some [])
    by true = (place-within v played.end w.from w.to w.at within, tt)
    by false = tt

all-end : (v : Version) (n : ℕ) (played : Played) (written : List WrittenFrames)
    → AreWrittenBefore n written
    → EndBefore (n * samples_of v) (flat_map (heard_in (samples_of v) played) written)
all-end v n played [] before = tt
all-end v n played (w ∷ written) before =
    ends-append (n * samples_of v) (heard_in (samples_of v) played w)
    (flat_map (heard_in (samples_of v) played) written) (one-ends v played w before.0)
    (all-end v n played written before.1)

last-ends : {n end : ℕ} (heard : List Heard) → end ≤ n → EndBefore n heard
    → end_of_last end heard ≤ n
last-ends [] least before = least
last-ends {n} (h ∷ heard) least before = last-ends heard before.0 before.1

last-within : (n : ℕ) (heard : List Heard) → EndBefore n heard
    → IfSome (first_to_last heard) (λ (h : Heard). h.end ≤ n)
unfolding first_to_last
last-within n [] before = tt
last-within n (h ∷ heard) before = last-ends heard before.0 before.1

-- what is heard of frames ends where they do or earlier
pub heard-within : (class : ClassFields) (n : ℕ) (played : Played) (written : List WrittenFrames)
    → AreWrittenBefore n written
    → IfSome (heard_of class played written) (λ (h : Heard). h.end ≤ n * samples_in class)
unfolding heard_of
heard-within class n played written before =
    last-within (n * samples_in class) (flat_map (heard_in (samples_in class) played) written)
    (all-end class.version n played written before)

-- ---- the parts are written within what is written

-- a part has as many items as frames, and one more if it has a lead-in
record HasItems (needs : List Need) (items : List SpliceItem) : Type 0 where
  some : 0 < length items
  many : length items ≡ lead_in_count items + length needs

part-many : {class : ClassFields} (splice needs : List Need) → IsClass class
    → IsPartNeeds class needs
    → HasItems needs (splice_part_items (window_of class.version) splice needs)
part-many splice [] known part = absurd (omega (arith, part.some))
part-many {class} splice (first ∷ needs) known part =
    subst (HasItems (first ∷ needs)) (sym (splice_part_items-is window splice first needs))
    (at (join_slot window splice first needs))
  where
    window : ℕ
    window = window_of class.version

    at : (o : Option SlotFields) → HasItems (first ∷ needs) (joined_in window first needs o)
    at None =
        let lead = has-lead-in known part in
        subst (λ o. HasItems (first ∷ needs)
        (option_to_list (option_map lead_in_splice_item o) ++ map frame_item (first ∷ needs)))
        (sym lead.is)
        (record { some = omega arith; many = omega (arith, length-map needs frame_item) })
    at (Some slot) =
        record { some = omega arith; many = omega (arith, length-map needs frame_item) }

-- parts in order are written one behind the other, whatever their items are
pub parts-from : (parts : List Part) (at : ℕ) (items : List SpliceItem) (least frames : ℕ)
    → AreInOrder least frames parts → AreWrittenFrom at (parts_written at items parts)
unfolding parts_written AreInOrder
parts-from [] at items least frames order = tt
parts-from (part ∷ parts) at items least frames order =
    let count = lead_in_count items + (part.to - part.from) in
    let next : at + count ≡ at + lead_in_count items + (part.to - part.from) = omega arith in (
      omega arith,
      order.1,
      subst (λ n. AreWrittenFrom n (parts_written (at + count) (drop count items) parts)) next
          (parts-from parts (at + count) (drop count items) (part.to + 1) frames order.3),
    )

-- they are written before the end of their items
items-before : (parts : List Part) (at : ℕ) {most : ℕ} (items : List SpliceItem)
    → AreItemsOfParts items parts → at + length items ≤ most
    → AreWrittenBefore most (parts_written at items parts)
unfolding parts_written AreItemsOfParts
items-before [] at items are within = tt
items-before (part ∷ parts) at {most} items are within =
    let count = lead_in_count items + (part.to - part.from) in (
      omega (arith, are.1, within),
      items-before parts (at + count) (drop count items) are.2
          (omega (arith, length-drop count items, are.1, within)),
    )

-- some items of a part, and then those of others
part-and : (items more : List SpliceItem) (part : Part) (parts : List Part) → 0 < length items
    → length items ≡ lead_in_count items + (part.to - part.from) → AreItemsOfParts more parts
    → AreItemsOfParts (items ++ more) (part ∷ parts)
unfolding AreItemsOfParts
part-and items more part parts some many rest =
    let lead = lead-append items more some in
    let count = lead_in_count items + (part.to - part.from) in (
      omega (arith, length-append items more, some),
      omega (arith, length-append items more, lead, many),
      subst (λ n. AreItemsOfParts (drop (n + (part.to - part.from)) (items ++ more)) parts)
          (sym lead)
          (subst (λ l. AreItemsOfParts l parts) (sym (drop_at items more count many)) rest),
    )

no-lead : (needs : List Need) → lead_in_count (map frame_item needs) ≡ 0
no-lead [] = refl
no-lead (n ∷ needs) = refl

module _ (s : SurveyFields) (known : IsClass s.class) where
  abbrev window : ℕ
  window = window_of s.class.version

  abbrev needs_in : List Part → List (List Need)
  needs_in parts = map (part_needs_of s) parts

  later-items : (least : ℕ) (splice : List Need) (parts : List Part)
      → AreInOrder least (length s.frames) parts → All (IsPartNeeds s.class) (needs_in parts)
      → AreItemsOfParts (items_behind window splice (needs_in parts)) parts
  unfolding items_behind AreItemsOfParts AreInOrder
  later-items least splice [] order all = refl
  later-items least splice (part ∷ parts) order all =
      let needs = part_needs_of s part in
      let items = splice_part_items window splice needs in
      let later = items_behind window (splice ++ item_needs items) (needs_in parts) in
      let has = part-many splice needs known (all 0 needs (omega arith)) in
      part-and items later part parts has.some
      (has.many ∙ ap (λ n. lead_in_count items + n) (own-length s part order.2))
      (later-items (part.to + 1) (splice ++ item_needs items) parts order.3
      (λ k d within. all (suc k) d (omega (arith, within))))

  later-few : (least : ℕ) (splice : List Need) (parts : List Part) → least ≤ length s.frames + 1
      → AreInOrder least (length s.frames) parts → All (IsPartNeeds s.class) (needs_in parts)
      → length (items_behind window splice (needs_in parts)) + least ≤ length s.frames + 1
  unfolding items_behind AreInOrder
  later-few least splice [] within order all = omega (arith, within)
  later-few least splice (part ∷ parts) within order all =
      let items = splice_part_items window splice (part_needs_of s part) in
      let later = items_behind window (splice ++ item_needs items) (needs_in parts) in
      let has = part-many splice (part_needs_of s part) known
      (all 0 (part_needs_of s part) (omega arith)) in
      omega (
        arith,
        has.many,
        own-length s part order.2,
        lead-most items,
        length-append items later,
        order.0,
        order.1,
        order.2,
        later-few (part.to + 1) (splice ++ item_needs items) parts (omega (arith, order.2)) order.3
            (λ k d within. all (suc k) d (omega (arith, within))),
      )

  -- there are no more items than frames in the file: each lead-in is in place of one that goes
  pub items-few : (first : Part) (later : List Part)
      → AreInOrder 0 (length s.frames) (first ∷ later)
      → All (IsPartNeeds s.class) (needs_in (first ∷ later))
      → length (items_left s (first ∷ later)) ≤ length s.frames
  unfolding splice_items AreInOrder
  items-few first later order all =
      let needs = part_needs_of s first in
      omega (
        arith,
        length-append (map frame_item needs) (items_behind window needs (needs_in later)),
        length-map needs frame_item,
        own-length s first order.2,
        order.1,
        order.2,
        later-few (first.to + 1) needs later (omega (arith, order.2)) order.3
            (λ k d within. all (suc k) d (omega (arith, within))),
      )

  -- each part has its frames among the items, and its lead-in if it has one
  parts-items : (first : Part) (later : List Part)
      → AreInOrder 0 (length s.frames) (first ∷ later)
      → All (IsPartNeeds s.class) (needs_in (first ∷ later))
      → AreItemsOfParts (items_left s (first ∷ later)) (first ∷ later)
  unfolding splice_items AreInOrder
  parts-items first later order all =
      let needs = part_needs_of s first in
      let own = map frame_item needs in
      let some : 0 < length needs = (all 0 needs (omega arith)).some in
      part-and own (items_behind window needs (needs_in later)) first later
      (omega (arith, length-map needs frame_item, some))
      (omega (arith, length-map needs frame_item, own-length s first order.2, no-lead needs))
      (later-items (first.to + 1) needs later order.3
      (λ k d within. all (suc k) d (omega (arith, within))))

  -- the parts are written before the end of what is written
  pub parts-before : (at : ℕ) (first : Part) (later : List Part)
      → AreInOrder 0 (length s.frames) (first ∷ later)
      → All (IsPartNeeds s.class) (needs_in (first ∷ later))
      → AreWrittenBefore (at + length (items_left s (first ∷ later)))
      (parts_written at (items_left s (first ∷ later)) (first ∷ later))
  parts-before at first later order all =
      items-before (first ∷ later) at
      (items_left s (first ∷ later)) (parts-items first later order all) (omega arith)
