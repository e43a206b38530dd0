-- The items of parts, when one more part joins them: where the parts are written, and where the
-- lead-ins are.
use Rattle.std.proofs.Common.{ap, append-nil, append_assoc, arith, drop, length, length-append}
use Rattle.std.proofs.Common.{List, map, refl, sym, ℕ, [], ◌++◌, ◌+◌, ◌-◌, ◌<◌, ◌∙◌, ◌∷◌, ◌≡◌, ◌≤◌}
use Rattle.std.proofs.lemmas.List.{drop-append-le, length-drop, map-append}
use Rattle.frame_header.specs.Tables.{window_of}
use Rattle.remove_edits.specs.Ready.{AreItemsOfParts, joint_places, lead_in_places}
use Rattle.remove_edits.specs.Removed.{items_left, lead_in_count, part_needs_of, parts_written}
use Rattle.seam_plan.proofs.PartJointLemmas.{needs-items}
use Rattle.seam_plan.specs.PartSplices.{frame_item, item_needs, items_behind, joint_items}
use Rattle.seam_plan.specs.PartSplices.{splice_items, splice_part_items, SpliceItem}
use Rattle.seam_plan.specs.declared.parts.PartJoint.{PartJoint, TheVariants.{InSlot, Led}}
use Rattle.seam_plan.specs.declared.stretches.Part.{Part}
use Rattle.slot_plan.specs.{FreeBytes.needs_with_first_slot, declared.needs.Need.Need}
use Rattle.sync_survey.specs.Faults.{SurveyFields}

-- ---- one more part of a splice

-- what two lists of items need
pub needs-append : (xs ys : List SpliceItem)
    → item_needs (xs ++ ys) ≡ item_needs xs ++ item_needs ys
needs-append xs ys = map-append (λ (i : SpliceItem). i.need) xs ys

behind-more : (window : ℕ) (splice : List Need) (parts : List (List Need)) (needs : List Need)
    → items_behind window splice (parts ++ needs ∷ []) ≡ items_behind window splice parts
    ++ splice_part_items window (splice ++ item_needs (items_behind window splice parts)) needs
unfolding items_behind
behind-more window splice [] needs =
    append-nil (splice_part_items window splice needs)
    ∙ ap (λ l. splice_part_items window l needs) (sym (append-nil splice))
behind-more window splice (p ∷ parts) needs =
    let items = splice_part_items window splice p in
    let next = splice ++ item_needs items in
    let later = items_behind window next parts in
    let same : next ++ item_needs later ≡ splice ++ item_needs (items ++ later) =
    append_assoc splice (item_needs items) (item_needs later)
    ∙ ap (λ l. splice ++ l) (sym (needs-append items later)) in
    ap (λ l. items ++ l) (behind-more window next parts needs)
    ∙ sym (append_assoc items later (splice_part_items window (next ++ item_needs later) needs))
    ∙ ap (λ l. (items ++ later) ++ splice_part_items window l needs) same

splice-more : (window : ℕ) (first : List Need) (parts : List (List Need)) (needs : List Need)
    → splice_items window (first ∷ parts ++ needs ∷ []) ≡ splice_items window (first ∷ parts)
    ++ splice_part_items window (item_needs (splice_items window (first ∷ parts))) needs
unfolding splice_items
splice-more window first parts needs =
    let own = map frame_item first in
    let later = items_behind window first parts in
    let same : first ++ item_needs later ≡ item_needs (own ++ later) =
    ap (λ l. l ++ item_needs later) (sym (needs-items first)) ∙ sym (needs-append own later) in
    ap (λ l. own ++ l) (behind-more window first parts needs)
    ∙ sym (append_assoc own later (splice_part_items window (first ++ item_needs later) needs))
    ∙ ap (λ l. (own ++ later) ++ splice_part_items window l needs) same

-- the items of parts, and then those of one more part
pub left-more : (s : SurveyFields) (parts : List Part) (part : Part) → 1 ≤ length parts
    → items_left s (parts ++ part ∷ []) ≡ items_left s parts
    ++ splice_part_items (window_of s.class.version) (item_needs (items_left s parts))
    (part_needs_of s part)
left-more s [] part some = absurd (omega (arith, some))
left-more s (p ∷ parts) part some =
    ap (λ l. splice_items (window_of s.class.version) (part_needs_of s p ∷ l))
    (map-append (part_needs_of s) parts (part ∷ []))
    ∙ splice-more (window_of s.class.version) (part_needs_of s p) (map (part_needs_of s) parts)
    (part_needs_of s part)

-- the items of one part are its frames
pub left-one : (s : SurveyFields) (part : Part)
    → items_left s (part ∷ []) ≡ map frame_item (part_needs_of s part)
unfolding splice_items items_behind
left-one s part = append-nil (map frame_item (part_needs_of s part))

-- ---- the places of lead-ins

-- those of two lists of items
pub places-append : (at : ℕ) (xs ys : List SpliceItem) → lead_in_places at (xs ++ ys)
    ≡ lead_in_places at xs ++ lead_in_places (at + length xs) ys
unfolding lead_in_places
places-append at [] ys = ap (λ n. lead_in_places n ys) (omega arith)
places-append at (x ∷ xs) ys =
    let next : at + 1 + length xs ≡ at + length (x ∷ xs) = omega arith in
    grind (arith, places-append (at + 1) xs ys, next)

-- frames have none
pub frames-none : (at : ℕ) (needs : List Need) → lead_in_places at (map frame_item needs) ≡ []
unfolding lead_in_places
frames-none at [] = refl
frames-none at (n ∷ needs) = frames-none (at + 1) needs

-- those of a part that joins so
pub joint-places : (at : ℕ) (joint : PartJoint) (needs : List Need)
    → lead_in_places at (joint_items joint needs) ≡ joint_places at joint
unfolding lead_in_places
joint-places at (InSlot slot) needs = frames-none at (needs_with_first_slot slot needs)
joint-places at (Led header) needs = ap (λ l. at ∷ l) (frames-none (at + 1) needs)

-- ---- where parts are written

-- items that others follow begin with as many lead-ins as without these
pub lead-append : (xs ys : List SpliceItem) → 0 < length xs
    → lead_in_count (xs ++ ys) ≡ lead_in_count xs
lead-append [] ys some = absurd (omega (arith, some))
lead-append (x ∷ xs) ys some = refl

-- the parts of two lists of items are written one after another
pub written-append : (at : ℕ) (items more : List SpliceItem) (parts : List Part) (part : Part)
    → AreItemsOfParts items parts → parts_written at (items ++ more) (parts ++ part ∷ [])
    ≡ parts_written at items parts ++ parts_written (at + length items) more (part ∷ [])
unfolding parts_written AreItemsOfParts
written-append at items more [] part are =
    rw are (ap (λ n. parts_written n more (part ∷ [])) (omega arith))
written-append at items more (p ∷ parts) part are =
    let count = lead_in_count items + (p.to - p.from) in
    let lead = lead-append items more are.0 in
    let rest : drop count (items ++ more) ≡ drop count items ++ more =
    drop-append-le count items more are.1 in
    let long : at + count + length (drop count items) ≡ at + length items =
    omega (arith, are.1, length-drop count items) in
    grind (
      arith,
      lead,
      rest,
      long,
      written-append (at + count) (drop count items) more parts part are.2,
    )

-- the items of parts, and those of one more part
pub consumed-append : (items more : List SpliceItem) (parts : List Part) (part : Part)
    → AreItemsOfParts items parts → AreItemsOfParts more (part ∷ [])
    → AreItemsOfParts (items ++ more) (parts ++ part ∷ [])
unfolding AreItemsOfParts
consumed-append items more [] part are last = rw are last
consumed-append items more (p ∷ parts) part are last =
    let count = lead_in_count items + (p.to - p.from) in
    let lead = lead-append items more are.0 in
    let rest : drop count (items ++ more) ≡ drop count items ++ more =
    drop-append-le count items more are.1 in (
      omega (arith, are.0, length-append items more),
      omega (arith, lead, are.1, length-append items more),
      rw (lead, rest) (consumed-append (drop count items) more parts part are.2 last),
    )
