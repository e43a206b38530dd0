-- The splice of parts, part by part.
use Rattle.std.proofs.Common.{ap, ap₂, arith, drop, length, length-append, List, map, refl, suc}
use Rattle.std.proofs.Common.{sym, take, zero, ℕ, [], ◌++◌, ◌+◌, ◌-◌, ◌<◌, ◌∙◌, ◌∷◌, ◌≡◌, ◌≤◌}
use Rattle.std.proofs.lemmas.List.{drop_all, length-drop, length-map, length-take-le}
use Rattle.exact_span.specs.declared.written.WrittenFrames.{WrittenFrames}
use Rattle.frame_header.specs.Tables.{window_of}
use Rattle.remove_edits.proofs.ItemLemmas.{consumed-append, frames-none, joint-places, left-more}
use Rattle.remove_edits.proofs.ItemLemmas.{left-one, needs-append, places-append, written-append}
use Rattle.remove_edits.specs.Ready.{AreItemsOfParts, end_of_parts, IsSpliceOfParts, joint_places}
use Rattle.remove_edits.specs.Ready.{lead_in_places, written_last}
use Rattle.remove_edits.specs.Removed.{items_left, lead_in_count, part_needs_of, parts_written}
use Rattle.remove_edits.specs.declared.splice.DecidedSplice.{DecidedSplice}
use Rattle.seam_plan.proofs.PartJointLemmas.{needs-items}
use Rattle.seam_plan.specs.PartSplices.{frame_item, item_needs, joint_items, splice_part_items}
use Rattle.seam_plan.specs.{PartSplices.SpliceItem, Stretches.AreInOrder}
use Rattle.seam_plan.specs.declared.parts.PartJoint.{PartJoint, TheVariants.{InSlot, Led}}
use Rattle.seam_plan.specs.declared.stretches.Part.{Part}
use Rattle.slot_plan.specs.{FreeBytes.needs_with_first_slot, declared.needs.Need.Need}
use Rattle.sync_survey.specs.Faults.{SurveyFields}

-- ---- how many items a part has

-- a part that joins has as many items as frames, and one more if it is led
pub slotted-length : (joint : PartJoint) (needs : List Need)
    → length (joint_items joint needs) ≡ lead_in_count (joint_items joint needs) + length needs
unfolding needs_with_first_slot
slotted-length (InSlot slot) [] = refl
slotted-length (InSlot slot) (n ∷ needs) = omega (arith, length-map needs frame_item)
slotted-length (Led header) needs = omega (arith, length-map needs frame_item)

-- a part that is within the file needs as many places as it has frames
pub own-length : (s : SurveyFields) (part : Part) → part.to ≤ length s.frames
    → length (part_needs_of s part) ≡ part.to - part.from
own-length s part within = grind (arith, length-map, length-take-le, length-drop)

-- at most one item leads a part
pub lead-most : (items : List SpliceItem) → lead_in_count items ≤ 1
lead-most items = grind arith

one-written : (at : ℕ) (items : List SpliceItem) (part : Part) → parts_written at items (part ∷ [])
    ≡ record { from = part.from; to = part.to; at = at + lead_in_count items } ∷ []
unfolding parts_written
one-written at items part = refl

one-consumed : (items : List SpliceItem) {part : Part}
    → length items ≡ lead_in_count items + (part.to - part.from) → part.from < part.to
    → AreItemsOfParts items (part ∷ [])
unfolding AreItemsOfParts
one-consumed items {part} long some = (
  omega (arith, long, some),
  omega (arith, long),
  drop_all (lead_in_count items + (part.to - part.from)) items (omega (arith, long)),
)

-- ---- the order of parts

end-last : (parts : List Part) (part : Part) → end_of_parts (parts ++ part ∷ []) ≡ part.to
end-last [] part = refl
end-last (p ∷ []) part = refl
end-last (p ∷ q ∷ parts) part = end-last (q ∷ parts) part

-- a part behind others begins after a frame behind their end, and is within the file
pub order-at : (least : ℕ) {frames : ℕ} (number : ℕ) (parts : List Part) {part : Part}
    {rest : List Part} → AreInOrder least frames parts → drop number parts ≡ part ∷ rest
    → (least ≤ part.from) × (1 ≤ number → end_of_parts (take number parts) + 1 ≤ part.from)
    × (part.from < part.to) × (part.to ≤ frames)
unfolding AreInOrder
order-at least zero [] order is = absurd (omega (arith, ap length is))
order-at least (suc n) [] order is = absurd (omega (arith, ap length is))
order-at least zero (p ∷ parts) order is = grind arith
order-at least {frames} (suc zero) (p ∷ parts) {part} {rest} order is =
    let more = order-at (p.to + 1) zero parts order.3 is in
    grind (arith, more)
order-at least (suc (suc n)) (p ∷ []) order is = absurd (omega (arith, ap length is))
order-at least {frames} (suc (suc n)) (p ∷ q ∷ parts)
    {part} {rest} order is =
    let more = order-at (p.to + 1) (suc n) (q ∷ parts) order.3 is in
    grind (arith, more)

-- ---- one more part

module _ (s : SurveyFields) (parts : List Part) (part : Part) (joint : PartJoint)
    (some : 1 ≤ length parts)
    (is : splice_part_items (window_of s.class.version) (item_needs (items_left s parts))
    (part_needs_of s part) ≡ joint_items joint (part_needs_of s part)) where
  abbrev old : List SpliceItem
  old = items_left s parts

  abbrev more : List SpliceItem
  more = joint_items joint (part_needs_of s part)

  -- the items are those before, and those of the part
  pub items-next : items_left s (parts ++ part ∷ []) ≡ old ++ more
  items-next = left-more s parts part some ∙ ap (λ l. old ++ l) is

  -- so are what they need
  pub needs-next : item_needs (items_left s (parts ++ part ∷ []))
      ≡ item_needs old ++ item_needs more
  needs-next = ap item_needs items-next ∙ needs-append old more

  module _ {before : DecidedSplice} (after : DecidedSplice)
      (splice : IsSpliceOfParts s parts before)
      (behind : end_of_parts parts + 1 ≤ part.from) (frames : part.from < part.to)
      (within : part.to ≤ length s.frames) where
    size : length more ≡ lead_in_count more + (part.to - part.from)
    size = slotted-length joint (part_needs_of s part)
        ∙ ap (λ n. lead_in_count more + n) (own-length s part within)

    old-many : length before.needs.items ≡ length old
    old-many = ap (λ (l : List Need). length l) splice.needs
        ∙ length-map old (λ (i : SpliceItem). i.need)

    -- the splice with the part
    pub splice-next : after.needs.items ≡ before.needs.items ++ item_needs more
        → after.lead_ins.items
        ≡ before.lead_ins.items ++ joint_places (length before.needs.items) joint
        → after.written.items
        ≡ before.written.items ++ written_last (length after.needs.items) part ∷ []
        → IsSpliceOfParts s (parts ++ part ∷ []) after
    splice-next needs lead_ins written =
        let many : length after.needs.items ≡ length old + length more =
        omega (
          arith,
          ap (λ (l : List Need). length l) needs,
          length-append before.needs.items (item_needs more),
          old-many,
          length-map more (λ (i : SpliceItem). i.need),
        ) in
        let at : 0 + length old + lead_in_count more
        ≡ length after.needs.items - (part.to - part.from) = omega (arith, many, size, frames) in
        let last : written_last (length after.needs.items) part ∷ []
        ≡ parts_written (0 + length old) more (part ∷ []) =
        ap (λ n. record { from = part.from; to = part.to; at = n } ∷ []) (sym at)
        ∙ sym (one-written (0 + length old) more part) in
        let places : lead_in_places 0 (items_left s (parts ++ part ∷ []))
        ≡ lead_in_places 0 old ++ joint_places (length before.needs.items) joint =
        ap (lead_in_places 0) items-next ∙ places-append 0 old more
        ∙ ap (λ l. lead_in_places 0 old ++ l)
        (joint-places (0 + length old) joint (part_needs_of s part)
        ∙ ap (λ n. joint_places n joint) (omega (arith, old-many))) in
        let own = one-consumed more size frames in
        record {
          needs = needs ∙ ap (λ l. l ++ item_needs more) splice.needs ∙ sym needs-next;
          lead_ins = lead_ins
              ∙ ap (λ l. l ++ joint_places (length before.needs.items) joint) splice.lead_ins
              ∙ sym places;
          written =
              written ∙ ap₂ (λ (x y : List WrittenFrames). x ++ y) splice.written last
              ∙ sym (written-append 0 old more parts part splice.consumed)
              ∙ ap (λ l. parts_written 0 l (parts ++ part ∷ [])) (sym items-next);
          few =
              rw (end-last parts part)
              (omega (arith, many, size, lead-most more, splice.few, old-many, behind, frames));
          room = room-next lead_ins;
          consumed =
              rw items-next (consumed-append old more parts part splice.consumed own);
        }
      where
        places-most : (at : ℕ) (j : PartJoint) → length (joint_places at j) ≤ 1
        places-most at (InSlot slot) = omega arith
        places-most at (Led header) = omega arith

        room-next : after.lead_ins.items
            ≡ before.lead_ins.items ++ joint_places (length before.needs.items) joint
            → length after.lead_ins.items + 1 ≤ length (parts ++ part ∷ [])
        room-next e = omega (
          arith,
          ap (λ (l : List ℕ). length l) e,
          length-append before.lead_ins.items (joint_places (length before.needs.items) joint),
          places-most (length before.needs.items) joint,
          splice.room,
          length-append parts (part ∷ []),
        )

-- ---- the first part

-- the splice of one part is its frames
pub splice-one : {s : SurveyFields} {part : Part} {d : DecidedSplice} → part.from < part.to
    → part.to ≤ length s.frames → d.needs.items ≡ part_needs_of s part → d.lead_ins.items ≡ []
    → d.written.items ≡ written_last (length d.needs.items) part ∷ []
    → IsSpliceOfParts s (part ∷ []) d
splice-one {s} {part} {d} frames within needs lead_ins written =
    let own = part_needs_of s part in
    let long : length d.needs.items ≡ part.to - part.from =
    ap (λ (l : List Need). length l) needs ∙ own-length s part within in
    let items : items_left s (part ∷ []) ≡ map frame_item own = left-one s part in
    let many : length (map frame_item own) ≡ part.to - part.from =
    length-map own frame_item ∙ own-length s part within in
    let none : lead_in_count (map frame_item own) ≡ 0 = frames-lead own in
    let consumed = one-consumed (map frame_item own) (omega (arith, many, none)) frames in
    let at : 0 + lead_in_count (map frame_item own)
    ≡ length d.needs.items - (part.to - part.from) = omega (arith, none, long) in
    record {
      needs = needs ∙ sym (needs-items own) ∙ sym (ap item_needs items);
      lead_ins = lead_ins ∙ sym (frames-none 0 own) ∙ sym (ap (lead_in_places 0) items);
      written = written
          ∙ ap (λ n. record { from = part.from; to = part.to; at = n } ∷ []) (sym at)
          ∙ sym (one-written 0 (map frame_item own) part)
          ∙ sym (ap (λ l. parts_written 0 l (part ∷ [])) items);
      few = omega (arith, long);
      room = omega (arith, ap (λ (l : List ℕ). length l) lead_ins);
      consumed = rw items consumed;
    }
  where
    frames-lead : (l : List Need) → lead_in_count (map frame_item l) ≡ 0
    frames-lead [] = refl
    frames-lead (n ∷ l) = refl
