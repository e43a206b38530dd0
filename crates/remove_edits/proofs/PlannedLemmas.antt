-- The plan of the splice of the parts: how long it is,
-- its lead-ins, and where parts are written in it.
use Rattle.std.proofs.Common.{All, ap, ap₂, arith, drop, inl, inr, length, length-append}
use Rattle.std.proofs.Common.{length-drop, List, refl, slice_index_or, subst, suc, sym, take, true}
use Rattle.std.proofs.Common.{ℕ, [], ◌++◌, ◌+◌, ◌-◌, ◌<◌, ◌∙◌, ◌∷◌, ◌≡◌, ◌≤◌, ◌⊎◌}
use Rattle.std.proofs.lemmas.List.{length-map, length-take-le, Elements.{All-cons, All-nil}}
use Rattle.commands.specs.SingleOutput.{most_frames}
use Rattle.exact_span.specs.declared.written.WrittenFrames.{WrittenFrames}
use Rattle.frame_header.specs.Limits.{most_output_frames}
use Rattle.remove_edits.proofs.MarkLemmas.{marks-are, places-within}
use Rattle.remove_edits.proofs.PlanLemmas.{HasShape, IsSpliceNeeds}
use Rattle.remove_edits.proofs.RemovalLemmas.{items-shape, splice-needs}
use Rattle.remove_edits.specs.Ready.{AreItemsOfParts, CanBeSplice, end_of_parts, IsSpliceOfParts}
use Rattle.remove_edits.specs.Ready.{put_off_by, with_lead_ins}
use Rattle.remove_edits.specs.Removed.{all_parts_written, first_left, item_places, items_left}
use Rattle.remove_edits.specs.Removed.{lead_in_count, parts_written, plan_of_items, removal_plan}
use Rattle.remove_edits.specs.declared.splice.DecidedSplice.{DecidedSplice}
use Rattle.seam_plan.specs.{PartSplices.SpliceItem, Stretches.AreInOrder}
use Rattle.seam_plan.specs.declared.stretches.Part.{Part}
use Rattle.slot_plan.specs.declared.needs.{Need.Need, Placed.Placed}
use Rattle.sync_survey.specs.Faults.{SurveyFields}

-- ---- the parts

-- parts in order end within the file
end-within : (least : ℕ) {frames : ℕ} (parts : List Part) → 1 ≤ length parts
    → AreInOrder least frames parts → end_of_parts parts ≤ frames
unfolding AreInOrder
end-within least [] some order = absurd (omega (arith, some))
end-within least (p ∷ []) some order = order.2
end-within least {frames} (p ∷ q ∷ parts) some order =
    end-within (p.to + 1) (q ∷ parts) (omega arith) order.3

-- the first of parts is the first that stays
pub first-is : (parts : List Part) (none : Part) → 1 ≤ length parts
    → (slice_index_or parts 0 none).from ≡ first_left parts
first-is [] none some = absurd (omega (arith, some))
first-is (p ∷ parts) none some = refl

-- ---- where they are written

-- frames that are put off are those of parts that begin so much later
shifted : (parts : List Part) (before at : ℕ) (items : List SpliceItem)
    → put_off_by before (parts_written at items parts) ≡ parts_written (at + before) items parts
unfolding parts_written
shifted [] before at items = refl
shifted (p ∷ parts) before at items =
    let count = lead_in_count items + (p.to - p.from) in
    let here : at + lead_in_count items + before ≡ at + before + lead_in_count items =
    omega arith in
    let behind : at + count + before ≡ at + before + count = omega arith in
    ap₂ (λ n (l : List WrittenFrames). record { from = p.from; to = p.to; at = n } ∷ l) here
    (shifted parts before (at + count) (drop count items)
    ∙ ap (λ n. parts_written n (drop count items) parts) behind)

-- no part is written behind the last item
written-most : (parts : List Part) (at : ℕ) (items : List SpliceItem) {most : ℕ}
    → AreItemsOfParts items parts → at + length items ≤ most
    → All (λ (w : WrittenFrames). w.at ≤ most) (parts_written at items parts)
unfolding parts_written AreItemsOfParts
written-most [] at items {most} are within = All-nil (λ (w : WrittenFrames). w.at ≤ most)
written-most (p ∷ parts) at items {most} are within =
    let count = lead_in_count items + (p.to - p.from) in
    All-cons (λ (w : WrittenFrames). w.at ≤ most)
    (record { from = p.from; to = p.to; at = at + lead_in_count items })
    (parts_written (at + count) (drop count items) parts) (omega (arith, are.1, within))
    (written-most parts (at + count) (drop count items) are.2
    (omega (arith, length-drop count items, are.1, within)))

-- ---- the plan

-- items have a place each
places-many : (items : List SpliceItem) (placed : List Placed)
    → length (item_places items placed) ≡ length placed
unfolding item_places
places-many [] placed = refl
places-many (i ∷ items) [] = refl
places-many (i ∷ items) (p ∷ placed) = ap suc (places-many items placed)

module _ {s : SurveyFields} {parts : List Part} (can : CanBeSplice s parts) {d : DecidedSplice}
    (splice : IsSpliceOfParts s parts d) where
  abbrev items : List SpliceItem
  items = items_left s parts

  abbrev plan : List Placed
  plan = plan_of_items s items

  shape : HasShape (length items) plan
  shape = items-shape can.are

  -- there is a need for each item
  pub needs-many : length d.needs.items ≡ length items
  needs-many =
      ap (λ (l : List Need). length l) splice.needs ∙ length-map items (λ (i : SpliceItem). i.need)

  -- no more of them than frames can be noted
  pub needs-few : length d.needs.items ≤ most_frames
  needs-few =
      let ends = end-within 0 parts can.are.some can.are.order in
      omega (arith, splice.few, ends, can.few)

  -- they can be planned
  pub needs-splice : IsSpliceNeeds s.class d.needs.items
  needs-splice = subst (IsSpliceNeeds s.class) (sym splice.needs) (splice-needs can.are)

  front-most : {front : List Placed}
      → (front ≡ []) ⊎ ((p : Placed) × (front ≡ p ∷ []) × (p.lead_in ≡ true)) → length front ≤ 1
  front-most (inl none) = omega (arith, ap (λ (l : List Placed). length l) none)
  front-most (inr lead) = omega (arith, ap (λ (l : List Placed). length l) lead.1)

  -- the plan has a place for each item, and at most one more
  pub plan-long : (length items ≤ length plan) × (length plan ≤ length items + 1)
  plan-long =
      let long : length plan ≡ length shape.front + length items = omega (
        arith,
        ap (λ (l : List Placed). length l) shape.are,
        length-append shape.front shape.frames,
        shape.count,
      ) in
      let most = front-most shape.lead in
      (omega (arith, long), omega (arith, long, most))

  -- where parts are written can be noted
  pub written-fits : All (λ (w : WrittenFrames).
      w.at + (length plan - length items) ≤ 4294967295) d.written.items
  written-fits = subst (All (λ (w : WrittenFrames).
      w.at + (length plan - length items) ≤ 4294967295)) (sym splice.written)
      (λ k none within. omega (
        arith,
        written-most parts 0 items
            {most = length items} splice.consumed (omega arith) k none within,
        plan-long.1,
        needs-many,
        needs-few,
      ))

  -- the lead-ins are among the places of the items
  pub places-fit : All (λ at. at < length plan - (length plan - length items)) d.lead_ins.items
  places-fit =
      subst (All (λ at. at < length plan - (length plan - length items))) (sym splice.lead_ins)
      (places-within 0 items
      (omega (arith, plan-long.0)))

  -- with the lead-ins among its places it is the plan of the removal
  pub plan-marked : take (length plan - length items) plan
      ++ with_lead_ins d.lead_ins.items (drop (length plan - length items) plan)
      ≡ removal_plan s parts
  plan-marked =
      let rest = drop (length plan - length items) plan in
      let many : length rest ≡ length items =
      omega (arith, length-drop (length plan - length items) plan, plan-long.0) in
      ap (λ l. take (length plan - length items) plan ++ l)
      (ap (λ l. with_lead_ins l rest) splice.lead_ins ∙ marks-are items rest many)

  -- it is no longer than an output
  pub marked-few : length (removal_plan s parts) ≤ most_output_frames
  marked-few =
      let before = length plan - length items in
      omega (
        arith,
        length-append (take before plan) (item_places items (drop before plan)),
        places-many items (drop before plan),
        length-take-le before plan (omega (arith, plan-long.0)),
        length-drop before plan,
        plan-long,
        needs-many,
        needs-few,
      )

  -- the parts are written behind the lead-in before the whole splice
  pub written-are : put_off_by (length plan - length items) d.written.items
      ≡ all_parts_written s parts
  written-are =
      ap (put_off_by (length plan - length items)) splice.written
      ∙ shifted parts (length plan - length items) 0 items
      ∙ ap (λ n. parts_written n items parts) (omega arith)
