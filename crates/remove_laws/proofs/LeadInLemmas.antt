-- Where the lead-ins between the parts are in the plan.
use Rattle.std.proofs.Common.{All, ap, arith, Bool, drop, false, length, List, map, refl, slice_get}
use Rattle.std.proofs.Common.{Some, suc, sym, take, true, zero, ℕ, [], ◌++◌, ◌+◌, ◌<◌, ◌∙◌, ◌∷◌}
use Rattle.std.proofs.{Common.◌≡◌, lemmas.List.{length-drop, length-take-le}}
use Rattle.frame_header.specs.Tables.{window_of}
use Rattle.remove_edits.{proofs.RemovalLemmas.{all-needs, items-shape}, specs.Ready.ArePartsLeft}
use Rattle.remove_edits.specs.Removed.{item_places, items_left, part_needs_of, place_as}
use Rattle.remove_edits.specs.Removed.{places_before, plan_of_items, removal_plan}
use Rattle.remove_laws.proofs.{NumberLemmas.{HasPlaces, shape-places}, OrderLemmas.AreFrames}
use Rattle.remove_laws.specs.PlayLaws.{HasNoLeadInBehindFirst}
use Rattle.seam_plan.specs.PartSplices.{frame_item, IsPartNeeds, items_behind, splice_items}
use Rattle.seam_plan.specs.{PartSplices.SpliceItem, declared.stretches.Part.Part}
use Rattle.slot_plan.specs.declared.needs.{Need.Need, Placed.Placed}
use Rattle.sync_survey.specs.Faults.{SurveyFields}

-- ---- the places of items

get-append : (xs ys : List Placed) (n : ℕ) → slice_get (xs ++ ys) (length xs + n) ≡ slice_get ys n
get-append [] ys n =
    let none : length {A = Placed} [] + n ≡ n = omega arith in
    ap (slice_get ys) none
get-append (x ∷ xs) ys n =
    let next : length (x ∷ xs) + n ≡ suc (length xs + n) = omega arith in
    ap (slice_get (x ∷ xs ++ ys)) next ∙ get-append xs ys n

no-lead : (b : Bool) (p : Placed) → (place_as b p).lead_in ≡ false → b ≡ false
no-lead true p is = absurd cc
no-lead false p is = refl

items-frames : (items : List SpliceItem) (placed : List Placed) → length placed ≡ length items
    → ((n : ℕ) (p : Placed) → slice_get (item_places items placed) n ≡ Some p → p.lead_in ≡ false)
    → AreFrames items
unfolding item_places
items-frames [] placed long none = tt
items-frames (item ∷ items) [] long none = absurd (omega (arith, long))
items-frames (item ∷ items) (p ∷ placed) long none = (
  no-lead item.lead_in p (none 0 (place_as item.lead_in p) refl),
  items-frames items placed (omega (arith, long)) (λ n q is. none (suc n) q is),
)

splice-frames : (needs : List Need) (behind : List SpliceItem) (placed : List Placed)
    → 0 < length needs → length placed ≡ length (map frame_item needs ++ behind)
    → HasNoLeadInBehindFirst (item_places (map frame_item needs ++ behind) placed)
    → AreFrames (map frame_item needs ++ behind)
unfolding item_places
splice-frames [] behind placed some long none = absurd (omega (arith, some))
splice-frames (need ∷ needs) behind [] some long none = absurd (omega (arith, long))
splice-frames (need ∷ needs) behind (p ∷ placed) some long none = (
  refl,
  items-frames (map frame_item needs ++ behind) placed (omega (arith, long))
      (λ n q is. none (suc n) q (omega arith) is),
)

-- the item with this number is a lead-in
abbrev pub IsLeadIn : List SpliceItem → ℕ → Type 0
IsLeadIn items n = (item : SpliceItem) × (slice_get items n ≡ Some item) × (item.lead_in ≡ true)

-- the place with this number is that of a lead-in
abbrev pub IsLeadInPlace : List Placed → ℕ → Type 0
IsLeadInPlace placed n = (p : Placed) × (slice_get placed n ≡ Some p) × (p.lead_in ≡ true)

lead-marked : (items : List SpliceItem) (placed : List Placed) (n : ℕ)
    → length placed ≡ length items → IsLeadIn items n
    → IsLeadInPlace (item_places items placed) n
unfolding item_places
lead-marked [] placed n long lead = absurd (let none = lead.1 in cc)
lead-marked (item ∷ items) [] n long lead = absurd (omega (arith, long))
lead-marked (item ∷ items) (p ∷ placed) zero long lead =
    let is : item.lead_in ≡ true = (let at = lead.1 in let marked = lead.2 in cc) in
    (place_as item.lead_in p, refl, ap (λ b. (place_as b p).lead_in) is)
lead-marked (item ∷ items) (p ∷ placed) (suc n) long lead =
    lead-marked items placed n (omega (arith, long)) lead

-- ---- the plan

module _ {s : SurveyFields} {first : Part} {later : List Part}
    (can : ArePartsLeft s (first ∷ later)) where
  abbrev parts : List Part
  parts = first ∷ later

  abbrev items : List SpliceItem
  items = items_left s parts

  abbrev plan : List Placed
  plan = plan_of_items s items

  has_places : HasPlaces items plan
  has_places = shape-places (items-shape can)

  abbrev before : ℕ
  before = places_before items plan

  all-needed : All (IsPartNeeds s.class) (map (part_needs_of s) parts)
  all-needed = all-needs s can.placed 0 parts can.order

  -- if no place behind the first is that of a lead-in, no item is a lead-in
  pub frames-left : HasNoLeadInBehindFirst (removal_plan s parts) → AreFrames items
  unfolding splice_items
  frames-left none =
      let front : length (take before plan) ≡ before =
      length-take-le before plan (omega (arith, has_places.many)) in
      let rest : length (drop before plan) ≡ length items =
      omega (arith, length-drop before plan, has_places.many) in
      splice-frames (part_needs_of s first)
      (items_behind (window_of s.class.version) (part_needs_of s first)
      (map (part_needs_of s) later))
      (drop before plan) (all-needed 0 (part_needs_of s first) (omega arith)).some rest
      (λ n p least is. none (length (take before plan) + n) p (omega (arith, least))
      (get-append (take before plan) (item_places items (drop before plan)) n ∙ is))

  -- a lead-in among the items is one in the plan, behind the place before all
  pub lead-planned : (n : ℕ) → IsLeadIn items n → IsLeadInPlace (removal_plan s parts) (before + n)
  lead-planned n lead =
      let front : length (take before plan) ≡ before =
      length-take-le before plan (omega (arith, has_places.many)) in
      let rest : length (drop before plan) ≡ length items =
      omega (arith, length-drop before plan, has_places.many) in
      let marked = lead-marked items (drop before plan) n rest lead in (
        marked.0,
        ap (λ m. slice_get (removal_plan s parts) (m + n)) (sym front)
            ∙ get-append (take before plan) (item_places items (drop before plan)) n ∙ marked.1,
        marked.2,
      )
