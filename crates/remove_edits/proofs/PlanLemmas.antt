-- The plan of parts that stay: what its places are, and that the frames of the parts fit in them.
use Rattle.std.proofs.Common.{ap, append-nil, ap₂, arith, Contains, drop, inl, inr, length}
use Rattle.std.proofs.Common.{length-append, List, map, None, Option, refl, Some, subst, sym, take}
use Rattle.std.proofs.Common.{true, ℕ, [], ◌++◌, ◌<◌, ◌∙◌, ◌∷◌, ◌≡◌, ◌⊎◌}
use Rattle.std.proofs.lemmas.List.{drop_at, take_at}
use Rattle.frame_header.specs.Fields.{ClassFields, IsClass, IsHeader, IsSlot, SlotFields}
use Rattle.frame_header.specs.{Slots.all_slots, Tables.{class_of, window_of}}
use Rattle.joined_inputs.proofs.SplicePlanLemmas.{splice-planned}
use Rattle.joined_inputs.specs.Planned.{plan_of_splice_needs}
use Rattle.laying.proofs.{FitLemmas.{AreHeaders, parts-fitting}, PlannedFrameLemmas.slot_among}
use Rattle.laying.specs.Fits.{AreInSlots, FitsFromReach, IsFittingPlan, reach_behind}
use Rattle.laying.specs.{NeedsFit.own_choice, Relaid.{AreSlots, rest_behind}}
use Rattle.remove_edits.proofs.MarkLemmas.{AreFramePlaces, fits-marked, marked-slots}
use Rattle.remove_edits.specs.Removed.{item_places, marked_places, places_before}
use Rattle.seam_plan.specs.PartSplices.{AreSpliceItemsOf, IsItemOf, IsLeadInOf, item_needs}
use Rattle.seam_plan.specs.PartSplices.{SpliceItem}
use Rattle.slot_plan.{proofs.AreaLemmas.only_one, specs.FreeBytes.FitsBehind}
use Rattle.slot_plan.specs.Parts.{all_items, AreLeadIns, AreNeedsOfClass, need_item, part_items}
use Rattle.slot_plan.specs.{Plans.{AreItemSlots, IsPlan}, declared.needs.{Need.Need, Placed.Placed}}

-- ---- the places of a splice

-- the places of a plan of one part: those of its frames behind that of a lead-in, or alone
pub record HasShape (many : ℕ) (placed : List Placed) : Type 0 where
  pub front : List Placed
  pub frames : List Placed
  pub are : placed ≡ front ++ frames
  pub count : length frames ≡ many
  pub plain : AreFramePlaces frames
  pub lead : (front ≡ []) ⊎ ((p : Placed) × (front ≡ p ∷ []) × (p.lead_in ≡ true))

frames-plain : (needs : List Need) (placed : List Placed)
    → AreItemSlots (map (need_item own_choice) needs) placed
    → AreFramePlaces placed × (length placed ≡ length needs)
unfolding AreItemSlots
frames-plain [] [] are = (tt, refl)
frames-plain [] (p ∷ placed) are = absurd are
frames-plain (n ∷ needs) [] are = absurd are
frames-plain (n ∷ needs) (p ∷ placed) are =
    let more = frames-plain needs placed are.2 in
    ((are.0, more.0), omega (arith, more.1))

shape-by : (needs : List Need) (lead : Option SlotFields) (placed : List Placed)
    → AreItemSlots (part_items own_choice needs lead ++ []) placed
    → HasShape (length needs) placed
unfolding part_items AreItemSlots
shape-by needs None placed are =
    let own = frames-plain needs placed
    (subst (λ l. AreItemSlots l placed) (append-nil (map (need_item own_choice) needs)) are) in
    record {
      front = [];
      frames = placed;
      are = refl;
      count = own.1;
      plain = own.0;
      lead = inl refl;
    }
shape-by [] (Some slot) [] are = record {
  front = [];
  frames = [];
  are = refl;
  count = refl;
  plain = tt;
  lead = inl refl;
}
shape-by [] (Some slot) (p ∷ placed) are = absurd are
shape-by (n ∷ needs) (Some slot) [] are = absurd are
shape-by (n ∷ needs) (Some slot) (p ∷ placed) are =
    let own = frames-plain (n ∷ needs) placed
    (subst (λ l. AreItemSlots l placed) (append-nil (map (need_item own_choice) (n ∷ needs)))
    are.2) in
    record {
      front = p ∷ [];
      frames = placed;
      are = refl;
      count = own.1;
      plain = own.0;
      lead = inr (p, refl, are.0);
    }

plan-shape-by : (window : ℕ) (needs : List Need) (leads : List (Option SlotFields))
    {placed : List Placed} → AreLeadIns window own_choice (needs ∷ []) leads
    → AreItemSlots (all_items own_choice (needs ∷ []) leads) placed
    → HasShape (length needs) placed
unfolding AreLeadIns all_items
plan-shape-by window needs [] leads are = absurd leads
plan-shape-by window needs (lead ∷ leads) {placed} both are = shape-by needs lead placed are

-- what is known of the needs of a splice: their class, their headers, and that they fit
pub record IsSpliceNeeds (class : ClassFields) (needs : List Need) : Type 0 where
  pub known : IsClass class
  pub same : AreNeedsOfClass class needs
  pub some : 0 < length needs
  pub fits : FitsBehind (window_of class.version) (window_of class.version) needs
  pub headers : AreHeaders needs

module _ {class : ClassFields} {needs : List Need} (is : IsSpliceNeeds class needs) where
  abbrev window : ℕ
  window = window_of class.version

  planned : IsPlan window own_choice (needs ∷ []) (plan_of_splice_needs window needs)
  planned = splice-planned class needs is.known is.same is.some is.fits

  -- the plan of a splice has a place for each item, behind at most one lead-in
  pub plan-shape : HasShape (length needs) (plan_of_splice_needs window needs)
  plan-shape =
      plan-shape-by window needs planned.lead_ins planned.alone
      planned.whole.slots

  own_slots : AreSlots own_choice
  own_slots h slot known has = subst IsSlot (only_one has) known.slot

  -- the items fit in the slots of the plan
  pub plan-fitting : IsFittingPlan window needs (plan_of_splice_needs window needs)
  plan-fitting =
      subst (λ (l : List Need). IsFittingPlan window l (plan_of_splice_needs window needs))
      (append-nil needs)
      (parts-fitting window own_choice own_slots
      (is.headers, tt) planned)

-- ---- the headers of items

slot-by : {item : SpliceItem} {need : Need} → IsItemOf item need → IsHeader need.header
    → IsSlot item.need.header.slot
slot-by {item} {need} is known = at is.slot
  where
    at : (item.need.header.slot ≡ need.header.slot)
        ⊎ Contains all_slots item.need.header.slot → IsSlot item.need.header.slot
    at (inl own) = subst IsSlot (sym own) known.slot
    at (inr other) = slot_among other

frame-header : {item : SpliceItem} {need : Need} → IsItemOf item need → IsHeader need.header
    → IsHeader item.need.header
frame-header {item} {need} is known = grind (arith, slot-by is known, known)

lead-header : {item : SpliceItem} {need : Need} → IsLeadInOf item need → IsHeader need.header
    → IsHeader item.need.header
lead-header {item} is known =
    let slot = slot_among is.before.1 in
    subst IsHeader (sym is.before.0) (grind (arith, slot, known))

-- the headers of items are headers of the standard if those of the frames are
pub items-headers : (items : List SpliceItem) (needs : List Need) → AreSpliceItemsOf items needs
    → AreHeaders needs → AreHeaders (item_needs items)
unfolding AreSpliceItemsOf
items-headers [] [] are known = tt
items-headers [] (m ∷ needs) are known = absurd are
items-headers (item ∷ items) [] are known = absurd are
items-headers (item ∷ items) (m ∷ needs) (inl own) known =
    (frame-header own.0 known.0, items-headers items needs own.1 known.1)
items-headers (item ∷ items) (m ∷ needs) (inr lead) known =
    (lead-header lead.0 known.0, items-headers items (m ∷ needs) lead.2 known)

-- ---- the frames in the marked places

class-first : (item : SpliceItem) (need : Need) (items : List SpliceItem) (needs : List Need)
    → AreSpliceItemsOf (item ∷ items) (need ∷ needs)
    → class_of item.need.header ≡ class_of need.header
unfolding AreSpliceItemsOf
class-first item need items needs (inl own) = ap (λ (n : Need). class_of n.header) own.0.moved
class-first item need items needs (inr lead) = ap class_of lead.0.before.0

lead-reach : (window : ℕ) (p : Placed) (n m : Need) → p.lead_in ≡ true
    → class_of n.header ≡ class_of m.header → reach_behind window p m ≡ reach_behind window p n
lead-reach window p n m lead class = rw (lead, class) refl

none-of : (item : SpliceItem) (items : List SpliceItem) → AreSpliceItemsOf (item ∷ items) [] → ⊥
unfolding AreSpliceItemsOf
none-of item items are = are

with-lead : (window : ℕ) (items : List SpliceItem) (needs : List Need) (p : Placed)
    (frames : List Placed) → AreSpliceItemsOf items needs → 0 < length items → p.lead_in ≡ true
    → AreFramePlaces frames → FitsFromReach window 0 (item_needs items) (p ∷ frames)
    → FitsFromReach window 0 needs (p ∷ item_places items frames)
unfolding FitsFromReach
with-lead window [] needs p frames own some lead plain fits = absurd (omega (arith, some))
with-lead window (item ∷ items) [] p frames own some lead plain fits =
    absurd (none-of item items own)
with-lead window (item ∷ items) (m ∷ needs) p frames own some lead plain fits =
    let class = class-first item m items needs own in
    let rest = subst (λ b. FitsFromReach window (reach_behind window p item.need)
    (rest_behind b item.need (item_needs items)) frames) lead fits.2 in
    let laid = fits-marked window (reach_behind window p item.need) (item ∷ items) (m ∷ needs)
    frames own plain rest in (
      fits.0,
      rw lead (omega arith),
      subst (λ b. FitsFromReach window (reach_behind window p m) (rest_behind b m needs)
          (item_places (item ∷ items) frames)) (sym lead)
          (subst (λ r. FitsFromReach window r (m ∷ needs) (item_places (item ∷ items) frames))
          (sym (lead-reach window p item.need m lead class)) laid),
    )

slots-split : (xs ys : List Placed) → AreInSlots (xs ++ ys) → AreInSlots xs × AreInSlots ys
slots-split [] ys are = (tt, are)
slots-split (x ∷ xs) ys are =
    let more = slots-split xs ys are.1 in ((are.0, more.0), more.1)

slots-join : (xs ys : List Placed) → AreInSlots xs → AreInSlots ys → AreInSlots (xs ++ ys)
slots-join [] ys first second = second
slots-join (x ∷ xs) ys first second = (first.0, slots-join xs ys first.1 second)

module _ {window : ℕ} (items : List SpliceItem) (needs : List Need) {placed : List Placed}
    (own : AreSpliceItemsOf items needs) (some : 0 < length items)
    (shape : HasShape (length items) placed)
    (fitting : IsFittingPlan window (item_needs items) placed) where
  abbrev marked : List Placed
  marked = marked_places items placed

  before-is : places_before items placed ≡ length shape.front
  before-is = omega (
    arith,
    ap (λ (l : List Placed). length l) shape.are,
    length-append shape.front shape.frames,
    shape.count,
  )

  -- the marked places are that of the lead-in before all, and those of the items
  pub marked-are : marked ≡ shape.front ++ item_places items shape.frames
  marked-are =
      let at = before-is in
      let taken : take (places_before items placed) placed ≡ shape.front =
      ap (λ n. take n placed) at ∙ ap (take (length shape.front)) shape.are
      ∙ take_at shape.front shape.frames (length shape.front) refl in
      let dropped : drop (places_before items placed) placed ≡ shape.frames =
      ap (λ n. drop n placed) at ∙ ap (drop (length shape.front)) shape.are
      ∙ drop_at shape.front shape.frames (length shape.front) refl in
      ap₂ (λ (x y : List Placed). x ++ item_places items y) taken dropped

  -- the frames of the parts fit in the marked places
  pub marked-fitting : IsFittingPlan window needs marked
  marked-fitting = subst (IsFittingPlan window needs) (sym marked-are)
      (record { fits = at shape.front shape.are shape.lead; slots = slots })
    where
      at : (front : List Placed) → placed ≡ front ++ shape.frames
          → (front ≡ []) ⊎ ((p : Placed) × (front ≡ p ∷ []) × (p.lead_in ≡ true))
          → FitsFromReach window 0 needs (front ++ item_places items shape.frames)
      at front are (inl none) =
          rw none (fits-marked window 0 items needs shape.frames own shape.plain
          (subst (FitsFromReach window 0 (item_needs items))
          (are ∙ ap (λ l. l ++ shape.frames) none) fitting.fits))
      at front are (inr lead) =
          rw lead.1 (with-lead window items needs lead.0 shape.frames own some lead.2 shape.plain
          (subst (FitsFromReach window 0 (item_needs items))
          (are ∙ ap (λ l. l ++ shape.frames) lead.1) fitting.fits))

      slots : AreInSlots (shape.front ++ item_places items shape.frames)
      slots =
          let both = slots-split shape.front shape.frames
          (subst AreInSlots shape.are fitting.slots) in
          slots-join shape.front (item_places items shape.frames) both.0
          (marked-slots items shape.frames both.1)
