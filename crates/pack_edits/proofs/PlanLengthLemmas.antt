-- Of all plans by which frames can be laid, with no lead-ins other than the best plan's, none has
-- shorter slots.
use Rattle.std.proofs.Common.{All, ap, arith, Bool, Contains, false, inl, inr, List, map, None}
use Rattle.std.proofs.Common.{Option, refl, Some, subst, suc, sum, sym, true, ℕ, [], ◌+◌, ◌↔◌, ◌∙◌}
use Rattle.std.proofs.{Common.{◌∷◌, ◌≡◌, ◌≤◌}, lemmas.List.{Elements.All-cons, Sums.sum_by-cons}}
use Rattle.best_plan.proofs.{BestOfLemmas.chosen-for, ShortestListLemmas.whole-one}
use Rattle.best_plan.proofs.SumLemmas.{laid-fits, sum-cons}
use Rattle.best_plan.specs.Best.{IsBestPlan, IsBestPlanFor, items_with_lead_in}
use Rattle.frame_header.proofs.SlotLemmas.{area-is, Contains-all_slots}
use Rattle.frame_header.specs.{Fields.{ClassFields, IsClass, SlotFields}, Slots.all_slots}
use Rattle.frame_header.specs.Tables.{length_of, overhead_of}
use Rattle.laying.proofs.FitLemmas.{asked-area, asked-bytes, Asks, IsAsked}
use Rattle.laying.specs.Fits.{AreInSlots, FitsFromReach, IsFittingPlan, reach_behind}
use Rattle.laying.specs.{NeedsFit.any_choice, Relaid.rest_behind}
use Rattle.pack_edits.proofs.{BestLemmas.asks-behind, FileLengthLemmas.size_of}
use Rattle.pack_edits.specs.Fewest.{HasNoMoreLeadIns, lead_ins}
use Rattle.slot_plan.{proofs.ReserveLemmas.AllFit, specs.Lists.{CanBeLaid, frames_with_areas}}
use Rattle.slot_plan.specs.Parts.{all_items, AreLeadIns, AreNeedsOfClass, IsLeadIn, item_area}
use Rattle.slot_plan.specs.Parts.{need_item, open_frame, part_items, PlanItem}
use Rattle.slot_plan.specs.{Plans.{AreItemSlots, IsPlan, item_areas}, declared.needs.Need.Need}
use Rattle.slot_plan.specs.declared.needs.Placed.{Placed}

-- ---- places of lead-ins

-- the places of lead-ins are those of the items
abbrev Flagged : List PlanItem → List Placed → Type 0
Flagged [] [] = Unit {0}
Flagged (item ∷ items) (p ∷ placed) = (p.lead_in ≡ item.lead_in) × Flagged items placed
Flagged _ _ = ⊥

flagged-same : (items : List PlanItem) (placed other : List Placed) → AreItemSlots items placed
    → lead_ins other ≡ lead_ins placed → Flagged items other
unfolding AreItemSlots
flagged-same [] [] [] for_items same = tt
flagged-same [] (p ∷ placed) other for_items same = absurd for_items
flagged-same (item ∷ items) [] other for_items same = absurd for_items
flagged-same (item ∷ items) (p ∷ placed) (o ∷ other) for_items same =
    let first : o.lead_in ≡ p.lead_in = cc in
    let rest : lead_ins other ≡ lead_ins placed = cc in
    (first ∙ for_items.0, flagged-same items placed other for_items.2 rest)
flagged-same _ _ _ for_items same = absurd cc

flagged-none : (window reach : ℕ) (needs : List Need) (other : List Placed)
    → FitsFromReach window reach needs other → All (λ p. p.lead_in ≡ false) other
    → Flagged (map (need_item any_choice) needs) other
unfolding FitsFromReach
flagged-none window reach [] [] fits none = tt
flagged-none window reach (need ∷ needs) (o ∷ other) fits none =
    let first : o.lead_in ≡ false = none 0 o (omega arith) in
    let behind : FitsFromReach window (reach_behind window o need) needs other = grind arith in (
      first,
      flagged-none window (reach_behind window o need) needs other behind
          (λ k d lt. none (suc k) d (omega (arith, lt))),
    )
flagged-none window reach _ _ fits none = absurd fits

-- ---- a plan has one of the lists among which the best is the shortest

abbrev AreWide : List PlanItem → Type 0
AreWide [] = Unit {0}
AreWide (item ∷ items) = (item.choices ≡ all_slots) × AreWide items

wide-each : (needs : List Need) → AreWide (map (need_item any_choice) needs)
wide-each [] = tt
wide-each (need ∷ needs) = (refl, wide-each needs)

wide-behind : (lead_in : Bool) (needs : List Need)
    → AreWide (items_with_lead_in lead_in any_choice needs)
unfolding items_with_lead_in
wide-behind lead_in needs = grind (arith, wide-each)

for-flagged : (items : List PlanItem) (placed : List Placed) → AreWide items → Flagged items placed
    → AreInSlots placed → AreItemSlots items placed
unfolding AreItemSlots
for-flagged [] [] wide flagged slots = tt
for-flagged (item ∷ items) (p ∷ placed) wide flagged slots = (
  flagged.0,
  subst (λ l. Contains l p.slot) (sym wide.0) (Contains-all_slots p.slot slots.0),
  for-flagged items placed wide.1 flagged.1 slots.1,
)
for-flagged _ _ wide flagged slots = absurd flagged

-- in the areas of the plan there is room for the main data, whatever main_data_begin it gives them
fits-room : (window reach : ℕ) {free : ℕ} (items : List PlanItem) (needs : List Need)
    (placed : List Placed) → Asks items needs → Flagged items placed
    → FitsFromReach window reach needs placed → reach ≤ free
    → AllFit window free (frames_with_areas (map open_frame items) (item_areas items placed))
unfolding FitsFromReach AllFit frames_with_areas item_areas
fits-room window reach [] [] [] asks flagged fits within = tt
fits-room window reach [] (need ∷ needs) placed asks flagged fits within = absurd asks
fits-room window reach (item ∷ items) [] placed asks flagged fits within = absurd asks
fits-room window reach {free} (item ∷ items) (need ∷ needs)
    (p ∷ placed) asks flagged fits within =
    let is : IsAsked p.lead_in item need = grind arith in
    let follow : Asks items (rest_behind p.lead_in need needs) = grind arith in
    let area = asked-area p.lead_in item need p.slot is in
    let bytes = asked-bytes p.lead_in item need is in (
      omega (arith, area, bytes, fits.0, fits.1, within),
      fits-room window (reach_behind window p need) items
          (rest_behind p.lead_in need needs) placed follow
          flagged.1 fits.2 (omega (arith, area, bytes, fits.0, fits.1, within)),
    )
fits-room window reach _ _ _ asks flagged fits within = absurd flagged

-- ---- the lengths of the slots

abbrev AreAllOf : ClassFields → List PlanItem → Type 0
AreAllOf c [] = Unit {0}
AreAllOf c (item ∷ items) = (item.class ≡ c) × AreAllOf c items

all-each : (c : ClassFields) (needs : List Need) → AreNeedsOfClass c needs
    → AreAllOf c (map (need_item any_choice) needs)
unfolding AreNeedsOfClass
all-each c [] same = tt
all-each c (need ∷ needs) same = (same.0, all-each c needs same.1)

all-behind : (c : ClassFields) (lead_in : Bool) (needs : List Need) → AreNeedsOfClass c needs
    → AreAllOf c (items_with_lead_in lead_in any_choice needs)
unfolding items_with_lead_in AreNeedsOfClass
all-behind c lead_in needs same = grind (arith, all-each)

-- the bytes of frames outside their areas
abbrev overheads : List PlanItem → ℕ
overheads [] = 0
overheads (item ∷ items) = overhead_of item.class item.protected + overheads items

size-is : (c : ClassFields) (items : List PlanItem) (placed : List Placed) → IsClass c
    → AreAllOf c items → AreInSlots placed → AreItemSlots items placed
    → size_of c placed ≡ sum (item_areas items placed) + overheads items
unfolding AreItemSlots item_areas
size-is c [] [] class all slots for_items = refl
size-is c (item ∷ items) (p ∷ placed) class all slots for_items =
    let own = area-is item.class p.slot item.protected (subst IsClass (sym all.0) class) slots.0 in
    omega (
      arith,
      own.0,
      ap (λ d. length_of d p.slot) all.0,
      size-is c items placed class all.1 slots.1 for_items.2,
      sum_by-cons (λ (q : Placed). length_of c q.slot) p placed,
      sum-cons (item_area item p.slot) (item_areas items placed),
    )
size-is c _ _ class all slots for_items = absurd for_items

-- ---- the best plan

module _ (window : ℕ) (c : ClassFields) (needs : List Need) (class : IsClass c)
    (same : AreNeedsOfClass c needs) where
  behind-least : (lead_in : Bool) {best other : List Placed}
      → IsBestPlanFor window 0 (items_with_lead_in lead_in any_choice needs) best → AreInSlots best
      → IsFittingPlan window needs other
      → Flagged (items_with_lead_in lead_in any_choice needs) other
      → size_of c best ≤ size_of c other
  behind-least lead_in is slots fitting flagged =
      grind (
        arith,
        all-behind,
        for-flagged,
        wide-behind,
        fits-room,
        asks-behind,
        chosen-for,
        laid-fits,
        size-is,
      )

  -- frames that can be laid without a lead-in have none
  without-lead : {other : List Placed} → IsFittingPlan window needs other
      → Flagged (items_with_lead_in false any_choice needs) other
      → CanBeLaid window (map open_frame (items_with_lead_in false any_choice needs))
  unfolding CanBeLaid
  without-lead {other} fitting flagged =
      let items = items_with_lead_in false any_choice needs in
      let for_items = for-flagged items other (wide-behind false needs) flagged fitting.slots in
      let room = fits-room window 0 items needs other
      (asks-behind false needs) flagged fitting.fits (omega arith) in (
        item_areas items other,
        chosen-for items other for_items,
        laid-fits (frames_with_areas (map open_frame items) (item_areas items other))
            (omega arith) room,
      )

  none-flagged : {other : List Placed} → IsFittingPlan window needs other
      → All (λ p. p.lead_in ≡ false) other
      → Flagged (items_with_lead_in false any_choice needs) other
  unfolding items_with_lead_in
  none-flagged {other} fitting none = flagged-none window 0 needs other fitting.fits none

  lead-none : {lead_in : Bool}
      → (lead_in ≡ false) ↔ CanBeLaid window (map open_frame (map (need_item any_choice) needs))
      → CanBeLaid window (map open_frame (items_with_lead_in false any_choice needs))
      → false ≡ lead_in
  unfolding items_with_lead_in
  lead-none without can = sym (without.1 can)

  -- the slots of the best plan are together the shortest of all plans with no other lead-ins
  pub best-least : {best other : List Placed} → IsBestPlan window any_choice needs best
      → AreInSlots best → IsFittingPlan window needs other → HasNoMoreLeadIns best other
      → size_of c best ≤ size_of c other
  best-least is slots fitting (inl places) = grind (arith, behind-least, flagged-same)
  best-least {best} {other} is slots fitting (inr none) =
      let flagged = none-flagged fitting none in
      let without = lead-none is.without (without-lead fitting flagged) in
      behind-least is.lead_in is.whole slots fitting
      (subst (λ b. Flagged (items_with_lead_in b any_choice needs) other) without flagged)

-- ---- the plain plan has no lead-ins other than the best plan's

flags-for : (items : List PlanItem) (placed : List Placed) → AreItemSlots items placed
    → lead_ins placed ≡ map (λ (item : PlanItem). item.lead_in) items
unfolding AreItemSlots
flags-for [] [] for_items = refl
flags-for (item ∷ items) (p ∷ placed) for_items = grind (arith, flags-for items placed for_items.2)
flags-for _ _ for_items = absurd for_items

none-for : (needs : List Need) (placed : List Placed)
    → AreItemSlots (map (need_item any_choice) needs) placed → All (λ p. p.lead_in ≡ false) placed
unfolding AreItemSlots
none-for [] [] for_items = λ k d lt. absurd (omega (arith, lt))
none-for (need ∷ needs) (p ∷ placed) for_items = All-cons (λ (q : Placed). q.lead_in ≡ false) p
    placed for_items.0 (none-for needs placed for_items.2)
none-for _ _ for_items = absurd for_items

module _ (window : ℕ) (best placed : List Placed) where
  by-lead : (needs : List Need) (lead_in : Bool) (other : Option SlotFields)
      → (lead_in ≡ false) ↔ CanBeLaid window (map open_frame (map (need_item any_choice) needs))
      → AreItemSlots (items_with_lead_in lead_in any_choice needs) best
      → IsLeadIn window any_choice needs other
      → AreItemSlots (part_items any_choice needs other) placed → HasNoMoreLeadIns best placed
  unfolding IsLeadIn part_items items_with_lead_in
  by-lead needs lead_in None without for_best alone for_items = grind (arith, none-for)
  by-lead [] lead_in (Some slot) without for_best alone for_items = absurd alone
  by-lead (first ∷ needs) false (Some slot) without for_best alone for_items = grind arith
  by-lead (first ∷ needs) true (Some slot) without for_best alone for_items =
      inl (flags-for _ placed for_items ∙ sym (flags-for _ best for_best))

  by-leads : (needs : List Need) {lead_in : Bool} (others : List (Option SlotFields))
      → (lead_in ≡ false) ↔ CanBeLaid window (map open_frame (map (need_item any_choice) needs))
      → AreItemSlots (items_with_lead_in lead_in any_choice needs) best
      → AreLeadIns window any_choice (needs ∷ []) others
      → AreItemSlots (all_items any_choice (needs ∷ []) others) placed
      → HasNoMoreLeadIns best placed
  unfolding AreLeadIns
  by-leads needs [] without for_best alone for_items = absurd alone
  by-leads needs (other ∷ another ∷ others) without for_best alone for_items = grind arith
  by-leads needs (other ∷ []) without for_best alone for_items = grind (arith, by-lead, whole-one)

  -- the plain plan has its lead-ins where the best plan has them, or none
  pub plan-no_more : {needs : List Need} → IsBestPlan window any_choice needs best
      → IsPlan window any_choice (needs ∷ []) placed → HasNoMoreLeadIns best placed
  plan-no_more is plan = grind (arith, by-leads)
