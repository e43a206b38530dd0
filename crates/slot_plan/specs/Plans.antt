-- The plan of parts: the least list with the lead-ins that
-- each part has alone, with main data as early as they may be.
use Rattle.std.specs.Prelude.{Contains, List, map, Option, ℕ, [], ◌∷◌, ◌≡◌}
use Rattle.frame_header.specs.Fields.{HeaderFields, SlotFields}
use Rattle.slot_plan.specs.{Layouts.begins_of, Lists.{frames_with_areas, IsLeastList}}
use Rattle.slot_plan.specs.Parts.{all_items, AreLeadIns, item_area, led_items, open_frame, PlanItem}
use Rattle.slot_plan.specs.declared.needs.{Need.Need, Placed.Placed, Plan.Plan}

-- a slot for each item, one of those among which it chooses, and lead-ins where they belong
unfoldable pub AreItemSlots : List PlanItem → List Placed → Type 0
AreItemSlots [] [] = Unit {0}
AreItemSlots [] (p ∷ placed) = ⊥
AreItemSlots (item ∷ items) [] = ⊥
AreItemSlots (item ∷ items) (p ∷ placed) =
    (p.lead_in ≡ item.lead_in) × Contains item.choices p.slot × AreItemSlots items placed

-- the areas of the slots
unfoldable pub item_areas : List PlanItem → List Placed → List ℕ
item_areas [] placed = []
item_areas (item ∷ items) [] = []
item_areas (item ∷ items) (p ∷ placed) = item_area item p.slot ∷ item_areas items placed

-- these items in the slots of the least list, their main data as early as they may be
pub record IsPlanFor (window : ℕ) (items : List PlanItem) (placed : List Placed) : Type 0 where
  pub slots : AreItemSlots items placed
  pub least : IsLeastList window (map open_frame items) (item_areas items placed)
  pub begins : map (λ p. p.begin) placed
      ≡ begins_of window 0 0 (frames_with_areas (map open_frame items) (item_areas items placed))

-- the plan of all parts, with the lead-in that each has alone
pub record IsPlan (window : ℕ) (choices : HeaderFields → List SlotFields) (parts : List (List Need))
    (placed : List Placed) : Type 0 where
  pub lead_ins : List (Option SlotFields)
  pub alone : AreLeadIns window choices parts lead_ins
  pub whole : IsPlanFor window (all_items choices parts lead_ins) placed

-- The led plan of a part: the least of all lists of slots for a lead-in and the part's
-- frames that has a layout, whether or not there is a layout without a lead-in.
abbrev pub IsLedPlan : ℕ → (HeaderFields → List SlotFields) → List Need → List Placed → Type 0
IsLedPlan window choices part placed = IsPlanFor window (led_items choices part) placed

-- the frames of a plan, in order of output
abbrev pub entries : Plan → List Placed
entries plan = plan.placed.items
