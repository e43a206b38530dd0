-- The plan as a value: the first of all lists of slots, in the order of their areas, for
-- which there is a layout. It defines what `cut`, `split`, `join`, `pack`, `salvage` and
-- `drill` write; the laws say that it is the plan of `Plans`, and the only one.
use Rattle.std.specs.Prelude.{find, flat_map, if◌then◌else◌, is_some, List, map, None, Option}
use Rattle.std.specs.Prelude.{option_and_then, option_map, slice_get, unwrap_or, ℕ, [], ◌∷◌}
use Rattle.frame_header.specs.{Fields.{HeaderFields, SlotFields}, Slots.all_slots, Tables.class_of}
use Rattle.slot_plan.specs.Layouts.{begins_of, FrameLengths, has_layout}
use Rattle.slot_plan.specs.Parts.{all_items, item_area, lead_in_item, led_items, need_item}
use Rattle.slot_plan.specs.{Parts.PlanItem, declared.needs.{Need.Need, Placed.Placed}}

-- All lists of slots, one of its choices for each item: those with the first choice of the
-- first item come before those with its second, and so on. Where the areas of an item's
-- choices ascend, as they do in all commands, this is the lexicographic order of the areas.
unfoldable pub all_lists : List PlanItem → List (List SlotFields)
all_lists [] = [] ∷ []
all_lists (item ∷ items) =
    flat_map (λ slot. map (λ slots. slot ∷ slots) (all_lists items)) item.choices

-- the items in these slots
unfoldable pub frames_in_slots : List PlanItem → List SlotFields → List FrameLengths
frames_in_slots [] slots = []
frames_in_slots (item ∷ items) [] = []
frames_in_slots (item ∷ items) (slot ∷ slots) =
    record { bytes = item.bytes; area = item_area item slot } ∷ frames_in_slots items slots

-- the first list of slots for which there is a layout, if there is one
abbrev pub first_list : ℕ → List PlanItem → Option (List SlotFields)
first_list window items =
    find (λ slots. has_layout window 0 0 (frames_in_slots items slots)) (all_lists items)

-- the items in these slots, with each one's main_data_begin
unfoldable pub placed_items : List PlanItem → List SlotFields → List ℕ → List Placed
placed_items (item ∷ items) (slot ∷ slots) (begin ∷ begins) =
    record { lead_in = item.lead_in; slot = slot; begin = begin } ∷ placed_items items slots begins
placed_items items slots begins = []

-- the items in these slots, their main data as early as they may be
abbrev pub earliest_placement : ℕ → List PlanItem → List SlotFields → List Placed
earliest_placement window items slots =
    placed_items items slots (begins_of window 0 0 (frames_in_slots items slots))

-- the items in the slots of the first list
abbrev pub least_placement : ℕ → List PlanItem → Option (List Placed)
least_placement window items =
    option_map (earliest_placement window items) (first_list window items)

-- The lead-in of a part alone: none if there is a layout without one, otherwise
-- the first slot of the first list with one, which may have any slot.
unfoldable pub lead_in_alone : ℕ → (HeaderFields → List SlotFields) → List Need → Option SlotFields
lead_in_alone window choices [] = None
lead_in_alone window choices (first ∷ part) =
    let frames = map (need_item choices) (first ∷ part) in
    if is_some (first_list window frames) then None else
    option_and_then (λ slots. slice_get slots 0)
    (first_list window (lead_in_item (class_of first.header) all_slots ∷ frames))

-- the plan of all parts, with the lead-in that each has alone; empty if there is none
unfoldable pub least_plan : ℕ → (HeaderFields → List SlotFields) → List (List Need) → List Placed
least_plan window choices parts = unwrap_or (least_placement window
    (all_items choices parts (map (lead_in_alone window choices) parts))) []

-- the first list of a part's frames after one lead-in of any slot,
-- their main data as early as they may be; empty if there is none
unfoldable pub led_plan : ℕ → (HeaderFields → List SlotFields) → List Need → List Placed
led_plan window choices part = unwrap_or (least_placement window (led_items choices part)) []
