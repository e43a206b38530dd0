-- The table is filled from the last frame back, and walked from the first.
use Rattle.std.proofs.Common.{All, ap, append_assoc, ap₂, arith, Contains, drop, false, get_or}
use Rattle.std.proofs.Common.{length, length-append, List, map, refl, subst, sym, take, ℕ, [], ◌++◌}
use Rattle.std.proofs.Common.{◌+◌, ◌-◌, ◌<◌, ◌∙◌, ◌∷◌, ◌≡◌, ◌≤◌}
use Rattle.std.proofs.lemmas.List.{append-nil, drop_all, get_or-append-add, get_or_default}
use Rattle.best_plan.proofs.SumLemmas.{first-more, first-none, first-shortest, IsFirst, IsLeastSum}
use Rattle.best_plan.{proofs.SumLemmas.{shortest-first, table-sums}, specs.Best.IsBestPlanFor}
use Rattle.best_plan.specs.Rows.{AppendsRow, area_sum, IsAreaChoice, nothing}
use Rattle.best_plan.specs.Table.{CanWalkTable, IsTable, IsTableEnd, need_areas, WalksTable}
use Rattle.frame_header.specs.Fields.{HeaderFields, SlotFields}
use Rattle.slot_plan.proofs.{AreaLemmas.Ascend, PartLemmas.next_need}
use Rattle.slot_plan.{proofs.ReserveLemmas.{begins-frees, frees_of}, specs.Lists.frames_with_areas}
use Rattle.slot_plan.specs.Parts.{item_area, need_item, open_frame, own_slot_area, PlanItem}
use Rattle.slot_plan.specs.{Parts.slot_areas, Plans.{AreItemSlots, item_areas}}
use Rattle.slot_plan.specs.{Reserve.free_bytes_behind, declared.needs.{Need.Need, Placed.Placed}}

-- ---- filling

-- after the last frame the table is the one for no frames
pub table-none : {window : ℕ} (choices : HeaderFields → List SlotFields) (needs : List Need)
    {sums places : List ℕ} → IsTableEnd window sums [] → places ≡ []
    → IsTable window choices (drop (length needs) needs) sums places
unfolding IsTable
table-none choices needs end none = grind (arith, drop_all)

-- one more row is the table from one frame earlier on
pub table-more : {window : ℕ} (choices : HeaderFields → List SlotFields) (needs : List Need) {i : ℕ}
    {need : Need} {later sums old new : List ℕ} → i < length needs → need ≡ get_or needs i need
    → AppendsRow window need.bytes (need_areas choices need) later sums old new
    → All (λ n. n ≤ 1441) (need_areas choices need)
    → Contains (need_areas choices need) (own_slot_area need)
    → IsTable window choices (drop (i + 1) needs) later old
    → IsTable window choices (drop i needs) sums new
unfolding IsTable
table-more {window} choices needs
    {i} {need} {later} {sums} {old} {new} within is row most own behind =
    subst (λ l. IsTable window choices l sums new) (sym (next_need needs within is))
    (record {
      later = later;
      before = old;
      cells = row.cells;
      behind = behind;
      appended = row.appended;
      row = row.is;
      most = most;
      own = own;
    })

-- a table has a sum for each number of free bytes up to a window
pub table-width : (window : ℕ) (choices : HeaderFields → List SlotFields) (needs : List Need)
    (sums places : List ℕ) → IsTable window choices needs sums places → length sums ≡ window + 1
unfolding IsTable
table-width window choices [] sums places table = table.width
table-width window choices (need ∷ needs) sums places table = table.row.width

-- ---- placing

-- the placed frames have the first list of the least sum, and the free bytes as main_data_begin
pub record IsWalked (window free : ℕ) (items : List PlanItem) (placed : List Placed) : Type 0 where
  pub slots : AreItemSlots items placed
  pub list : IsFirst window free (map open_frame items) (item_areas items placed)
  pub begins : map (λ p. p.begin) placed
      ≡ frees_of window free (frames_with_areas (map open_frame items) (item_areas items placed))

-- an empty list of frames was walked
pub walked-none : (window free : ℕ) → IsWalked window free [] []
unfolding AreItemSlots item_areas frames_with_areas frees_of
walked-none window free = record { slots = tt; list = first-none window free; begins = refl }

-- a frame with the first best area, before others that were walked, was walked
pub walked-more : {window free : ℕ} {item : PlanItem} {items : List PlanItem} {p : Placed}
    {placed : List Placed} {later : List ℕ} {cost place : ℕ}
    → Ascend (slot_areas item.class item.protected item.choices)
    → IsAreaChoice window free item.bytes
    (slot_areas item.class item.protected item.choices) later cost place → cost < nothing →
    ((left : ℕ) → left ≤ window
    → IsLeastSum window left (map open_frame items) (get_or later left 0))
    → item_area item p.slot ≡ get_or (slot_areas item.class item.protected item.choices) place 0
    → Contains item.choices p.slot → p.lead_in ≡ item.lead_in → p.begin ≡ free → IsWalked window
    (free_bytes_behind window free item.bytes (item_area item p.slot)) items placed
    → IsWalked window free (item ∷ items) (p ∷ placed)
unfolding AreItemSlots item_areas frames_with_areas frees_of
walked-more {window} {free} {item} {items} {p} {placed} {later} {cost} {place} ascend choice some
    behind area chosen lead
    begin rest = record {
      slots = (lead, chosen, rest.slots);
      list = first-more (open_frame item)
          choice behind ascend some (sym area)
          rest.list;
      begins = ap₂ (λ n (l : List ℕ). n ∷ l) begin rest.begins;
    }

-- what was walked is best for the frames
pub best-walked : {window free : ℕ} {items : List PlanItem} {placed : List Placed} → free ≤ window
    → IsWalked window free items placed → IsBestPlanFor window free items placed
best-walked {window} {free} {items} {placed} within is =
    record {
      slots = is.slots;
      best = shortest-first within is.list;
      begins = grind (arith, begins-frees);
    }

-- what is best for the frames was walked
pub walked-best : {window free : ℕ} {items : List PlanItem} {placed : List Placed} → free ≤ window
    → IsBestPlanFor window free items placed → IsWalked window free items placed
walked-best {window} {free} {items} {placed} within is =
    let list =
    first-shortest within is.best in
    record {
      slots = is.slots;
      list = list;
      begins = grind (arith, begins-frees);
    }

-- ---- the row of the first frame

-- the table has a choice for the first frame, and without its row is the table for the others
pub record IsOpen (window : ℕ) (choices : HeaderFields → List SlotFields) (free : ℕ) (need : Need)
    (rest : List Need) (places : List ℕ) : Type 0 where
  pub later : List ℕ
  pub cost : ℕ
  pub long : window + 1 ≤ length places
  pub some : cost < nothing
  pub choice : IsAreaChoice window free need.bytes (need_areas choices need) later cost
      (get_or places (length places - (window + 1) + free) 0)
  pub behind : IsTable window choices rest later (take (length places - (window + 1)) places)

take-front : (xs ys : List ℕ) → take (length xs) (xs ++ ys) ≡ xs
take-front [] ys = refl
take-front (x ∷ xs) ys = ap (λ l. x ∷ l) (take-front xs ys)

opened : {window : ℕ} {choices : HeaderFields → List SlotFields} {free : ℕ} {need : Need}
    {rest : List Need} (sums : List ℕ) {places : List ℕ} → free ≤ window
    → get_or sums free 0 < nothing → IsTable window choices (need ∷ rest) sums places
    → IsOpen window choices free need rest places
unfolding IsTable
opened {window} {choices} {free} {rest = rest} sums
    {places} within some table =
    let count = ap length table.appended ∙ length-append table.before table.cells in
    let from : length places - (window + 1) ≡ length table.before =
    omega (arith, count, table.row.many) in
    let place : get_or places (length places - (window + 1) + free) 0 ≡ get_or table.cells free 0 =
    grind (arith, get_or-append-add) in
    let before : take (length places - (window + 1)) places ≡ table.before =
    grind (arith, take-front) in
    record {
      later = table.later;
      cost = get_or sums free 0;
      long = omega (arith, count, table.row.many);
      some = some;
      choice = grind arith;
      behind = subst (IsTable window choices rest table.later) (sym before) table.behind;
    }

-- at each frame from which the walk can continue, the table has a choice
pub walk-open : {window : ℕ} {choices : HeaderFields → List SlotFields} {free : ℕ} {places : List ℕ}
    (needs : List Need) {i : ℕ} {need : Need} → free ≤ window → i < length needs
    → need ≡ get_or needs i need → CanWalkTable window choices free (drop i needs) places
    → IsOpen window choices free need (drop (i + 1) needs) places
walk-open {window} {choices} {free} {places} needs within lt is
    can =
    grind (arith, opened, next_need)

-- the walk can continue from what that choice leaves
pub walk-next : {window : ℕ} {choices : HeaderFields → List SlotFields} {free after area : ℕ}
    {need : Need} {rest : List Need} {places left : List ℕ}
    (front : IsOpen window choices free need rest places) → area
    ≡ get_or (need_areas choices need) (get_or places (length places - (window + 1) + free) 0) 0
    → after ≡ free_bytes_behind window free need.bytes area → left
    ≡ take (length places - (window + 1)) places → CanWalkTable window choices after rest left
walk-next {window} {choices} {free} {area = area} {need = need} {rest =
    rest} front is gives taken =
    let found : front.cost ≡ area_sum window free need.bytes front.later area = grind arith in
    record {
      sums = front.later;
      table = subst (IsTable window choices rest front.later) (sym taken) front.behind;
      some = omega (arith, front.some, found, ap (λ n. get_or front.later n 0) gives);
    }

-- ---- the frames placed so far: whatever is best from there on is best from the first on
-- what is best from one frame on, after the frames placed so far, is best from the first on
pub record GoesOn (window : ℕ) (choices : HeaderFields → List SlotFields) (free after : ℕ)
    (needs left : List Need) (old new : List Placed) : Type 0 where
  pub more : List Placed
  pub appended : new ≡ old ++ more
  pub goes : (placed : List Placed) → IsWalked window after (map (need_item choices) left) placed
      → IsWalked window free (map (need_item choices) needs) (more ++ placed)

-- before the first frame nothing was placed
pub goes-begun : (window : ℕ) (choices : HeaderFields → List SlotFields) (free : ℕ)
    (needs : List Need) (old : List Placed) → GoesOn window choices free free needs needs old old
goes-begun window choices free needs old =
    record { more = []; appended = sym (append-nil old); goes = λ placed is. is }

-- placing the frame at i by the table continues the walk
pub goes-more : {window : ℕ} {choices : HeaderFields → List SlotFields} {free now after : ℕ}
    {needs : List Need} {i : ℕ} {need : Need} {p : Placed} {places : List ℕ} {old new : List Placed}
    → i < length needs → need ≡ get_or needs i need
    → IsOpen window choices now need (drop (i + 1) needs) places → Ascend (need_areas choices need)
    → item_area (need_item choices need) p.slot
    ≡ get_or (need_areas choices need) (get_or places (length places - (window + 1) + now) 0) 0
    → Contains (choices need.header) p.slot → p.lead_in ≡ false → p.begin ≡ now
    → after ≡ free_bytes_behind window now need.bytes (item_area (need_item choices need) p.slot)
    → GoesOn window choices free now needs (drop i needs) old new
    → GoesOn window choices free after needs (drop (i + 1) needs) old (new ++ p ∷ [])
goes-more {window} {choices} {free} {now} {needs = needs} {i =
    i} {need = need} {p = p} {places = places} {old = old} within is front ascend at chosen lead
    begin gives so_far = record {
      more = so_far.more ++ p ∷ [];
      appended = ap (λ l. l ++ p ∷ []) so_far.appended ∙ append_assoc old so_far.more (p ∷ []);
      goes = λ placed rest.
          let items : List PlanItem = map (need_item choices) (drop (i + 1) needs) in
          let here =
          walked-more ascend front.choice front.some
          (table-sums window choices (drop (i + 1) needs)
          front.later (take (length places - (window + 1)) places) front.behind) at chosen lead
          begin
          (subst (λ n. IsWalked window n items placed) gives rest) in
          subst (IsWalked window free (map (need_item choices) needs))
          (sym (append_assoc so_far.more (p ∷ []) placed))
          (so_far.goes (p ∷ placed) (subst (λ l. IsWalked window now (map (need_item choices) l)
          (p ∷ placed)) (sym (next_need needs within is)) here));
    }

-- after the last frame all frames were placed by the walk
pub goes-all : {window : ℕ} {choices : HeaderFields → List SlotFields} {free after : ℕ}
    {needs : List Need} {i : ℕ} {old new : List Placed} → free ≤ window → length needs ≤ i
    → GoesOn window choices free after needs (drop i needs) old new
    → WalksTable window choices free needs old new
goes-all {window} {choices} {free} {after} {needs} {i} within all so_far =
    let none = subst (λ l. IsWalked window after (map (need_item choices) l) [])
    (sym (drop_all i needs all)) (walked-none window after) in
    record {
      more = so_far.more;
      appended = so_far.appended;
      best = best-walked within
          (subst (IsWalked window free (map (need_item choices) needs)) (append-nil so_far.more)
          (so_far.goes [] none));
    }

-- ---- the place that is read, and the area there
module _ {window : ℕ} {choices : HeaderFields → List SlotFields} {free : ℕ} {need : Need}
    {rest : List Need} {places : List ℕ} (front : IsOpen window choices free need rest places)
    (within : free ≤ window) {count value : ℕ}
    (all : count ≡ length places)
    (is : value ≡ get_or places (count - (window + 1) + free) value) where
  -- the place that is read is the place that the table has for the free bytes
  pub place-is : get_or places (length places - (window + 1) + free) 0 ≡ value
  place-is = grind (arith, get_or_default)

  -- the area is the one at that place
  pub area-is : {area : ℕ} → area ≡ get_or (need_areas choices need) value 0 → area
      ≡ get_or (need_areas choices need) (get_or places (length places - (window + 1) + free) 0) 0
  area-is gives = gives ∙ ap (λ n. get_or (need_areas choices need) n 0) (sym place-is)
