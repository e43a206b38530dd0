-- The frames of a part, from each place on.
use Rattle.std.proofs.Common.{All, AllPairs, ap, arith, Contains, drop, false, get_or, inl, inr}
use Rattle.std.proofs.Common.{length, length-append, List, map, Option, refl, Some, subst, suc, sym}
use Rattle.std.proofs.Common.{take, zero, ℕ, [], ◌++◌, ◌+◌, ◌-◌, ◌<◌, ◌∙◌, ◌∷◌, ◌≡◌, ◌≤◌}
use Rattle.std.proofs.{Math.Seq.drop-cons, lemmas.Bool.cases_lt}
use Rattle.std.proofs.lemmas.List.{drop-map, drop_all, length-drop, length-take-le, same_from_push}
use Rattle.std.{proofs.lemmas.List.take_all, specs.Prelude.{option_to_list, slice_range, unwrap_or}}
use Rattle.frame_header.specs.{Fields.{ClassFields, HeaderFields, SlotFields}, Limits.most_back}
use Rattle.frame_header.specs.Slots.{all_slots, largest_slot}
use Rattle.frame_header.specs.Tables.{area_of, class_of, window_of}
use Rattle.slot_plan.proofs.AreaLemmas.{leads-span}
use Rattle.slot_plan.proofs.ReserveLemmas.{AllFit, feasible-windows, fit-after, fit-layout}
use Rattle.slot_plan.{proofs.ReserveLemmas.reserve_before-fit, specs.Layouts.HasLayout}
use Rattle.slot_plan.specs.Lists.{AreChosenAreas, frames_with_areas}
use Rattle.slot_plan.specs.Parts.{AreNeedsOfClass, AreNeedsOfOneClass, ArePartsFeasible}
use Rattle.slot_plan.specs.Parts.{CanBePlanned, need_item, needs_in_parts, open_frame, own_frame}
use Rattle.slot_plan.specs.Parts.{window_in}
use Rattle.slot_plan.specs.Reserve.{area_by_header, AreReserves, AreReservesInWindow}
use Rattle.slot_plan.specs.Reserve.{frame_by_header, greatest_number, IsPlaceablePart, open_frames}
use Rattle.slot_plan.specs.Reserve.{own_area_of, reserve_before, reserves_behind}
use Rattle.slot_plan.specs.declared.{needs.Need.Need, reserves.Reserves.Reserves}

-- the need at i, and those after it
pub next_need : (part : List Need) {i : ℕ} {need : Need} → i < length part
    → need ≡ get_or part i need → drop i part ≡ need ∷ drop (i + 1) part
next_need part lt is = search (arith, drop-cons)

-- a part with an area for each frame is the frames with these areas
pub frames-by : (choices : HeaderFields → List SlotFields) (area : HeaderFields → ℕ)
    (part : List Need)
    → frames_with_areas (open_frames choices part) (map (area_by_header area) part)
    ≡ map (frame_by_header area) part
unfolding frames_with_areas
frames-by choices area [] = refl
frames-by choices area (need ∷ part) = grind (arith, frames-by choices area part)

-- if a part has a layout, no more is needed from any frame on than the window
pub reserve_before-from : {window : ℕ} (before k : ℕ) (choices : HeaderFields → List SlotFields)
    (area : HeaderFields → ℕ) (part : List Need)
    → HasLayout window before (map (frame_by_header area) part)
    → AreChosenAreas (open_frames choices (drop k part)) (map (area_by_header area) (drop k part))
    → (reserve_before (open_frames choices (drop k part)) ≤ window)
    × AreReservesInWindow window (open_frames choices (drop k part))
reserve_before-from {window} before k choices area part feasible chosen =
    let fit : AllFit window window (drop k (map (frame_by_header area) part)) =
    fit-after window before k (map (frame_by_header area) part) feasible in
    let same =
    drop-map (frame_by_header area) k part ∙ sym (frames-by choices area (drop k part)) in
    reserve_before-fit window (open_frames choices (drop k part))
    (map (area_by_header area) (drop k part))
    (omega arith) chosen (subst (AllFit window window) same fit)

-- if a part has a layout after some bytes, its frames need at most these
pub reserve_before-first : (window : ℕ) {before : ℕ} (choices : HeaderFields → List SlotFields)
    (area : HeaderFields → ℕ) (part : List Need)
    → HasLayout window before (map (frame_by_header area) part)
    → AreChosenAreas (open_frames choices part) (map (area_by_header area) part)
    → reserve_before (open_frames choices part) ≤ before
unfolding HasLayout
reserve_before-first window {before} choices area part feasible chosen =
    let free : ℕ = before - (before - window) in
    let fit = fit-layout window 0 before
    (map (frame_by_header area) part) feasible.0 (omega arith) feasible.1 in
    let enough =
    (reserve_before-fit free (open_frames choices part) (map (area_by_header area) part)
    (omega arith) chosen (subst (AllFit window free) (sym (frames-by choices area part)) fit)).0 in
    omega (arith, enough)

-- ---- one more frame
-- one more frame at the front adds what is needed after it
pub behind-cons : (choices : HeaderFields → List SlotFields) (need : Need) (part : List Need)
    → reserves_behind (open_frames choices (need ∷ part))
    ≡ reserves_behind (open_frames choices part) ++ reserve_before (open_frames choices part) ∷ []
unfolding reserves_behind
behind-cons choices need part = refl

-- a part needs its first frame's bytes and what the
-- others need, less the first frame's largest area
pub reserve_before-cons : (choices : HeaderFields → List SlotFields) (need : Need)
    (part : List Need) → reserve_before (open_frames choices (need ∷ part))
    ≡ (need.bytes + reserve_before (open_frames choices part))
    - greatest_number (open_frame (need_item choices need)).areas
unfolding reserve_before
reserve_before-cons choices need part = refl

-- if what all frames need is within a window, so is what the others need
pub within-cons : {window : ℕ} (choices : HeaderFields → List SlotFields) (need : Need)
    (part : List Need) → AreReservesInWindow window (open_frames choices (need ∷ part))
    → (reserve_before (open_frames choices part) ≤ window)
    × AreReservesInWindow window (open_frames choices part)
unfolding AreReservesInWindow
within-cons choices need part all = all

-- a choice of areas for the other frames and one for the first is a choice for all
pub chosen-cons : (choices : HeaderFields → List SlotFields) (area : HeaderFields → ℕ) (need : Need)
    (part : List Need) → Contains (open_frame (need_item choices need)).areas (area need.header)
    → AreChosenAreas (open_frames choices part) (map (area_by_header area) part)
    → AreChosenAreas (open_frames choices (need ∷ part)) (map (area_by_header area) (need ∷ part))
unfolding AreChosenAreas
chosen-cons choices area need part here behind = (here, behind)

-- an empty part needs nothing after any frame
pub nothing_behind : (choices : HeaderFields → List SlotFields)
    → reserves_behind (open_frames choices []) ≡ []
unfolding reserves_behind
nothing_behind choices = refl

-- an empty part needs nothing
pub reserve_before-nothing : (choices : HeaderFields → List SlotFields)
    → reserve_before (open_frames choices []) ≡ 0
unfolding reserve_before
reserve_before-nothing choices = refl

-- an empty part needs at most a window
pub nothing_within : (window : ℕ) (choices : HeaderFields → List SlotFields)
    → AreReservesInWindow window (open_frames choices [])
unfolding AreReservesInWindow
nothing_within window choices = tt

-- the empty list is a choice of areas for an empty part
pub nothing_chosen : (choices : HeaderFields → List SlotFields) (area : HeaderFields → ℕ)
    → AreChosenAreas (open_frames choices []) (map (area_by_header area) [])
unfolding AreChosenAreas
nothing_chosen choices area = tt

-- the last of the list is what the first frame needs after it
pub popped : {behind rest : List ℕ} {last : Option ℕ} {ns : List ℕ} {n : ℕ} → behind ≡ ns ++ n ∷ []
    → behind ≡ rest ++ option_to_list last → 0 < length (option_to_list last)
    → (last ≡ Some n) × (rest ≡ ns)
popped is parts some = grind (arith, same_from_push)

-- ---- the frames of a part from i on have what they need
-- what the frames from i on need, before the first and after each, is within a window
pub record ReservesFrom (window : ℕ) (choices : HeaderFields → List SlotFields)
    (area : HeaderFields → ℕ) (part : List Need) (i : ℕ) (stack : List ℕ) (first : ℕ) : Type 0 where
  pub before : first ≡ reserve_before (open_frames choices (drop i part))
  pub behind : stack ≡ reserves_behind (open_frames choices (drop i part))
  pub most : first ≤ window
  pub within : AreReservesInWindow window (open_frames choices (drop i part))
  pub chosen : AreChosenAreas (open_frames choices (drop i part))
      (map (area_by_header area) (drop i part))

module _ (window : ℕ) (choices : HeaderFields → List SlotFields) (area : HeaderFields → ℕ)
    (part : List Need) where
  -- after the last frame nothing is needed
  pub reserves-none : ReservesFrom window choices area part (length part) [] 0
  reserves-none =
      let none : drop (length part) part ≡ [] = drop_all (length part) part (omega arith) in
      record {
        before = grind (arith, reserve_before-nothing choices);
        behind = grind (arith, nothing_behind choices);
        most = omega arith;
        within = grind (arith, nothing_within window choices);
        chosen = grind (arith, nothing_chosen choices area);
      }

  -- one frame earlier, what is needed is known of one more frame
  pub reserves-more : (before : ℕ) {i : ℕ} {behind : List ℕ} {after result : ℕ} {need : Need}
      → i < length part → need ≡ get_or part i need
      → HasLayout window before (map (frame_by_header area) part)
      → Contains (open_frame (need_item choices need)).areas (area need.header)
      → result ≡ (need.bytes + after) - greatest_number (open_frame (need_item choices need)).areas
      → ReservesFrom window choices area part (i + 1) behind after
      → ReservesFrom window choices area part i (behind ++ after ∷ []) result
  reserves-more before
      {i} {behind} {result = result} {need = need} within is feasible has gives from =
      let here = next_need part within is in
      let rest : List Need = drop (i + 1) part in
      let chosen =
      subst (λ l. AreChosenAreas (open_frames choices l) (map (area_by_header area) l)) (sym here)
      (chosen-cons choices area need rest has from.chosen) in
      let all = reserve_before-from before i choices area part feasible chosen in
      let value : result ≡ reserve_before (open_frames choices (drop i part)) =
      grind (arith, reserve_before-cons) in
      record {
        before = value;
        behind = grind (arith, behind-cons);
        most = omega (arith, value, all.0);
        within = all.1;
        chosen = chosen;
      }

  -- at the first frame, what is needed is known of all
  pub reserves-all : {i : ℕ} {reserves : Reserves} → i ≡ 0
      → ReservesFrom window choices area part i reserves.behind.items reserves.before
      → AreReserves window choices area part reserves
  reserves-all none from = grind arith

-- ---- forwards: what the next frame needs after it
-- the last of the list is what is needed after the frame at i, and the rest is for those after it
pub next-wanted : (choices : HeaderFields → List SlotFields) (part : List Need) {i : ℕ}
    {need : Need} {behind rest : List ℕ} {many : ℕ} {last : Option ℕ} {wanted : ℕ} → i < length part
    → need ≡ get_or part i need → behind ≡ reserves_behind (open_frames choices (drop i part))
    → many ≡ length behind → behind ≡ rest ++ option_to_list last
    → ((d : ℕ) → 0 < many → last ≡ Some (get_or behind (many - 1) d)) → wanted ≡ unwrap_or last 0
    → (wanted ≡ reserve_before (open_frames choices (drop (i + 1) part)))
    × (rest ≡ reserves_behind (open_frames choices (drop (i + 1) part)))
next-wanted choices part {i} {behind = behind} {rest = rest} {many = many} {last = last} within
    is all count parts value gives =
    let left : List Need = drop (i + 1) part in
    let ns : List ℕ = reserves_behind (open_frames choices left) in
    let whole : behind ≡ ns ++ reserve_before (open_frames choices left) ∷ [] =
    grind (arith, next_need, within, behind-cons) in
    let some : 0 < many =
    omega
    (arith, ap length whole, length-append ns (reserve_before (open_frames choices left) ∷ [])) in
    let full : 0 < length (option_to_list last) =
    subst (λ o. 0 < length (option_to_list o)) (sym (value 0 some)) (omega arith) in
    let popping =
    popped whole parts full in
    (gives ∙ ap (λ o. unwrap_or o 0) popping.0, popping.1)

-- the frames from i on need the first one's bytes and
-- what those after it need, less its largest area
pub next-reserve_before : (choices : HeaderFields → List SlotFields) (part : List Need) {i : ℕ}
    {need : Need} → i < length part → need ≡ get_or part i need
    → reserve_before (open_frames choices (drop i part))
    ≡ (need.bytes + reserve_before (open_frames choices (drop (i + 1) part)))
    - greatest_number (open_frame (need_item choices need)).areas
next-reserve_before choices part within is = grind (arith, next_need, reserve_before-cons)

-- after the frame at i at most a window is needed either
pub next-within : {window : ℕ} (choices : HeaderFields → List SlotFields) (part : List Need) {i : ℕ}
    {need : Need} → i < length part → need ≡ get_or part i need
    → AreReservesInWindow window (open_frames choices (drop i part))
    → (reserve_before (open_frames choices (drop (i + 1) part)) ≤ window)
    × AreReservesInWindow window (open_frames choices (drop (i + 1) part))
next-within choices part within is all = grind (arith, within-cons, next_need, within)

-- ---- the parts
-- the parts from a place on are the one there and those after it
pub parts-cons : (needs : List Need) (parts : List ℕ) (at from end : ℕ) → at < length parts
    → from ≡ get_or parts at 0 → (at + 1 < length parts → end ≡ get_or parts (at + 1) 0)
    → (length parts ≤ at + 1 → end ≡ length needs) → needs_in_parts needs (drop at parts)
    ≡ slice_range needs from end ∷ needs_in_parts needs (drop (at + 1) parts)
unfolding needs_in_parts
parts-cons needs parts at from end within is next last =
    let one : suc at ≡ at + 1 = omega arith in
    let two : suc (at + 1) ≡ at + 2 = omega arith in
    let here : drop at parts ≡ from ∷ drop (at + 1) parts = grind (arith, drop-cons, within) in
    ap (needs_in_parts needs) here
    ∙ elim (cases_lt (at + 1) (length parts))
    as (λ _. needs_in_parts needs (from ∷ drop (at + 1) parts)
    ≡ slice_range needs from end ∷ needs_in_parts needs (drop (at + 1) parts)) [
      | inl more ↦ grind (arith, drop-cons)
      | inr none ↦ grind (arith, drop_all)
    ]

-- past the last place there are no parts
pub parts-none : (needs : List Need) (parts : List ℕ) {at : ℕ} → length parts ≤ at
    → needs_in_parts needs (drop at parts) ≡ []
unfolding needs_in_parts
parts-none needs parts {at} all = ap (needs_in_parts needs) (drop_all at parts all)

-- if all parts are feasible, so is the first, and so are the others
pub feasible-cons : (window : ℕ) (part : List Need) (parts : List (List Need))
    → ArePartsFeasible window (part ∷ parts)
    → HasLayout window window (map own_frame part) × ArePartsFeasible window parts
unfolding ArePartsFeasible
feasible-cons window part parts all = all

-- the need at i is of the class of all needs
pub class-at : {class : ClassFields} (needs : List Need) (i : ℕ) (d : Need)
    → AreNeedsOfClass class needs → i < length needs → class_of (get_or needs i d).header ≡ class
unfolding AreNeedsOfClass
class-at [] i d all within = absurd (omega arith)
class-at (need ∷ needs) zero d all within = all.0
class-at {class} (need ∷ needs) (suc i) d all within = class-at needs i d all.1 (omega arith)

-- the class of all needs is the class of a need that the code reads
pub same-class : {class : ClassFields} (needs : List Need) {i : ℕ} {need : Need}
    → AreNeedsOfClass class needs → i < length needs → need ≡ get_or needs i need
    → class ≡ class_of need.header
same-class needs all within is = grind (arith, class-at, within)

-- the area of a slot is the area in the class of the need
pub area-in : (class : ClassFields) (needs : List Need) {i area : ℕ} {need opened : Need}
    (slot : SlotFields) → AreNeedsOfClass class needs → i < length needs
    → need ≡ get_or needs i need → opened ≡ need → area ≡ area_of class slot opened.header.protected
    → area ≡ area_of (class_of need.header) slot need.header.protected
area-in class needs slot all within is same gives = grind (arith, same-class)

-- the first needs are of the class
pub class-take : (class : ClassFields) (needs : List Need) (k : ℕ) → AreNeedsOfClass class needs
    → AreNeedsOfClass class (take k needs)
unfolding AreNeedsOfClass
class-take class needs zero all = tt
class-take class [] (suc k) all = tt
class-take class (need ∷ needs) (suc k) all = (all.0, class-take class needs k all.1)

-- the needs after them are of the class
pub class-drop : (class : ClassFields) (needs : List Need) (k : ℕ) → AreNeedsOfClass class needs
    → AreNeedsOfClass class (drop k needs)
unfolding AreNeedsOfClass
class-drop class needs zero all = all
class-drop class [] (suc k) all = all
class-drop class (need ∷ needs) (suc k) all = class-drop class needs k all.1

-- any range of the needs is of the class
pub class-range : (class : ClassFields) (needs : List Need) (from to : ℕ)
    → AreNeedsOfClass class needs → AreNeedsOfClass class (slice_range needs from to)
class-range class needs from to all = grind (arith, class-take, class-drop)

-- needs of one class are of the class of their first
pub one-class : {class : ClassFields} (needs : List Need) (d : Need) → AreNeedsOfOneClass needs
    → class ≡ class_of (get_or needs 0 d).header → AreNeedsOfClass class needs
unfolding AreNeedsOfClass
one-class needs d all is = grind arith

-- the window of a need is the window of the first
window-at : (needs : List Need) {i : ℕ} (d : Need) → AreNeedsOfOneClass needs → i < length needs
    → window_of (get_or needs i d).header.version ≡ window_in needs
window-at needs d all within = grind (arith, class-at)

-- a part from one place to a later one has frames
pub part-some : (needs : List Need) (from end : ℕ) → from < end → end ≤ length needs
    → 0 < length (slice_range needs from end)
part-some needs from end some within = grind (arith, length-take-le, length-drop)

-- the window of the first need is the window of all
pub window-first : (needs : List Need) (d : Need) {class : ClassFields} {window : ℕ}
    → AreNeedsOfOneClass needs → 0 < length needs → class ≡ class_of (get_or needs 0 d).header
    → window ≡ window_of class.version → window ≡ window_in needs
window-first needs d all some has gives = grind (arith, window-at)

-- the window of the first need of parts that can be planned is the window of all
pub planned-window : {needs : List Need} {parts : List ℕ} (d : Need) {class : ClassFields}
    {window : ℕ} → CanBePlanned needs parts → class ≡ class_of (get_or needs 0 d).header
    → window ≡ window_of class.version → window ≡ window_in needs
planned-window d planned has gives = grind (arith, window-first)

-- a part isn't empty, and ends within the needs
pub part-bounds : (needs : List Need) (parts : List ℕ) (at end : ℕ) → AllPairs (λ m n. m < n) parts
    → All (λ place. place < length needs) parts → at < length parts
    → (at + 1 < length parts → end ≡ get_or parts (at + 1) 0)
    → (length parts ≤ at + 1 → end ≡ length needs)
    → (get_or parts at 0 < end) × (end ≤ length needs)
part-bounds needs parts at end ascend all within next last = grind (arith, cases_lt, within)

-- all needs are one part
pub range-all : (needs : List Need) → slice_range needs 0 (length needs) ≡ needs
range-all needs = take_all (length needs - 0) needs (omega arith)

-- if the one part is feasible, so are all needs
pub one-part : (needs : List Need) {window : ℕ} → window ≡ window_in needs
    → ArePartsFeasible (window_in needs) (needs_in_parts needs (0 ∷ []))
    → HasLayout window window (map own_frame needs)
unfolding ArePartsFeasible needs_in_parts
one-part needs is feasible = grind (arith, range-all)

-- a part with a layout in its own slots can be placed after a lead-in of any slot
pub placeable-own : {class lengths : ClassFields} {window : ℕ} {part : List Need} → lengths ≡ class
    → window ≤ area_of class largest_slot false → window ≤ most_back → 0 < length part
    → HasLayout window window (map own_frame part)
    → IsPlaceablePart window lengths all_slots own_area_of part
placeable-own is spanned most some feasible = grind (arith, leads-span, most, feasible-windows)

-- the part at this place has frames and a layout, and the parts after it have one too
pub part-ready : (needs : List Need) (parts : List ℕ) (at end window : ℕ)
    → AllPairs (λ m n. m < n) parts → All (λ place. place < length needs) parts → at < length parts
    → (at + 1 < length parts → end ≡ get_or parts (at + 1) 0)
    → (length parts ≤ at + 1 → end ≡ length needs)
    → ArePartsFeasible window (needs_in_parts needs (drop at parts))
    → (0 < length (slice_range needs (get_or parts at 0) end))
    × HasLayout window window (map own_frame (slice_range needs (get_or parts at 0) end))
    × ArePartsFeasible window (needs_in_parts needs (drop (at + 1) parts))
part-ready needs parts at end window ascend all within next last feasible =
    let from : ℕ = get_or parts at 0 in
    let bounds = part-bounds needs parts at end ascend all within next last in
    let here = feasible-cons window (slice_range needs from end)
    (needs_in_parts needs (drop (at + 1) parts)) (subst (ArePartsFeasible window)
    (parts-cons needs parts at from end within refl next last) feasible) in
    (part-some needs from end bounds.0 bounds.1, here.0, here.1)
