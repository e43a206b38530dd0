-- The first places of a plan, which the frames of one input take, and those after them.
use Rattle.std.proofs.Common.{ap, arith, Bool, drop, false, flat_map, length, length-append, List}
use Rattle.std.proofs.Common.{map, Option, option_map, refl, slice_range, subst, sym, true}
use Rattle.std.proofs.Common.{unwrap_or, ℕ, [], ◌++◌, ◌+◌, ◌-◌, ◌<◌, ◌∙◌, ◌∷◌, ◌≡◌, ◌≤◌}
use Rattle.std.proofs.lemmas.List.{length-map, take_all}
use Rattle.frame_header.specs.Fields.{HeaderFields, SlotFields}
use Rattle.frame_writer.specs.Frames.{Frame}
use Rattle.laying.proofs.PlannedFrameLemmas.{one}
use Rattle.laying.specs.Fits.{FitsFromReach, last_reach, reach_behind}
use Rattle.laying.specs.Places.{frame_count_behind, own_places, places_for}
use Rattle.laying.specs.Relaid.{relaid_frames, rest_behind}
use Rattle.slot_plan.specs.LeastPlan.{earliest_placement, lead_in_alone, least_plan, placed_items}
use Rattle.slot_plan.specs.{Parts.{all_items, part_items, PlanItem}, declared.needs.Need.Need}
use Rattle.slot_plan.specs.declared.needs.Placed.{Placed}

-- ---- how many places a plan has

placed-length : (items : List PlanItem) (slots : List SlotFields) (begins : List ℕ)
    → length (placed_items items slots begins) ≤ length items
unfolding placed_items
placed-length (item ∷ items) (slot ∷ slots) (begin ∷ begins) =
    omega (arith, placed-length items slots begins)
placed-length _ _ _ = omega arith

least-length : (window : ℕ) (items : List PlanItem) (found : Option (List SlotFields))
    → length (unwrap_or (option_map (earliest_placement window items) found) []) ≤ length items
least-length window items found = grind (arith, placed-length)

items-length : (choices : HeaderFields → List SlotFields) (part : List Need)
    (lead_in : Option SlotFields) → length (part_items choices part lead_in) ≤ length part + 1
unfolding part_items
items-length choices part lead_in = grind (arith, length-map)

whole-items : (window : ℕ) (choices : HeaderFields → List SlotFields) (parts : List (List Need))
    → length (all_items choices parts (map (lead_in_alone window choices) parts))
    ≤ length (flat_map (λ (part : List Need). part) parts) + length parts
unfolding all_items
whole-items window choices [] = omega arith
whole-items window choices (part ∷ parts) =
    grind (arith, items-length, length-append, flat_map, whole-items window choices parts)

-- a plan has a place for each frame, and at most one more for each part
pub plan-length : (window : ℕ) (choices : HeaderFields → List SlotFields) (parts : List (List Need))
    → length (least_plan window choices parts)
    ≤ length (flat_map (λ (part : List Need). part) parts) + length parts
unfolding least_plan
plan-length window choices parts = grind (arith, least-length, whole-items)

-- ---- how many places frames take

-- no frames take no places
pub places-none : (placed : List Placed) → places_for 0 placed ≡ 0
unfolding places_for
places-none [] = refl
places-none (p ∷ placed) = refl

-- no places can be taken of none
pub places-end : (frames : ℕ) → places_for frames [] ≡ 0
unfolding places_for
places-end frames = refl

-- frames take the first place, and then as many as the frames left after it take
pub places-next : {frames : ℕ} (p : Placed) (placed : List Placed) → 0 < frames
    → places_for frames (p ∷ placed)
    ≡ places_for (frame_count_behind p.lead_in (frames - 1)) placed + 1
unfolding places_for
places-next p placed some = grind arith

-- after a lead-in all frames are left
pub behind-lead : {b : Bool} {frames next : ℕ} → 0 < frames → b ≡ true → next ≡ frames
    → frame_count_behind b (frames - 1) ≡ next
behind-lead some is same = grind arith

-- after a frame one fewer is left
pub behind-frame : {b : Bool} (frames : ℕ) {next : ℕ} → b ≡ false → next ≡ frames - 1
    → frame_count_behind b (frames - 1) ≡ next
behind-frame frames is same = grind arith

-- ---- a plan of some frames, and of others after them

behind-append : {X : Type 0} (b : Bool) (x : X) (xs ys : List X)
    → rest_behind b x (xs ++ ys) ≡ rest_behind b x xs ++ ys
behind-append b x xs ys = grind arith

behind-length : {X : Type 0} (b : Bool) (x : X) (xs : List X)
    → length (rest_behind b x xs) ≡ frame_count_behind b (length xs)
behind-length b x xs = grind arith

-- of two lists of frames, the first is laid in the first places and the second in those after them
pub relaid_frames-append : (xs ys : List Frame) (placed : List Placed)
    → relaid_frames (xs ++ ys) placed
    ≡ relaid_frames xs placed ++ relaid_frames ys (drop (places_for (length xs) placed) placed)
unfolding relaid_frames places_for
relaid_frames-append xs ys [] = grind arith
relaid_frames-append [] ys (p ∷ placed) = refl
relaid_frames-append (x ∷ xs) ys (p ∷ placed) =
    ap (λ (l : List Frame). one p.lead_in p x ∷ relaid_frames l placed)
    (behind-append p.lead_in x xs ys)
    ∙ ap (λ (l : List Frame). one p.lead_in p x ∷ l)
    (relaid_frames-append (rest_behind p.lead_in x xs) ys placed)
    ∙ ap (λ n. one p.lead_in p x ∷ (relaid_frames (rest_behind p.lead_in x xs) placed
    ++ relaid_frames ys (drop (places_for n placed) placed))) (behind-length p.lead_in x xs)

-- if both lists fit, so does the first, and the second from where the first one's reach ends
pub fits-append : (window reach : ℕ) (xs ys : List Need) (placed : List Placed)
    → FitsFromReach window reach (xs ++ ys) placed
    → FitsFromReach window reach xs (own_places (length xs) placed) × FitsFromReach window
    (last_reach window reach xs placed) ys (drop (places_for (length xs) placed) placed)
unfolding FitsFromReach last_reach places_for
fits-append window reach [] ys [] fits = (tt, fits)
fits-append window reach [] ys (p ∷ placed) fits = (tt, fits)
fits-append window reach (x ∷ xs) ys [] fits = absurd fits
fits-append window reach (x ∷ xs) ys (p ∷ placed) fits =
    let both =
    fits-append window (reach_behind window p x) (rest_behind p.lead_in x xs) ys placed
    (subst (λ (l : List Need). FitsFromReach window (reach_behind window p x) l placed)
    (behind-append p.lead_in x xs ys) fits.2) in (
      (
        fits.0,
        fits.1,
        subst (λ n. FitsFromReach window (reach_behind window p x) (rest_behind p.lead_in x xs)
            (own_places n placed)) (behind-length p.lead_in x xs) both.0,
      ),
      subst (λ n. FitsFromReach window (last_reach window (reach_behind window p x)
          (rest_behind p.lead_in x xs) placed) ys (drop (places_for n placed) placed))
          (behind-length p.lead_in x xs) both.1,
    )

-- the frames of a plan are those in their own places
pub relaid_frames-own : (xs : List Frame) (placed : List Placed)
    → relaid_frames xs (own_places (length xs) placed) ≡ relaid_frames xs placed
unfolding relaid_frames places_for
relaid_frames-own [] [] = refl
relaid_frames-own [] (p ∷ placed) = refl
relaid_frames-own (x ∷ xs) [] = refl
relaid_frames-own (x ∷ xs) (p ∷ placed) =
    grind (arith, one, behind-length, relaid_frames-own (rest_behind p.lead_in x xs) placed)

-- main data after them may begin as far back if only their own places are taken
pub last-own : (window reach : ℕ) (xs : List Need) (placed : List Placed)
    → last_reach window reach xs (own_places (length xs) placed) ≡ last_reach window reach xs placed
unfolding last_reach places_for
last-own window reach [] [] = refl
last-own window reach [] (p ∷ placed) = refl
last-own window reach (x ∷ xs) [] = refl
last-own window reach (x ∷ xs) (p ∷ placed) =
    ap (λ n. last_reach window (reach_behind window p x) (rest_behind p.lead_in x xs)
    (own_places n placed)) (sym (behind-length p.lead_in x xs))
    ∙ last-own window (reach_behind window p x) (rest_behind p.lead_in x xs) placed

-- the slice from the beginning to the end is the whole list
pub range-whole : {X : Type 0} (xs : List X) → slice_range xs 0 (length xs) ≡ xs
range-whole xs = take_all (length xs - 0) xs (omega arith)
