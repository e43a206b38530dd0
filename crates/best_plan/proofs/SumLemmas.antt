-- Lists of numbers: the sums of a table are the least of all lists that fit,
-- and the first areas that have them are the lexicographically least list.
use Rattle.std.proofs.Common.{ap, arith, Contains, fold, get_or, length, List, map, refl, subst}
use Rattle.std.proofs.Common.{sum, sym, ℕ, [], ◌*◌, ◌+◌, ◌<◌, ◌∙◌, ◌∷◌, ◌≡◌, ◌≤◌}
use Rattle.std.proofs.lemmas.{Bool.cases_lt, List.get_or_default}
use Rattle.best_plan.specs.{Best.IsShortestList, Rows.{area_sum, IsAreaChoice, nothing}}
use Rattle.best_plan.specs.Table.{IsTable}
use Rattle.frame_header.specs.Fields.{HeaderFields, SlotFields}
use Rattle.slot_plan.proofs.{AreaLemmas.Ascend, ReserveLemmas.{AllFit, fit-layout, layout-fit}}
use Rattle.slot_plan.specs.Layouts.{FrameLengths, HasLayout}
use Rattle.slot_plan.specs.Lists.{AreChosenAreas, frames_with_areas, IsNotBehind, OpenFrame}
use Rattle.slot_plan.specs.Parts.{need_item, open_frame, own_slot_area}
use Rattle.slot_plan.specs.{Reserve.{free_bytes_behind, open_frames}, declared.needs.Need.Need}

-- frames with a layout after free bytes fit in these
pub fits-laid : (window free : ℕ) (frames : List FrameLengths) → HasLayout window free frames
    → AllFit window free frames
unfolding HasLayout
fits-laid window free frames feasible =
    fit-layout window 0 free frames feasible.0 (omega arith) feasible.1

-- frames that fit in at most a window of free bytes have a layout after these
pub laid-fits : {window free : ℕ} (frames : List FrameLengths) → free ≤ window
    → AllFit window free frames → HasLayout window free frames
unfolding HasLayout
laid-fits {window} {free} frames within fit =
    grind (
      arith,
      layout-fit window 0 {before = free} {free = free} frames (omega arith)
          (omega (arith, within)) fit,
      fit,
    )

-- ---- the sums

fold-add : (a : ℕ) (ns : List ℕ) → fold (λ m n. m + n) a ns ≡ a + fold (λ m n. m + n) 0 ns
fold-add a [] = omega arith
fold-add a (n ∷ ns) = omega (arith, fold-add (a + n) ns, fold-add (0 + n) ns)

-- numbers add up to the first and the sum of the rest
pub sum-cons : (n : ℕ) (ns : List ℕ) → sum (n ∷ ns) ≡ n + sum ns
sum-cons n ns = omega (arith, fold-add (0 + n) ns)

-- the least sum of all lists that fit after `free` free bytes
pub record IsLeastSum (window free : ℕ) (opens : List OpenFrame) (cost : ℕ) : Type 0 where
  pub least : (others : List ℕ) → AreChosenAreas opens others
      → AllFit window free (frames_with_areas opens others) → cost ≤ sum others
  pub some : cost < nothing → (areas : List ℕ) × AreChosenAreas opens areas
      × AllFit window free (frames_with_areas opens areas) × (sum areas ≡ cost)

-- the least sum for no frames is 0
pub no-sum : (window free : ℕ) → IsLeastSum window free [] 0
unfolding AreChosenAreas AllFit frames_with_areas
no-sum window free = record {
  least = λ others _ _. omega arith;
  some = λ _. ([], tt, tt, refl);
}

behind-within : (window free bytes area : ℕ) → free_bytes_behind window free bytes area ≤ window
behind-within window free bytes area = omega arith

at-place : (ns : List ℕ) {k : ℕ} → k < length ns → Contains ns (get_or ns k 0)
at-place ns {k} within = (k, within, get_or_default ns k (get_or ns k 0) 0 within)

placed-at : (ns : List ℕ) {n : ℕ} (has : Contains ns n) → get_or ns has.0 0 ≡ n
placed-at ns {n} has = get_or_default ns has.0 0 n has.1 ∙ has.2

-- ---- the first of the least lists

-- of the lists that fit, the one with the least sum, and the first in order of these
pub record IsFirst (window free : ℕ) (opens : List OpenFrame) (areas : List ℕ) : Type 0 where
  pub chosen : AreChosenAreas opens areas
  pub fit : AllFit window free (frames_with_areas opens areas)
  pub shortest : (others : List ℕ) → AreChosenAreas opens others
      → AllFit window free (frames_with_areas opens others) → sum areas ≤ sum others
  pub first : (others : List ℕ) → AreChosenAreas opens others
      → AllFit window free (frames_with_areas opens others) → sum others ≡ sum areas
      → IsNotBehind areas others

none : (others : List ℕ) → AreChosenAreas [] others → IsNotBehind [] others
unfolding AreChosenAreas IsNotBehind
none others chosen = grind arith

-- the empty list is the first for no frames
pub first-none : (window free : ℕ) → IsFirst window free [] []
unfolding AreChosenAreas AllFit frames_with_areas IsNotBehind
first-none window free = record {
  chosen = tt;
  fit = tt;
  shortest = λ others _ _. omega arith;
  first = λ others chosen _ _. none others chosen;
}

-- the first of the lists has the least sum
sum-is : {window free : ℕ} {opens : List OpenFrame} {areas : List ℕ} {cost : ℕ}
    → IsFirst window free opens areas → IsLeastSum window free opens cost → cost < nothing
    → sum areas ≡ cost
sum-is is sums some = grind (arith, some)

-- a lesser area comes before a greater one
place-before : (ns : List ℕ) {j k : ℕ} → Ascend ns → j < length ns → k < length ns
    → get_or ns j 0 < get_or ns k 0 → j < k
place-before ns ascend within here less = grind (arith, cases_lt)

module _ {window free : ℕ} (o : OpenFrame) {opens : List OpenFrame} {later : List ℕ}
    {cost place : ℕ} (is : IsAreaChoice window free o.bytes o.areas later cost place)
    (behind : (left : ℕ) → left ≤ window → IsLeastSum window left opens (get_or later left 0)) where
  least-more : (others : List ℕ) → AreChosenAreas (o ∷ opens) others
      → AllFit window free (frames_with_areas (o ∷ opens) others) → cost ≤ sum others
  unfolding AreChosenAreas AllFit frames_with_areas
  least-more [] chosen fit = absurd chosen
  least-more (area ∷ others) chosen fit =
      grind (
        arith,
        behind-within window free o.bytes area,
        placed-at o.areas chosen.0,
        sum-cons area others,
      )

  -- the least sum over the areas of a frame, with the
  -- sums of the frames after it, is the least of all
  pub more-sums : IsLeastSum window free (o ∷ opens) cost
  unfolding AreChosenAreas AllFit frames_with_areas
  more-sums = record {
    least = least-more;
    some = λ some.
        let area : ℕ = get_or o.areas place 0 in
        let left : ℕ = free_bytes_behind window free o.bytes area in
        let found = is.found some in
        let rest =
        (behind left (behind-within window free o.bytes area)).some (omega (arith, some, found))
        in (
          area ∷ rest.0,
          (at-place o.areas (is.within some), rest.1),
          (is.fits some, rest.2),
          sum-cons area rest.0 ∙ ap (λ n. area + n) rest.3 ∙ sym found,
        );
  }

  module _ {area : ℕ} (ascend : Ascend o.areas) (some : cost < nothing)
      (at : get_or o.areas place 0 ≡ area) where
    -- no other list of that sum begins with a smaller area
    not-before : {other : ℕ} (others : List ℕ) → Contains o.areas other → o.bytes ≤ free + other
        → AreChosenAreas opens others → AllFit window (free_bytes_behind window free o.bytes other)
        (frames_with_areas opens others) → other + sum others ≡ cost → other < area → ⊥
    not-before {other} others has room chosen fit same less =
        let there = placed-at o.areas has in
        let before = place-before o.areas ascend has.1 (is.within some)
        (omega (arith, there, at, less)) in
        let more : cost < area_sum window free o.bytes later other = grind (arith, some) in
        let rest = (behind (free_bytes_behind window free o.bytes other)
        (behind-within window free o.bytes other)).least others chosen fit in
        omega (arith, more, rest, same)

    first-of : {areas : List ℕ}
        → IsFirst window (free_bytes_behind window free o.bytes area) opens areas
        → area + sum areas ≡ cost → (others : List ℕ) → AreChosenAreas (o ∷ opens) others
        → AllFit window free (frames_with_areas (o ∷ opens) others) → sum others ≡ cost
        → IsNotBehind (area ∷ areas) others
    unfolding AreChosenAreas AllFit frames_with_areas IsNotBehind
    first-of rest total others chosen fit same = grind (arith, cases_lt, not-before, sum-cons)

    -- the first area with the least sum, followed by the first list after it, is the first list
    pub first-more : {areas : List ℕ}
        → IsFirst window (free_bytes_behind window free o.bytes area) opens areas
        → IsFirst window free (o ∷ opens) (area ∷ areas)
    unfolding AreChosenAreas AllFit frames_with_areas
    first-more {areas} rest =
        let left : ℕ = free_bytes_behind window free o.bytes area in
        let found : cost ≡ area_sum window free o.bytes later area = grind (arith, some) in
        let total : area + sum areas ≡ cost =
        omega (
          arith,
          found,
          sum-is rest
              (behind left (behind-within window free o.bytes area)) (omega (arith, found, some)),
        ) in
        record {
          chosen = grind (arith, at-place o.areas (is.within some), some);
          fit = (subst (λ n. o.bytes ≤ free + n) at (is.fits some), rest.fit);
          shortest = grind (arith, sum-cons, least-more);
          first = grind (arith, first-of, sum-cons);
        }

-- the first of the lists with the least sum is the shortest
pub shortest-first : {window free : ℕ} {opens : List OpenFrame} {areas : List ℕ} → free ≤ window
    → IsFirst window free opens areas → IsShortestList window free opens areas
shortest-first {window} {free} {opens} {areas} within is = record {
  chosen = is.chosen;
  feasible = laid-fits (frames_with_areas opens areas) within is.fit;
  shortest = grind (arith, fits-laid);
  first = grind (arith, fits-laid);
}

-- the shortest list is the first of the lists with the least sum
pub first-shortest : {window free : ℕ} {opens : List OpenFrame} {areas : List ℕ} → free ≤ window
    → IsShortestList window free opens areas → IsFirst window free opens areas
first-shortest {window} {free} {opens} {areas} within is = record {
  chosen = is.chosen;
  fit = fits-laid window free (frames_with_areas opens areas) is.feasible;
  shortest = grind (arith, laid-fits);
  first = grind (arith, laid-fits);
}

-- ---- the sums of a table

-- the sums of a table are the least
pub table-sums : (window : ℕ) (choices : HeaderFields → List SlotFields) (needs : List Need)
    (sums places : List ℕ) → IsTable window choices needs sums places → (left : ℕ) → left ≤ window
    → IsLeastSum window left (open_frames choices needs) (get_or sums left 0)
unfolding IsTable
table-sums window choices [] sums places table left within = grind (arith, no-sum)
table-sums window choices (need ∷ needs) sums places table left within =
    more-sums (open_frame (need_item choices need)) (table.row.each left within)
    (table-sums window choices needs table.later table.before table.behind)

-- no list has more than 1,441 bytes for each frame
pub table-bound : (window : ℕ) (choices : HeaderFields → List SlotFields) (needs : List Need)
    (sums places areas : List ℕ) → IsTable window choices needs sums places
    → AreChosenAreas (open_frames choices needs) areas → sum areas ≤ 1441 * length needs
unfolding IsTable AreChosenAreas
table-bound window choices [] sums places [] table chosen = omega arith
table-bound window choices (need ∷ needs) sums places (area ∷ areas) table chosen =
    grind (
      arith,
      placed-at,
      sum-cons,
      table-bound window choices needs table.later table.before
          areas table.behind chosen.1,
    )
table-bound window choices _ sums places _ table chosen = absurd chosen

-- each frame may keep its slot
pub table-own : (window : ℕ) (choices : HeaderFields → List SlotFields) (needs : List Need)
    (sums places : List ℕ) → IsTable window choices needs sums places
    → AreChosenAreas (open_frames choices needs) (map own_slot_area needs)
unfolding IsTable AreChosenAreas
table-own window choices [] sums places table = tt
table-own window choices (need ∷ needs) sums places table =
    (table.own, table-own window choices needs table.later table.before table.behind)
