-- Frames in other slots fit where they fit in their own.
use Rattle.std.proofs.Common.{arith, Bool, cond, false, List, subst, ℕ, [], ◌∷◌, ◌≡◌}
use Rattle.frame_header.specs.Tables.{area_of, class_of}
use Rattle.laying.specs.Fits.{FitsFromReach, placed_area, placed_bytes, reach_behind}
use Rattle.laying.specs.Relaid.{rest_behind}
use Rattle.seamless_edits.specs.Deciding.{AreMovedNeeds}
use Rattle.slot_plan.specs.declared.needs.{Need.Need, Placed.Placed}

abbrev InSlot : Need → Need → Type 0
InSlot n m = (n.bytes ≡ m.bytes) × (n.header ≡ record m.header { slot = n.header.slot })

bytes-same : (b : Bool) {n : Need} (m : Need) → InSlot n m → placed_bytes b n ≡ placed_bytes b m
bytes-same b m is = grind arith

area-by : (b : Bool) (p : Placed) {n : Need} (m : Need) → InSlot n m
    → area_of (class_of n.header) p.slot (cond b false n.header.protected)
    ≡ area_of (class_of m.header) p.slot (cond b false m.header.protected)
area-by b p m is = grind arith

area-same : (p : Placed) {n : Need} (m : Need) → InSlot n m → placed_area p n ≡ placed_area p m
area-same p {n} m is = area-by p.lead_in p m is

reach-same : (window : ℕ) (p : Placed) {n : Need} (m : Need) → InSlot n m
    → reach_behind window p n ≡ reach_behind window p m
reach-same window p m is = grind (arith, area-same, bytes-same)

behind-same : (b : Bool) {n : Need} (m : Need) (needs others : List Need) → InSlot n m
    → AreMovedNeeds needs others → AreMovedNeeds (rest_behind b n needs) (rest_behind b m others)
behind-same b m needs others is are = grind arith

-- whether frames fit in a plan doesn't depend on the slots that they have before
pub fits-moved : (window reach : ℕ) (needs others : List Need) (placed : List Placed)
    → AreMovedNeeds needs others → FitsFromReach window reach needs placed
    → FitsFromReach window reach others placed
unfolding FitsFromReach
fits-moved window reach [] [] [] are fits = tt
fits-moved window reach [] [] (p ∷ placed) are fits = absurd fits
fits-moved window reach [] (m ∷ others) placed are fits = absurd are
fits-moved window reach (n ∷ needs) [] placed are fits = absurd are
fits-moved window reach (n ∷ needs) (m ∷ others) [] are fits = absurd fits
fits-moved window reach (n ∷ needs) (m ∷ others) (p ∷ placed) are fits = (
  fits.0,
  omega (arith, fits.1, bytes-same p.lead_in m are.0, area-same p m are.0),
  subst (λ r. FitsFromReach window r (rest_behind p.lead_in m others) placed)
      (reach-same window p m are.0)
      (fits-moved window (reach_behind window p n) (rest_behind p.lead_in n needs) (rest_behind
      p.lead_in m others) placed (behind-same p.lead_in m needs others are.0 are.1) fits.2),
)
