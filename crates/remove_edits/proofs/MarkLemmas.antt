-- The places of a plan with the lead-ins among them: how they are marked, and that frames fit in
-- them.
use Rattle.std.proofs.Common.{All, ap, append_assoc, arith, Bool, cond, false, inl, inr, length}
use Rattle.std.proofs.Common.{length-append, List, refl, subst, suc, sym, true, zero, ℕ, [], ◌++◌}
use Rattle.std.proofs.Common.{◌+◌, ◌<◌, ◌∙◌, ◌∷◌, ◌≡◌, ◌≤◌}
use Rattle.std.proofs.lemmas.List.Elements.{All-cons, All-nil}
use Rattle.frame_header.specs.{Fields.IsSlot, Tables.{area_of, class_of}}
use Rattle.laying.specs.Fits.{AreInSlots, FitsFromReach, placed_area, placed_bytes, reach_behind}
use Rattle.laying.specs.Relaid.{rest_behind}
use Rattle.remove_edits.specs.Ready.{lead_in_places, with_lead_in, with_lead_ins}
use Rattle.remove_edits.specs.Removed.{item_places, place_as}
use Rattle.seam_plan.specs.PartSplices.{AreSpliceItemsOf, IsItemOf, IsLeadInOf, item_needs}
use Rattle.seam_plan.specs.PartSplices.{SpliceItem}
use Rattle.slot_plan.specs.declared.needs.{Need.Need, Placed.Placed}

-- ---- how they are marked

at-front : (k : ℕ) (front : List Placed) (p : Placed) (placed : List Placed) → length front ≡ k
    → with_lead_in k (front ++ p ∷ placed) ≡ front ++ place_as true p ∷ placed
unfolding with_lead_in
at-front zero [] p placed long = refl
at-front zero (q ∷ front) p placed long = absurd (omega (arith, long))
at-front (suc k) [] p placed long = absurd (omega (arith, long))
at-front (suc k) (q ∷ front) p placed long =
    ap (λ l. q ∷ l) (at-front k front p placed (omega (arith, long)))

with-next : (b : Bool) {k : ℕ} (front : List Placed) (p : Placed) (placed : List Placed)
    (ats : List ℕ) → length front ≡ k
    → with_lead_ins (cond b (k ∷ ats) ats) (front ++ p ∷ placed)
    ≡ with_lead_ins ats ((front ++ place_as b p ∷ []) ++ placed)
with-next true {k} front p placed ats long =
    ap (with_lead_ins ats)
    (at-front k front p placed long
    ∙ sym (append_assoc front (place_as true p ∷ []) placed))
with-next false front p placed ats long =
    ap (with_lead_ins ats) (sym (append_assoc front (p ∷ []) placed))

with-all : (k : ℕ) (front : List Placed) (items : List SpliceItem) (placed : List Placed)
    → length front ≡ k → length placed ≡ length items
    → with_lead_ins (lead_in_places k items) (front ++ placed)
    ≡ front ++ item_places items placed
unfolding lead_in_places item_places
with-all k front [] placed long many = refl
with-all k front (item ∷ items) [] long many = absurd (omega (arith, many))
with-all k front (item ∷ items) (p ∷ placed) long many =
    let here = place_as item.lead_in p in
    let next : length (front ++ here ∷ []) ≡ k + 1 = grind (arith, length-append) in
    with-next item.lead_in front p placed (lead_in_places (k + 1) items) long
    ∙ with-all (k + 1) (front ++ here ∷ []) items placed next (omega (arith, many))
    ∙ append_assoc front (here ∷ []) (item_places items placed)

-- the places of the lead-ins among items are marked as such
pub marks-are : (items : List SpliceItem) (placed : List Placed) → length placed ≡ length items
    → with_lead_ins (lead_in_places 0 items) placed ≡ item_places items placed
marks-are items placed many = with-all 0 [] items placed refl many

-- the lead-ins are among the items
pub places-within : (at : ℕ) (items : List SpliceItem) {count : ℕ} → at + length items ≤ count
    → All (λ place. place < count) (lead_in_places at items)
unfolding lead_in_places
places-within at [] {count} within = All-nil (λ place. place < count)
places-within at (item ∷ items) {count} within =
    by item.lead_in (places-within (at + 1) items (omega (arith, within)))
  where
    by : (b : Bool) → All (λ place. place < count) (lead_in_places (at + 1) items)
        → All (λ place. place < count)
        (cond b (at ∷ lead_in_places (at + 1) items) (lead_in_places (at + 1) items))
    by true rest = All-cons (λ place. place < count) at (lead_in_places (at + 1) items)
        (omega (arith, within)) rest
    by false rest = rest

-- ---- frames fit in the marked places

-- none of these places is a lead-in's
abbrev pub AreFramePlaces : List Placed → Type 0
AreFramePlaces [] = Unit {0}
AreFramePlaces (p ∷ placed) = (p.lead_in ≡ false) × AreFramePlaces placed

-- The place takes as much for the need of an item as for that of a frame: it has as many bytes of
-- main data, and an area of the same length.
record TakesAsMuch (p q : Placed) (item need : Need) : Type 0 where
  bytes : placed_bytes q.lead_in need ≡ placed_bytes p.lead_in item
  area : placed_area q need ≡ placed_area p item

area-by : {b : Bool} (p : Placed) (item need : Need) → b ≡ false
    → class_of item.header ≡ class_of need.header
    → item.header.protected ≡ need.header.protected
    → area_of (class_of need.header) p.slot (cond b false need.header.protected)
    ≡ area_of (class_of item.header) p.slot (cond b false item.header.protected)
area-by p item need frame class word = grind arith

frame-takes : {p : Placed} {item : SpliceItem} {need : Need} → p.lead_in ≡ false
    → IsItemOf item need → TakesAsMuch p p item.need need
frame-takes {p} {item} {need} frame is =
    let moved = is.moved in
    let class : class_of item.need.header ≡ class_of need.header =
    ap (λ (n : Need). class_of n.header) moved in
    let word : item.need.header.protected ≡ need.header.protected =
    ap (λ (n : Need). n.header.protected) moved in
    let same : item.need.bytes ≡ need.bytes = ap (λ (n : Need). n.bytes) moved in
    record {
      bytes = rw (frame, same) refl;
      area = area-by p item.need need frame class word;
    }

lead-takes : {p : Placed} {item : SpliceItem} {need : Need} → p.lead_in ≡ false
    → IsLeadInOf item need → TakesAsMuch p (place_as true p) item.need need
lead-takes {item = item} {need = need} frame is =
    let header = is.before.0 in
    let class : class_of item.need.header ≡ class_of need.header = ap class_of header in
    let word : item.need.header.protected ≡ false = ap (λ h. h.protected) header in
    record {
      bytes = rw (frame, is.empty) refl;
      area = rw (frame, class, word) refl;
    }

takes-reach : (window : ℕ) {p q : Placed} {item need : Need} → q.begin ≡ p.begin
    → TakesAsMuch p q item need → reach_behind window q need ≡ reach_behind window p item
takes-reach window begin takes = rw (begin, takes.bytes, takes.area) refl

next-fits : (window : ℕ) {reach : ℕ} {p q : Placed} {item m : Need} (needs : List Need)
    {left : List Need}
    (places : List Placed) → q.begin ≡ p.begin → TakesAsMuch p q item m
    → rest_behind q.lead_in m needs ≡ left → p.begin ≤ reach
    → placed_bytes p.lead_in item ≤ p.begin + placed_area p item
    → FitsFromReach window (reach_behind window p item) left places
    → FitsFromReach window reach (m ∷ needs) (q ∷ places)
unfolding FitsFromReach
next-fits window {p = p} {q = q} {item = item} {m = m} needs
    {left} places begin takes behind near fits later = (
      omega (arith, begin, near),
      omega (arith, begin, takes.bytes, takes.area, fits),
      subst (λ l. FitsFromReach window (reach_behind window q m) l places) (sym behind)
          (subst (λ r. FitsFromReach window r left places)
          (sym (takes-reach window begin takes)) later),
    )

frame-behind : (p : Placed) (m : Need) (needs : List Need) → p.lead_in ≡ false
    → rest_behind p.lead_in m needs ≡ needs
frame-behind p m needs frame = rw frame refl

rest-fits : (window reach : ℕ) (p : Placed) (item : Need) (needs : List Need)
    (placed : List Placed) → p.lead_in ≡ false
    → FitsFromReach window reach (rest_behind p.lead_in item needs) placed
    → FitsFromReach window reach needs placed
rest-fits window reach p item needs placed frame fits =
    subst (λ l. FitsFromReach window reach l placed) (frame-behind p item needs frame) fits

-- if the items fit in the places, the frames fit in the marked places
pub fits-marked : (window reach : ℕ) (items : List SpliceItem) (needs : List Need)
    (placed : List Placed) → AreSpliceItemsOf items needs → AreFramePlaces placed
    → FitsFromReach window reach (item_needs items) placed
    → FitsFromReach window reach needs (item_places items placed)
unfolding AreSpliceItemsOf FitsFromReach item_places
fits-marked window reach [] [] placed are frames fits = fits
fits-marked window reach [] (m ∷ needs) placed are frames fits = absurd are
fits-marked window reach (item ∷ items) [] placed are frames fits = absurd are
fits-marked window reach (item ∷ items) (m ∷ needs) [] are frames fits = absurd fits
fits-marked window reach (item ∷ items) (m ∷ needs) (p ∷ placed) (inl own) frames fits =
    let rest = rest-fits window (reach_behind window p item.need) p item.need (item_needs items)
    placed frames.0 fits.2 in
    let later = fits-marked window (reach_behind window p item.need) items needs placed own.1
    frames.1 rest in
    rw own.0.frame
    (next-fits window needs (item_places items placed) refl
    (frame-takes frames.0 own.0) (frame-behind p m needs frames.0) fits.0 fits.1 later)
fits-marked window reach (item ∷ items) (m ∷ needs) (p ∷ placed) (inr lead) frames fits =
    let rest = rest-fits window (reach_behind window p item.need) p item.need (item_needs items)
    placed frames.0 fits.2 in
    let later = fits-marked window (reach_behind window p item.need) items (m ∷ needs) placed
    lead.2 frames.1 rest in
    rw lead.0.lead_in
    (next-fits window needs
    (item_places items placed) refl (lead-takes frames.0 lead.0) refl fits.0 fits.1 later)

-- the places stay in their slots
pub marked-slots : (items : List SpliceItem) (placed : List Placed) → AreInSlots placed
    → AreInSlots (item_places items placed)
unfolding item_places
marked-slots [] placed in_slots = in_slots
marked-slots (item ∷ items) [] in_slots = tt
marked-slots (item ∷ items) (p ∷ placed) in_slots =
    (by item.lead_in, marked-slots items placed in_slots.1)
  where
    by : (b : Bool) → IsSlot (place_as b p).slot
    by true = in_slots.0
    by false = in_slots.0
