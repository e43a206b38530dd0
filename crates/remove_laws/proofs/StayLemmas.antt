-- A frame is in a part that stays exactly if it is in no stretch.
use Rattle.std.proofs.Common.{arith, Bool, false, inl, inr, length, List, None, Ok, Option, refl}
use Rattle.std.proofs.Common.{Some, subst, sym, true, ℕ, [], ◌++◌, ◌+◌, ◌<◌, ◌∷◌, ◌≡◌, ◌≤◌, ◌⊎◌}
use Rattle.std.proofs.lemmas.Bool.{leb-false, leb-true, ltb-false, ltb-true}
use Rattle.std.specs.Prelude.{nat_le, nat_lt}
use Rattle.remove_edits.proofs.CommandLemmas.{ok-parts}
use Rattle.remove_edits.specs.Removed.{all_stretch_frames, parts_left}
use Rattle.remove_laws.specs.StretchLaws.{AreApart, FramesInNoStretchStay, IsInParts, IsInStretches}
use Rattle.remove_laws.specs.StretchLaws.{StayInParts}
use Rattle.seam_plan.proofs.StayingLemmas.{staying-order}
use Rattle.seam_plan.specs.Stretches.{AreInOrder, disorder_from, part_between, parts_in_order}
use Rattle.seam_plan.specs.{Stretches.{staying_from, staying_parts}, declared.stretches.Part.Part}

-- ---- the frames of the parts

in-append : (ps qs : List Part) (i : ℕ) → IsInParts (ps ++ qs) i → IsInParts ps i ⊎ IsInParts qs i
in-append [] qs i is = inr is
in-append (p ∷ ps) qs i (inl here) = inl (inl here)
in-append (p ∷ ps) qs i (inr later) = by (in-append ps qs i later)
  where
    by : IsInParts ps i ⊎ IsInParts qs i → IsInParts (p ∷ ps) i ⊎ IsInParts qs i
    by (inl first) = inl (inr first)
    by (inr second) = inr second

in-second : (ps qs : List Part) (i : ℕ) → IsInParts qs i → IsInParts (ps ++ qs) i
in-second [] qs i is = is
in-second (p ∷ ps) qs i is = inr (in-second ps qs i is)

in-first : (ps qs : List Part) (i : ℕ) → IsInParts ps i → IsInParts (ps ++ qs) i
in-first [] qs i is = absurd is
in-first (p ∷ ps) qs i (inl here) = inl here
in-first (p ∷ ps) qs i (inr later) = inr (in-first ps qs i later)

in-between : {from to i : ℕ} → from ≤ i → i < to → IsInParts (part_between from to) i
in-between least most = grind (arith)

between-in : {from to i : ℕ} → IsInParts (part_between from to) i → (from ≤ i) × (i < to)
between-in is = grind (arith)

-- frames in parts that are in order aren't before the first
order-least : (least : ℕ) {frames : ℕ} (parts : List Part) {i : ℕ} → AreInOrder least frames parts
    → IsInParts parts i → (least ≤ i) × (i < frames)
unfolding AreInOrder
order-least least [] order is = absurd is
order-least least (p ∷ parts) order (inl here) =
    (omega (arith, order.0, here.0), omega (arith, here.1, order.2))
order-least least {frames} (p ∷ parts) {i} order (inr later) =
    let rest = order-least (p.to + 1) parts order.3 later in
    (omega (arith, rest.0, order.0, order.1), rest.1)

-- ---- what stays of stretches in order

-- the stretches from a number on are in order
pub in-order : {frames at : ℕ} {stretch : ℕ × ℕ} (stretches : List (ℕ × ℕ))
    → disorder_from frames at (stretch ∷ stretches) ≡ None
    → (at ≤ stretch.0) × (stretch.0 < stretch.1) × (stretch.1 ≤ frames)
    × (disorder_from frames stretch.1 stretches ≡ None)
unfolding disorder_from
in-order stretches none = grind arith

stays-from : {frames at : ℕ} (stretches : List (ℕ × ℕ)) {i : ℕ}
    → disorder_from frames at stretches ≡ None → at ≤ i → i < frames
    → (IsInStretches stretches i → ⊥) → IsInParts (staying_from frames at stretches) i
unfolding staying_from
stays-from {frames} {at} [] {i} none least most out = in-between least most
stays-from {frames} {at} (s ∷ stretches) {i} none least most out =
    by (nat_lt i s.0) refl (nat_lt i s.1) refl
    (λ behind. stays-from stretches (in-order stretches none).3 behind most
    (λ taken. out (inr taken)))
  where
    by : (b : Bool) → nat_lt i s.0 ≡ b → (c : Bool) → nat_lt i s.1 ≡ c
        → (s.1 ≤ i → IsInParts (staying_from frames s.1 stretches) i)
        → IsInParts (part_between at s.0 ++ staying_from frames s.1 stretches) i
    by true before c last rest =
        in-first (part_between at s.0) (staying_from frames s.1 stretches) i
        (in-between least (ltb-true i s.0 before))
    by false behind true within rest =
        absurd (out (inl (ltb-false i s.0 behind, ltb-true i s.1 within)))
    by false behind false later rest =
        in-second (part_between at s.0) (staying_from frames s.1 stretches) i
        (rest (ltb-false i s.1 later))

-- stretches in order are from a number on
stretch-least : (frames : ℕ) {at : ℕ} (stretches : List (ℕ × ℕ)) {i : ℕ}
    → disorder_from frames at stretches ≡ None → IsInStretches stretches i → at ≤ i
stretch-least frames [] none is = absurd is
stretch-least frames {at} (s ∷ stretches) none (inl here) =
    let order = in-order stretches none in omega (arith, order.0, here.0)
stretch-least frames {at} (s ∷ stretches) {i} none (inr later) =
    let order = in-order stretches none in
    omega (arith, order.0, order.1, stretch-least frames stretches order.3 later)

goes-from : {frames at : ℕ} (stretches : List (ℕ × ℕ)) {i : ℕ}
    → disorder_from frames at stretches ≡ None → at ≤ frames
    → IsInParts (staying_from frames at stretches) i → (at ≤ i) × (IsInStretches stretches i → ⊥)
unfolding staying_from
goes-from {frames} {at} [] {i} none within is = ((between-in is).0, λ taken. taken)
goes-from {frames} {at} (s ∷ stretches) {i} none within is =
    by (in-append (part_between at s.0) (staying_from frames s.1 stretches) i is)
    (λ second. goes-from stretches order.3 order.2 second)
  where
    order : (at ≤ s.0) × (s.0 < s.1) × (s.1 ≤ frames) × (disorder_from frames s.1 stretches ≡ None)
    order = in-order stretches none

    not-first : i < s.0 → IsInStretches (s ∷ stretches) i → ⊥
    not-first less (inl here) = omega (arith, less, here.0)
    not-first less (inr later) = omega (
      arith,
      less,
      order.1,
      stretch-least frames stretches order.3 later,
    )

    not-later : (s.1 ≤ i) × (IsInStretches stretches i → ⊥) → IsInStretches (s ∷ stretches) i → ⊥
    not-later rest (inl here) = omega (arith, rest.0, here.1)
    not-later rest (inr later) = rest.1 later

    by : IsInParts (part_between at s.0) i ⊎ IsInParts (staying_from frames s.1 stretches) i
        → (IsInParts (staying_from frames s.1 stretches) i
        → (s.1 ≤ i) × (IsInStretches stretches i → ⊥))
        → (at ≤ i) × (IsInStretches (s ∷ stretches) i → ⊥)
    by (inl first) rest = let own = between-in first in (own.0, not-first own.1)
    by (inr second) rest =
        let later = rest second in
        (omega (arith, later.0, order.0, order.1), not-later later)

-- ---- between the parts

is-in : (stretches : List (ℕ × ℕ)) (i : ℕ)
    → IsInStretches stretches i ⊎ (IsInStretches stretches i → ⊥)
is-in [] i = inr (λ taken. taken)
is-in (s ∷ stretches) i = by (nat_le s.0 i) refl (nat_lt i s.1) refl (is-in stretches i)
  where
    none : ((s.0 ≤ i) × (i < s.1) → ⊥) → (IsInStretches stretches i → ⊥)
        → IsInStretches (s ∷ stretches) i → ⊥
    none here later (inl is) = here is
    none here later (inr is) = later is

    or-later : ((s.0 ≤ i) × (i < s.1) → ⊥)
        → IsInStretches stretches i ⊎ (IsInStretches stretches i → ⊥)
        → IsInStretches (s ∷ stretches) i ⊎ (IsInStretches (s ∷ stretches) i → ⊥)
    or-later out (inl later) = inl (inr later)
    or-later out (inr later) = inr (none out later)

    by : (b : Bool) → nat_le s.0 i ≡ b → (c : Bool) → nat_lt i s.1 ≡ c
        → IsInStretches stretches i ⊎ (IsInStretches stretches i → ⊥)
        → IsInStretches (s ∷ stretches) i ⊎ (IsInStretches (s ∷ stretches) i → ⊥)
    by true first true last rest = inl (inl (leb-true s.0 i first, ltb-true i s.1 last))
    by true first false last rest =
        or-later (λ here. omega (arith, here.1, ltb-false i s.1 last)) rest
    by false first c last rest =
        or-later (λ here. omega (arith, here.0, leb-false s.0 i first)) rest

are-apart : {frames : ℕ} (stretches : List (ℕ × ℕ)) (least : ℕ) (parts : List Part)
    → AreInOrder least frames parts
    → ((i : ℕ) → least ≤ i → i < frames → (IsInStretches stretches i → ⊥) → IsInParts parts i)
    → AreApart stretches parts
unfolding AreInOrder
are-apart stretches least [] order stays = tt
are-apart stretches least (p ∷ []) order stays = tt
are-apart {frames} stretches least (p ∷ q ∷ parts) order stays = (
  next,
  taken (is-in stretches p.to),
  are-apart stretches (p.to + 1) (q ∷ parts) order.3
      (λ i more most out. behind i more (stays i (omega (arith, more, order.0, order.1)) most out)),
)
  where
    next : p.to < q.from
    next = omega (arith, order.3.0)

    behind : (i : ℕ) → p.to + 1 ≤ i → IsInParts (p ∷ q ∷ parts) i → IsInParts (q ∷ parts) i
    behind i more (inl here) = absurd (omega (arith, more, here.1))
    behind i more (inr later) = later

    not-in : IsInParts (p ∷ q ∷ parts) p.to → ⊥
    not-in (inl here) = omega (arith, here.1)
    not-in (inr later) =
        let least = order-least (p.to + 1) (q ∷ parts) order.3 later in
        omega (arith, least.0)

    taken : IsInStretches stretches p.to ⊎ (IsInStretches stretches p.to → ⊥)
        → IsInStretches stretches p.to
    taken (inl is) = is
    taken (inr out) = absurd (not-in (stays p.to (omega (arith, order.0, order.1))
        (omega (arith, next, order.3.1, order.3.2)) out))

-- ---- accepted stretches

-- what is found of stretches that are accepted
pub record IsFound (frames : ℕ) (stretches : List (ℕ × ℕ)) (parts : List Part) : Type 0 where
  pub order : disorder_from frames 0 stretches ≡ None
  pub are : staying_from frames 0 stretches ≡ parts

found-of : (frames : ℕ) (o : Option (ℕ × ℕ)) (all : List Part) {parts : List Part}
    → parts_in_order frames o all ≡ Ok parts → (o ≡ None) × (all ≡ parts)
found-of frames None [] e = absurd cc
found-of frames None (p ∷ all) e = (refl, cc)
found-of frames (Some pair) all e = absurd cc

-- accepted stretches are in order, and these parts stay of them
pub found : {frames : ℕ} {stretches : List (ℕ × ℕ)} {parts : List Part}
    → staying_parts frames stretches ≡ Ok parts → IsFound frames stretches parts
unfolding staying_parts
found {frames} {stretches} {parts} is =
    let both = found-of frames (disorder_from frames 0 stretches)
    (staying_from frames 0 stretches) is in
    record { order = both.0; are = both.1 }

numbers-stay : {frames : ℕ} {stretches : List (ℕ × ℕ)} {parts : List Part}
    → staying_parts frames stretches ≡ Ok parts → StayInParts frames stretches parts
numbers-stay {frames} {stretches} {parts} is = record {
  stays = stays;
  there = λ i is. (order-least 0 parts order is).1;
  goes = λ i is. (goes-from stretches by.order (omega arith)
      (subst (λ (l : List Part). IsInParts l i) (sym by.are) is)).1;
  order = order;
  apart = are-apart stretches 0 parts order (λ i least most out. stays i most out);
}
  where
    order : AreInOrder 0 frames parts
    order = (staying-order frames stretches is).1

    by : IsFound frames stretches parts
    by = found is

    stays : (i : ℕ) → i < frames → (IsInStretches stretches i → ⊥) → IsInParts parts i
    stays i most out =
        subst (λ (l : List Part). IsInParts l i) by.are
        (stays-from stretches by.order (omega arith) most out)

-- the law of accepted stretches
pub stay-in-parts : FramesInNoStretchStay
unfolding parts_left
stay-in-parts stretches s parts is =
    let frames = length s.frames in
    let numbers = all_stretch_frames s.class frames stretches in
    numbers-stay
    (ok-parts frames (staying_parts frames numbers) is)
