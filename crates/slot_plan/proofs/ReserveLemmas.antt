-- Lists of numbers: which lists can be laid, by the bytes that are free before each
-- frame, and that the smallest choice by what is needed after each is the least list.
use Rattle.std.proofs.Common.{ap, arith, Contains, drop, inl, inr, List, max, refl, subst, suc, sym}
use Rattle.std.proofs.Common.{zero, ℕ, [], ◌++◌, ◌+◌, ◌-◌, ◌<◌, ◌∙◌, ◌∷◌, ◌≡◌, ◌≤◌, ◌⊎◌}
use Rattle.std.proofs.{Math.Nat.{le-max_left, le-max_right}, lemmas.Bool.cases_lt}
use Rattle.slot_plan.specs.Layouts.{begins_of, FrameLengths, HasLayout, IsDataLayout}
use Rattle.slot_plan.specs.Lists.{AreChosenAreas, CanBeLaid, frames_with_areas, IsLeastList}
use Rattle.slot_plan.specs.Lists.{IsNotBehind, OpenFrame}
use Rattle.slot_plan.specs.Reserve.{AreReservesInWindow, free_bytes_behind, greatest_number}
use Rattle.slot_plan.specs.Reserve.{reserve_before}

-- every frame's main data fit in the free bytes before it and its own area
unfoldable pub AllFit : ℕ → ℕ → List FrameLengths → Type 0
AllFit window free [] = Unit {0}
AllFit window free (frame ∷ frames) = (frame.bytes ≤ free + frame.area)
    × AllFit window (free_bytes_behind window free frame.bytes frame.area) frames

-- frames with a layout fit, if at least the bytes that the window shows are free
pub fit-layout : (window end before : ℕ) {free : ℕ} (frames : List FrameLengths) (starts : List ℕ)
    → (before - end) - ((before - end) - window) ≤ free
    → IsDataLayout window end before frames starts → AllFit window free frames
unfolding IsDataLayout AllFit
fit-layout window end before [] starts some layout = tt
fit-layout window end before (frame ∷ frames) [] some layout = absurd layout
fit-layout window end before {free} (frame ∷ frames) (start ∷ starts) some layout =
    grind (
      arith,
      fit-layout window (start + frame.bytes) (before + frame.area) {free = free_bytes_behind
          window free frame.bytes frame.area} frames starts (omega arith) layout.4,
    )

-- the earliest starts
unfoldable pub starts_of : ℕ → ℕ → ℕ → List FrameLengths → List ℕ
starts_of window end before [] = []
starts_of window end before (frame ∷ frames) =
    let start = max end (before - window) in
    start ∷ starts_of window (start + frame.bytes) (before + frame.area) frames

-- the larger of two numbers is the first and what the second has beyond it
pub max-is : (m n : ℕ) → max m n ≡ m + (n - m)
max-is m n = omega arith

-- the free bytes before each frame
unfoldable pub frees_of : ℕ → ℕ → List FrameLengths → List ℕ
frees_of window free [] = []
frees_of window free (frame ∷ frames) =
    free ∷ frees_of window (free_bytes_behind window free frame.bytes frame.area) frames

-- if frames fit, the earliest starts are a layout
pub layout-fit : (window end : ℕ) {before free : ℕ} (frames : List FrameLengths) → end ≤ before
    → free ≡ (before - end) - ((before - end) - window) → AllFit window free frames
    → IsDataLayout window end before frames (starts_of window end before frames)
unfolding IsDataLayout AllFit starts_of
layout-fit window end [] ends is fit = tt
layout-fit window end {before} {free} (frame ∷ frames) ends is fit =
    let start : ℕ = max end (before - window) in
    let at : start ≡ end + ((before - window) - end) = max-is end (before - window) in
    let room : frame.bytes ≤ free + frame.area = fit.0 in (
      omega arith,
      omega arith,
      omega arith,
      omega arith,
      layout-fit window (start + frame.bytes) frames (omega arith)
          (omega arith) fit.1,
    )

-- if frames fit, main_data_begin is the number of free bytes
pub begins-frees : (window end : ℕ) {before free : ℕ} (frames : List FrameLengths) → end ≤ before
    → free ≡ (before - end) - ((before - end) - window) → AllFit window free frames
    → frees_of window free frames ≡ begins_of window end before frames
unfolding AllFit frees_of begins_of
begins-frees window end [] ends is fit = refl
begins-frees window end {before} {free} (frame ∷ frames) ends is fit =
    let start : ℕ = max end (before - window) in
    let at : start ≡ end + ((before - window) - end) = max-is end (before - window) in
    let room : frame.bytes ≤ free + frame.area = fit.0 in
    let here : free ≡ before - start = omega arith in
    let rest = begins-frees window (start + frame.bytes) frames (omega arith)
    (omega arith) fit.1 in
    ap (λ n. n ∷ frees_of window (free_bytes_behind window free frame.bytes frame.area) frames) here
    ∙ ap (λ l. (before - start) ∷ l) rest

-- ---- choices
-- no member is larger than the greatest
pub greatest_number-most : (ns : List ℕ) {n : ℕ} → Contains ns n → n ≤ greatest_number ns
unfolding greatest_number
greatest_number-most [] c = absurd (omega (arith, c.1))
greatest_number-most (m ∷ ns) (zero, within, at) = grind (arith, le-max_left)
greatest_number-most (m ∷ ns) {n} (suc i, within, at) =
    grind (arith, le-max_right, greatest_number-most ns (i, omega arith, at))

-- a list with a member contains its greatest
pub Contains-greatest_number : (ns : List ℕ) {n : ℕ} → Contains ns n
    → Contains ns (greatest_number ns)
unfolding greatest_number
Contains-greatest_number [] c = absurd (omega (arith, c.1))
Contains-greatest_number (m ∷ []) c = (zero, omega arith, sym (max-is m 0 ∙ omega arith))
Contains-greatest_number (m ∷ k ∷ ns) c =
    let rest : Contains (k ∷ ns) (greatest_number (k ∷ ns)) =
    Contains-greatest_number (k ∷ ns) (zero, omega arith, refl) in
    elim (cases_lt m (greatest_number (k ∷ ns)))
    as (λ _. Contains (m ∷ k ∷ ns) (max m (greatest_number (k ∷ ns)))) [
      | inl less ↦
          let is : greatest_number (k ∷ ns) ≡ max m (greatest_number (k ∷ ns)) =
          omega (arith, max-is m (greatest_number (k ∷ ns))) in
          subst (Contains (m ∷ k ∷ ns)) is (suc rest.0, omega (arith, rest.1), rest.2)
      | inr most ↦ grind (arith, max-is)
    ]

-- if some choice fits, at most the free bytes are needed, and never more than the window
pub reserve_before-fit : {window : ℕ} (free : ℕ) (opens : List OpenFrame) (areas : List ℕ)
    → free ≤ window → AreChosenAreas opens areas
    → AllFit window free (frames_with_areas opens areas)
    → (reserve_before opens ≤ free) × AreReservesInWindow window opens
unfolding AreChosenAreas AllFit frames_with_areas reserve_before AreReservesInWindow
reserve_before-fit free [] areas within chosen fit = (omega arith, tt)
reserve_before-fit free (o ∷ opens) [] within chosen fit = absurd chosen
reserve_before-fit {window} free (o ∷ opens) (area ∷ areas) within chosen fit =
    grind (
      arith,
      reserve_before-fit (free_bytes_behind window free o.bytes area) opens areas
          (omega arith) chosen.1 fit.1,
      greatest_number-most o.areas chosen.0,
    )

-- if at most the free bytes are needed, some choice fits
pub fit-reserve_before : (window free : ℕ) (opens : List OpenFrame) (some : List ℕ)
    → AreChosenAreas opens some → reserve_before opens ≤ free → AreReservesInWindow window opens
    → (areas : List ℕ) × AreChosenAreas opens areas
    × AllFit window free (frames_with_areas opens areas)
unfolding AreChosenAreas AllFit frames_with_areas reserve_before AreReservesInWindow
fit-reserve_before window free [] some chosen enough within = ([], tt, tt)
fit-reserve_before window free (o ∷ opens) [] chosen enough within = absurd chosen
fit-reserve_before window free (o ∷ opens) (area ∷ some) chosen enough within =
    let most : ℕ = greatest_number o.areas in
    let behind : reserve_before opens ≤ window = within.0 in
    let all : (o.bytes + reserve_before opens) - greatest_number o.areas ≤ free = enough in
    let rest = fit-reserve_before window
    (free_bytes_behind window free o.bytes most) opens some chosen.1 (omega arith) within.1 in
    (most ∷ rest.0, (Contains-greatest_number o.areas chosen.0, rest.1), (omega arith, rest.2))

-- each area is the smallest that leaves what is needed after it
unfoldable pub AreLeastAreas : ℕ → ℕ → List OpenFrame → List ℕ → Type 0
AreLeastAreas window free [] [] = Unit {0}
AreLeastAreas window free [] (area ∷ areas) = ⊥
AreLeastAreas window free (o ∷ opens) [] = ⊥
AreLeastAreas window free (o ∷ opens) (area ∷ areas) =
    Contains o.areas area × ((o.bytes + reserve_before opens) - free ≤ area)
    × ((other : ℕ) → Contains o.areas other → (o.bytes + reserve_before opens) - free ≤ other
    → area ≤ other)
    × AreLeastAreas window (free_bytes_behind window free o.bytes area) opens areas

-- the least areas are a choice
pub chosen-least : (window free : ℕ) (opens : List OpenFrame) (areas : List ℕ)
    → AreLeastAreas window free opens areas → AreChosenAreas opens areas
unfolding AreChosenAreas AreLeastAreas
chosen-least window free [] [] least = tt
chosen-least window free [] (area ∷ areas) least = absurd least
chosen-least window free (o ∷ opens) [] least = absurd least
chosen-least window free (o ∷ opens) (area ∷ areas) least =
    (least.0, chosen-least window (free_bytes_behind window free o.bytes area) opens areas least.3)

-- the least areas fit
pub fit-least : (window free : ℕ) (opens : List OpenFrame) (areas : List ℕ)
    → AreLeastAreas window free opens areas → AllFit window free (frames_with_areas opens areas)
unfolding AllFit frames_with_areas AreLeastAreas
fit-least window free [] areas least = tt
fit-least window free (o ∷ opens) [] least = absurd least
fit-least window free (o ∷ opens) (area ∷ areas) least =
    grind (arith, fit-least window (free_bytes_behind window free o.bytes area) opens areas least.3)

-- no other choice that fits comes before it
pub not_behind-least : {window : ℕ} (free : ℕ) (opens : List OpenFrame) (areas others : List ℕ)
    → free ≤ window → AreLeastAreas window free opens areas → AreChosenAreas opens others
    → AllFit window free (frames_with_areas opens others) → IsNotBehind areas others
unfolding AreChosenAreas AllFit frames_with_areas AreLeastAreas IsNotBehind
not_behind-least free [] [] [] within least chosen fit = tt
not_behind-least free [] [] (other ∷ others) within least chosen fit = tt
not_behind-least free [] (area ∷ areas) others within least chosen fit = absurd least
not_behind-least free (o ∷ opens) [] others within least chosen fit = absurd least
not_behind-least free (o ∷ opens) (area ∷ areas) [] within least chosen fit = absurd chosen
not_behind-least {window} free (o ∷ opens) (area ∷ areas)
    (other ∷ others) within least chosen fit =
    let rest = (reserve_before-fit (free_bytes_behind window free o.bytes other) opens others
    (omega arith) chosen.1 fit.1).0 in
    let room : o.bytes ≤ free + other = fit.0 in
    let less : area ≤ other = least.2 other chosen.0 (omega arith) in
    elim (cases_lt area other) as (λ _. (area < other)
    ⊎ ((area ≡ other) × IsNotBehind areas others)) [
      | inl before ↦ inl before
      | inr at ↦
          let same : area ≡ other = omega arith in
          let fits : AllFit window (free_bytes_behind window free o.bytes area)
          (frames_with_areas opens others) = grind arith in
          inr (
            same,
            not_behind-least (free_bytes_behind window free o.bytes area) opens areas others
                (omega arith) least.3 chosen.1 fits,
          )
    ]

-- ---- what a choice that can be laid shows
-- if some choice can be laid, nothing is needed before all frames, and at most a window anywhere
pub reserve_before-can : (window : ℕ) (opens : List OpenFrame) → CanBeLaid window opens
    → (reserve_before opens ≡ 0) × AreReservesInWindow window opens
unfolding CanBeLaid HasLayout
reserve_before-can window opens can =
    grind (
      arith,
      fit-layout window 0 0 {free = 0} (frames_with_areas opens can.0) can.2.0 (omega arith)
          can.2.1,
      reserve_before-fit,
    )

-- if nothing is needed before all frames, and at most a window anywhere, some choice can be laid
pub can-reserve_before : (window : ℕ) (opens : List OpenFrame) (some : List ℕ)
    → AreChosenAreas opens some → reserve_before opens ≡ 0 → AreReservesInWindow window opens
    → CanBeLaid window opens
unfolding CanBeLaid HasLayout
can-reserve_before window opens some chosen none within =
    let fit = fit-reserve_before window 0 opens some chosen (omega arith) within in (
      fit.0,
      fit.1,
      (
        starts_of window 0 0 (frames_with_areas opens fit.0),
        layout-fit window 0 (frames_with_areas opens fit.0) (omega arith) (omega arith) fit.2,
      ),
    )

-- the smallest areas are the least list
pub least-is : {window : ℕ} {opens : List OpenFrame} {areas : List ℕ}
    → AreLeastAreas window 0 opens areas → IsLeastList window opens areas
unfolding HasLayout
least-is {window} {opens} {areas} least =
    let fit = fit-least window 0 opens areas least in
    record {
      chosen = chosen-least window 0 opens areas least;
      feasible =
          grind (
            arith,
            layout-fit window 0 {before = 0} {free = 0} (frames_with_areas opens areas)
                (omega arith) (omega
                arith) fit,
          );
      least = λ others chosen feasible. not_behind-least {window = window} 0 opens areas others
          (omega arith) least chosen
          (fit-layout window 0 0 {free = 0}
          (frames_with_areas opens others) feasible.0 (omega arith) feasible.1);
    }

-- ---- after more frames
-- frames before others that need nothing need what they need alone
pub append-reserve_before : (xs ys : List OpenFrame) → reserve_before ys ≡ 0
    → reserve_before (xs ++ ys) ≡ reserve_before xs
unfolding reserve_before
append-reserve_before [] ys none = none
append-reserve_before (x ∷ xs) ys none = grind (arith, append-reserve_before xs ys none)

append-within : (window : ℕ) (xs ys : List OpenFrame) → reserve_before ys ≡ 0
    → AreReservesInWindow window xs → AreReservesInWindow window ys
    → AreReservesInWindow window (xs ++ ys)
unfolding AreReservesInWindow
append-within window [] ys none first second = second
append-within window (x ∷ xs) ys none first second =
    grind (arith, append-reserve_before, append-within window xs ys none first.1 second)

append-chosen : (xs ys : List OpenFrame) (ms ns : List ℕ) → AreChosenAreas xs ms
    → AreChosenAreas ys ns → AreChosenAreas (xs ++ ys) (ms ++ ns)
unfolding AreChosenAreas
append-chosen [] ys [] ns first second = second
append-chosen [] ys (m ∷ ms) ns first second = absurd first
append-chosen (x ∷ xs) ys [] ns first second = absurd first
append-chosen (x ∷ xs) ys (m ∷ ms) ns first second =
    (first.0, append-chosen xs ys ms ns first.1 second)

-- frames and others that can each be laid can be laid together
pub append-can : (window : ℕ) (xs ys : List OpenFrame) → CanBeLaid window xs → CanBeLaid window ys
    → CanBeLaid window (xs ++ ys)
unfolding CanBeLaid
append-can window xs ys first second =
    let here = reserve_before-can window xs first in
    let behind = reserve_before-can window ys second in
    can-reserve_before window (xs ++ ys) (first.0 ++ second.0)
    (append-chosen xs ys first.0 second.0 first.1 second.1)
    (append-reserve_before xs ys behind.0 ∙ here.0)
    (append-within window xs ys behind.0 here.1 behind.1)

-- ---- fewer of the frames, and more free bytes
-- frames that fit in free bytes fit in more
pub fit-more : (window : ℕ) {free more : ℕ} (frames : List FrameLengths) → free ≤ more
    → AllFit window free frames → AllFit window more frames
unfolding AllFit
fit-more window [] less fit = tt
fit-more window {free} {more} (frame ∷ frames) less fit =
    grind (
      arith,
      fit-more window {free = free_bytes_behind window free frame.bytes frame.area}
          {more = free_bytes_behind window more frame.bytes frame.area} frames (omega arith) fit.1,
    )

fit-drop : (window : ℕ) (k : ℕ) (frames : List FrameLengths) → AllFit window window frames
    → AllFit window window (drop k frames)
unfolding AllFit
fit-drop window zero frames fit = fit
fit-drop window (suc k) [] fit = fit
fit-drop window (suc k) (frame ∷ frames) fit =
    fit-drop window k frames (fit-more window frames (omega arith) fit.1)

-- frames that can be laid after some free bytes fit from each frame on after a whole window
pub fit-after : (window before k : ℕ) (frames : List FrameLengths) → HasLayout window before frames
    → AllFit window window (drop k frames)
unfolding HasLayout
fit-after window before k frames feasible = fit-drop window k frames
    (fit-layout window 0 before frames feasible.0 (omega arith) feasible.1)

-- frames that fit after a whole window fit from each frame on
pub fit-from : (window k : ℕ) (frames : List FrameLengths) → HasLayout window window frames
    → AllFit window window (drop k frames)
fit-from window k frames feasible = fit-after window window k frames feasible

-- frames that can be laid after some free bytes can be laid after a window or more
pub feasible-windows : {window : ℕ} (before : ℕ) {more : ℕ} (frames : List FrameLengths)
    → window ≤ more → HasLayout window before frames → HasLayout window more frames
unfolding HasLayout
feasible-windows {window} before {more} frames all feasible =
    grind (
      arith,
      layout-fit window 0 {before = more} {free = window} frames (omega arith) (omega arith)
          (fit-layout
          window 0 before {free = window} frames feasible.0 (omega arith) feasible.1),
      fit-layout window 0 before
          {free = window} frames feasible.0 (omega arith) feasible.1,
    )
