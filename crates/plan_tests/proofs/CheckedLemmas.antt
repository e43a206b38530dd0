-- What loops over needs and places show.
use Rattle.std.proofs.Common.{arith, drop, get_or, length, List, map, ℕ, ◌+◌, ◌<◌, ◌≡◌, ◌≤◌}
use Rattle.std.{proofs.lemmas.List.drop_all, specs.Prelude.slice_range}
use Rattle.frame_header.specs.{Fields.ClassFields, Tables.{class_of, window_of}}
use Rattle.slot_plan.proofs.FreeByteLemmas.{more-behind, within-fit}
use Rattle.slot_plan.proofs.PartLemmas.{next_need, one-class, parts-cons, parts-none}
use Rattle.slot_plan.proofs.ReserveLemmas.{AllFit}
use Rattle.slot_plan.specs.FreeBytes.{CanJoinBehind, FitBehindFree, FitBehindWindow, FitsBehind}
use Rattle.slot_plan.specs.Layouts.{HasLayout}
use Rattle.slot_plan.specs.Parts.{AreNeedsOfClass, AreNeedsOfOneClass, ArePartsFeasible}
use Rattle.slot_plan.specs.Parts.{needs_in_parts, own_frame, own_slot_area}
use Rattle.slot_plan.specs.{Reserve.free_bytes_behind, declared.needs.Need.Need}

-- ---- one class
-- one more frame is of the class
pub class-more : {class : ClassFields} (needs : List Need) (i : ℕ) {need : Need} → i < length needs
    → need ≡ get_or needs i need → class_of need.header ≡ class
    → (AreNeedsOfClass class (drop i needs) → AreNeedsOfClass class needs)
    → AreNeedsOfClass class (drop (i + 1) needs) → AreNeedsOfClass class needs
unfolding AreNeedsOfClass
class-more needs i {need} within is same on rest = grind (arith, next_need)

-- once the loop has reached the end, all frames are of the class
pub class-all : {class : ClassFields} (needs : List Need) (i : ℕ) (d : Need) → 0 < length needs
    → length needs ≤ i → class ≡ class_of (get_or needs 0 d).header
    → (AreNeedsOfClass class (drop i needs) → AreNeedsOfClass class needs)
    → AreNeedsOfOneClass needs
unfolding AreNeedsOfClass
class-all needs i d some all is on = grind (arith, drop_all)

-- ---- frames that fit
-- one more frame fits in the bytes before it and its own area
pub fit-next : (window before free : ℕ) {next area : ℕ} (part : List Need) (i : ℕ) {need : Need}
    → i < length part → need ≡ get_or part i need → area ≡ own_slot_area need
    → need.bytes ≤ free + area → next ≡ free_bytes_behind window free need.bytes area
    → (AllFit window free (map own_frame (drop i part)) → AllFit window before (map own_frame part))
    → AllFit window next (map own_frame (drop (i + 1) part))
    → AllFit window before (map own_frame part)
unfolding AllFit
fit-next window before free part i {need} within is own room gives on rest =
    grind (arith, next_need)

-- once the loop has reached the end, all frames fit
pub fit-all : {window before : ℕ} (free : ℕ) (part : List Need) (i : ℕ) → before ≤ window
    → length part ≤ i
    → (AllFit window free (map own_frame (drop i part)) → AllFit window before (map own_frame part))
    → FitsBehind window before part
unfolding AllFit
fit-all {window} {before} free part i most all on = grind (arith, within-fit, drop_all)

-- ---- frames of one class that fit
-- frames of one class that fit after free bytes fit there with their own window
pub behind-free : {class : ClassFields} {needs : List Need} (d : Need) {window free : ℕ}
    → AreNeedsOfOneClass needs → class ≡ class_of (get_or needs 0 d).header
    → window ≡ window_of class.version → free ≤ window → FitsBehind window free needs
    → FitBehindFree free needs
behind-free {needs = needs} d all is gives within fits = grind (arith, one-class)

-- frames of one class that fit after free bytes fit after a whole window
pub behind-window : {free : ℕ} {needs : List Need} → FitBehindFree free needs
    → FitBehindWindow needs
behind-window fit = grind (arith, more-behind)

-- frames that fit after free bytes can join others that leave at most these bytes
pub joins-window : {free other : ℕ} {needs : List Need} → 0 < length needs
    → FitBehindFree free needs → other ≤ free → CanJoinBehind other needs
joins-window some fit less = grind (arith, more-behind)

-- ---- parts that fit
-- one more part fits after a whole window
pub parts-fit : (window : ℕ) (needs : List Need) (parts : List ℕ) (at : ℕ) {from end : ℕ}
    → at < length parts → from ≡ get_or parts at 0
    → (at + 1 < length parts → end ≡ get_or parts (at + 1) 0)
    → (length parts ≤ at + 1 → end ≡ length needs)
    → HasLayout window window (map own_frame (slice_range needs from end))
    → (ArePartsFeasible window (needs_in_parts needs (drop at parts))
    → ArePartsFeasible window (needs_in_parts needs parts))
    → ArePartsFeasible window (needs_in_parts needs (drop (at + 1) parts))
    → ArePartsFeasible window (needs_in_parts needs parts)
unfolding ArePartsFeasible
parts-fit window needs parts at within is next last here on rest = grind (arith, parts-cons)

-- once the loop has reached the end, all parts fit
pub parts-fit-all : (window : ℕ) (needs : List Need) (parts : List ℕ) (at : ℕ) → length parts ≤ at
    → (ArePartsFeasible window (needs_in_parts needs (drop at parts))
    → ArePartsFeasible window (needs_in_parts needs parts))
    → ArePartsFeasible window (needs_in_parts needs parts)
unfolding ArePartsFeasible
parts-fit-all window needs parts at all on = grind (arith, parts-none)
