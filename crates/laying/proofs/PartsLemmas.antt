-- Parts, concatenated: each begins where those before it end, and each has its layout alone.
use Rattle.std.proofs.Common.{All, AllPairs, ap, append-nil, append_assoc, arith, length}
use Rattle.std.proofs.Common.{length-append, List, map, refl, slice_range, subst, suc, sym, ℕ, []}
use Rattle.std.proofs.Common.{◌++◌, ◌+◌, ◌<◌, ◌↔◌, ◌∙◌, ◌∷◌, ◌≡◌, ◌≤◌}
use Rattle.std.proofs.Math.Seq.{drop-append_seam, take-append_seam}
use Rattle.std.proofs.lemmas.List.{length-drop, length-map, length-take-le, Concat.flat_map-append}
use Rattle.std.proofs.lemmas.List.{Elements.All-cons, Kept.AllPairs-cons}
use Rattle.frame_header.proofs.HeaderLemmas.{IsClass-class_of}
use Rattle.frame_header.proofs.SlotLemmas.{areas-ascend, Contains-all_slots}
use Rattle.frame_header.specs.Fields.{ClassFields, HeaderFields, IsHeader, SlotFields}
use Rattle.frame_header.specs.Tables.{class_of, window_of}
use Rattle.laying.proofs.NeedsFitLemmas.{AreKnown, part-fits, part-known}
use Rattle.laying.specs.Needs.{need_of, needs_of_parts, part_places, plan_input}
use Rattle.laying.specs.NeedsFit.{any_choice, IsFitPlanInput, IsPartOf, IsPlacedSurvey, own_choice}
use Rattle.slot_plan.proofs.{AreaLemmas.class-ascend, LeastPlanLemmas.least-plan-is}
use Rattle.slot_plan.specs.{Laws.{ChoosesInOrder, PartsChooseInOrder}, Layouts.HasLayout}
use Rattle.slot_plan.specs.LeastPlan.{least_plan}
use Rattle.slot_plan.specs.Parts.{AreNeedsOfClass, AreNeedsOfOneClass, ArePartsFeasible}
use Rattle.slot_plan.specs.{Parts.{needs_in_parts, own_frame, window_in}, Plans.IsPlan}
use Rattle.slot_plan.specs.declared.needs.{Need.Need, Placed.Placed}
use Rattle.sync_survey.specs.{Faults.SurveyFields, Row.Row}

-- ---- one part

-- a part has a frame, is of the class, and has a layout after a whole window
record Fits (class : ClassFields) (rows : List Row) : Type 0 where
  some : 0 < length rows
  known : AreKnown rows
  all : AreNeedsOfClass class (map need_of rows)
  feasible : HasLayout (window_of class.version) (window_of class.version)
      (map own_frame (map need_of rows))

part_some : (rows : List Row) {from to : ℕ} → from < to → to ≤ length rows
    → 0 < length (slice_range rows from to)
part_some rows some within = grind (arith, length-take-le, length-drop, some)

fits : {class : ClassFields} {rows : List Row} → IsPartOf class rows → Fits class rows
fits part =
    grind (
      arith,
      part-fits part.survey part.from part.to part.placed,
      part_some part.survey.frames part.some part.within,
      part-known part.survey part.from part.to part.placed,
    )

-- each part fits
abbrev AllFits : ClassFields → List (List Row) → Type 0
AllFits class [] = Unit {0}
AllFits class (rows ∷ parts) = Fits class rows × AllFits class parts

all_fits : {class : ClassFields} (parts : List (List Row)) → All (IsPartOf class) parts
    → AllFits class parts
all_fits [] all = tt
all_fits {class} (rows ∷ parts) all = (
  fits (all 0 rows (omega arith)),
  all_fits parts (λ k d lt. all (suc k) d (omega (arith, lt))),
)

-- ---- the needs

needs-cons : (rows : List Row) (parts : List (List Row))
    → needs_of_parts (rows ∷ parts) ≡ map need_of rows ++ needs_of_parts parts
unfolding needs_of_parts
needs-cons rows parts = refl

nothing : needs_of_parts [] ≡ []
unfolding needs_of_parts
nothing = refl

class-append : (class : ClassFields) (xs ys : List Need) → AreNeedsOfClass class xs
    → AreNeedsOfClass class ys → AreNeedsOfClass class (xs ++ ys)
unfolding AreNeedsOfClass
class-append class [] ys first second = second
class-append class (x ∷ xs) ys first second = (first.0, class-append class xs ys first.1 second)

class_all : (class : ClassFields) (parts : List (List Row)) → AllFits class parts
    → AreNeedsOfClass class (needs_of_parts parts)
unfolding needs_of_parts AreNeedsOfClass
class_all class [] all = tt
class_all class (rows ∷ parts) all = grind (arith, class-append, class_all class parts all.1)

-- needs of a class are of one class
pub one_class : (class : ClassFields) (needs : List Need) → AreNeedsOfClass class needs
    → AreNeedsOfOneClass needs
unfolding AreNeedsOfClass
one_class class needs all = grind arith

window_is : (class : ClassFields) (needs : List Need) → 0 < length needs
    → AreNeedsOfClass class needs → window_in needs ≡ window_of class.version
unfolding AreNeedsOfClass
window_is class needs some all = grind arith

-- ---- the places

length-needs : (rows : List Row) (parts : List (List Row))
    → length (needs_of_parts (rows ∷ parts)) ≡ length rows + length (needs_of_parts parts)
length-needs rows parts = grind (arith, needs-cons, length-append, length-map)

-- no part is before the first, and each is before the end of all
places_within : (class : ClassFields) (at : ℕ) (parts : List (List Row)) → AllFits class parts → All
    (λ place. (at ≤ place) × (place < at + length (needs_of_parts parts))) (part_places at parts)
unfolding part_places
places_within class at [] all = λ k d lt. absurd (omega (arith, lt))
places_within class at (rows ∷ parts) all =
    grind (arith, length-needs, All-cons, places_within class (at + length rows) parts all.1)

places_ascend : (class : ClassFields) (at : ℕ) (parts : List (List Row)) → AllFits class parts
    → AllPairs (λ m n. m < n) (part_places at parts)
unfolding part_places
places_ascend class at [] all = λ i j d before lt. absurd (omega (arith, lt))
places_ascend class at (rows ∷ parts) all =
    grind (arith, places_within, AllPairs-cons, places_ascend class (at + length rows) parts all.1)

-- ---- the parts of the needs

-- a stretch between two others is found at its place
middle : (before : List Need) {part : List Need} (behind : List Need) {from to : ℕ}
    → from ≡ length before → to ≡ length before + length part
    → slice_range (before ++ (part ++ behind)) from to ≡ part
middle before {part} behind is ends =
    grind (arith, drop-append_seam before (part ++ behind), take-append_seam part behind)

-- cutting the needs at the places of the parts gives the needs of each part
pub parts_are : (before : List Need) {at : ℕ} (parts : List (List Row)) → at ≡ length before
    → needs_in_parts (before ++ needs_of_parts parts) (part_places at parts)
    ≡ map (map need_of) parts
unfolding needs_in_parts part_places
parts_are before [] is = refl
parts_are before (rows ∷ []) is = grind (arith, needs-cons, nothing, length-append, middle)
parts_are before {at} (rows ∷ next ∷ parts) is =
    let part : List Need = map need_of rows in
    let later : List (List Row) = next ∷ parts in
    let to : ℕ = at + length rows in
    let whole : before ++ needs_of_parts (rows ∷ later) ≡ before ++ (part ++ needs_of_parts later) =
    ap (λ l. before ++ l) (needs-cons rows later) in
    let ends : to ≡ length before + length part = omega (arith, is, length-map rows need_of) in
    let seam : before ++ (part ++ needs_of_parts later) ≡ (before ++ part) ++ needs_of_parts later =
    sym (append_assoc before part (needs_of_parts later)) in
    ap (λ l. slice_range l at to ∷ needs_in_parts l (part_places to later)) whole
    ∙ ap (λ l. l ∷ needs_in_parts (before ++ (part ++ needs_of_parts later)) (part_places to later))
    (middle before (needs_of_parts later) is ends)
    ∙ ap (λ l. part ∷ needs_in_parts l (part_places to later)) seam
    ∙ ap (λ l. part ∷ l)
    (parts_are (before ++ part) (next ∷ parts) (ends ∙ sym (length-append before part)))

feasible_all : (class : ClassFields) (parts : List (List Row)) → AllFits class parts
    → ArePartsFeasible (window_of class.version) (map (map need_of) parts)
unfolding ArePartsFeasible
feasible_all class [] all = tt
feasible_all class (rows ∷ parts) all = (all.0.feasible, feasible_all class parts all.1)

each_class : (class : ClassFields) (parts : List (List Row)) → AllFits class parts
    → All (λ part. AreNeedsOfClass class part) (map (map need_of) parts)
each_class class [] all = λ k d lt. absurd (omega (arith, lt))
each_class class (rows ∷ parts) all = grind (arith, All-cons, each_class class parts all.1)

-- ---- choices in order

keeps : (r : Row) → IsHeader r.header → ChoosesInOrder own_choice (need_of r)
keeps r known = grind (arith, IsClass-class_of, known)

may_any : (r : Row) → IsHeader r.header → ChoosesInOrder any_choice (need_of r)
may_any r known =
    let class = IsClass-class_of known in
    record {
      class = class;
      ascending = class-ascend r.header.protected
          refl refl (areas-ascend (class_of r.header) class r.header.protected);
      own = Contains-all_slots r.header.slot known.slot;
    }

module _ {choices : HeaderFields → List SlotFields}
    (each : (r : Row) → IsHeader r.header → ChoosesInOrder choices (need_of r)) where
  rows_choose : (rows : List Row) → AreKnown rows → All (ChoosesInOrder choices) (map need_of rows)
  rows_choose [] known = λ k d lt. absurd (omega (arith, lt))
  rows_choose (r ∷ rows) known = search (arith, All-cons, rows_choose rows known.1)

  parts_choose : (class : ClassFields) (parts : List (List Row)) → AllFits class parts
      → PartsChooseInOrder choices (map (map need_of) parts)
  parts_choose class [] all = λ k d lt. absurd (omega (arith, lt))
  parts_choose class (rows ∷ parts) all =
      grind (arith, All-cons, rows_choose, parts_choose class parts all.1)

-- ---- all of it

planned : {class : ClassFields} (parts : List (List Row)) → 1 ≤ length parts → AllFits class parts
    → IsFitPlanInput class (plan_input parts)
unfolding part_places
planned [] some all = absurd (omega (arith, some))
planned {class} (rows ∷ parts) some all =
    let whole : List (List Row) = rows ∷ parts in
    let needs : List Need = needs_of_parts whole in
    let classes = class_all class whole all in
    let window =
    window_is class needs (omega (arith, length-needs rows parts, all.0.some)) classes in
    let within = places_within class 0 whole all in
    record {
      all = classes;
      each = subst (All (λ part. AreNeedsOfClass class part)) (sym (parts_are [] whole refl))
          (each_class class whole all);
      kept = subst (PartsChooseInOrder own_choice) (sym (parts_are [] whole refl))
          (parts_choose keeps class whole all);
      least = subst (PartsChooseInOrder any_choice) (sym (parts_are [] whole refl))
          (parts_choose may_any class whole all);
      window = window;
      planned = record {
        class = one_class class needs classes;
        some = omega arith;
        first = refl;
        ascending = places_ascend class 0 whole all;
        within = λ k d lt. omega (arith, (within k d lt).1);
        feasible =
            subst (λ w. ArePartsFeasible w (needs_in_parts needs (part_places 0 whole)))
            (sym window)
            (subst (ArePartsFeasible (window_of class.version)) (sym (parts_are [] whole refl))
            (feasible_all class whole all));
      };
    }

-- parts of one class that each fit can be planned
pub parts-fit : (class : ClassFields) (parts : List (List Row)) → 1 ≤ length parts
    → All (IsPartOf class) parts → IsFitPlanInput class (plan_input parts)
parts-fit class parts some all = planned parts some (all_fits parts all)

-- one part of a survey can be planned
pub one-part-fits : (s : SurveyFields) {from to : ℕ} → IsPlacedSurvey s → from < to
    → to ≤ length s.frames → IsFitPlanInput s.class (plan_input (slice_range s.frames from to ∷ []))
one-part-fits s {from} {to} placed some within =
    let part : IsPartOf s.class (slice_range s.frames from to) = grind (arith, some) in
    planned (slice_range s.frames from to ∷ []) (omega arith)
    (fits part, tt)

-- the plan of parts that can be planned is the least of all, under either policy
pub parts-plan : {class : ClassFields} {choices : HeaderFields → List SlotFields}
    (parts : List (List Row)) (placed : List Placed) → IsFitPlanInput class (plan_input parts)
    → PartsChooseInOrder choices (needs_in_parts (plan_input parts).needs (plan_input parts).places)
    → IsPlan (window_of class.version) choices (map (map need_of) parts) placed
    ↔ (placed ≡ least_plan (window_of class.version) choices (map (map need_of) parts))
parts-plan {class} {choices} parts placed fit in_order =
    let are : needs_in_parts (plan_input parts).needs (plan_input parts).places
    ≡ map (map need_of) parts =
    parts_are [] parts refl in
    least-plan-is class placed
    (subst (All (AreNeedsOfClass class)) are fit.each)
    (subst (PartsChooseInOrder choices) are in_order)
    (subst (λ (n : ℕ). ArePartsFeasible n (map (map need_of) parts)) fit.window
    (subst (ArePartsFeasible (window_in (plan_input parts).needs)) are fit.planned.feasible))

-- ---- one more part

-- one more part adds its needs
pub needs-push : (parts : List (List Row)) (rows : List Row)
    → needs_of_parts (parts ++ rows ∷ []) ≡ needs_of_parts parts ++ map need_of rows
unfolding needs_of_parts
needs-push parts rows = grind (arith, flat_map-append, append-nil)

-- one more part adds its place, where those before it end
pub places-push : (at : ℕ) (parts : List (List Row)) (rows : List Row)
    → part_places at (parts ++ rows ∷ [])
    ≡ part_places at parts ++ (at + length (needs_of_parts parts)) ∷ []
unfolding part_places needs_of_parts
places-push at [] rows = ap (λ n. n ∷ []) (omega arith)
places-push at (first ∷ parts) rows =
    grind (arith, length-needs, places-push (at + length first) parts rows)

-- the input of the planner, with one more part at its end
pub asked-push : (parts : List (List Row)) (rows : List Row) {needs : List Need} {places : List ℕ}
    {place : ℕ} {all : List Need} {all_places : List ℕ}
    → record { needs = needs; places = places } ≡ plan_input parts → place ≡ length needs
    → all ≡ needs ++ map need_of rows → all_places ≡ places ++ place ∷ []
    → record { needs = all; places = all_places } ≡ plan_input (parts ++ rows ∷ [])
asked-push parts rows is at added put = grind (arith, needs-push, places-push)
