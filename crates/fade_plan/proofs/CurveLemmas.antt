-- The last point up to a frame and the first point after it, among points that are split there.
use Rattle.std.proofs.Common.{ap, ap₂, arith, Bool, cond, drop, false, find, get_or, length}
use Rattle.std.proofs.Common.{length-append, length-drop, List, map, nat_le, nat_lt, None, Ok}
use Rattle.std.proofs.Common.{Option, option_map, refl, reverse, Some, subst, suc, sym, take, true}
use Rattle.std.proofs.{Common.{ℕ, [], ◌++◌, ◌-◌, ◌<◌, ◌∙◌, ◌∷◌, ◌≡◌, ◌≤◌}, Math.ListN.get_or-append}
use Rattle.std.proofs.lemmas.Bool.{le-leb, le-ltb, leb-false, leb-true, lt-leb, lt-ltb, ltb-true}
use Rattle.std.proofs.lemmas.List.{get_or-append_right, get_or-drop, get_or-reverse, get_or-take}
use Rattle.std.proofs.lemmas.List.{get_or_default, length-reverse, length-take-le, map-append}
use Rattle.std.proofs.lemmas.List.{reverse-append, take-append-drop, Folds.find-append}
use Rattle.std.proofs.lemmas.Option.{get_or_from_slice_get, none-some}
use Rattle.std.specs.List.{All, AllWithin, slice_get, Sorted.IsNonDecreasingBy}
use Rattle.fade_plan.specs.Curves.{CurvePoint, first_point_after, last_point_up_to, line_or_curve}
use Rattle.fade_plan.specs.Curves.{neighbour_steps, steps_at}
use Rattle.fade_plan.specs.{Points.{curve_point_of, IsKeptPoint}, declared.point.Point.Point}

-- ---- finding in mapped lists

-- the first value of a function that passes is the value of the first item whose value passes
pub find_mapped : {X Y : Type 0} (p : Y → Bool) (f : X → Y) (xs : List X)
    → find p (map f xs) ≡ option_map f (find (λ x. p (f x)) xs)
find_mapped p f [] = refl
find_mapped p f (x ∷ xs) = grind (arith, find, option_map, find_mapped p f xs)

-- the values in reverse are the values of the reverse
pub reverse_mapped : {X Y : Type 0} (f : X → Y) (xs : List X)
    → reverse (map f xs) ≡ map f (reverse xs)
reverse_mapped f [] = refl
reverse_mapped f (x ∷ xs) =
    reverse-append (f x ∷ []) (map f xs) ∙ ap (λ t. t ++ (f x ∷ [])) (reverse_mapped f xs)
    ∙ sym (map-append f (reverse xs) (x ∷ [])) ∙ ap (map f) (sym (reverse-append (x ∷ []) xs))

-- ---- finding in split lists

-- if none passes, none is found
pub none_passes : {X : Type 0} (p : X → Bool) (xs : List X) → All (λ x. p x ≡ false) xs
    → find p xs ≡ None
none_passes p [] fails = refl
none_passes p (x ∷ xs) fails =
    ap (λ b. cond b (Some x) (find p xs)) (fails 0 x (omega arith))
    ∙ none_passes p xs (λ k d less. fails (suc k) d (omega (arith, less)))

first_passes : {X : Type 0} (p : X → Bool) (xs : List X) (d : X) → 0 < length xs
    → p (get_or xs 0 d) ≡ true → find p xs ≡ Some (get_or xs 0 d)
first_passes p [] d some is = absurd (omega (arith, some))
first_passes p (x ∷ xs) d some is = ap (λ b. cond b (Some x) (find p xs)) is

-- if none passes, none is found from the end on either
pub none_passes_back : {X : Type 0} (p : X → Bool) (xs : List X) → All (λ x. p x ≡ false) xs
    → find p (reverse xs) ≡ None
none_passes_back {X} p xs fails = grind (arith, none_passes, length-reverse, get_or-reverse)

-- if all pass, the last is the first that is found from the end on
pub last_passes : {X : Type 0} (p : X → Bool) (xs : List X) (d : X) → 0 < length xs
    → All (λ x. p x ≡ true) xs → find p (reverse xs) ≡ Some (get_or xs (length xs - 1) d)
last_passes {X} p xs d some all =
    grind (arith, get_or-reverse xs 0 d some, first_passes, length-reverse xs)

-- ---- the points around a frame

abbrev up_to : ℕ → Point → Bool
up_to frame point = nat_le point.frame frame

abbrev behind : ℕ → Point → Bool
behind frame point = nat_lt frame point.frame

not_behind : (frame : ℕ) (xs : List Point) → All (λ p. up_to frame p ≡ true) xs
    → All (λ p. behind frame p ≡ false) xs
not_behind frame xs all = λ k d less. le-ltb frame _ (leb-true _ _ (all k d less))

is_behind : (frame : ℕ) (xs : List Point) → All (λ p. up_to frame p ≡ false) xs
    → All (λ p. behind frame p ≡ true) xs
is_behind frame xs none = λ k d less. lt-ltb frame _ (leb-false _ _ (none k d less))

last_of : (frame : ℕ) (xs ys : List Point) → All (λ p. up_to frame p ≡ false) ys
    → last_point_up_to (map curve_point_of (xs ++ ys)) frame
    ≡ option_map curve_point_of (find (up_to frame) (reverse xs))
last_of frame xs ys none =
    grind (
      arith,
      find,
      nat_le,
      reverse_mapped,
      find_mapped,
      option_map,
      reverse-append,
      find-append,
      none_passes_back,
    )

first_of : (frame : ℕ) (xs ys : List Point) → All (λ p. up_to frame p ≡ true) xs
    → first_point_after (map curve_point_of (xs ++ ys)) frame
    ≡ option_map curve_point_of (find (behind frame) ys)
first_of frame xs ys all =
    grind (arith, find_mapped, option_map, find-append, find, none_passes, not_behind)

-- the points are the ones up to a frame, followed by the ones after it
pub record AreParted (frame : ℕ) (points xs ys : List Point) : Type 0 where
  pub whole : points ≡ xs ++ ys
  pub front : All (λ p. up_to frame p ≡ true) xs
  pub back : All (λ p. up_to frame p ≡ false) ys

steps_of : {frame : ℕ} {points xs ys : List Point} → AreParted frame points xs ys
    → steps_at (map curve_point_of points) frame ≡ neighbour_steps (option_map curve_point_of
    (find (up_to frame) (reverse xs))) (option_map curve_point_of (find (behind frame) ys)) frame
unfolding steps_at
steps_of {frame} {xs = xs} {ys = ys} parted =
    ap (λ ps. neighbour_steps (last_point_up_to (map curve_point_of ps) frame)
    (first_point_after (map curve_point_of ps) frame) frame) parted.whole
    ∙ ap₂ (λ p q. neighbour_steps p q frame) (last_of frame xs ys parted.back)
    (first_of frame xs ys parted.front)

abbrev last_there : List Point → Point → Type 0
last_there xs p = (0 < length xs) × ((d : Point) → p ≡ get_or xs (length xs - 1) d)

abbrev first_there : List Point → Point → Type 0
first_there ys q = (0 < length ys) × ((d : Point) → q ≡ get_or ys 0 d)

empty_find : (p : Point → Bool) (xs : List Point) → length xs ≡ 0 → find p xs ≡ None
empty_find p [] none = refl
empty_find p (x ∷ xs) none = absurd (omega (arith, none))

no_last : (p : Point → Bool) (xs : List Point) → length xs ≡ 0 → find p (reverse xs) ≡ None
no_last p xs none = empty_find p (reverse xs) (length-reverse xs ∙ none)

module _ {frame : ℕ} {points xs ys : List Point} (q : Point)
    (parted : AreParted frame points xs ys) where
  first_is : first_there ys q → find (behind frame) ys ≡ Some q
  first_is there = grind (arith, first_passes, is_behind)

  -- before the first point, the steps are its steps
  pub steps_of_first : length xs ≡ 0 → first_there ys q
      → steps_at (map curve_point_of points) frame ≡ q.steps
  steps_of_first none first =
      grind (
        arith,
        steps_of parted,
        option_map,
        no_last (up_to frame) xs none,
        first_is first,
      )

  -- the first point after a frame has the bounds of a kept point, and is after the frame
  pub first_kept : All IsKeptPoint points → first_there ys q → IsKeptPoint q × (frame < q.frame)
  first_kept all there =
      grind (
        arith,
        length-append xs ys,
        get_or-append_right xs ys (length xs) (length xs) q refl
            (omega arith),
        leb-false,
      )

module _ (frame : ℕ) (points xs ys : List Point) (p : Point) where
  last_is : AreParted frame points xs ys → last_there xs p
      → find (up_to frame) (reverse xs) ≡ Some p
  last_is parted there = grind (arith, last_passes)

  -- between two points, the steps are on the line from the one to the other
  pub steps_of_two : {q : Point} → AreParted frame points xs ys → last_there xs p → first_there ys q
      → steps_at (map curve_point_of points) frame
      ≡ neighbour_steps (Some (curve_point_of p)) (Some (curve_point_of q)) frame
  steps_of_two {q} parted last first =
      grind (
        arith,
        steps_of parted,
        option_map,
        last_is parted last,
        first_is q parted first,
      )

  -- after the last point, the steps are its steps
  pub steps_of_last : AreParted frame points xs ys → last_there xs p → length ys ≡ 0
      → steps_at (map curve_point_of points) frame ≡ p.steps
  steps_of_last parted last none =
      grind (
        arith,
        steps_of parted,
        option_map,
        last_is parted last,
        empty_find
            (behind frame) ys none,
      )

  -- the last point up to a frame has the bounds of a kept point, and isn't after the frame
  pub last_kept : AreParted frame points xs ys → All IsKeptPoint points → last_there xs p
      → IsKeptPoint p × (p.frame ≤ frame)
  last_kept parted all there = grind (arith, length-append xs ys, get_or-append, leb-true)

-- without points, the steps are 0
pub steps_of_none : {frame : ℕ} {points xs ys : List Point} → AreParted frame points xs ys
    → length xs ≡ 0 → length ys ≡ 0
    → steps_at (map curve_point_of points) frame ≡ neighbour_steps None None frame
steps_of_none {frame} {points} {xs} {ys} parted none other =
    grind (
      arith,
      steps_of parted,
      option_map,
      no_last (up_to frame) xs none,
      empty_find (behind frame) ys other,
    )

-- points are split where the ones up to a frame end and the ones after it begin
pub parted_at : {frame : ℕ} {points : List Point} {k : ℕ} → k ≤ length points
    → ((j : ℕ) (d : Point) → 0 ≤ j → j < k → nat_le (get_or points j d).frame frame ≡ true)
    → ((j : ℕ) (d : Point) → k ≤ j → j < length points → nat_le (get_or points j d).frame frame
    ≡ false) → AreParted frame points (take k points) (drop k points)
parted_at {points = points} {k = k} within front back = record {
  whole = sym (take-append-drop k points);
  front = grind (arith, length-take-le, get_or-take, front);
  back = grind (arith, get_or-drop, back, length-drop);
}

-- the same for two lists that are these parts
pub parted_as : {frame : ℕ} {points : List Point} {k : ℕ} {xs ys : List Point} → k ≤ length points
    → ((j : ℕ) (d : Point) → 0 ≤ j → j < k → nat_le (get_or points j d).frame frame ≡ true)
    → ((j : ℕ) (d : Point) → k ≤ j → j < length points → nat_le (get_or points j d).frame frame
    ≡ false) → xs ≡ take k points → ys ≡ drop k points → AreParted frame points xs ys
parted_as {frame} {points} {k} {ys = ys} within front back first second =
    subst (λ t. AreParted frame points t ys) (sym first) (subst (λ t. AreParted frame points
    (take k points) t) (sym second) (parted_at within front back))

-- ---- what `last` and `first` give

-- the point at the last place is the last
pub last_some : (xs : List Point) {p : Point} → Some p ≡ slice_get xs (length xs - 1)
    → last_there xs p
last_some [] is = absurd (none-some _ (sym is))
last_some (x ∷ xs) is = grind (arith, get_or_from_slice_get)

-- the point at the first place is the first
pub first_some : (ys : List Point) {q : Point} → Some q ≡ slice_get ys 0 → first_there ys q
first_some [] is = absurd (none-some _ (sym is))
first_some (y ∷ ys) {q} is = (omega arith, λ d. sym (get_or_from_slice_get (y ∷ ys) 0 q d (sym is)))

-- if there is no point at the first place, there are no points
pub first_none : (ys : List Point) → None ≡ slice_get ys 0 → length ys ≡ 0
first_none [] is = refl
first_none (y ∷ ys) is = absurd (none-some _ is)

some_at : (xs : List Point) (x : Point)
    → slice_get (x ∷ xs) (length xs) ≡ Some (get_or (x ∷ xs) (length xs) x)
some_at [] x = refl
some_at (y ∷ ys) x = some_at ys y ∙ ap Some (get_or_default (y ∷ ys) (length ys) y x (omega arith))

-- if there is no point at the last place, there are no points
pub last_none : (xs : List Point) → None ≡ slice_get xs (length xs - 1) → length xs ≡ 0
last_none [] is = refl
last_none (x ∷ xs) is = grind (arith, none-some, some_at xs x)

-- ---- how many of rising points are up to a frame

-- if the last of the first `count` points is up to the frame, all of them are
pub all_up_to : (frame : ℕ) (points : List Point) {count : ℕ} (e : Point)
    → IsNonDecreasingBy (λ p. p.frame) points → count ≤ length points → 0 < count
    → up_to frame (get_or points (count - 1) e) ≡ true
    → AllWithin (λ p. nat_le p.frame frame ≡ true) points 0 count
all_up_to frame points {count} e rising within some last k d from below =
    grind (
      arith,
      get_or_default points (count - 1) e d (omega (arith, within, some)),
      le-leb,
      leb-true,
    )

-- if the first of the points after these is after the frame, all of them are
pub all_behind : (frame : ℕ) (points : List Point) {count : ℕ} (e : Point)
    → IsNonDecreasingBy (λ p. p.frame) points → count < length points
    → behind frame (get_or points count e) ≡ true
    → AllWithin (λ p. nat_le p.frame frame ≡ false) points count (length points)
all_behind frame points {count} e rising within first k d from below =
    grind (arith, get_or_default points count e d within, lt-leb, ltb-true)

-- ---- points that rise

-- if there is no fault at all, the first test passes and the rest has no fault
pub none_of : {b : Bool} {o : Option ℕ} (line : ℕ) → cond b o (Some line) ≡ None
    → (b ≡ true) × (o ≡ None)
none_of line e = grind arith

-- there is a curve only if no point is at fault, and it is these points
pub made_of : {o : Option ℕ} {points curve : List CurvePoint} → line_or_curve o points ≡ Ok curve
    → (o ≡ None) × (points ≡ curve)
made_of e = grind arith
