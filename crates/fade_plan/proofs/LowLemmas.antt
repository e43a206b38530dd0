-- The first point that is no later than the one before, searched from point to point, and the
-- points at their frames.
use Rattle.std.proofs.Common.{ap, append-nil, append_assoc, arith, cond, drop, Err, get_or, length}
use Rattle.std.proofs.Common.{length-drop, List, map, nat_lt, None, Ok, refl, Some, sym, take, ℕ}
use Rattle.std.proofs.{Common.{[], ◌++◌, ◌+◌, ◌-◌, ◌<◌, ◌∙◌, ◌∷◌, ◌≡◌, ◌≤◌}, Math.ListN.set}
use Rattle.std.proofs.lemmas.Bool.{cases_lt, le-ltb, lt-ltb}
use Rattle.std.proofs.lemmas.List.{drop_all, drop_more, get_or-append_right, get_or-drop}
use Rattle.std.proofs.lemmas.List.{get_or_default, length-map, length-take-le, map-append, set_at}
use Rattle.std.{proofs.lemmas.List.{take_all, take_more}, specs.List.AllAdjacentBelow}
use Rattle.cue_sheet.specs.Places.{frame_at}
use Rattle.fade_plan.specs.Curves.{curve_of, curve_point, line_not_rising}
use Rattle.fade_plan.specs.Points.{curve_point_of, envelope_point_of, first_not_rising}
use Rattle.fade_plan.specs.{Points.placed_point, declared.point.Point.Point}
use Rattle.frame_header.specs.Fields.{ClassFields}

low_of : (p q : Point) (more : List Point) → first_not_rising (p ∷ q ∷ more)
    ≡ cond (nat_lt p.frame q.frame) (first_not_rising (q ∷ more)) (Some q.line)
unfolding first_not_rising
low_of p q more = refl

two_of : (xs : List Point) (n : ℕ) (d : Point) → n + 1 < length xs
    → drop n xs ≡ get_or xs n d ∷ get_or xs (n + 1) d ∷ drop (n + 1 + 1) xs
two_of xs n d less = grind (arith, drop_more)

-- if the next point is at a later frame, the first point that isn't later comes after it
pub low_past : (xs : List Point) (n : ℕ) (d : Point) → n + 1 < length xs → (get_or xs n d).frame
    < (get_or xs (n + 1) d).frame
    → first_not_rising (drop n xs) ≡ first_not_rising (drop (n + 1) xs)
low_past xs n d less rises = grind (arith, two_of, low_of, lt-ltb, drop_more)

-- if the next point is at no later frame, it is the first
pub low_here : (xs : List Point) (n : ℕ) (d : Point) → n + 1 < length xs
    → (get_or xs (n + 1) d).frame ≤ (get_or xs n d).frame
    → first_not_rising (drop n xs) ≡ Some (get_or xs (n + 1) d).line
low_here xs n d less falls = grind (arith, two_of, low_of, le-ltb)

short_low : (xs : List Point) → length xs ≤ 1 → first_not_rising xs ≡ None
unfolding first_not_rising
short_low [] short = refl
short_low (p ∷ []) short = refl
short_low (p ∷ q ∷ more) short = absurd (omega (arith, short))

-- ---- placed points

-- one point more has its frame
pub placed_point-more : (class : ClassFields) (frames : ℕ) (xs : List Point) {i : ℕ} (d : Point)
    → i < length xs
    → set (map (placed_point class frames) (take i xs) ++ drop i xs) i (placed_point class
    frames (get_or xs i d)) ≡ map (placed_point class frames) (take (i + 1) xs) ++ drop (i + 1) xs
placed_point-more class frames xs {i} d less =
    let f = placed_point class frames in
    let x = get_or xs i d in
    let size : length (map f (take i xs)) ≡ i = grind (arith, length-map, length-take-le) in
    ap (λ t. set (map f (take i xs) ++ t) i (f x)) (drop_more xs i d less)
    ∙ set_at (map f (take i xs)) x (drop (i + 1) xs) (f x) i size
    ∙ sym (append_assoc (map f (take i xs)) (f x ∷ []) (drop (i + 1) xs))
    ∙ ap (λ t. t ++ drop (i + 1) xs)
    (sym (map-append f (take i xs) (x ∷ [])) ∙ ap (map f) (sym (take_more xs i d less)))

placed_of : (class : ClassFields) (frames : ℕ) (xs : List Point)
    → first_not_rising (map (placed_point class frames) xs)
    ≡ line_not_rising class frames (map envelope_point_of xs)
unfolding first_not_rising line_not_rising
placed_of class frames [] = refl
placed_of class frames (p ∷ []) = refl
placed_of class frames (p ∷ q ∷ more) = grind (arith, placed_of class frames (q ∷ more))

-- the first line that doesn't rise is the same by the frames of the points and by their positions
pub low-placed_point : (class : ClassFields) (frames : ℕ) (xs : List Point)
    → first_not_rising (map (placed_point class frames) xs)
    ≡ line_not_rising class frames (map envelope_point_of xs)
low-placed_point class frames xs = placed_of class frames xs

-- ---- the loop over the points, at the point with number m

before_next : {m : ℕ} → 1 ≤ m → m - 1 + 1 ≡ m
before_next some = omega (arith, some)

-- a point after the one before it is passed
pub passes : (xs : List Point) {m : ℕ} (d : Point) → 1 ≤ m → m < length xs
    → (get_or xs (m - 1) d).frame < (get_or xs m d).frame
    → first_not_rising (drop (m - 1) xs) ≡ first_not_rising (drop (m + 1 - 1) xs)
passes xs d some less = grind (arith, before_next, low_past)

-- a point that isn't after the one before it is the first fault
pub stops : (xs : List Point) {m : ℕ} (d : Point) → 1 ≤ m → m < length xs → (get_or xs m d).frame
    ≤ (get_or xs (m - 1) d).frame → first_not_rising (drop (m - 1) xs) ≡ Some (get_or xs m d).line
stops xs d some less = grind (arith, before_next, low_here)

-- after the last point there is no fault
pub ends : (xs : List Point) {m : ℕ} → 1 ≤ m → length xs ≤ m
    → first_not_rising (drop (m - 1) xs) ≡ None
ends xs {m} some end =
    short_low (drop (m - 1) xs) (omega (arith, some, end, length-drop (m - 1) xs))

-- points in order and one that is after the last of them are in order
pub adjacent_more : (xs : List Point) {m : ℕ} (e : Point) → m < length xs
    → AllAdjacentBelow (λ x y. x.frame ≤ y.frame) xs m → (get_or xs (m - 1) e).frame
    < (get_or xs m e).frame → AllAdjacentBelow (λ x y. x.frame ≤ y.frame) xs (m + 1)
adjacent_more xs e within so rises k d less = grind (arith, cases_lt, get_or_default)

-- ---- the loop that places points

-- giving the point at i its frame places one point more
pub placed_point-step : (class : ClassFields) (frames : ℕ) (xs : List Point) {ps : List Point}
    {i frame : ℕ}
    (d : Point) → i < length xs → ps ≡ map (placed_point class frames) (take i xs) ++ drop i xs
    → frame ≡ frame_at class frames (get_or ps i d).place
    → set ps i (record (get_or ps i d) { frame = frame })
    ≡ map (placed_point class frames) (take (i + 1) xs) ++ drop (i + 1) xs
placed_point-step class frames xs {i = i} d less is at =
    grind (
      arith,
      length-map (take i xs) (placed_point class frames),
      length-take-le i xs (omega
          (arith, less)),
      get_or-append_right,
      get_or-drop i xs (i - i) d,
      set,
      placed_point-more class
          frames xs d less,
    )

-- ---- the curve of placed points

-- if some point isn't after the one before it, its line is the fault
pub curve_refused : (class : ClassFields) (frames : ℕ) (xs : List Point) {ys : List Point}
    {line : ℕ} → ys ≡ map (placed_point class frames) xs → Some line ≡ first_not_rising ys
    → Err line ≡ curve_of class frames (map envelope_point_of xs)
unfolding curve_of
curve_refused class frames xs is low = grind (arith, low-placed_point)

same_points : (class : ClassFields) (frames : ℕ) (xs : List Point)
    → map curve_point_of (map (placed_point class frames) xs)
    ≡ map (curve_point class frames) (map envelope_point_of xs)
same_points class frames [] = refl
same_points class frames (x ∷ xs) = grind (arith, same_points class frames xs)

-- if no line is at fault, the placed points are the curve
pub curve_made : (class : ClassFields) (frames : ℕ) (xs : List Point) {ys : List Point}
    → ys ≡ map (placed_point class frames) xs → None ≡ first_not_rising ys
    → Ok (map curve_point_of ys) ≡ curve_of class frames (map envelope_point_of xs)
unfolding curve_of
curve_made class frames xs is low = grind (arith, same_points, low-placed_point)

-- what a vector contains after its points were overwritten
pub whole_again : {n : ℕ} {new : List Point} (old : List Point) → length new ≡ n → length old ≡ n
    → take n (new ++ drop (length new) old) ≡ new
whole_again old size same = grind (arith, drop_all, append-nil, take_all)

-- points that are overwritten with their frames are the placed points
pub written_again : (class : ClassFields) (frames : ℕ) {n : ℕ} {xs ms new ys : List Point}
    → n ≡ length xs → ms ≡ xs → new ≡ map (placed_point class frames) ms
    → ys ≡ take n (new ++ drop (length new) xs) → ys ≡ map (placed_point class frames) xs
written_again class frames size same is now = grind (arith, whole_again, length-map)
