-- Curves go evenly from point to point.
use Rattle.std.proofs.Common.{ap, append-nil, append_assoc, ap₂, arith, Bool, cond, find, get_or}
use Rattle.std.proofs.Common.{inl, inr, length, length-append, List, map, nat_le, nat_lt, None, Ok}
use Rattle.std.proofs.Common.{refl, reverse, Some, subst, sym, ℕ, [], ◌++◌, ◌+◌, ◌-◌, ◌<◌, ◌∙◌, ◌∷◌}
use Rattle.std.proofs.{Common.{◌≡◌, ◌≤◌}, Math.ListN.get_or-append}
use Rattle.std.proofs.lemmas.Bool.{cases_lt, le-leb, le-ltb, lt-leb, lt-ltb, ltb-true}
use Rattle.std.proofs.lemmas.List.{get_or-append_right, get_or_default, reverse-append}
use Rattle.std.{proofs.lemmas.List.{Folds.find-append, Kept.AllPairs-cons}, specs.List.All}
use Rattle.fade_plan.proofs.CurveLemmas.{last_passes, made_of, none_of, none_passes}
use Rattle.fade_plan.proofs.CurveLemmas.{none_passes_back}
use Rattle.fade_plan.specs.Curves.{curve_of, curve_point, CurvePoint, line_not_rising}
use Rattle.fade_plan.specs.Curves.{neighbour_steps, point_frame, steps_at, steps_between}
use Rattle.fade_plan.specs.Sheets.{EnvelopePoint}
use Rattle.frame_header.specs.Fields.{ClassFields}
use Rattle.gain_laws.specs.CurveLaws.{CurvesGoEvenly, IsCurveRising}

-- ---- points that rise

all_later : (x : CurvePoint) {y : CurvePoint} (xs : List CurvePoint) → x.frame < y.frame
    → IsCurveRising (y ∷ xs) → All (λ z. x.frame < z.frame) (y ∷ xs)
all_later x {y} xs less rising k d within =
    elim (cases_lt 0 k) [
      | inl later ↦ let above : y.frame < (get_or (y ∷ xs) k d).frame = rising 0 k d later within in
          omega (arith, less, above)
      | inr first ↦ grind arith
    ]

next_of : (class : ClassFields) (frames : ℕ) (p q : EnvelopePoint) (more : List EnvelopePoint)
    → line_not_rising class frames (p ∷ q ∷ more) ≡ cond (nat_lt (point_frame class frames p)
    (point_frame class frames q)) (line_not_rising class frames (q ∷ more)) (Some q.line)
unfolding line_not_rising
next_of class frames p q more = refl

rises : (class : ClassFields) (frames : ℕ) (points : List EnvelopePoint)
    → line_not_rising class frames points ≡ None
    → IsCurveRising (map (curve_point class frames) points)
rises class frames [] none = λ i j d less within. absurd (omega (arith, within))
rises class frames (p ∷ []) none = λ i j d less within. absurd (omega (arith, less, within))
rises class frames (p ∷ q ∷ more) none =
    let parts = none_of q.line (sym (next_of class frames p q more) ∙ none) in
    let later = rises class frames (q ∷ more) parts.1 in
    AllPairs-cons (λ x y. x.frame < y.frame) (curve_point class frames p)
    (map (curve_point class frames) (q ∷ more))
    (all_later (curve_point class frames p)
    (map (curve_point class frames) more) (ltb-true _ _ parts.0) later) later

curve_rises : (class : ClassFields) (frames : ℕ) (points : List EnvelopePoint)
    {curve : List CurvePoint} → curve_of class frames points ≡ Ok curve → IsCurveRising curve
unfolding curve_of
curve_rises class frames points e = grind (arith, made_of, rises)

-- ---- the points up to a frame, and those after it

front_all : {frame : ℕ} (xs ys : List CurvePoint) (d : CurvePoint) → IsCurveRising (xs ++ ys)
    → 0 < length xs → (get_or xs (length xs - 1) d).frame ≤ frame → All (λ p. p.frame ≤ frame) xs
front_all xs ys d rising some low k e less =
    let last : length xs - 1 < length xs = omega (arith, some) in
    let end : (get_or xs (length xs - 1) e).frame ≡ (get_or xs (length xs - 1) d).frame =
    ap (λ p. p.frame) (get_or_default xs (length xs - 1) e d last) in
    elim (cases_lt k (length xs - 1)) [
      | inl before ↦
          grind (
            arith,
            length-append xs ys,
            get_or-append xs ys e k less,
            get_or-append xs ys e
                (length xs - 1) last,
          )
      | inr after ↦ grind arith
    ]

back_rises : (xs ys : List CurvePoint) → IsCurveRising (xs ++ ys) → IsCurveRising ys
back_rises xs ys rising i j d less within =
    let at : (n : ℕ) → get_or (xs ++ ys) (length xs + n) d ≡ get_or ys n d =
    grind (arith, get_or-append_right) in
    let below : (get_or (xs ++ ys) (length xs + i) d).frame
    < (get_or (xs ++ ys) (length xs + j) d).frame = grind (arith, length-append) in
    let low : (get_or (xs ++ ys) (length xs + i) d).frame ≡ (get_or ys i d).frame = grind arith in
    let high : (get_or (xs ++ ys) (length xs + j) d).frame ≡ (get_or ys j d).frame = grind arith in
    omega (arith, below, low, high)

back_all : {frame : ℕ} (xs ys : List CurvePoint) (y : CurvePoint) → IsCurveRising (xs ++ (y ∷ ys))
    → frame < y.frame → All (λ p. frame < p.frame) (y ∷ ys)
back_all {frame} xs ys y rising high =
    all_later (record { frame = frame; steps = y.steps }) ys high (back_rises xs (y ∷ ys) rising)

-- ---- steps

abbrev up_to : ℕ → CurvePoint → Bool
up_to frame point = nat_le point.frame frame

abbrev behind : ℕ → CurvePoint → Bool
behind frame point = nat_lt frame point.frame

parted : {frame : ℕ} (xs ys : List CurvePoint) → All (λ p. p.frame ≤ frame) xs
    → All (λ p. frame < p.frame) ys → steps_at (xs ++ ys) frame
    ≡ neighbour_steps (find (up_to frame) (reverse xs)) (find (behind frame) ys) frame
unfolding steps_at
parted xs ys low high =
    search (arith, find, reverse-append, find-append, none_passes_back, lt-leb, none_passes, le-ltb)

last_is : (front : List CurvePoint) (p d : CurvePoint)
    → get_or (front ++ (p ∷ [])) (length (front ++ (p ∷ [])) - 1) d ≡ p
last_is front p d = grind (arith, length-append, get_or-append_right)

some_last : (front : List CurvePoint) (p : CurvePoint) → 0 < length (front ++ (p ∷ []))
some_last front p = omega (arith, length-append front (p ∷ []))

front_low : {frame : ℕ} (front ys : List CurvePoint) (p : CurvePoint)
    → IsCurveRising ((front ++ (p ∷ [])) ++ ys) → p.frame ≤ frame
    → All (λ x. x.frame ≤ frame) (front ++ (p ∷ []))
front_low {frame} front ys p rising low =
    front_all (front ++ (p ∷ [])) ys p rising (some_last front p)
    (subst (λ x. x.frame ≤ frame) (sym (last_is front p p)) low)

find_last : {frame : ℕ} (front : List CurvePoint) {p : CurvePoint}
    → All (λ x. x.frame ≤ frame) (front ++ (p ∷ []))
    → find (up_to frame) (reverse (front ++ (p ∷ []))) ≡ Some p
find_last front all = grind (arith, last_passes, some_last, le-leb, last_is)

find_first : {frame : ℕ} {q : CurvePoint} (back : List CurvePoint) → frame < q.frame
    → find (behind frame) (q ∷ back) ≡ Some q
find_first back high = grind (arith, find, lt-ltb)

goes_before : {p : CurvePoint} (more : List CurvePoint) {frame : ℕ} → IsCurveRising (p ∷ more)
    → frame < p.frame → steps_at (p ∷ more) frame ≡ p.steps
goes_before {p} more {frame} rising high =
    parted [] (p ∷ more) (λ k d less. absurd (omega (arith, less)))
    (back_all [] more p rising high)
    ∙ ap (λ q. neighbour_steps None q frame) (find_first more high)

goes_between : (front back : List CurvePoint) (p q : CurvePoint) {frame : ℕ}
    → IsCurveRising (front ++ (p ∷ q ∷ back)) → p.frame ≤ frame → frame < q.frame
    → steps_at (front ++ (p ∷ q ∷ back)) frame ≡ steps_between p q frame
goes_between front back p q {frame} rising low high =
    let whole : front ++ (p ∷ q ∷ back) ≡ (front ++ (p ∷ [])) ++ (q ∷ back) =
    sym (append_assoc front (p ∷ []) (q ∷ back)) in
    let same = subst IsCurveRising whole rising in
    let all = front_low front (q ∷ back) p same low in
    ap (λ ps. steps_at ps frame) whole ∙ parted (front ++ (p ∷ [])) (q ∷ back) all
    (back_all (front ++ (p ∷ [])) back q same high)
    ∙ ap₂ (λ a b. neighbour_steps a b frame) (find_last front all)
    (find_first back high)

goes_behind : (front : List CurvePoint) {p : CurvePoint} {frame : ℕ}
    → IsCurveRising (front ++ (p ∷ [])) → p.frame ≤ frame
    → steps_at (front ++ (p ∷ [])) frame ≡ p.steps
goes_behind front {p} {frame} rising low =
    let whole : front ++ (p ∷ []) ≡ (front ++ (p ∷ [])) ++ [] = grind (arith, append-nil) in
    let all = front_low front [] p (subst IsCurveRising whole rising) low in
    ap (λ ps. steps_at ps frame) whole
    ∙ parted (front ++ (p ∷ [])) [] all (λ k d less. absurd (omega (arith, less)))
    ∙ ap (λ a. neighbour_steps a None frame) (find_last front all)

-- from point to point a curve goes evenly
pub curves-go-evenly : CurvesGoEvenly
curves-go-evenly = search (arith, curve_rises, goes_before, goes_between, goes_behind)
