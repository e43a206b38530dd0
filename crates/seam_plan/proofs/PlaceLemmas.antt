-- The places of the last frames of a splice.
use Rattle.std.proofs.Common.{ap, append_assoc, arith, drop, length, List, max, sym, ℕ, [], ◌++◌}
use Rattle.std.proofs.{Common.{◌+◌, ◌-◌, ◌<◌, ◌∙◌, ◌∷◌, ◌≡◌, ◌≤◌, ◌⊎◌}, lemmas.Bool.cases_lt}
use Rattle.std.proofs.lemmas.List.{drop-append-le, drop-drop, drop_all, length-append, length-drop}
use Rattle.std.proofs.lemmas.List.{map-append}
use Rattle.std.proofs.lemmas.List.FromFn.{length-map-range_with_len, map-range_with_len_more}
use Rattle.std.specs.List.{range_with_len}
use Rattle.exact_span.proofs.SplitLemmas.{ranges}
use Rattle.seam_plan.specs.Decisions.{frame_place, frame_places, IsSlid, last_seven}
use Rattle.seam_plan.specs.declared.splice.FramePlace.{FramePlace}
use Rattle.slot_plan.proofs.ReserveLemmas.{max-is}

-- a list without its first part is its second part
pub drop-front : {X : Type 0} (xs ys : List X) → drop (length xs) (xs ++ ys) ≡ ys
drop-front xs ys = grind (arith, drop-append-le, drop_all)

-- the last seven of the last seven and others are the last seven of all
pub last-append : {X : Type 0} (xs ys : List X)
    → last_seven (last_seven xs ++ ys) ≡ last_seven (xs ++ ys)
last-append {X} xs ys =
    let a : ℕ = length xs - 7 in
    let front : drop a xs ++ ys ≡ drop a (xs ++ ys) = sym (drop-append-le a xs ys (omega arith)) in
    let many : length (drop a xs ++ ys) ≡ length xs - a + length ys =
    length-append (drop a xs) ys ∙ ap (λ n. n + length ys) (length-drop a xs) in
    let all : length (xs ++ ys) ≡ length xs + length ys = length-append xs ys in
    let same : a + (length (drop a xs ++ ys) - 7) ≡ length (xs ++ ys) - 7 =
    omega (arith, many, all) in
    ap (drop (length (drop a xs ++ ys) - 7)) front
    ∙ drop-drop (length (drop a xs ++ ys) - 7) a (xs ++ ys) ∙ ap (λ n. drop n (xs ++ ys)) same

-- seven at the end of a list are its last seven
pub last-seven : {X : Type 0} (xs : List X) {ys : List X} → length ys ≡ 7
    → last_seven (xs ++ ys) ≡ ys
last-seven xs {ys} seven = grind (arith, length-append xs ys, drop-front xs ys)

-- the last seven of at most seven are all of them
pub last-few : {X : Type 0} {xs : List X} → length xs ≤ 7 → last_seven xs ≡ xs
last-few {xs = xs} few = let none : length xs - 7 ≡ 0 = omega (arith, few) in
    ap (λ n. drop n xs) none

-- one more frame adds its place
pub places-more : (input from at : ℕ) → from ≤ at → frame_places input from (at + 1 - from)
    ≡ frame_places input from (at - from) ++ frame_place input at ∷ []
places-more input from at after =
    grind (arith, map-range_with_len_more (frame_place input) from (at - from))

-- a place added to seven drops the first of them
last-full : (items : List FramePlace) (p : FramePlace) → length items ≡ 7
    → drop 1 items ++ p ∷ [] ≡ last_seven (items ++ p ∷ [])
last-full items p full = grind (arith, length-append, drop-append-le)

last-room : (items : List FramePlace) (p : FramePlace) → length items < 7
    → items ++ p ∷ [] ≡ last_seven (items ++ p ∷ [])
last-room items p room = grind (arith, last-few, length-append)

-- the last seven of the earlier places and the places so far of an input
abbrev pub Notes : List FramePlace → List FramePlace → ℕ → ℕ → ℕ → Type 0
Notes old items input from at = (places : List FramePlace) → old ≡ last_seven places
    → items ≡ last_seven (places ++ frame_places input from (at - from))

-- what `slide` makes of the last seven
slid : (items new : List FramePlace) (p : FramePlace) → IsSlid items p new
    → new ≡ last_seven (items ++ p ∷ [])
slid items new p is = grind (arith, cases_lt, last-room, last-full)

-- an added place, instead of the first of seven, is noted
pub note-slid : (old items new : List FramePlace) (input from at : ℕ) → from ≤ at
    → IsSlid items (frame_place input at) new → Notes old items input from at
    → Notes old new input from (at + 1)
note-slid old items new input from at after is notes places begins =
    slid items new (frame_place input at) is
    ∙ ap (λ l. last_seven (l ++ frame_place input at ∷ [])) (notes places begins)
    ∙ last-append (places ++ frame_places input from (at - from)) (frame_place input at ∷ [])
    ∙ ap last_seven (append_assoc places (frame_places input from (at - from))
    (frame_place input at ∷ []) ∙ ap (λ l. places ++ l) (sym (places-more input from at after)))

-- the noting begins at the first frame, or at the seventh from the end
pub note-from : {from to first sub : ℕ} → first ≡ max from sub → sub ≡ to - 7 → from ≤ to
    → (from ≤ first) × (first ≤ to) × ((first ≡ from) ⊎ (to - first ≡ 7))
note-from is less within = grind (arith, max-is, cases_lt)

-- All places of an input up to a frame end with the last seven of them.
pub last-from : (places : List FramePlace) (input : ℕ) {from first to : ℕ} → from ≤ first
    → first ≤ to → to - first ≡ 7 → last_seven (places ++ frame_places input first (to - first))
    ≡ last_seven (places ++ frame_places input from (to - from))
last-from places input {from} {first} {to} after within seven =
    let many : length (frame_places input first (to - first)) ≡ 7 =
    length-map-range_with_len (frame_place input) first (to - first) ∙ seven in
    let split : first - from + (to - first) ≡ to - from = omega (arith, after, within) in
    let next : from + (first - from) ≡ first = omega (arith, after) in
    let both : frame_places input from (to - from)
    ≡ frame_places input from (first - from) ++ frame_places input first (to - first) =
    grind (
      arith,
      ranges from (first - from) (to - first),
      map-append (frame_place input)
          (range_with_len from (first - from))
          (range_with_len (from + (first - from)) (to - first)),
    ) in
    last-seven places many
    ∙ sym (
    ap (λ l. last_seven (places ++ l)) both
    ∙ ap last_seven (sym (append_assoc places (frame_places input from (first - from))
    (frame_places input first (to - first))))
    ∙ last-seven (places ++ frame_places input from (first - from)) many
    )

-- noting the last seven places of an input is as good as noting all
pub note-all : {old items : List FramePlace} (input : ℕ) {from first to : ℕ} → from ≤ first
    → first ≤ to → (first ≡ from) ⊎ (to - first ≡ 7) → Notes old items input first to
    → (places : List FramePlace) → old ≡ last_seven places
    → items ≡ last_seven (places ++ frame_places input from (to - from))
note-all input after within h notes places is = grind (arith, last-from)
