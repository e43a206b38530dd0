-- The numbers of lost frames, one by one, and how many of them are written.
use Rattle.std.proofs.Common.{ap, ap₂, arith, Bool, cond, count_by, drop, false, filter, get_or}
use Rattle.std.proofs.Common.{length, List, map, nat_le, refl, suc, sym, take, true, zero, ℕ, []}
use Rattle.std.proofs.{Common.{◌++◌, ◌+◌, ◌<◌, ◌∙◌, ◌∷◌, ◌≡◌, ◌≤◌}, lemmas.Bool.{le-leb, lt-leb}}
use Rattle.std.proofs.lemmas.List.{map-append, take_more, Sums.sum_by-cons}
use Rattle.std.specs.List.{enumerate_from}
use Rattle.joined_inputs.specs.Inputs.{InputFields}
use Rattle.list_edits.specs.Totals.{lost_count}
use Rattle.seamless_edits.specs.Beginnings.{input_without_head}
use Rattle.seamless_edits.specs.LostFrames.{lost_from, lost_in_input, lost_numbers}
use Rattle.sync_survey.specs.Row.{Row}

-- the numbers of the lost frames among these, counted from n
abbrev pub numbers-from : ℕ → List Row → List ℕ
numbers-from n rows =
    map (λ (p : ℕ × Row). p.0) (filter (λ (p : ℕ × Row). p.1.lost) (enumerate_from n rows))

-- ---- one more frame

next-from : (n i : ℕ) (rows : List Row) {r : Row} → i < length rows → get_or rows i r ≡ r
    → numbers-from n (take (i + 1) rows)
    ≡ numbers-from n (take i rows) ++ cond r.lost ((n + i) ∷ []) []
next-from n i [] within is = absurd (omega (arith, within))
next-from n zero (x ∷ rows) within is = grind arith
next-from n (suc i) (x ∷ rows) {r} within is =
    grind (arith, next-from (n + 1) i rows (omega (arith, within)) is)

-- a lost frame is added to the numbers, and no other
pub lost-next : (rows : List Row) {i : ℕ} {r : Row} → i < length rows → get_or rows i r ≡ r
    → lost_numbers (take (i + 1) rows)
    ≡ lost_numbers (take i rows) ++ cond r.lost (i ∷ []) []
lost-next rows {i} {r} within is =
    let same : 0 + i ≡ i = omega arith in
    next-from 0 i rows within is
    ∙ ap (λ n. lost_numbers (take i rows) ++ cond r.lost (n ∷ []) []) same

-- ---- how many are written

-- of the numbers of this frame and of these, those from this one on
one-more : (from n : ℕ) {count : ℕ} (numbers : List ℕ) → count_by (nat_le from) numbers ≡ count
    → count_by (nat_le from) (n ∷ numbers) ≡ cond (nat_le from n) 1 0 + count
one-more from n numbers rest =
    sum_by-cons (λ m. cond (nat_le from m) 1 0) n numbers
    ∙ ap (λ m. cond (nat_le from n) 1 0 + m) rest

-- the lost frames among these, with their numbers, counted from n
abbrev lost-after : ℕ → List Row → List (ℕ × Row)
lost-after n rows = filter (λ (p : ℕ × Row). p.1.lost) (enumerate_from n rows)

all-from : {from : ℕ} (n : ℕ) (rows : List Row) → from ≤ n
    → count_by (nat_le from) (numbers-from n rows) ≡ lost_count rows
all-from n [] least = refl
all-from {from} n (x ∷ rows) least = at x.lost (all-from (n + 1) rows (omega (arith, least)))
  where
    at : (lost : Bool) → count_by (nat_le from) (numbers-from (n + 1) rows) ≡ lost_count rows
        → count_by (nat_le from) (map (λ (p : ℕ × Row). p.0)
        (cond lost ((n, x) ∷ lost-after (n + 1) rows) (lost-after (n + 1) rows)))
        ≡ length (cond lost (x ∷ filter (λ (r : Row). r.lost) rows)
        (filter (λ (r : Row). r.lost) rows))
    at true rest =
        one-more from n (numbers-from (n + 1) rows) rest
        ∙ ap (λ b. cond b 1 0 + lost_count rows) (le-leb from n least)
        ∙ omega arith
    at false rest = rest

count-from : {from : ℕ} (n k : ℕ) (rows : List Row) → from ≡ n + k
    → count_by (nat_le from) (numbers-from n rows) ≡ lost_count (drop k rows)
count-from {from} n zero rows is = all-from n rows (omega (arith, is))
count-from n (suc k) [] is = refl
count-from {from} n (suc k) (x ∷ rows) is =
    at x.lost (count-from (n + 1) k rows (omega (arith, is)))
  where
    at : (lost : Bool) → count_by (nat_le from) (numbers-from (n + 1) rows)
        ≡ lost_count (drop k rows) → count_by (nat_le from) (map (λ (p : ℕ × Row). p.0)
        (cond lost ((n, x) ∷ lost-after (n + 1) rows) (lost-after (n + 1) rows)))
        ≡ lost_count (drop k rows)
    at true rest =
        one-more from n (numbers-from (n + 1) rows) rest
        ∙ ap (λ b. cond b 1 0 + lost_count (drop k rows)) (lt-leb from n (omega (arith, is)))
        ∙ omega arith
    at false rest = rest

-- the lost frames that aren't left out are those with greater numbers
pub lost-same : (from : ℕ) (rows : List Row)
    → lost_from from (lost_numbers rows) ≡ lost_count (drop from rows)
lost-same from rows = count-from 0 from rows (omega arith)

-- ---- one more input

same-input : (xs : List InputFields) (n : ℕ) (d : InputFields) → n < length xs
    → get_or (map input_without_head (take n xs) ++ drop n xs) n d ≡ get_or xs n d
same-input [] n d within = absurd (omega (arith, within))
same-input (x ∷ xs) zero d within = refl
same-input (x ∷ xs) (suc n) d within = same-input xs n d (omega (arith, within))

-- the numbers of the lost frames of one more input come behind those of the inputs before it
pub lost-more : (xs : List InputFields) {now : List InputFields} {n : ℕ} (d : InputFields)
    {so_far : List (List ℕ)}
    {numbers : List ℕ} → n < length xs → now ≡ map input_without_head (take n xs) ++ drop n xs
    → numbers ≡ lost_in_input (get_or now n d) → so_far ≡ map lost_in_input (take n xs)
    → so_far ++ (numbers ∷ []) ≡ map lost_in_input (take (n + 1) xs)
lost-more xs {n = n} d {numbers = numbers} within is one before =
    let here : numbers ≡ lost_in_input (get_or xs n d) =
    one ∙ ap (λ (l : List InputFields). lost_in_input (get_or l n d)) is
    ∙ ap lost_in_input (same-input xs n d within) in
    ap₂ (λ (a : List (List ℕ)) (b : List ℕ). a ++ (b ∷ [])) before here
    ∙ sym (map-append lost_in_input (take n xs) (get_or xs n d ∷ []))
    ∙ ap (map lost_in_input) (sym (take_more xs n d within))
