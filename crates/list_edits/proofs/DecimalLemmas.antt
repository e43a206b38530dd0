-- The digits of a number are the digits before its last two or four, and then these.
use Rattle.std.proofs.Common.{ap, append_assoc, arith, length, length-append, List, refl, ℕ, ◌%◌}
use Rattle.std.proofs.Common.{◌*◌, ◌++◌, ◌+◌, ◌-◌, ◌/◌, ◌<◌, ◌^◌, ◌∙◌, ◌≡◌, ◌≤◌}
use Rattle.std.proofs.lemmas.Fmt.{decimal_digit, decimal_step, length-decimal-le}
use Rattle.std.specs.Prelude.{decimal}
use Rattle.list_edits.specs.Decimals.{four_digits, two_digits}

-- the digits of hundreds plus a number below 100 are the digits of the hundreds and the two of the
-- number
pub decimal_hundreds : {q k : ℕ} → 0 < q → k < 100 → q * 100 + k < 2 ^ 64
    → decimal (q * 100 + k) ≡ decimal q ++ two_digits k
decimal_hundreds some two few = grind (arith, decimal_step, append_assoc)

-- the digits of ten thousands plus a number below 10,000 are the digits of the ten thousands and
-- the four of the number
pub decimal_myriads : {q k : ℕ} → 0 < q → k < 10000 → q * 10000 + k < 2 ^ 64
    → decimal (q * 10000 + k) ≡ decimal q ++ four_digits k
decimal_myriads {q} {k} some four few =
    grind (
      arith,
      decimal_hundreds {q = q * 100 + k / 100} {k = k % 100} (omega arith) (omega arith) (omega
          arith),
      decimal_hundreds {q = q} {k = k / 100} some (omega arith) (omega arith),
      append_assoc (decimal q)
          (two_digits (k / 100)) (two_digits (k % 100)),
    )

-- ---- a number whose leading digits are kept, given how much it exceeds them

-- the digits of a number whose hundreds are kept, the rest being found by one difference
pub kept_hundreds : {q n : ℕ} → 0 < q → q < 10 ^ 14 → n < 2 ^ 64 → (n + (2 ^ 64 - q * 100)) % 2 ^ 64
    < 100 → decimal n ≡ decimal q ++ two_digits ((n + (2 ^ 64 - q * 100)) % 2 ^ 64)
kept_hundreds {q} {n} some fits small near =
    let k : ℕ = (n + (2 ^ 64 - q * 100)) % 2 ^ 64 in
    let e : n ≡ q * 100 + k = omega arith in
    ap decimal e ∙ decimal_hundreds some near (omega arith)

-- the digits of a number whose ten thousands are kept, the rest being found by one difference
pub kept_myriads : {q n : ℕ} → 0 < q → q < 10 ^ 14 → n < 2 ^ 64
    → (n + (2 ^ 64 - q * 10000)) % 2 ^ 64 < 10000
    → decimal n ≡ decimal q ++ four_digits ((n + (2 ^ 64 - q * 10000)) % 2 ^ 64)
kept_myriads {q} {n} some fits small near =
    let k : ℕ = (n + (2 ^ 64 - q * 10000)) % 2 ^ 64 in
    let e : n ≡ q * 10000 + k = omega arith in
    ap decimal e ∙ decimal_myriads some near (omega arith)

-- the digits that are kept, before those after them, before a line
pub put_behind : {kept q : ℕ} (ds line : List ℕ) {before whole new : List ℕ} → kept ≡ q → before
    ≡ ds ++ line → new ≡ decimal kept ++ before → whole ≡ decimal q ++ ds → new ≡ whole ++ line
put_behind ds line same first then is = rw (then, first, is, same, append_assoc) refl

-- ---- a number below 10,000

-- a number from 10 to 99 has two digits
pub decimal_two : {n : ℕ} → 10 ≤ n → n < 100 → decimal n ≡ two_digits n
decimal_two lo hi = grind (arith, decimal_step, decimal_digit)

-- a number of three or four digits has the digits of its hundreds, and two more
pub decimal_split : {n : ℕ} → 100 ≤ n → n < 10000
    → decimal n ≡ decimal (n / 100) ++ two_digits (n % 100)
decimal_split {n} lo hi =
    grind
    (arith, decimal_hundreds {q = n / 100} {k = n % 100} (omega arith) (omega arith) (omega arith))

-- a number before a line, which has at most 20 digits
pub few_before : {n : ℕ} (line : List ℕ) {new : List ℕ} → n < 2 ^ 64 → new ≡ decimal n ++ line
    → length new ≤ length line + 20
few_before {n} line small is =
    grind (
      arith,
      length-decimal-le 20 n (omega arith) (omega arith) (omega arith),
      length-append
          (decimal n) line,
    )

-- a number below 10,000 before a line, whose hundreds are put last
pub put_split : {n hundreds rest : ℕ} {line : List ℕ} {before new : List ℕ} → 100 ≤ n → n < 10000
    → hundreds ≡ n / 100 → rest ≡ n % 100 → before ≡ two_digits rest ++ line
    → new ≡ decimal hundreds ++ before → new ≡ decimal n ++ line
put_split {n} lo hi high low first then =
    rw (then, first, high, low, decimal_split lo hi, append_assoc) refl
