-- The laws of successive groups of bits: numbers and bits give each other back.
use Rattle.std.proofs.Common.{ap, append-nil, append_assoc, ap₂, arith, drop, length, length-append}
use Rattle.std.proofs.Common.{length-drop, length-take, List, mod-eq_of_lt, pow_mono, refl, suc}
use Rattle.std.proofs.Common.{sum, sym, take, take-append-drop, ℕ, [], ◌%◌, ◌*◌, ◌++◌, ◌+◌, ◌-◌}
use Rattle.std.proofs.{Common.{◌/◌, ◌<◌, ◌^◌, ◌∙◌, ◌∷◌, ◌≡◌, ◌≤◌}, Math.Nat.add_comm}
use Rattle.std.proofs.Math.Seq.{take-add}
use Rattle.std.proofs.lemmas.List.{drop-append-le, drop-drop, drop-take, drop_at, length-take-le}
use Rattle.std.proofs.lemmas.List.{take-append-le, take-take, take_all, take_at, Sums.sum_by-cons}
use Rattle.std.proofs.lemmas.Nat.{mul-add-lt, pow-add, shr_high}
use Rattle.bit_fields.proofs.BitsLemmas.{AreBelow-append, AreBelow-drop, AreBelow-take}
use Rattle.bit_fields.proofs.BitsLemmas.{AreBits-bits_of, bits_of-cat, bits_of-cat_low}
use Rattle.bit_fields.proofs.BitsLemmas.{bits_of-number, drop-bits, length-bits_of, number-append}
use Rattle.bit_fields.proofs.BitsLemmas.{number-below, number-bits_of, number-bits_of-below}
use Rattle.bit_fields.proofs.BitsLemmas.{number-within, take-bits, take-bits_of}
use Rattle.bit_fields.specs.Bits.{AreBits, bits, bits_of, number}
use Rattle.bit_fields.specs.Groups.{group, group_bits, numbers_at, NumbersFit}

-- ---- how many bits
-- the sum of widths is the first width plus the sum of the rest
pub sum-cons : (width : ℕ) (widths : List ℕ) → sum (width ∷ widths) ≡ width + sum widths
sum-cons width widths = sum_by-cons (λ n. n) width widths

-- the bits of numbers in groups are the first number in its width, followed by the bits of the rest
pub group_bits-cons : (width n : ℕ) (widths ns : List ℕ)
    → group_bits (width ∷ widths) (n ∷ ns) ≡ bits_of width n ++ group_bits widths ns
unfolding group_bits
group_bits-cons width n widths ns = refl

-- there are as many numbers that fit in groups as there are groups
pub length-NumbersFit : (widths ns : List ℕ) → NumbersFit widths ns → length ns ≡ length widths
length-NumbersFit [] [] h = refl
length-NumbersFit [] (n ∷ ns) h = absurd h
length-NumbersFit (width ∷ widths) [] h = absurd h
length-NumbersFit (width ∷ widths) (n ∷ ns) h = ap suc (length-NumbersFit widths ns h.1)

-- as many numbers as groups are spelled in as many bits as the groups have together
pub length-group_bits : (widths ns : List ℕ) → length ns ≡ length widths
    → length (group_bits widths ns) ≡ sum widths
unfolding group_bits
length-group_bits [] ns h = refl
length-group_bits (width ∷ widths) [] h = absurd (omega arith)
length-group_bits (width ∷ widths) (n ∷ ns) h =
    grind (
      arith,
      sum-cons,
      length-append,
      length-bits_of,
      length-group_bits widths ns (omega
          arith),
    )

-- ---- zeros and ones, and numbers that fit
-- numbers in groups are spelled by zeros and ones
pub AreBits-group_bits : (widths ns : List ℕ) → AreBits (group_bits widths ns)
unfolding group_bits
AreBits-group_bits [] ns = tt
AreBits-group_bits (width ∷ widths) [] = tt
AreBits-group_bits (width ∷ widths) (n ∷ ns) =
    grind (arith, AreBelow-append, AreBits-bits_of, AreBits-group_bits widths ns)

-- a group of `width` bits is below 2 ^ width
pub group-below : (from width : ℕ) (bs : List ℕ) → AreBits bs → group from width bs < 2 ^ width
unfolding group
group-below from width bs h =
    grind (arith, length-take, number-below, AreBelow-take, AreBelow-drop, pow_mono)

-- the numbers of groups of bits fit in these groups
pub NumbersFit-numbers_at : (widths bs : List ℕ) → AreBits bs
    → NumbersFit widths (numbers_at widths bs)
unfolding numbers_at group
NumbersFit-numbers_at [] bs h = tt
NumbersFit-numbers_at (width ∷ widths) bs h =
    grind (
      arith,
      group-below 0 width bs h,
      NumbersFit-numbers_at widths (drop width bs) (AreBelow-drop 2 width bs h),
    )

-- ---- there and back
-- numbers that fit are read from the bits that spell them, whatever follows
pub numbers_at-group_bits_more : (widths ns more : List ℕ) → NumbersFit widths ns
    → numbers_at widths (group_bits widths ns ++ more) ≡ ns
unfolding numbers_at group_bits
numbers_at-group_bits_more [] [] more h = refl
numbers_at-group_bits_more [] (n ∷ ns) more h = absurd h
numbers_at-group_bits_more (width ∷ widths) [] more h = absurd h
numbers_at-group_bits_more (width ∷ widths) (n ∷ ns) more h =
    grind (
      arith,
      length-bits_of,
      append_assoc,
      take_at,
      number-bits_of-below,
      drop_at,
      numbers_at-group_bits_more widths ns more h.1,
    )

-- the same where nothing follows
pub numbers_at-group_bits : (widths : List ℕ) {ns : List ℕ} → NumbersFit widths ns
    → numbers_at widths (group_bits widths ns) ≡ ns
numbers_at-group_bits widths {ns} h =
    grind (arith, append-nil (group_bits widths ns), numbers_at-group_bits_more widths ns)

-- the first bits are those that the numbers of the groups spell
pub group_bits-numbers_at_front : (widths bs : List ℕ) → AreBits bs → sum widths ≤ length bs
    → group_bits widths (numbers_at widths bs) ≡ take (sum widths) bs
unfolding numbers_at group_bits
group_bits-numbers_at_front [] bs all h = refl
group_bits-numbers_at_front (width ∷ widths) bs all h =
    let both : sum (width ∷ widths) ≡ width + sum widths = sum-cons width widths in
    let l : length (take width bs) ≡ width = length-take-le width bs (omega arith) in
    let m : sum widths ≤ length (drop width bs) = simp length-drop (omega arith) in
    ap₂ (λ cs ds. cs ++ ds)
    (ap (λ w. bits_of w (number (take width bs))) (sym l)
    ∙ bits_of-number (take width bs) (AreBelow-take 2 width bs all))
    (group_bits-numbers_at_front widths (drop width bs) (AreBelow-drop 2 width bs all) m)
    ∙ sym (take-add width (sum widths) bs)
    ∙ ap (λ n. take n bs) (sym both)

-- the numbers of the groups that bits are spell these bits
pub group_bits-numbers_at : (widths : List ℕ) {bs : List ℕ} → AreBits bs → length bs ≡ sum widths
    → group_bits widths (numbers_at widths bs) ≡ bs
group_bits-numbers_at widths all h = grind (arith, group_bits-numbers_at_front, take_all)

-- ---- groups that follow others
-- the numbers of joined groups are the numbers of the first, followed by those of the groups after
-- them
pub numbers_at-append : (widths more bs : List ℕ) → numbers_at (widths ++ more) bs
    ≡ numbers_at widths bs ++ numbers_at more (drop (sum widths) bs)
unfolding numbers_at
numbers_at-append [] more bs = refl
numbers_at-append (width ∷ widths) more bs =
    grind (arith, drop-drop, sum-cons, numbers_at-append widths more (drop width bs))

-- the bits of joined groups are the bits of the first followed by the bits of the others
pub group_bits-append : (widths more ns ms : List ℕ) → length ns ≡ length widths
    → group_bits (widths ++ more) (ns ++ ms) ≡ group_bits widths ns ++ group_bits more ms
unfolding group_bits
group_bits-append [] more [] ms h = refl
group_bits-append [] more (n ∷ ns) ms h = absurd (omega arith)
group_bits-append (width ∷ widths) more [] ms h = absurd (omega arith)
group_bits-append (width ∷ widths) more (n ∷ ns) ms h =
    grind (arith, append_assoc, group_bits-append widths more ns ms (omega arith))

-- ---- only the bits of the groups count
-- bits after the groups don't change their numbers
pub numbers_at-front : (widths bs more : List ℕ) → sum widths ≤ length bs
    → numbers_at widths (bs ++ more) ≡ numbers_at widths bs
unfolding numbers_at
numbers_at-front [] bs more h = refl
numbers_at-front (width ∷ widths) bs more h =
    let both : sum (width ∷ widths) ≡ width + sum widths = sum-cons width widths in
    let m : sum widths ≤ length (drop width bs) = simp length-drop (omega arith) in
    ap₂ (λ n ns. n ∷ ns)
    (ap number (take-append-le width bs more (omega arith)))
    (ap (numbers_at widths) (drop-append-le width bs more (omega arith))
    ∙ numbers_at-front widths (drop width bs) more m)

-- the numbers of groups are those in any first bits that hold all groups
pub numbers_at-take : (widths bs : List ℕ) {n : ℕ} → sum widths ≤ n → n ≤ length bs
    → numbers_at widths (take n bs) ≡ numbers_at widths bs
numbers_at-take widths bs {n} h l =
    let m : sum widths ≤ length (take n bs) = simp length-take (omega arith) in
    sym (numbers_at-front widths (take n bs) (drop n bs) m)
    ∙ ap (numbers_at widths) (take-append-drop n bs)

-- a group within the first n bits is the same in these n bits alone
pub group-take : (from width : ℕ) {n : ℕ} (bs : List ℕ) → from + width ≤ n
    → group from width (take n bs) ≡ group from width bs
unfolding group
group-take from width {n} bs h =
    grind (
      arith,
      drop-take from (n - from) bs,
      take-take width (n - from) (drop from bs) (omega
          arith),
    )

-- a group of the bits after `more` bits is the group of all bits that begins `more` bits later
pub group-drop : (more from width : ℕ) (bs : List ℕ)
    → group from width (drop more bs) ≡ group (more + from) width bs
unfolding group
group-drop more from width bs = ap (λ ds. number (take width ds)) (drop-drop from more bs)

-- a group of the bits of bytes is a group of the bits of the few bytes that it is in
pub group-bits_part : {from : ℕ} (width first count : ℕ) (xs : List ℕ) → 8 * first ≤ from
    → from + width ≤ 8 * (first + count) → group from width (bits xs)
    ≡ group (from - 8 * first) width (bits (take count (drop first xs)))
group-bits_part {from} width first count xs h l =
    grind (
      arith,
      group-drop (8 * first) (from - 8 * first) width (bits xs),
      drop-bits first xs,
      group-take (from - 8 * first) width {n = 8 * count} (bits (drop first xs)) (omega arith),
      take-bits count (drop first xs),
    )

-- a group is a division and a remainder of the number of all bits
pub group-number : (from width : ℕ) (bs : List ℕ) → AreBits bs → from + width ≤ length bs
    → group from width bs ≡ number bs / 2 ^ (length bs - from - width) % 2 ^ width
unfolding group
group-number from width bs h l = number-within from width bs h l

-- ---- a group put in place
module _ (bs : List ℕ) (at width value : ℕ) (room : at + width ≤ length bs) where
  -- putting a group in place doesn't change how many bits there are
  pub length-put : length (take at bs ++ bits_of width value ++ drop (at + width) bs) ≡ length bs
  length-put = grind (arith, length-take-le, length-append, length-bits_of, length-drop)

  -- what is before it stays, and the value follows
  pub take-put : take (at + width) (take at bs ++ bits_of width value ++ drop (at + width) bs)
      ≡ take at bs ++ bits_of width value
  take-put = grind (arith, take_at, length-append, length-take-le, length-bits_of)

-- ---- groups as parts of one number
-- the numbers of successive groups of a number of `sum widths` bits
unfoldable pub sliced : List ℕ → ℕ → List ℕ
sliced [] n = []
sliced (width ∷ widths) n = n / 2 ^ sum widths % 2 ^ width ∷ sliced widths n

-- the number that has these in its groups
unfoldable pub joined : List ℕ → List ℕ → ℕ
joined [] ns = 0
joined (width ∷ widths) [] = 0
joined (width ∷ widths) (n ∷ ns) = n * 2 ^ sum widths + joined widths ns

sliced_one : (width low : ℕ) {place : ℕ} (high n : ℕ) → width + low ≤ place
    → (high * 2 ^ place + n) / 2 ^ low % 2 ^ width ≡ n / 2 ^ low % 2 ^ width
sliced_one width low {place} high n h =
    grind (
      arith,
      number-bits_of width ((high * 2 ^ place + n) / 2 ^ low),
      take-bits_of width low (high * 2 ^ place + n),
      bits_of-cat_low (width + low) high n h,
      take-bits_of width low n,
      number-bits_of width (n / 2 ^ low),
    )

-- bits above the groups don't count
sliced-cat : (widths : List ℕ) {place : ℕ} (high n : ℕ) → sum widths ≤ place
    → sliced widths (high * 2 ^ place + n) ≡ sliced widths n
unfolding sliced
sliced-cat [] high n h = refl
sliced-cat (width ∷ widths) {place} high n h =
    let both : sum (width ∷ widths) ≡ width + sum widths = sum-cons width widths in
    ap₂ (λ m ms. m ∷ ms) (sliced_one width (sum widths) high n (omega arith))
    (sliced-cat widths high n (omega arith))

-- groups that take up all bits have the numbers that division and remainder make of the number of
-- all bits
pub numbers_at-number : (widths bs : List ℕ) → AreBits bs → length bs ≡ sum widths
    → numbers_at widths bs ≡ sliced widths (number bs)
unfolding numbers_at sliced
numbers_at-number [] bs all h = refl
numbers_at-number (width ∷ widths) bs all h =
    let both : sum (width ∷ widths) ≡ width + sum widths = sum-cons width widths in
    let rest : length (drop width bs) ≡ sum widths = simp length-drop (omega arith) in
    let upper : number bs ≡ number (take width bs) * 2 ^ sum widths + number (drop width bs) =
    grind (arith, take-append-drop width bs, number-append (take width bs) (drop width bs)) in
    let small : number (drop width bs) < 2 ^ sum widths = grind (
      arith,
      number-below,
      AreBelow-drop,
    ) in
    let l : length (take width bs) ≡ width = length-take-le width bs (omega arith) in
    let low : number (take width bs) < 2 ^ width = grind (arith, number-below, AreBelow-take) in
    ap₂ (λ m ms. m ∷ ms)
    (sym (mod-eq_of_lt low)
    ∙ ap (λ m. m % 2 ^ width) (sym (shr_high (number (take width bs)) (sum widths)
    (number (drop width bs)) small) ∙ ap (λ m. m / 2 ^ sum widths) (sym upper)))
    (numbers_at-number widths (drop width bs) (AreBelow-drop 2 width bs all) rest
    ∙ sym (sliced-cat widths (number (take width bs)) (number (drop width bs))
    (omega arith))
    ∙ ap (sliced widths) (sym upper))

-- the same where more bits follow
pub numbers_at-number_front : (widths bs : List ℕ) → AreBits bs → sum widths ≤ length bs
    → numbers_at widths bs ≡ sliced widths (number (take (sum widths) bs))
numbers_at-number_front widths bs all h =
    sym (numbers_at-take widths bs (omega arith) h)
    ∙ numbers_at-number widths (take (sum widths) bs) (AreBelow-take 2 (sum widths) bs all)
    (length-take-le (sum widths) bs h)

-- numbers joined in their widths are below the power of 2 of all widths
pub joined-below : (widths ns : List ℕ) → NumbersFit widths ns → joined widths ns < 2 ^ sum widths
unfolding joined
joined-below [] [] h = omega arith
joined-below [] (n ∷ ns) h = absurd h
joined-below (width ∷ widths) [] h = absurd h
joined-below (width ∷ widths) (n ∷ ns) h =
    rw (sum-cons width widths, add_comm width (sum widths), pow-add 2 (sum widths) width)
    (mul-add-lt n (2 ^ sum widths) (joined widths ns) (2 ^ width) h.0 (joined-below widths ns h.1))

-- numbers in groups are spelled by the bits of the one number that joins them
pub group_bits-joined : (widths ns : List ℕ) → NumbersFit widths ns
    → group_bits widths ns ≡ bits_of (sum widths) (joined widths ns)
unfolding group_bits joined bits_of
group_bits-joined [] [] h = refl
group_bits-joined [] (n ∷ ns) h = absurd h
group_bits-joined (width ∷ widths) [] h = absurd h
group_bits-joined (width ∷ widths) (n ∷ ns) h =
    grind (arith, bits_of-cat, joined-below, sum-cons, group_bits-joined widths ns h.1)
