-- The few bytes around a group of bits, read and written as one number.
use Rattle.std.proofs.Common.{ap, append_assoc, ap₂, arith, drop, get_or, length, length-drop}
use Rattle.std.proofs.Common.{length-take, List, lt_of_lt_of_le, pow_mono, set, sym, take}
use Rattle.std.proofs.Common.{take-append-drop, ℕ, ◌%◌, ◌*◌, ◌++◌, ◌+◌, ◌-◌, ◌/◌, ◌<◌, ◌^◌, ◌∙◌}
use Rattle.std.proofs.{Common.{◌≡◌, ◌≤◌}, Math.Seq.take-add}
use Rattle.std.proofs.lemmas.List.{drop-append-le, drop-drop, drop-set, drop_all, length-take-le}
use Rattle.std.proofs.lemmas.List.{take-take, take_more}
use Rattle.std.proofs.lemmas.Nat.{mod_below, mul-add-lt, pow-add, pow_pos, shl_whole, shr-shr}
use Rattle.std.proofs.lemmas.Nat.{shr_below}
use Rattle.bit_fields.proofs.BitsLemmas.{AreBits-bits, bits-append, bits-bits_of, bits-cons}
use Rattle.bit_fields.proofs.BitsLemmas.{bits-nil, bits_of-add, bits_of-cat, bits_of-mod, drop-bits}
use Rattle.bit_fields.proofs.BitsLemmas.{drop-bits_of, length-bits, number-bits-below}
use Rattle.bit_fields.proofs.BitsLemmas.{number-bits-push, take-bits, take-bits_of}
use Rattle.bit_fields.proofs.GroupsLemmas.{group-bits_part, group-number}
use Rattle.bit_fields.specs.{Bits.{bits, bits_of, number}, Groups.group}

-- ---- bytes read as a number
-- one byte more makes the number read so far 256 times as great, and adds the byte
pub read_more : (xs : List ℕ) {i : ℕ} → i < length xs → get_or xs i 0 < 256
    → number (bits (take (i + 1) xs)) ≡ number (bits (take i xs)) * 256 + get_or xs i 0
read_more xs {i} h byte = grind (arith, take_more xs i 0 h, number-bits-push (take i xs) byte)

-- the number of up to four bytes, read before a fifth, is below 2 ^ 32
pub read_small : (xs : List ℕ) {i window : ℕ} → length xs ≤ 5 → i < length xs
    → window ≡ number (bits (take i xs)) → window < 2 ^ 32
read_small xs {i} few h e =
    let l : 8 * length (take i xs) ≤ 32 = simp length-take (omega arith) in
    rw e (lt_of_lt_of_le (number-bits-below (take i xs)) (pow_mono l))

-- ---- a number written as bytes
-- after the last byte no bits are left to write
pub write_none : (xs : List ℕ) (window : ℕ)
    → bits (drop (length xs) xs) ≡ bits_of (8 * (length xs - length xs)) window
unfolding bits_of
write_none xs window = grind (arith, drop_all, bits-nil)

module _ (xs : List ℕ) {i : ℕ} (window rest : ℕ) (within : i < length xs) where
  -- after the lowest byte of what is left is written at place i, all bytes from there on are
  -- written
  pub write_more : bits (drop (i + 1) xs) ≡ bits_of (8 * (length xs - (i + 1))) window
      → rest ≡ window / 2 ^ (8 * (length xs - (i + 1)))
      → bits (drop i (set xs i (rest % 256))) ≡ bits_of (8 * (length xs - i)) window
  write_more written left =
      grind (
        arith,
        drop-set xs i (rest % 256) within,
        bits-cons (rest % 256) (drop (i + 1) xs),
        bits_of-mod 8 rest,
        bits_of-add 8 (8 * (length xs - (i + 1))) window,
      )

  -- what is left after that is the number above that byte
  pub left_more : rest ≡ window / 2 ^ (8 * (length xs - (i + 1)))
      → rest / 256 ≡ window / 2 ^ (8 * (length xs - i))
  left_more left = grind (arith, shr-shr window (8 * (length xs - (i + 1))) 8)

-- ---- a group within the few bytes that it is in
-- a group is a shift and a remainder of the number of the bytes around it
pub read_group : (xs : List ℕ) {from : ℕ} (width : ℕ) {first last window : ℕ} → 8 * first ≤ from
    → from + width ≤ 8 * last → first ≤ last → last ≤ length xs
    → window ≡ number (bits (take (last - first) (drop first xs)))
    → window / 2 ^ (8 * last - (from + width)) % 2 ^ width ≡ group from width (bits xs)
read_group xs {from} width {first} {last} h l ordered within e =
    let part : List ℕ = take (last - first) (drop first xs) in
    let size : length part ≡ last - first = grind (arith, length-take-le, length-drop) in
    let many : length (bits part) ≡ 8 * (last - first) = length-bits part ∙ ap (λ n. 8 * n) size in
    let shift : 8 * last - (from + width) ≡ length (bits part) - (from - 8 * first) - width =
    omega arith in
    ap₂ (λ n k. n / 2 ^ k % 2 ^ width) e shift
    ∙ sym (group-number (from - 8 * first) width (bits part) (AreBits-bits part) (omega arith))
    ∙ sym (group-bits_part width first (last - first) xs h (omega arith))

-- ---- a number with another group
module _ {total window : ℕ} (n low : ℕ) {value : ℕ} (small : window < 2 ^ total)
    (room : n + low ≤ total)
    (fits : value < 2 ^ n) where
  above_small : window / 2 ^ (n + low) < 2 ^ (total - (n + low))
  above_small = grind (arith, shr_below)

  -- what is above the group loses no bits in 64
  pub above_whole : total ≤ 64
      → window / 2 ^ (n + low) * 2 ^ n % 2 ^ 64 ≡ window / 2 ^ (n + low) * 2 ^ n
  above_whole h =
      shl_whole (window / 2 ^ (n + low)) (total - (n + low)) n 64 above_small (omega arith)

  -- it and the new value fit above the lower bits
  pub upper_small : window / 2 ^ (n + low) * 2 ^ n + value < 2 ^ (total - low)
  upper_small =
      let e : n + (total - (n + low)) ≡ total - low = omega arith in
      let product : 2 ^ (n + (total - (n + low))) ≡ 2 ^ n * 2 ^ (total - (n + low)) =
      pow-add 2 n (total - (n + low)) in
      rw (← e, product)
      (mul-add-lt (window / 2 ^ (n + low)) (2 ^ n) value (2 ^ (total - (n + low))) above_small fits)

  -- shifted back into place they lose no bits in 64
  pub upper_whole : total ≤ 64 → (window / 2 ^ (n + low) * 2 ^ n + value) * 2 ^ low % 2 ^ 64
      ≡ (window / 2 ^ (n + low) * 2 ^ n + value) * 2 ^ low
  upper_whole h = shl_whole (window / 2 ^ (n + low) * 2 ^ n + value)
      (total - low) low 64 upper_small (omega arith)

  -- with the lower bits they are a number of as many bits as before
  pub whole_small : (window / 2 ^ (n + low) * 2 ^ n + value) * 2 ^ low + window % 2 ^ low
      < 2 ^ total
  whole_small =
      let e : low + (total - low) ≡ total = omega arith in
      let product : 2 ^ (low + (total - low)) ≡ 2 ^ low * 2 ^ (total - low) = grind (
        arith,
        pow-add,
      ) in
      rw (← ap (λ k. 2 ^ k) e, product)
      (mul-add-lt (window / 2 ^ (n + low) * 2 ^ n + value) (2 ^ low) (window % 2 ^ low)
      (2 ^ (total - low)) upper_small (mod_below window (2 ^ low) (pow_pos low)))

-- changing a group of bits in a number changes the same group in its bits
put_bits : (offset n low window : ℕ) {value : ℕ} → value < 2 ^ n
    → bits_of (offset + n + low) ((window / 2 ^ (n + low) * 2 ^ n + value) * 2 ^ low
    + window % 2 ^ low) ≡ take offset (bits_of (offset + n + low) window) ++ bits_of n value
    ++ drop (offset + n) (bits_of (offset + n + low) window)
put_bits offset n low window {value} fits =
    grind (
      arith,
      take-bits_of offset (n + low) window,
      bits_of-mod low window,
      drop-bits_of
          (offset + n) low window,
      bits_of-cat (offset + n) low (window / 2 ^ (n + low) * 2 ^ n +
          value) (mod_below window (2 ^ low) (pow_pos low)),
      bits_of-cat offset n
          (window / 2 ^ (n + low)) fits,
    )

-- what is changed in a part of a list is changed at the same place in the list
put_in_part : (bs : List ℕ) (start : ℕ) {size : ℕ} (offset n : ℕ) (vs : List ℕ) → offset + n ≤ size
    → start + size ≤ length bs → take start bs ++ ((take offset (take size (drop start bs)) ++ vs
    ++ drop (offset + n) (take size (drop start bs))) ++ drop size (drop start bs))
    ≡ take (start + offset) bs ++ vs ++ drop (start + offset + n) bs
put_in_part bs start {size} offset n vs h l =
    let rest : List ℕ = drop start bs in
    let long : size ≤ length (drop start bs) = simp length-drop (omega arith) in
    let front : take start bs ++ take offset (take size (drop start bs))
    ≡ take (start + offset) bs = grind (arith, take-take, take-add) in
    let full : length (take size (drop start bs)) ≡ size = grind (arith, length-take-le) in
    let place : start + (offset + n) ≡ start + offset + n = omega arith in
    let back : drop (offset + n) (take size (drop start bs)) ++ drop size (drop start bs)
    ≡ drop (start + offset + n) bs =
    grind (
      arith,
      drop-append-le (offset + n) (take size (drop start bs)) (drop size (drop
          start bs)) (omega arith),
      take-append-drop size (drop start bs),
      drop-drop (offset + n)
          start bs,
    ) in
    ap (λ cs. take start bs ++ cs) (append_assoc (take offset (take size (drop start bs)) ++ vs)
    (drop (offset + n) (take size (drop start bs))) (drop size (drop start bs))
    ∙ ap (λ cs. (take offset (take size (drop start bs)) ++ vs) ++ cs) back)
    ∙ sym (append_assoc (take start bs) (take offset (take size (drop start bs)) ++ vs)
    (drop (start + offset + n) bs))
    ∙ ap (λ cs. cs ++ drop (start + offset + n) bs) (sym (append_assoc (take start bs)
    (take offset (take size (drop start bs))) vs) ∙ ap (λ cs. cs ++ vs) front)

-- the bytes that a group is in, written again
module _ (xs ys : List ℕ) {from : ℕ} (n : ℕ) {first last : ℕ} (window : ℕ) {value : ℕ}
    (low : 8 * first ≤ from)
    (high : from + n ≤ 8 * last) (ordered : first ≤ last) (within : last ≤ length xs)
    (fits : value < 2 ^ n) where
  -- there are as many bytes as the group is in
  pub reached : length (take (last - first) (drop first xs)) ≡ last - first
  reached = length-take-le (last - first) (drop first xs) (simp length-drop (omega arith))

  -- writing back their number with the other value in the group puts that value in place
  pub write_group : window ≡ number (bits (take (last - first) (drop first xs)))
      → bits ys ≡ bits_of (8 * length (take (last - first) (drop first xs)))
      ((window / 2 ^ (n + (8 * last - (from + n))) * 2 ^ n + value) * 2 ^ (8 * last - (from + n))
      + window % 2 ^ (8 * last - (from + n)))
      → bits (take first xs ++ (ys ++ drop (last - first) (drop first xs)))
      ≡ take from (bits xs) ++ bits_of n value ++ drop (from + n) (bits xs)
  write_group old new =
      let part : List ℕ = take (last - first) (drop first xs) in
      let spare : ℕ = 8 * last - (from + n) in
      let offset : ℕ = from - 8 * first in
      let width : 8 * length part ≡ offset + n + spare = ap (λ k. 8 * k) reached ∙ omega arith in
      let start : 8 * first + offset ≡ from = omega arith in
      let were : bits_of (offset + n + spare) window
      ≡ take (8 * (last - first)) (drop (8 * first) (bits xs)) =
      grind (arith, bits-bits_of, take-bits, drop-bits) in
      let part_put : bits ys
      ≡ take offset (take (8 * (last - first)) (drop (8 * first) (bits xs))) ++ bits_of n value
      ++ drop (offset + n) (take (8 * (last - first)) (drop (8 * first) (bits xs))) =
      grind (arith, put_bits) in
      bits-append (take first xs) (ys ++ drop (last - first) (drop first xs))
      ∙ ap₂ (λ cs ds. cs ++ ds) (sym (take-bits first xs))
      (bits-append ys (drop (last - first) (drop first xs))
      ∙ ap₂ (λ cs ds. cs ++ ds) part_put
      (sym (drop-bits (last - first) (drop first xs))
      ∙ ap (drop (8 * (last - first))) (sym (drop-bits first xs))))
      ∙ put_in_part (bits xs) (8 * first) offset n (bits_of n value)
      (omega arith) (rw length-bits (omega arith))
      ∙ ap (λ k. take k (bits xs) ++ bits_of n value ++ drop (k + n) (bits xs)) start
