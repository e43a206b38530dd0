-- The laws of the bits of bytes and of the numbers that bits spell, general in their widths.
use Rattle.std.proofs.Common.{ap, append-nil, append_assoc, ap₂, arith, drop, get_or, length}
use Rattle.std.proofs.Common.{length-append, length-drop, List, mod-eq_of_lt, one-add, refl, suc}
use Rattle.std.proofs.Common.{sym, take, take-append-drop, zero, ℕ, [], ◌%◌, ◌*◌, ◌++◌, ◌+◌, ◌-◌}
use Rattle.std.proofs.Common.{◌/◌, ◌<◌, ◌^◌, ◌∙◌, ◌∷◌, ◌≡◌, ◌≤◌}
use Rattle.std.proofs.Math.Nat.{add_comm, mod-one, pow-suc, suc-add, zero-add}
use Rattle.std.proofs.Math.Seq.{drop-append-add, take-append-add, take-nil}
use Rattle.std.proofs.lemmas.List.{drop-append-le, drop_all, drop_at, length-take-le}
use Rattle.std.proofs.lemmas.List.{nil_from_length, take-append-le, take_at}
use Rattle.std.proofs.lemmas.Nat.{mod-pow-add, mul-add-lt, pow-add, shr-shr, shr_high, shr_split}
use Rattle.std.proofs.lemmas.Nat.Bits.{bit_at-lt, bit_at_cat_low}
use Rattle.std.specs.Int.{from_be_bytes, to_be_bytes, w32, w64}
use Rattle.bit_fields.specs.Bits.{AreBelow, AreBits, AreBytes, bits, bits_of, bytes, number}
use mir.{Syntax.w8, Val.Fits}

-- ---- lengths
-- a number in `width` bits has `width` bits
pub length-bits_of : (width n : ℕ) → length (bits_of width n) ≡ width
unfolding bits_of
length-bits_of zero n = refl
length-bits_of (suc width) n = ap suc (length-bits_of width n)

-- bytes have eight times as many bits
pub length-bits : (xs : List ℕ) → length (bits xs) ≡ 8 * length xs
unfolding bits
length-bits [] = refl
length-bits (x ∷ xs) = grind (arith, length-append, length-bits_of, length-bits xs)

-- ---- each is below a limit
-- if two lists are each below the limit, so are both together
pub AreBelow-append : (limit : ℕ) (xs ys : List ℕ) → AreBelow limit xs → AreBelow limit ys
    → AreBelow limit (xs ++ ys)
AreBelow-append limit [] ys hx hy = hy
AreBelow-append limit (x ∷ xs) ys hx hy = (hx.0, AreBelow-append limit xs ys hx.1 hy)

-- the first numbers of a list below the limit are below it
pub AreBelow-take : (limit n : ℕ) (xs : List ℕ) → AreBelow limit xs → AreBelow limit (take n xs)
AreBelow-take limit zero xs h = tt
AreBelow-take limit (suc n) [] h = tt
AreBelow-take limit (suc n) (x ∷ xs) h = (h.0, AreBelow-take limit n xs h.1)

-- what is left of a list below the limit is below it
pub AreBelow-drop : (limit n : ℕ) (xs : List ℕ) → AreBelow limit xs → AreBelow limit (drop n xs)
AreBelow-drop limit zero xs h = h
AreBelow-drop limit (suc n) [] h = tt
AreBelow-drop limit (suc n) (x ∷ xs) h = AreBelow-drop limit n xs h.1

-- ---- each is 0 or 1
-- the bits of a number are zeros and ones
pub AreBits-bits_of : (width n : ℕ) → AreBits (bits_of width n)
unfolding bits_of
AreBits-bits_of zero n = tt
AreBits-bits_of (suc width) n = (bit_at-lt n width, AreBits-bits_of width n)

-- the bits of bytes are zeros and ones
pub AreBits-bits : (xs : List ℕ) → AreBits (bits xs)
unfolding bits
AreBits-bits [] = tt
AreBits-bits (x ∷ xs) = grind (arith, AreBelow-append, AreBits-bits_of, AreBits-bits xs)

-- ---- the number of bits
-- no bits spell 0
pub number-nil : number [] ≡ 0
unfolding number
number-nil = refl

-- bits spell a number below the power of 2 with their count as exponent
pub number-below : (bs : List ℕ) → AreBits bs → number bs < 2 ^ length bs
unfolding number
number-below [] h = omega arith
number-below (b ∷ bs) h = search (arith, pow-suc, mul-add-lt, number-below bs h.1)

-- bits followed by others spell the number of the first, shifted left by the count of the others,
-- plus the number of the others
pub number-append : (cs bs : List ℕ) → number (cs ++ bs) ≡ number cs * 2 ^ length bs + number bs
unfolding number
number-append [] bs = omega arith
number-append (c ∷ cs) bs = grind (arith, length-append, pow-add, number-append cs bs)

-- the lowest bits of a number spell its remainder by the power of 2 of their width
pub number-bits_of : (width n : ℕ) → number (bits_of width n) ≡ n % 2 ^ width
unfolding bits_of number
number-bits_of zero n = sym (mod-one n)
number-bits_of (suc width) n =
    rw (length-bits_of width n, number-bits_of width n, ← one-add width)
    (sym (mod-pow-add n 1 width))

-- the bits of a number that fits in them spell it
pub number-bits_of-below : (width : ℕ) {n : ℕ} → n < 2 ^ width → number (bits_of width n) ≡ n
number-bits_of-below width {n} h = number-bits_of width n ∙ mod-eq_of_lt h

-- bits above the lowest `width` don't count
pub bits_of-cat_low : (width : ℕ) {place : ℕ} (high n : ℕ) → width ≤ place
    → bits_of width (high * 2 ^ place + n) ≡ bits_of width n
unfolding bits_of
bits_of-cat_low zero high n h = refl
bits_of-cat_low (suc width) {place} high n h =
    grind (arith, bit_at_cat_low, bits_of-cat_low width {place = place} high n (omega arith))

-- a number modulo the power of 2 of the width has the same bits
pub bits_of-mod : (width n : ℕ) → bits_of width (n % 2 ^ width) ≡ bits_of width n
bits_of-mod width n =
    sym (bits_of-cat_low width (n / 2 ^ width) (n % 2 ^ width) (omega arith))
    ∙ ap (bits_of width) (shr_split n width)

-- the number that bits spell has these bits
pub bits_of-number : (bs : List ℕ) → AreBits bs → bits_of (length bs) (number bs) ≡ bs
unfolding bits_of number
bits_of-number [] h = refl
bits_of-number (b ∷ bs) h =
    grind (arith, number-below, shr_high, bits_of-cat_low, bits_of-number bs h.1)

-- ---- bits of a sum of widths
-- the bits of a sum of two widths are the high bits and then the low ones
pub bits_of-add : (high low n : ℕ)
    → bits_of (high + low) n ≡ bits_of high (n / 2 ^ low) ++ bits_of low n
unfolding bits_of
bits_of-add zero low n = ap (λ w. bits_of w n) (zero-add low)
bits_of-add (suc high) low n = search (arith, suc-add, add_comm, shr-shr, bits_of-add high low n)

-- the bits of two numbers put side by side are the bits of the one followed by the bits of the
-- other
pub bits_of-cat : (high low a : ℕ) {n : ℕ} → n < 2 ^ low
    → bits_of (high + low) (a * 2 ^ low + n) ≡ bits_of high a ++ bits_of low n
bits_of-cat high low a h = grind (arith, bits_of-add, bits_of-cat_low)

-- the high bits of a number are the bits of the number shifted right by the low ones
pub take-bits_of : (high low n : ℕ)
    → take high (bits_of (high + low) n) ≡ bits_of high (n / 2 ^ low)
take-bits_of high low n = grind (arith, bits_of-add, take_at, length-bits_of)

-- without the high bits the low bits are left
pub drop-bits_of : (high low n : ℕ) → drop high (bits_of (high + low) n) ≡ bits_of low n
drop-bits_of high low n = grind (arith, bits_of-add, drop_at, length-bits_of)

-- `width` bits in the middle of the bits of a number are the bits of the number shifted right
pub middle-bits_of : (before width after n : ℕ)
    → take width (drop before (bits_of (before + (width + after)) n))
    ≡ bits_of width (n / 2 ^ after)
middle-bits_of before width after n = grind (arith, drop-bits_of, take-bits_of)

-- bits in the middle spell the remainder of the shifted number
pub number-middle : (before width after n : ℕ)
    → number (take width (drop before (bits_of (before + (width + after)) n)))
    ≡ n / 2 ^ after % 2 ^ width
number-middle before width after n = grind (arith, middle-bits_of, number-bits_of)

-- the same, by the width of the whole number
pub number-middle_of : {whole : ℕ} (before width n : ℕ) → before + width ≤ whole
    → number (take width (drop before (bits_of whole n)))
    ≡ n / 2 ^ (whole - before - width) % 2 ^ width
number-middle_of {whole} before width n h =
    grind (arith, number-middle before width (whole - before - width) n)

-- ---- the bits of bytes
-- no bytes have no bits
pub bits-nil : bits [] ≡ []
unfolding bits
bits-nil = refl

-- the bits of bytes are the eight of the first, followed by the bits of the rest
pub bits-cons : (x : ℕ) (xs : List ℕ) → bits (x ∷ xs) ≡ bits_of 8 x ++ bits xs
unfolding bits
bits-cons x xs = refl

-- one byte has its eight bits
pub bits-one : (x : ℕ) → bits (x ∷ []) ≡ bits_of 8 x
bits-one x = bits-cons x [] ∙ ap (λ bs. bits_of 8 x ++ bs) bits-nil ∙ append-nil (bits_of 8 x)

-- the bits of joined bytes are the bits of the one part followed by the bits of the other
pub bits-append : (xs ys : List ℕ) → bits (xs ++ ys) ≡ bits xs ++ bits ys
unfolding bits
bits-append [] ys = refl
bits-append (x ∷ xs) ys = grind (arith, append_assoc, bits-append xs ys)

eights : (k : ℕ) (x : ℕ) → 8 * suc k ≡ length (bits_of 8 x) + 8 * k
eights k x = omega (arith, length-bits_of 8 x)

-- the first 8 * k bits of bytes are the bits of the first k bytes
pub take-bits : (k : ℕ) (xs : List ℕ) → take (8 * k) (bits xs) ≡ bits (take k xs)
unfolding bits
take-bits zero xs = refl
take-bits (suc k) [] = take-nil (8 * suc k)
take-bits (suc k) (x ∷ xs) =
    grind (arith, eights k x, take-append-add (bits_of 8 x) (bits xs) (8 * k), take-bits k xs)

-- dropping the first 8 * k bits of bytes leaves the bits of the bytes after the first k
pub drop-bits : (k : ℕ) (xs : List ℕ) → drop (8 * k) (bits xs) ≡ bits (drop k xs)
unfolding bits
drop-bits zero xs = refl
drop-bits (suc k) [] = drop_all (8 * suc k) [] (omega arith)
drop-bits (suc k) (x ∷ xs) =
    grind (arith, eights k x, drop-append-add (bits_of 8 x) (bits xs) (8 * k), drop-bits k xs)

-- bits in the middle of others spell a shift and a remainder of the number of all
pub number-within : (from width : ℕ) (bs : List ℕ) → AreBits bs → from + width ≤ length bs
    → number (take width (drop from bs)) ≡ number bs / 2 ^ (length bs - from - width) % 2 ^ width
number-within from width bs h l = grind (arith, bits_of-number, number-middle_of)

-- bytes have the bits of the number that they spell
pub bits-bits_of : (xs : List ℕ) → bits xs ≡ bits_of (8 * length xs) (number (bits xs))
bits-bits_of xs = grind (arith, bits_of-number (bits xs) (AreBits-bits xs), length-bits xs)

-- from a bit on, bytes have eight times their count less this offset left
pub length-left : (place : ℕ) (xs : List ℕ) → length (drop place (bits xs)) ≡ 8 * length xs - place
length-left place xs = length-drop place (bits xs) ∙ ap (λ n. n - place) (length-bits xs)

-- bytes spell a number below 256 to the power of their count
pub number-bits-below : (xs : List ℕ) → number (bits xs) < 2 ^ (8 * length xs)
number-bits-below xs = rw (← length-bits xs) (number-below (bits xs) (AreBits-bits xs))

-- with one byte more the number is 256 times as great, plus the byte
pub number-bits-push : (xs : List ℕ) {x : ℕ} → x < 256
    → number (bits (xs ++ x ∷ [])) ≡ number (bits xs) * 256 + x
number-bits-push xs h =
    grind (arith, bits-append, bits-one, number-append, length-bits_of, number-bits_of-below)

-- ---- the bytes of bits
-- no bits spell no bytes
pub bytes-nil : bytes [] ≡ []
unfolding bytes
bytes-nil = refl

-- eight bits are one byte, followed by the bytes of the other bits
pub bytes-eight : (cs bs : List ℕ) → length cs ≡ 8 → bytes (cs ++ bs) ≡ number cs ∷ bytes bs
unfolding bytes
bytes-eight (a ∷ b ∷ c ∷ d ∷ e ∷ f ∷ g ∷ h ∷ []) bs l = refl
bytes-eight cs bs l = absurd (omega arith)

-- of at least eight bits the first eight are the first byte
pub bytes-front : (bs : List ℕ) → 8 ≤ length bs → bytes bs ≡ number (take 8 bs) ∷ bytes (drop 8 bs)
bytes-front bs h =
    ap bytes (sym (take-append-drop 8 bs))
    ∙ bytes-eight (take 8 bs) (drop 8 bs) (length-take-le 8 bs h)

-- 8 * k bits spell k bytes
pub length-bytes : (k : ℕ) (bs : List ℕ) → length bs ≡ 8 * k → length (bytes bs) ≡ k
length-bytes zero bs h = ap (λ cs. length (bytes cs)) (nil_from_length bs h) ∙ ap length bytes-nil
length-bytes (suc k) bs h =
    let l : length (drop 8 bs) ≡ 8 * k = simp length-drop (omega arith) in
    ap length (bytes-front bs (omega arith)) ∙ ap suc (length-bytes k (drop 8 bs) l)

-- what bits spell in groups of eight are bytes
pub AreBytes-bytes : (bs : List ℕ) → AreBits bs → AreBytes (bytes bs)
unfolding bytes
AreBytes-bytes (a ∷ b ∷ c ∷ d ∷ e ∷ f ∷ g ∷ h ∷ bs) all =
    grind (
      arith,
      number-below,
      AreBytes-bytes bs (AreBelow-drop 2 8 (a ∷ b ∷ c ∷ d ∷ e ∷ f ∷ g ∷ h ∷ bs) all),
    )
AreBytes-bytes bs all = tt

-- the bits of whole bytes followed by more bits spell these bytes, then the bytes of the other bits
pub bytes-append : (k : ℕ) (cs bs : List ℕ) → length cs ≡ 8 * k
    → bytes (cs ++ bs) ≡ bytes cs ++ bytes bs
bytes-append zero cs bs h = rw (nil_from_length cs h, bytes-nil)
bytes-append (suc k) cs bs h =
    let l : length (drop 8 cs) ≡ 8 * k = simp length-drop (omega arith) in
    let m : 8 ≤ length cs = omega arith in
    ap (λ ds. bytes (ds ++ bs)) (sym (take-append-drop 8 cs))
    ∙ ap bytes (append_assoc (take 8 cs) (drop 8 cs) bs)
    ∙ bytes-eight (take 8 cs) (drop 8 cs ++ bs) (length-take-le 8 cs m)
    ∙ ap (λ ys. number (take 8 cs) ∷ ys) (bytes-append k (drop 8 cs) bs l)
    ∙ ap (λ ys. ys ++ bytes bs) (sym (bytes-front cs m))

-- dropping the first k bytes that bits spell leaves the bytes of the bits after the first 8 * k
pub drop-bytes : (k : ℕ) (bs : List ℕ) → 8 * k ≤ length bs
    → drop k (bytes bs) ≡ bytes (drop (8 * k) bs)
drop-bytes k bs h =
    let l : length (take (8 * k) bs) ≡ 8 * k = length-take-le (8 * k) bs h in
    ap (drop k) (ap bytes (sym (take-append-drop (8 * k) bs))
    ∙ bytes-append k (take (8 * k) bs) (drop (8 * k) bs) l)
    ∙ drop_at (bytes (take (8 * k) bs)) (bytes (drop (8 * k) bs)) k
    (length-bytes k (take (8 * k) bs) l)

-- ---- there and back
-- the bits of bytes spell these bytes
pub bytes-bits : (xs : List ℕ) → AreBytes xs → bytes (bits xs) ≡ xs
bytes-bits [] h = ap bytes bits-nil ∙ bytes-nil
bytes-bits (x ∷ xs) h =
    grind (arith, bits-cons, bytes-eight, length-bits_of, number-bits_of-below, bytes-bits xs h.1)

-- the bytes of bits, a multiple of eight, have these bits
pub bits-bytes : (k : ℕ) {bs : List ℕ} → AreBits bs → length bs ≡ 8 * k → bits (bytes bs) ≡ bs
bits-bytes zero {bs} all h = rw (nil_from_length bs h, bytes-nil, bits-nil)
bits-bytes (suc k) {bs} all h =
    let l : length (drop 8 bs) ≡ 8 * k = simp length-drop (omega arith) in
    let m : 8 ≤ length bs = omega arith in
    let e : length (take 8 bs) ≡ 8 = length-take-le 8 bs m in
    ap bits (bytes-front bs m)
    ∙ bits-cons (number (take 8 bs)) (bytes (drop 8 bs))
    ∙ ap₂ (λ cs ds. cs ++ ds)
    (ap (λ w. bits_of w (number (take 8 bs))) (sym e)
    ∙ bits_of-number (take 8 bs) (AreBelow-take 2 8 bs all))
    (bits-bytes k (AreBelow-drop 2 8 bs all) l)
    ∙ take-append-drop 8 bs

-- bytes with the same bits are the same
pub bits-injective : {xs ys : List ℕ} → AreBytes xs → AreBytes ys → bits xs ≡ bits ys → xs ≡ ys
bits-injective {xs} {ys} hx hy e = sym (bytes-bits xs hx) ∙ ap bytes e ∙ bytes-bits ys hy

-- ---- each is below 256
-- if the bytes of a slice of `u8` are below 256 at each place, all are
pub AreBytes-from_places : (xs : List ℕ) → ((i : ℕ) → get_or xs i 0 < 256) → AreBytes xs
AreBytes-from_places [] h = tt
AreBytes-from_places (x ∷ xs) h = (h 0, AreBytes-from_places xs (λ i. h (suc i)))

-- the numbers of a slice of `u8` are bytes
pub AreBytes-from_slice : (xs : List ℕ) → ((i : ℕ) → Fits w8 (get_or xs i 0)) → AreBytes xs
AreBytes-from_slice xs h = grind (arith, AreBytes-from_places)

-- each of some bytes is below 256, and so is the 0 after them
pub places_below : (xs : List ℕ) → AreBytes xs → (i : ℕ) → get_or xs i 0 < 256
places_below [] h i = omega arith
places_below (x ∷ xs) h zero = h.0
places_below (x ∷ xs) h (suc i) = places_below xs h.1 i

-- ---- four bytes as one big-endian number
number-four : {a b c d : ℕ} → AreBytes (a ∷ b ∷ c ∷ d ∷ [])
    → number (bits (a ∷ b ∷ c ∷ d ∷ [])) ≡ from_be_bytes w32 (a ∷ b ∷ c ∷ d ∷ [])
number-four {a} {b} {c} {d} h =
    let one : number (bits (a ∷ [])) ≡ a = ap number (bits-one a) ∙ number-bits_of-below 8 h.0 in
    let two : number (bits (a ∷ b ∷ [])) ≡ number (bits (a ∷ [])) * 256 + b =
    number-bits-push (a ∷ []) h.1.0 in
    let three : number (bits (a ∷ b ∷ c ∷ [])) ≡ number (bits (a ∷ b ∷ [])) * 256 + c =
    number-bits-push (a ∷ b ∷ []) h.1.1.0 in
    let four : number (bits (a ∷ b ∷ c ∷ d ∷ [])) ≡ number (bits (a ∷ b ∷ c ∷ [])) * 256 + d =
    number-bits-push (a ∷ b ∷ c ∷ []) h.1.1.1.0 in
    omega arith

-- the 32 bits of four bytes spell the big-endian number of these bytes
pub number-bits-be_bytes : (xs : List ℕ) → length xs ≡ 4 → AreBytes xs
    → number (bits xs) ≡ from_be_bytes w32 xs
number-bits-be_bytes (a ∷ b ∷ c ∷ d ∷ []) l h = number-four h
number-bits-be_bytes xs l h = absurd (omega arith)

-- four bytes have the bits of their big-endian number
pub bits-be_bytes : (xs : List ℕ) → length xs ≡ 4 → AreBytes xs
    → bits xs ≡ bits_of 32 (from_be_bytes w32 xs)
bits-be_bytes xs l h = grind (arith, bits-bits_of, number-bits-be_bytes)

-- ---- eight bytes as one big-endian number
number-eight : {a b c d e f g h : ℕ} → AreBytes (a ∷ b ∷ c ∷ d ∷ e ∷ f ∷ g ∷ h ∷ [])
    → number (bits (a ∷ b ∷ c ∷ d ∷ e ∷ f ∷ g ∷ h ∷ []))
    ≡ from_be_bytes w64 (a ∷ b ∷ c ∷ d ∷ e ∷ f ∷ g ∷ h ∷ [])
number-eight {a} {b} {c} {d} {e} {f} {g} {h} all =
    let four : number (bits (a ∷ b ∷ c ∷ d ∷ [])) ≡ from_be_bytes w32 (a ∷ b ∷ c ∷ d ∷ []) =
    number-four (all.0, (all.1.0, (all.1.1.0, (all.1.1.1.0, tt)))) in
    let five : number (bits (a ∷ b ∷ c ∷ d ∷ e ∷ [])) ≡ number (bits (a ∷ b ∷ c ∷ d ∷ [])) * 256
    + e = number-bits-push (a ∷ b ∷ c ∷ d ∷ []) all.1.1.1.1.0 in
    let six : number (bits (a ∷ b ∷ c ∷ d ∷ e ∷ f ∷ []))
    ≡ number (bits (a ∷ b ∷ c ∷ d ∷ e ∷ [])) * 256 + f =
    number-bits-push (a ∷ b ∷ c ∷ d ∷ e ∷ []) all.1.1.1.1.1.0 in
    let seven : number (bits (a ∷ b ∷ c ∷ d ∷ e ∷ f ∷ g ∷ []))
    ≡ number (bits (a ∷ b ∷ c ∷ d ∷ e ∷ f ∷ [])) * 256 + g =
    number-bits-push (a ∷ b ∷ c ∷ d ∷ e ∷ f ∷ []) all.1.1.1.1.1.1.0 in
    let eight : number (bits (a ∷ b ∷ c ∷ d ∷ e ∷ f ∷ g ∷ h ∷ []))
    ≡ number (bits (a ∷ b ∷ c ∷ d ∷ e ∷ f ∷ g ∷ [])) * 256 + h =
    number-bits-push (a ∷ b ∷ c ∷ d ∷ e ∷ f ∷ g ∷ []) all.1.1.1.1.1.1.1.0 in
    omega arith

-- the 64 bits of eight bytes spell the big-endian number of these bytes
pub number-bits-be_bytes_8 : (xs : List ℕ) → length xs ≡ 8 → AreBytes xs
    → number (bits xs) ≡ from_be_bytes w64 xs
number-bits-be_bytes_8 (a ∷ b ∷ c ∷ d ∷ e ∷ f ∷ g ∷ h ∷ []) l all = number-eight all
number-bits-be_bytes_8 xs l all = absurd (omega arith)

-- a number as eight big-endian bytes has the 64 bits of the number
pub bits-to_be_bytes_8 : {n : ℕ} → n < 2 ^ 64 → bits (to_be_bytes w64 n) ≡ bits_of 64 n
bits-to_be_bytes_8 h = grind (arith, bits-bits_of, number-bits-be_bytes_8)

-- bits that lie within the first of two lists of bytes are the same with the second list after it
pub bits-front : (main rest : List ℕ) (start count : ℕ) → 8 * start + count ≤ 8 * length main
    → take count (drop (8 * start) (bits (main ++ rest)))
    ≡ take count (drop (8 * start) (bits main))
bits-front main rest start count within =
    grind (arith, bits-append, drop-append-le, length-bits, take-append-le, length-drop)
