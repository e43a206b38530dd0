-- Laws of windows: the last bytes of main data, and the bits of a frame's main data among them.
use Rattle.std.proofs.Common.{ap, append-nil, append_assoc, ap₂, arith, drop, get_or, inl, inr}
use Rattle.std.proofs.Common.{length, length-append, List, min, refl, replicate, subst, suc, sym}
use Rattle.std.proofs.Common.{take, zero, ℕ, [], ◌%◌, ◌*◌, ◌++◌, ◌+◌, ◌-◌, ◌/◌, ◌<◌, ◌^◌, ◌∙◌, ◌∷◌}
use Rattle.std.proofs.{Common.{◌≡◌, ◌≤◌}, Math.Nat.{min-eq_left, min-eq_right, zero-div}}
use Rattle.std.proofs.Math.Seq.{drop-append-add, drop-cons, drop-length, take-add, take-append-add}
use Rattle.std.proofs.{Math.Seq.take-length, lemmas.Bool.cases_lt}
use Rattle.std.proofs.lemmas.List.{drop-append-le, drop-drop, length-drop, length-take-le}
use Rattle.std.proofs.lemmas.List.{take-append-drop, take-append-le}
use Rattle.bit_fields.proofs.BitsLemmas.{bits-append, bits-cons, bits-nil, bits-one, bits_of-cat}
use Rattle.bit_fields.proofs.BitsLemmas.{bits_of-mod, drop-bits, length-bits_of, take-bits}
use Rattle.bit_fields.{proofs.BitsLemmas.take-bits_of, specs.Bits.{bits, bits_of}}
use Rattle.circular_buffer.specs.Buffer.{keep_last}
use Rattle.reservoir.specs.Window.{AreBitsPacked, AreLastOf, IsWindowOver, main_bits}

-- ---- what is held

-- what is after the first bytes of a list, with another list after it
behind : (d k j : ℕ) (xs ys : List ℕ) → d ≤ length xs → j ≡ d + k
    → drop k (drop d xs ++ ys) ≡ drop j (xs ++ ys)
behind d k j xs ys within is =
    let front : length (take d xs) ≡ d = length-take-le d xs within in
    sym (drop-append-add (take d xs) (drop d xs ++ ys) k)
    ∙ ap₂ (λ n zs. drop n zs) (omega (arith, front, is))
    (sym (append_assoc (take d xs) (drop d xs) ys) ∙ ap (λ zs. zs ++ ys) (take-append-drop d xs))

-- keeping the last bytes before an area is pushed doesn't change which bytes are the last after it
pub last_more : (n : ℕ) (main area : List ℕ)
    → keep_last n (keep_last n main ++ area) ≡ keep_last n (main ++ area)
last_more n main area =
    let held : length (drop (length main - n) main) ≡ length main - (length main - n) =
    length-drop (length main - n) main in
    behind (length main - n) (length (drop (length main - n) main ++ area) - n)
    (length (main ++ area) - n) main area (omega arith)
    (omega (arith, held, length-append (drop (length main - n) main) area, length-append main area))

-- after an area is pushed, a window over main data is over these and the area
pub window-more : {held : List ℕ} (main area : List ℕ) → IsWindowOver held main
    → IsWindowOver (keep_last 2048 (held ++ area)) (main ++ area)
window-more main area is =
    ap (λ bytes. keep_last 2048 (bytes ++ area)) is ∙ last_more 2048 main area

-- what a window over main data holds is the end of them
pub window-last : {held main : List ℕ} → IsWindowOver held main → AreLastOf held main
window-last {main = main} is =
    let least = length main - 2048 in (
      take least main,
      sym (take-append-drop least main) ∙ ap (λ (xs : List ℕ). take least main ++ xs) (sym is),
    )

-- ---- the bits of a frame's main data

bits_of-zeros : (n : ℕ) → bits_of n 0 ≡ replicate n 0
unfolding bits_of
bits_of-zeros zero = refl
bits_of-zeros (suc n) = rw (zero-div (2 ^ n)) (ap (λ bs. 0 ∷ bs) (bits_of-zeros n))

-- clearing the low bits of a byte keeps its first bits, followed by zeros
cleared : (n unused byte : ℕ) → n + unused ≡ 8 → bits (byte / 2 ^ unused * 2 ^ unused % 256 ∷ [])
    ≡ take n (bits_of 8 byte) ++ replicate unused 0
cleared n unused byte all =
    bits-one (byte / 2 ^ unused * 2 ^ unused % 256)
    ∙ bits_of-mod 8 (byte / 2 ^ unused * 2 ^ unused)
    ∙ ap₂ bits_of (sym all) (omega arith)
    ∙ bits_of-cat n unused (byte / 2 ^ unused) (pow_pos unused)
    ∙ ap₂ (λ (xs ys : List ℕ). xs ++ ys) (sym (take-bits_of n unused byte)
    ∙ ap (λ k. take n (bits_of k byte)) all) (bits_of-zeros unused)
  where
    pow_pos : (k : ℕ) → 0 < 2 ^ k
    pow_pos zero = omega arith
    pow_pos (suc k) = omega (arith, pow_pos k)

-- the first bits of a list are the first bits of its first byte
take_first : {n : ℕ} (byte : ℕ) (bytes : List ℕ) → n ≤ 8
    → take n (bits (byte ∷ bytes)) ≡ take n (bits_of 8 byte)
take_first {n} byte bytes few =
    ap (take n) (bits-cons byte bytes)
    ∙ take-append-le n (bits_of 8 byte) (bits bytes) (omega (arith, few, length-bits_of 8 byte))

-- the last bits of main data are packed in a byte whose other bits are cleared
pub last-packed : (held : List ℕ) {at n : ℕ} (unused : ℕ) {byte : ℕ} → at < length held
    → byte ≡ get_or held at 0 → n + unused ≡ 8 → 0 < n →
    AreBitsPacked (byte / 2 ^ unused * 2 ^ unused % 256 ∷ []) n (main_bits held at n)
last-packed held {at} {n} unused {byte} within is all some =
    let first : main_bits held at n ≡ take n (bits_of 8 byte) =
    ap (take n) (drop-bits at held
    ∙ ap bits (drop-cons held at 0 within ∙ ap (λ b. b ∷ drop (suc at) held) (sym is)))
    ∙ take_first byte (drop (suc at) held) (omega (arith, all)) in
    record {
      few = omega (arith, all, some);
      same = cleared n unused byte all
          ∙ ap₂ (λ (xs : List ℕ) k. xs ++ replicate k 0) (sym first) (omega (arith, all));
    }

-- no bits are packed into no bytes
pub none-packed : (held : List ℕ) (at : ℕ) {n : ℕ} → n ≡ 0
    → AreBitsPacked [] n (main_bits held at n)
none-packed held at none = record {
  few = omega (arith, none);
  same =
      bits-nil ∙ ap (λ k. take k (drop (8 * at) (bits held)) ++ replicate (8 * 0 - k) 0) (sym none);
}

-- whole bytes and a packed last byte are packed together
packed_behind : (held whole last : List ℕ) (from count rest n : ℕ) → n ≡ 8 * count + rest
    → whole ≡ take count (drop from held) → length whole ≡ count →
    AreBitsPacked last rest (main_bits held (from + count) rest)
    → AreBitsPacked (whole ++ last) n (main_bits held from n)
packed_behind held whole last from count rest n is same long packed =
    let b = bits held in
    let front : bits whole ≡ take (8 * count) (drop (8 * from) b) = ap bits same
    ∙ sym (take-bits count (drop from held)) ∙ ap (take (8 * count)) (sym (drop-bits from held)) in
    let behind : main_bits held (from + count) rest
    ≡ take rest (drop (8 * count) (drop (8 * from) b)) =
    ap (λ k. take rest (drop k b)) (omega arith)
    ∙ ap (take rest) (sym (drop-drop (8 * count) (8 * from) b)) in
    let all : bits whole ++ main_bits held (from + count) rest ≡ main_bits held from n =
    ap₂ (λ (xs ys : List ℕ). xs ++ ys) front behind
    ∙ sym (take-add (8 * count) rest (drop (8 * from) b))
    ∙ ap (λ k. take k (drop (8 * from) b)) (sym is) in
    let size : length (whole ++ last) ≡ count + length last =
    length-append whole last ∙ ap (λ k. k + length last) long in
    record {
      few = omega (arith, size, packed.few, is);
      same =
          bits-append whole last
          ∙ ap (λ (xs : List ℕ). bits whole ++ xs) packed.same
          ∙ sym (append_assoc (bits whole) (main_bits held (from + count) rest)
          (replicate (8 * length last - rest) 0))
          ∙ ap₂ (λ (xs : List ℕ) k. xs ++ replicate k 0) all (omega (arith, size, is));
    }

-- bits after the first bytes, counted from the beginning of all
behind_front : (front bytes : List ℕ) (at from n : ℕ) → at ≡ length front + from
    → main_bits bytes from n ≡ main_bits (front ++ bytes) at n
behind_front front bytes at from n is =
    ap (take n) (drop-bits from bytes)
    ∙ ap (λ (xs : List ℕ). take n (bits xs))
    (sym (drop-append-add front bytes from) ∙ ap (λ k. drop k (front ++ bytes)) (sym is))
    ∙ ap (take n) (sym (drop-bits at (front ++ bytes)))

-- the main data of a frame are packed, from what the window holds and what is after it
pub packed : (held main more whole last : List ℕ) (from at count rest n : ℕ) → AreLastOf held main
    → at + length held ≡ length main + from → n ≡ 8 * count + rest
    → n + 8 * from ≤ 8 * length (held ++ more) → whole ≡ take count (drop from (held ++ more))
    → AreBitsPacked last rest (main_bits (held ++ more) (from + count) rest)
    → AreBitsPacked (whole ++ last) n (main_bits (main ++ more) at n)
packed held main more whole last from at count rest n is place all fits same last_is =
    let bytes = held ++ more in
    let front = is.0 in
    let long : length whole ≡ count = ap length same
    ∙ length-take-le count (drop from bytes) (omega (arith, length-drop from bytes, all, fits)) in
    let begins : at ≡ length front + from =
    omega (arith, ap length is.1 ∙ length-append front held, place) in
    let end : main_bits bytes from n ≡ main_bits (main ++ more) at n =
    behind_front front bytes at from n begins
    ∙ ap (λ (xs : List ℕ). main_bits xs at n)
    (sym (append_assoc front held more) ∙ ap (λ (xs : List ℕ). xs ++ more) (sym is.1)) in
    subst (AreBitsPacked (whole ++ last) n) end
    (packed_behind bytes whole last from count rest n all same long last_is)

-- ---- two joined lists

-- of n items of two lists the first list has as many as it can, and the second has the rest
of_both : {n most : ℕ} (P : ℕ → ℕ → Type 0) → (n < most → P n 0) → (most ≤ n → P most (n - most))
    → P (min n most) (n - min n most)
of_both {n} {most} P within past =
    elim (cases_lt n most) as (λ _. P (min n most) (n - min n most)) [
      | inl less ↦
          let least : min n most ≡ n = min-eq_left (omega arith) in
          let none : n - min n most ≡ 0 = omega (arith, least) in
          rw (none, least) (within less)
      | inr more ↦ let least : min n most ≡ most = min-eq_right more in rw least (past more)
    ]

-- dropping items from two joined lists drops them from the first, and what remains from the second
pub drop_two : (from : ℕ) (xs ys : List ℕ)
    → drop from (xs ++ ys) ≡ drop (min from (length xs)) xs ++ drop (from - min from (length xs)) ys
drop_two from xs ys =
    of_both (λ m k. drop from (xs ++ ys) ≡ drop m xs ++ drop k ys)
    (λ within. drop-append-le from xs ys (omega arith))
    (λ past. let split : from ≡ length xs + (from - length xs) = omega arith in rw (drop-length xs)
    (ap (λ k. drop k (xs ++ ys)) split ∙ drop-append-add xs ys (from - length xs)))

-- taking items of two joined lists takes them of the first, and what remains of the second
pub take_two : (count : ℕ) (xs ys : List ℕ) → take count (xs ++ ys)
    ≡ take (min count (length xs)) xs ++ take (count - min count (length xs)) ys
take_two count xs ys =
    of_both (λ m k. take count (xs ++ ys) ≡ take m xs ++ take k ys)
    (λ within. take-append-le count xs ys (omega arith) ∙ sym (append-nil (take count xs)))
    (λ past. let split : count ≡ length xs + (count - length xs) = omega arith in rw (take-length
    xs) (ap (λ k. take k (xs ++ ys)) split ∙ take-append-add xs ys (count - length xs)))

-- a part of two joined lists is a part of the first, and as much of the second as remains
pub part_of_two : (from count : ℕ) {passed first : ℕ} (xs ys : List ℕ) {front back : List ℕ}
    → front ≡ drop passed xs
    →
    back ≡ drop (from - passed) ys → passed ≡ min from (length xs)
    → first ≡ min count (length front) →
    take first front ++ take (count - first) back ≡ take count (drop from (xs ++ ys))
part_of_two from count xs ys fronts backs passes firsts =
    rw (firsts, fronts, backs, passes)
    (sym (ap (take count) (drop_two from xs ys)
    ∙ take_two count (drop (min from (length xs)) xs) (drop (from - min from (length xs)) ys)))

-- the same for given parts, with the place by the lengths
pub part_past : (from : ℕ) {passed first : ℕ} (count : ℕ) (xs ys : List ℕ) {part more : List ℕ}
    → passed ≡ min from (length xs) → first ≡ min count (length xs - passed)
    → part ≡ take first (drop passed xs) → more ≡ take (count - first) (drop (from - passed) ys)
    → part ++ more ≡ take count (drop from (xs ++ ys))
part_past from {passed} {first} count xs ys passes firsts parts mores =
    ap₂ (λ (ps qs : List ℕ). ps ++ qs) parts mores
    ∙ part_of_two from count xs ys refl refl
    passes (firsts ∙ ap (min count) (sym (length-drop passed xs)))
