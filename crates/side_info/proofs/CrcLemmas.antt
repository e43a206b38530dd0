-- The division of bits: how it treats exclusive ors, and how it takes a byte at a time by a table.
use Rattle.std.proofs.Common.{add-zero, ap, ap₂, arith, bit_xor, Bool, cond, drop, eqb, get_or}
use Rattle.std.proofs.Common.{length, List, lit<, refl, suc, sym, take, true, zero, ℕ, [], ◌%◌, ◌*◌}
use Rattle.std.proofs.{Common.{◌++◌, ◌+◌, ◌/◌, ◌<◌, ◌^◌, ◌∙◌, ◌∷◌, ◌≡◌, ◌≤◌}, lemmas.Bool.eqb-true}
use Rattle.std.proofs.lemmas.List.{drop-take, take-append-drop, take-take, take_more}
use Rattle.std.proofs.lemmas.Nat.{mod_below, xor_block, xor_comm, xor_lt, xor_mod, xor_shr}
use Rattle.std.specs.Int.{bit_at}
use Rattle.bit_fields.proofs.BitsLemmas.{AreBits-bits_of, bits-append, bits-one}
use Rattle.bit_fields.specs.Bits.{AreBits, bits, bits_of}
use Rattle.frame_header.proofs.BelowLemmas.{all_below, all_below-pass}
use Rattle.side_info.specs.CheckWord.{crc_bit, polynomial, remainder}
use Rattle.side_info.specs.declared.crc.TheConstants.{REMAINDERS}
use lib.Bits.{xor_assoc, xor_self, xor_shifted, xor_zero_r}

-- ---- one bit
-- the divisor if a bit is 1, otherwise 0
abbrev taken : ℕ → ℕ
taken bit = bit * polynomial

step_cases : (top bit shifted : ℕ) → top < 2 → bit < 2
    → cond (eqb top bit) shifted (bit_xor shifted polynomial)
    ≡ bit_xor shifted (taken (bit_xor top bit))
step_cases zero (suc zero) shifted ht hb = refl
step_cases (suc zero) zero shifted ht hb = refl
step_cases (suc (suc top)) bit shifted ht hb = absurd (omega arith)
step_cases zero (suc (suc bit)) shifted ht hb = absurd (omega arith)
step_cases (suc zero) (suc (suc bit)) shifted ht hb = absurd (omega arith)
step_cases _ _ shifted ht hb = sym (xor_zero_r shifted)

step-is : (word : ℕ) {bit : ℕ} → bit < 2
    → crc_bit word bit ≡ bit_xor (word * 2 % 65536) (taken (bit_xor (bit_at word 15) bit))
unfolding crc_bit
step-is word h = grind (arith, step_cases, mod_below, lit<)

taken-xor : (a b : ℕ) → a < 2 → b < 2 → taken (bit_xor a b) ≡ bit_xor (taken a) (taken b)
taken-xor (suc zero) (suc (suc b)) ha hb = absurd (omega arith)
taken-xor (suc (suc a)) b ha hb = absurd (omega arith)
taken-xor _ _ ha hb = refl

-- ---- exclusive or
xor_four : (a b c d : ℕ) → bit_xor (bit_xor a b) (bit_xor c d) ≡ bit_xor (bit_xor a c) (bit_xor b d)
xor_four a b c d =
    grind (
      arith,
      xor_assoc a b (bit_xor c d),
      bit_xor c d,
      bit_xor a,
      xor_assoc b c d,
      bit_xor,
      xor_comm b c,
      xor_assoc c b d,
      xor_assoc a c (bit_xor b d),
      bit_xor b d,
    )

top-xor : (a b : ℕ) → bit_at (bit_xor a b) 15 ≡ bit_xor (bit_at a 15) (bit_at b 15)
top-xor a b = ap (λ x. x % 2) (xor_shr a b 15) ∙ xor_mod (a / 2 ^ 15) (b / 2 ^ 15) 1

shifted-xor : (a b : ℕ) → bit_xor a b * 2 % 65536 ≡ bit_xor (a * 2 % 65536) (b * 2 % 65536)
shifted-xor a b =
    let twice : bit_xor (a * 2) (b * 2) ≡ bit_xor a b * 2 =
    rw (← add-zero (a * 2), ← add-zero (b * 2), ← add-zero (bit_xor a b * 2))
    (xor_block 1 a b 0 0 (lit< tt) (lit< tt)) in
    ap (λ x. x % 65536) (sym twice) ∙ xor_mod (a * 2) (b * 2) 16

-- a step from the exclusive or of two words, where the bit is added to the first word
step-xor : (a b : ℕ) {bit : ℕ} → bit < 2
    → crc_bit (bit_xor a b) bit ≡ bit_xor (crc_bit a bit) (crc_bit b 0)
step-xor a b h =
    search (
      arith,
      mod_below,
      lit<,
      bit_xor,
      xor_lt,
      top-xor,
      xor_zero_r,
      xor_four,
      step-is,
      shifted-xor,
      taken-xor,
    )

-- ---- all bits
-- as many zero bits as there are bits
abbrev zeros : List ℕ → List ℕ
zeros [] = []
zeros (bit ∷ rest) = 0 ∷ zeros rest

remainder-xor : (bs : List ℕ) (a b : ℕ) → AreBits bs
    → remainder (bit_xor a b) bs ≡ bit_xor (remainder a bs) (remainder b (zeros bs))
unfolding remainder
remainder-xor [] a b h = refl
remainder-xor (bit ∷ rest) a b h =
    grind (arith, step-xor, remainder-xor rest (crc_bit a bit) (crc_bit b 0) h.1)

-- no bits leave the word as it is
pub remainder-nil : (word : ℕ) → remainder word [] ≡ word
unfolding remainder
remainder-nil word = refl

-- joined bits are divided in order
pub remainder-append : (xs ys : List ℕ) (word : ℕ)
    → remainder word (xs ++ ys) ≡ remainder (remainder word xs) ys
unfolding remainder
remainder-append [] ys word = refl
remainder-append (x ∷ xs) ys word = remainder-append xs ys (crc_bit word x)

-- ---- tests of all numbers below a bound

abbrev eight_zeros : List ℕ
eight_zeros = 0 ∷ 0 ∷ 0 ∷ 0 ∷ 0 ∷ 0 ∷ 0 ∷ 0 ∷ []

-- ---- one byte, by tests of all bytes
-- a byte that is at the top of the word cancels itself
cancels : all_below 256 (λ b. eqb (remainder (b * 256) (bits_of 8 b)) 0) ≡ true
unfolding remainder crc_bit bits_of
cancels = refl

-- a word with a byte at the bottom has it at the top after eight zero bits
moves : all_below 256 (λ low. eqb (remainder low eight_zeros) (low * 256)) ≡ true
unfolding remainder crc_bit
moves = refl

-- the table for a byte that this many bytes follow
abbrev table : ℕ → List ℕ
table more = get_or REMAINDERS more []

-- the first table has what a byte at the top of the word leaves after eight zero bits
tabled : all_below 256 (λ b. eqb (remainder (b * 256) eight_zeros) (get_or (table 0) b 0)) ≡ true
unfolding remainder crc_bit
tabled = refl

zeros-bits_of : (byte : ℕ) → zeros (bits_of 8 byte) ≡ eight_zeros
unfolding bits_of
zeros-bits_of byte = refl

zeros_are_bits : AreBits eight_zeros
zeros_are_bits = grind (arith, lit<)

-- a word split into the byte that cancels, what that leaves of its upper byte, and its lower byte
module _ {word byte : ℕ} (small : word < 2 ^ 16) (few : byte < 256) where
  abbrev left : ℕ
  left = bit_xor (word / 256) byte

  left-below : left < 256
  left-below = xor_lt 8 (word / 256) byte (omega arith) few

  again : bit_xor byte left ≡ word / 256
  again = grind (arith, bit_xor, xor_comm, xor_assoc, xor_self)

  parts : word ≡ bit_xor (byte * 256) (bit_xor (left * 256) (word % 256))
  parts =
      let low : word % 256 < 256 = mod_below word 256 (lit< tt) in
      let both : bit_xor (byte * 256 + 0) (left * 256 + word % 256)
      ≡ bit_xor byte left * 256 + word % 256 = xor_block 8 byte left 0 (word % 256) (lit< tt) low in
      sym (ap (bit_xor (byte * 256)) (xor_shifted left 8 (word % 256) low)
      ∙ ap (λ x. bit_xor x (left * 256 + word % 256)) (sym (add-zero (byte * 256)))
      ∙ both
      ∙ ap (λ x. x * 256 + word % 256) again
      ∙ omega arith)

  -- dividing eight bits takes one look into the table
  pub remainder-byte : bit_xor (word * 256 % 65536) (get_or (table 0) (bit_xor (word / 256) byte) 0)
      ≡ remainder word (bits_of 8 byte)
  remainder-byte =
      let gone : remainder (byte * 256) (bits_of 8 byte) ≡ 0 = eqb-true _ _
      (all_below-pass 256 (λ b. eqb (remainder (b * 256) (bits_of 8 b)) 0) cancels few) in
      let moved : remainder (word % 256) eight_zeros ≡ word % 256 * 256 =
      eqb-true _ _ (all_below-pass 256 (λ low. eqb (remainder low eight_zeros) (low * 256)) moves
      (mod_below word 256 (lit< tt))) in
      let entry : remainder (left * 256) eight_zeros ≡ get_or (table 0) left 0 =
      eqb-true _ _ (all_below-pass 256
      (λ b. eqb (remainder (b * 256) eight_zeros) (get_or (table 0) b 0)) tabled left-below) in
      let lowest : word * 256 % 65536 ≡ word % 256 * 256 = omega arith in
      sym (ap (λ w. remainder w (bits_of 8 byte)) parts
      ∙ remainder-xor (bits_of 8 byte) (byte * 256) (bit_xor (left * 256) (word % 256))
      (AreBits-bits_of 8 byte)
      ∙ ap₂ bit_xor gone (ap (remainder (bit_xor (left * 256) (word % 256))) (zeros-bits_of byte))
      ∙ remainder-xor eight_zeros (left * 256) (word % 256) zeros_are_bits
      ∙ ap₂ bit_xor entry (moved ∙ sym lowest)
      ∙ xor_comm (get_or (table 0) left 0) (word * 256 % 65536))

-- ---- two and eight bytes, by a table for each

-- the word after eight zero bits
abbrev behind : ℕ → ℕ
behind word = remainder word eight_zeros

behind-xor : (a b : ℕ) → behind (bit_xor a b) ≡ bit_xor (behind a) (behind b)
behind-xor a b = remainder-xor eight_zeros a b zeros_are_bits

-- dividing a byte adds it at the top of the word
remainder-top : (word : ℕ) {byte : ℕ} → byte < 256
    → remainder word (bits_of 8 byte) ≡ behind (bit_xor word (byte * 256))
remainder-top word {byte} few =
    let gone : remainder (byte * 256) (bits_of 8 byte) ≡ 0 = eqb-true _ _
    (all_below-pass 256 (λ b. eqb (remainder (b * 256) (bits_of 8 b)) 0) cancels few) in
    let back : bit_xor (byte * 256) (bit_xor word (byte * 256)) ≡ word =
    grind (arith, bit_xor, xor_comm, xor_assoc, xor_self) in
    ap (λ w. remainder w (bits_of 8 byte)) (sym back)
    ∙ remainder-xor (bits_of 8 byte) (byte * 256) (bit_xor word (byte * 256))
    (AreBits-bits_of 8 byte)
    ∙ ap₂ bit_xor gone (ap (remainder (bit_xor word (byte * 256))) (zeros-bits_of byte))

-- a byte at the top of a word is added to the upper byte
over : (high : ℕ) {low : ℕ} (byte : ℕ) → low < 256
    → bit_xor (high * 256 + low) (byte * 256) ≡ bit_xor (bit_xor high byte * 256) low
over high {low} byte few =
    ap (bit_xor (high * 256 + low)) (sym (add-zero (byte * 256)))
    ∙ xor_block 8 high byte low 0 few (lit< tt)
    ∙ ap (λ x. bit_xor high byte * 256 + x) (xor_zero_r low)
    ∙ sym (xor_shifted (bit_xor high byte) 8 low few)

both_high : (a b : ℕ) → bit_xor (a * 256) (b * 256) ≡ bit_xor a b * 256
both_high a b = rw (← add-zero (a * 256), ← add-zero (b * 256), ← add-zero (bit_xor a b * 256))
    (xor_block 8 a b 0 0 (lit< tt) (lit< tt))

-- each table has what the entries of the table before it leave after eight more zero bits
abbrev follows : ℕ → Bool
follows k = all_below 256
    (λ b. eqb (remainder (get_or (table k) b 0) eight_zeros) (get_or (table (k + 1)) b 0))

all_follow : all_below 7 follows ≡ true
unfolding remainder crc_bit
all_follow = refl

next : {k byte : ℕ} → k < 7 → byte < 256
    → behind (get_or (table k) byte 0) ≡ get_or (table (k + 1)) byte 0
next {k} {byte} less few =
    eqb-true _ _ (all_below-pass 256 (λ b. eqb (remainder (get_or (table k) b 0) eight_zeros)
    (get_or (table (k + 1)) b 0)) (all_below-pass 7 follows all_follow less) few)

entry : (byte : ℕ) → byte < 256 → behind (byte * 256) ≡ get_or (table 0) byte 0
entry byte few = eqb-true _ _ (all_below-pass 256
    (λ b. eqb (remainder (b * 256) eight_zeros) (get_or (table 0) b 0)) tabled few)

module _ {word a b : ℕ} (small : word < 2 ^ 16) (a_few : a < 256) (b_few : b < 256) where
  -- what is added to the upper byte of the word, and what is added to the lower
  abbrev upper : ℕ
  upper = bit_xor (word / 256) a

  abbrev lower : ℕ
  lower = bit_xor (word % 256) b

  after_a : remainder word (bits_of 8 a) ≡ bit_xor (behind (upper * 256)) (word % 256 * 256)
  after_a =
      let low : word % 256 < 256 = mod_below word 256 (lit< tt) in
      let whole : word ≡ word / 256 * 256 + word % 256 = omega arith in
      let moved : behind (word % 256) ≡ word % 256 * 256 = eqb-true _ _ (all_below-pass 256
      (λ low. eqb (remainder low eight_zeros) (low * 256)) moves low) in
      remainder-top word a_few
      ∙ ap behind (ap (λ w. bit_xor w (a * 256)) whole ∙ over (word / 256) a low)
      ∙ behind-xor (upper * 256) (word % 256)
      ∙ ap (bit_xor (behind (upper * 256))) moved

  after_b : remainder (remainder word (bits_of 8 a)) (bits_of 8 b)
      ≡ bit_xor (behind (behind (upper * 256))) (behind (lower * 256))
  after_b = grind (arith, after_a, remainder-top, bit_xor, xor_assoc, both_high, behind-xor)

  upper_few : upper < 256
  upper_few = xor_lt 8 (word / 256) a (omega (arith, small)) a_few

  lower_few : lower < 256
  lower_few = xor_lt 8 (word % 256) b (mod_below word 256 (lit< tt)) b_few

  -- dividing two bytes takes one look into each of two tables
  pub remainder-two : bit_xor (get_or (table 1) (bit_xor (word / 256) a) 0) (get_or (table 0)
      (bit_xor (word % 256) b) 0) ≡ remainder (remainder word (bits_of 8 a)) (bits_of 8 b)
  remainder-two = sym (after_b ∙ ap₂ bit_xor (ap behind (entry upper upper_few)
      ∙ next {k = 0} {byte = upper} (lit< tt) upper_few) (entry lower lower_few))

-- dividing a byte after other bytes
remainder-push : (word : ℕ) {byte : ℕ} (xs : List ℕ) → byte < 256
    → remainder word (bits (xs ++ byte ∷ []))
    ≡ bit_xor (behind (remainder word (bits xs))) (get_or (table 0) byte 0)
remainder-push word xs few =
    grind (arith, bits-append, bits-one, remainder-append, remainder-top, behind-xor, entry)

-- two bytes are divided in order
pub remainder-pair : (word a b : ℕ)
    → remainder word (bits (a ∷ b ∷ [])) ≡ remainder (remainder word (bits_of 8 a)) (bits_of 8 b)
remainder-pair word a b =
    ap (remainder word)
    (bits-append (a ∷ []) (b ∷ []) ∙ ap₂ (λ xs ys. xs ++ ys) (bits-one a) (bits-one b))
    ∙ remainder-append (bits_of 8 a) (bits_of 8 b) word

-- eight bytes, the first two of which are added to the word
module _ {word a b c d e f g h : ℕ} (small : word < 2 ^ 16) (a_few : a < 256) (b_few : b < 256)
    (c_few : c < 256) (d_few : d < 256) (e_few : e < 256) (f_few : f < 256) (g_few : g < 256)
    (h_few : h < 256) where
  abbrev high : ℕ
  high = bit_xor (word / 256) a

  abbrev low : ℕ
  low = bit_xor (word % 256) b

  high_few : high < 256
  high_few = xor_lt 8 (word / 256) a (omega (arith, small)) a_few

  low_few : low < 256
  low_few = xor_lt 8 (word % 256) b (mod_below word 256 (lit< tt)) b_few

  behind_2 : remainder word (bits (a ∷ b ∷ []))
      ≡ bit_xor (get_or (table 1) high 0) (get_or (table 0) low 0)
  behind_2 = remainder-pair word a b ∙ sym (remainder-two small a_few b_few)

  behind_3 : remainder word (bits (a ∷ b ∷ c ∷ []))
      ≡ bit_xor (bit_xor (get_or (table 2) high 0) (get_or (table 1) low 0)) (get_or (table 0) c 0)
  behind_3 =
      remainder-push word {byte = c} (a ∷ b ∷ []) c_few
      ∙ ap (λ w. bit_xor w (get_or (table 0) c 0)) (ap behind behind_2 ∙ behind-xor _ _
      ∙ ap₂ bit_xor (next {k = 1} {byte = high} (lit< tt) high_few)
      (next {k = 0} {byte = low} (lit< tt) low_few))

  behind_4 : remainder word (bits (a ∷ b ∷ c ∷ d ∷ []))
      ≡ bit_xor (bit_xor (bit_xor (get_or (table 3) high 0) (get_or (table 2) low 0))
      (get_or (table 1) c 0)) (get_or (table 0) d 0)
  behind_4 =
      remainder-push word {byte = d} (a ∷ b ∷ c ∷ []) d_few
      ∙ ap (λ w. bit_xor w (get_or (table 0) d 0))
      (ap behind behind_3 ∙ behind-xor _ _ ∙ ap₂ bit_xor (behind-xor _ _ ∙ ap₂ bit_xor
      (next {k = 2} {byte = high} (lit< tt) high_few) (next {k = 1} {byte = low} (lit< tt) low_few))
      (next {k = 0} {byte = c} (lit< tt) c_few))

  behind_5 : remainder word (bits (a ∷ b ∷ c ∷ d ∷ e ∷ []))
      ≡ bit_xor (bit_xor (bit_xor (bit_xor (get_or (table 4) high 0) (get_or (table 3) low 0))
      (get_or (table 2) c 0)) (get_or (table 1) d 0)) (get_or (table 0) e 0)
  behind_5 =
      remainder-push word {byte = e} (a ∷ b ∷ c ∷ d ∷ []) e_few
      ∙ ap (λ w. bit_xor w (get_or (table 0) e 0))
      (ap behind behind_4 ∙ behind-xor _ _ ∙ ap₂ bit_xor (behind-xor _ _ ∙ ap₂ bit_xor
      (behind-xor _ _ ∙ ap₂ bit_xor (next {k = 3} {byte = high} (lit< tt) high_few)
      (next {k = 2} {byte = low} (lit< tt) low_few))
      (next {k = 1} {byte = c} (lit< tt) c_few)) (next {k = 0} {byte = d} (lit< tt) d_few))

  behind_6 : remainder word (bits (a ∷ b ∷ c ∷ d ∷ e ∷ f ∷ []))
      ≡ bit_xor
      (bit_xor (bit_xor (bit_xor (bit_xor (get_or (table 5) high 0) (get_or (table 4) low 0))
      (get_or (table 3) c 0)) (get_or (table 2) d 0)) (get_or (table 1) e 0)) (get_or (table 0) f 0)
  behind_6 =
      remainder-push word {byte = f} (a ∷ b ∷ c ∷ d ∷ e ∷ []) f_few
      ∙ ap (λ w. bit_xor w (get_or (table 0) f 0)) (ap behind behind_5 ∙ behind-xor _ _
      ∙ ap₂ bit_xor (behind-xor _ _ ∙ ap₂ bit_xor (behind-xor _ _ ∙ ap₂ bit_xor
      (behind-xor _ _ ∙ ap₂ bit_xor (next {k = 4} {byte = high} (lit< tt) high_few)
      (next {k = 3} {byte = low} (lit< tt) low_few))
      (next {k = 2} {byte = c} (lit< tt) c_few)) (next {k = 1} {byte = d} (lit< tt) d_few))
      (next {k = 0} {byte = e} (lit< tt) e_few))

  behind_7 : remainder word (bits (a ∷ b ∷ c ∷ d ∷ e ∷ f ∷ g ∷ []))
      ≡ bit_xor (bit_xor (bit_xor (bit_xor (bit_xor (bit_xor (get_or (table 6) high 0)
      (get_or (table 5) low 0)) (get_or (table 4) c 0)) (get_or (table 3) d 0))
      (get_or (table 2) e 0)) (get_or (table 1) f 0)) (get_or (table 0) g 0)
  behind_7 =
      remainder-push word {byte = g} (a ∷ b ∷ c ∷ d ∷ e ∷ f ∷ []) g_few
      ∙ ap (λ w. bit_xor w (get_or (table 0) g 0))
      (ap behind behind_6 ∙ behind-xor _ _ ∙ ap₂ bit_xor (behind-xor _ _ ∙ ap₂ bit_xor
      (behind-xor _ _ ∙ ap₂ bit_xor (behind-xor _ _ ∙ ap₂ bit_xor (behind-xor _ _ ∙ ap₂ bit_xor
      (next {k = 5} {byte = high} (lit< tt) high_few) (next {k = 4} {byte = low} (lit< tt) low_few))
      (next {k = 3} {byte = c} (lit< tt) c_few))
      (next {k = 2} {byte = d} (lit< tt) d_few)) (next {k = 1} {byte = e} (lit< tt) e_few))
      (next {k = 0} {byte = f} (lit< tt) f_few))

  -- dividing eight bytes takes one look into each of eight tables
  pub remainder-eight : remainder word (bits (a ∷ b ∷ c ∷ d ∷ e ∷ f ∷ g ∷ h ∷ []))
      ≡ bit_xor (bit_xor (bit_xor (bit_xor (bit_xor (bit_xor (bit_xor (get_or (table 7) high 0)
      (get_or (table 6) low 0)) (get_or (table 5) c 0)) (get_or (table 4) d 0))
      (get_or (table 3) e 0)) (get_or (table 2) f 0)) (get_or (table 1) g 0)) (get_or (table 0) h 0)
  remainder-eight =
      remainder-push word {byte = h} (a ∷ b ∷ c ∷ d ∷ e ∷ f ∷ g ∷ []) h_few
      ∙ ap (λ w. bit_xor w (get_or (table 0) h 0))
      (ap behind behind_7 ∙ behind-xor _ _ ∙ ap₂ bit_xor (behind-xor _ _ ∙ ap₂ bit_xor
      (behind-xor _ _ ∙ ap₂ bit_xor (behind-xor _ _ ∙ ap₂ bit_xor (behind-xor _ _ ∙ ap₂ bit_xor
      (behind-xor _ _ ∙ ap₂ bit_xor (next {k = 6} {byte = high} (lit< tt) high_few)
      (next {k = 5} {byte = low} (lit< tt) low_few))
      (next {k = 4} {byte = c} (lit< tt) c_few)) (next {k = 3} {byte = d} (lit< tt) d_few))
      (next {k = 2} {byte = e} (lit< tt) e_few))
      (next {k = 1} {byte = f} (lit< tt) f_few)) (next {k = 0} {byte = g} (lit< tt) g_few))

-- ---- bytes
-- one byte more is divided after those before it
pub remainder-more : (word : ℕ) (xs : List ℕ) {i : ℕ} → i < length xs
    → remainder (remainder word (bits (take i xs))) (bits_of 8 (get_or xs i 0))
    ≡ remainder word (bits (take (i + 1) xs))
remainder-more word xs {i} h =
    sym (remainder-append (bits (take i xs)) (bits_of 8 (get_or xs i 0)) word)
    ∙ ap (remainder word)
    (ap (λ bs. bits (take i xs) ++ bs) (sym (bits-one (get_or xs i 0)))
    ∙ sym (bits-append (take i xs) (get_or xs i 0 ∷ []))
    ∙ ap bits (sym (take_more xs i 0 h)))

-- joined bytes are divided in order
pub remainder-bits_append : (word : ℕ) (xs ys : List ℕ)
    → remainder (remainder word (bits xs)) (bits ys) ≡ remainder word (bits (xs ++ ys))
remainder-bits_append word xs ys = grind (arith, remainder-append, bits-append)

-- dividing the first eight of some bytes takes one look into each of eight tables
pub eight_list : {word : ℕ} (xs : List ℕ) → word < 2 ^ 16 → ((i : ℕ) → get_or xs i 0 < 256)
    → 8 ≤ length xs
    → bit_xor (bit_xor (bit_xor (bit_xor (bit_xor (bit_xor (bit_xor (get_or (table 7) (bit_xor
    (word / 256) (get_or xs 0 0)) 0) (get_or (table 6) (bit_xor (word % 256) (get_or xs 1 0)) 0))
    (get_or (table 5) (get_or xs 2 0) 0)) (get_or (table 4) (get_or xs 3 0) 0)) (get_or (table 3)
    (get_or xs 4 0) 0)) (get_or (table 2) (get_or xs 5 0) 0)) (get_or (table 1) (get_or xs 6 0) 0))
    (get_or (table 0) (get_or xs 7 0) 0) ≡ remainder word (bits (take 8 xs))
eight_list xs small few long = grind (arith, remainder-eight)

-- eight bytes more are divided after those before them
pub remainder-eight_more : (word : ℕ) (xs : List ℕ) (at : ℕ)
    → remainder (remainder word (bits (take at xs))) (bits (take 8 (take 8 (drop at xs))))
    ≡ remainder word (bits (take (at + 8) xs))
remainder-eight_more word xs at =
    ap (λ ys. remainder (remainder word (bits (take at xs))) (bits ys))
    (take-take 8 8 (drop at xs) (omega arith))
    ∙ remainder-bits_append word (take at xs) (take 8 (drop at xs))
    ∙ ap (λ ys. remainder word (bits ys)) (ap₂ (λ ys zs. ys ++ zs) (sym (take-take at (at + 8) xs
    (omega arith))) (sym (drop-take at 8 xs)) ∙ take-append-drop at (take (at + 8) xs))

-- the last two of four bytes are divided in order
pub two_list : (word : ℕ) (xs : List ℕ) → length xs ≡ 4
    → remainder (remainder word (bits_of 8 (get_or xs 2 0))) (bits_of 8 (get_or xs 3 0))
    ≡ remainder word (bits (drop 2 xs))
two_list word (a ∷ b ∷ c ∷ d ∷ []) long = sym (remainder-pair word c d)
two_list word (a ∷ b ∷ c ∷ d ∷ e ∷ rest) long = absurd (omega (arith, long))
two_list word _ long = absurd (omega (arith, long))
