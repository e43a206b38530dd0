-- Words of 64 bits, put in place, and put together from parts of numbers.
use Rattle.std.proofs.Common.{append-nil, append_assoc, arith, drop, length, List, set, take}
use Rattle.std.proofs.Common.{take-append-drop, ℕ, ◌%◌, ◌*◌, ◌++◌, ◌+◌, ◌-◌, ◌/◌, ◌<◌, ◌^◌, ◌≡◌}
use Rattle.std.proofs.{Common.◌≤◌, lemmas.List.{drop-set, take-set}}
use Rattle.std.proofs.lemmas.Nat.{mod-pow-add, mod_below, mul-add-lt, pow-add, pow_pos, shl-shr}
use Rattle.std.proofs.lemmas.Nat.{shr_below}
use Rattle.bit_fields.proofs.BitsLemmas.{bits-append, bits-cons, bits_of-add, bits_of-cat}
use Rattle.bit_fields.proofs.BitsLemmas.{bits_of-mod, drop-bits, take-bits}
use Rattle.bit_fields.{proofs.GroupsLemmas.{length-put, take-put}, specs.Bits.{bits, bits_of}}

-- putting whole bytes in place puts their bits in place
pub put_bytes : (xs ys : List ℕ) {vs : List ℕ} (place count : ℕ) → bits ys ≡ vs
    → bits (take place xs ++ (ys ++ drop (place + count) xs))
    ≡ take (8 * place) (bits xs) ++ vs ++ drop (8 * place + 8 * count) (bits xs)
put_bytes xs ys {vs} place count e =
    grind (
      arith,
      bits-append (take place xs) (ys ++ drop (place + count) xs),
      take-bits place xs,
      bits-append ys (drop (place + count) xs),
      drop-bits (place + count) xs,
      append_assoc (take (8 * place) (bits xs)) vs (drop (8 * place + 8 * count) (bits xs)),
    )

-- setting one byte sets its eight bits
pub bits-set : (xs : List ℕ) {place : ℕ} (word : ℕ) → place < length xs
    → bits (set xs place (word % 256))
    ≡ take (8 * place) (bits xs) ++ bits_of 8 word ++ drop (8 * place + 8) (bits xs)
bits-set xs {place} word within =
    grind (
      arith,
      take-append-drop place (set xs place (word % 256)),
      set xs place (word % 256),
      bits-append (take place (set xs place (word % 256))) (drop place (set xs place (word %
          256))),
      take-set xs place (word % 256),
      take-bits place xs,
      drop-set xs place (word % 256)
          within,
      bits-cons (word % 256) (drop (place + 1) xs),
      bits_of-mod 8 word,
      drop-bits (place
          + 1) xs,
      append_assoc (take (8 * place) (bits xs)) (bits_of 8 word) (drop (8 * place + 8)
          (bits xs)),
    )

-- ---- the lowest bits of one number, and after them the highest of another
module _ (above : ℕ) {kept below : ℕ} (left : ℕ) (few : kept < 64)
    (fits : below < 2 ^ (64 - kept + left)) where
  upper : above * 2 ^ (64 - kept) % 2 ^ 64 ≡ above % 2 ^ kept * 2 ^ (64 - kept)
  upper =
      grind (
        arith,
        mod-pow-add (above * 2 ^ (64 - kept)) kept (64 - kept),
        shl-shr above (64 - kept),
      )

  lower : below / 2 ^ left < 2 ^ (64 - kept)
  lower = shr_below below (64 - kept) left fits

  -- the two parts together fit in 64 bits
  pub spanned_below : above * 2 ^ (64 - kept) % 2 ^ 64 + below / 2 ^ left < 2 ^ 64
  spanned_below =
      grind (
        arith,
        pow-add 2 (64 - kept) kept,
        upper,
        mul-add-lt (above % 2 ^ kept) (2 ^ (64 -
            kept)) (below / 2 ^ left) (2 ^ kept) (mod_below above (2 ^ kept) (pow_pos kept)) lower,
      )

  -- the word has the lowest bits of the one number, followed by the highest of the other
  pub spanned_bits : bits_of 64 (above * 2 ^ (64 - kept) % 2 ^ 64 + below / 2 ^ left)
      ≡ bits_of kept above ++ bits_of (64 - kept) (below / 2 ^ left)
  spanned_bits =
      grind (
        arith,
        upper,
        bits_of-cat kept (64 - kept) (above % 2 ^ kept) lower,
        bits_of-mod kept above,
      )

module _ (word size high low n : ℕ) (cs : List ℕ) where
  -- a number whose highest bits end one word continues in the next
  pub into_word : (bs : List ℕ) → size ≡ high + low
      → bits_of 64 word ≡ cs ++ bits_of high (n / 2 ^ low)
      → cs ++ (bits_of size n ++ bs) ≡ bits_of 64 word ++ (bits_of low n ++ bs)
  into_word bs e is = grind (arith, bits_of-add, append_assoc)

  -- the same where nothing follows
  pub into_last : size ≡ high + low → bits_of 64 word ≡ cs ++ bits_of high (n / 2 ^ low)
      → cs ++ bits_of size n ≡ bits_of 64 word ++ bits_of low n
  into_last e is = grind (arith, append-nil (bits_of size n), into_word, append-nil (bits_of low n))

-- what was put in place follows what is before it
pub put_next : (b0 : List ℕ) {b1 done : List ℕ} (at width value : ℕ) → take at b0 ≡ done
    → at + width ≤ length b0 → b1 ≡ take at b0 ++ bits_of width value ++ drop (at + width) b0
    → (take (at + width) b1 ≡ done ++ bits_of width value) × (length b1 ≡ length b0)
put_next b0 at width value before room e = grind (arith, take-put, length-put)
