-- The bits of bytes, the most significant first, and the number that bits spell.
use Rattle.std.specs.Int.{bit_at}
use Rattle.std.specs.Prelude.{length, List, suc, zero, ℕ, [], ◌*◌, ◌++◌, ◌+◌, ◌<◌, ◌^◌, ◌∷◌}

-- the lowest `width` bits of a number, the most significant first
unfoldable pub bits_of : ℕ → ℕ → List ℕ
bits_of zero n = []
bits_of (suc width) n = bit_at n width ∷ bits_of width n

-- the number that bits spell
unfoldable pub number : List ℕ → ℕ
number [] = 0
number (bit ∷ rest) = bit * 2 ^ length rest + number rest

-- the bits of bytes, eight for each, the most significant first, as the syntax tables of ISO/IEC
-- 11172-3, 2.4.1 read them
unfoldable pub bits : List ℕ → List ℕ
bits [] = []
bits (byte ∷ rest) = bits_of 8 byte ++ bits rest

-- the bytes that bits spell, eight bits for each
unfoldable pub bytes : List ℕ → List ℕ
bytes (a ∷ b ∷ c ∷ d ∷ e ∷ f ∷ g ∷ h ∷ rest) =
    number (a ∷ b ∷ c ∷ d ∷ e ∷ f ∷ g ∷ h ∷ []) ∷ bytes rest
bytes rest = []

-- each is below a limit
abbrev pub AreBelow : ℕ → List ℕ → Type 0
AreBelow limit [] = Unit {0}
AreBelow limit (n ∷ rest) = (n < limit) × AreBelow limit rest

-- each is 0 or 1
abbrev pub AreBits : List ℕ → Type 0
AreBits bits = AreBelow 2 bits

-- each is below 256
abbrev pub AreBytes : List ℕ → Type 0
AreBytes bytes = AreBelow 256 bytes
