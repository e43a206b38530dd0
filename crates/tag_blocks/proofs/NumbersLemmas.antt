-- Little-endian numbers of 32 bits, and their bytes.
use Rattle.std.proofs.{Common.{arith, get_or, length, List, ℕ, ◌<◌, ◌≡◌}, lemmas.Nat.le_bytes_4}
use Rattle.byteorder.specs.Endian.{little_bytes, little_number}

-- the number of four bytes is written as these bytes
pub little_bytes-little_number : {four : List ℕ} → length four ≡ 4
    → ((i : ℕ) → get_or four i 0 < 256) → little_bytes 4 (little_number 4 four) ≡ four
little_bytes-little_number {four} l all = le_bytes_4 four (little_number 4 four) l all (omega arith)
