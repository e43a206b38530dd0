-- The lengths of a class, computed once for all frames of a plan.
use Rattle.std.specs.Prelude.{false, length, List, slice_index, true, ℕ, ◌+◌, ◌<◌, ◌≡◌}
use Rattle.frame_header.specs.{Fields.{ClassFields, IsClass}, Slots.slot_of}
use Rattle.frame_header.specs.Tables.{length_of, overhead_of}

-- the lengths without padding for the 14 bit rate indexes, and the
-- number of bytes before an area, without a check word and with it
pub record AreLengths (class : ClassFields) (by_index : List ℕ)
    (unprotected protected : ℕ) : Type 0 where
  pub known : IsClass class
  pub many : length by_index ≡ 14
  pub lengths : (k : ℕ) → k < 14 → slice_index by_index k ≡ length_of class (slot_of (k + 1) false)
  pub without : unprotected ≡ overhead_of class false
  pub checked : protected ≡ overhead_of class true
