-- The lengths for the bit rate indexes before this one.
use Rattle.std.proofs.Common.{false, get_or, length, ℕ, ◌+◌, ◌<◌, ◌≡◌}
use Rattle.frame_header.specs.{Slots.slot_of, Tables.length_of}
use Rattle.slot_plan.proofs.lengths.Lengths.new.Given as goal

abbrev pub invariant-loop-place : goal.invariant-loop-place
invariant-loop-place l = record {
  many : length l.by_index ≡ 14;
  lengths : (k : ℕ) → k < l.place
      → get_or l.by_index k 0 ≡ length_of l.class (slot_of (k + 1) false);
}
