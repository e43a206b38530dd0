-- The slots of the bit rate indexes so far.
use Rattle.std.proofs.Common.{◌*◌, ◌-◌, ◌≡◌}
use Rattle.arrayvec.specs.ArrayVec.{array_vec_len}
use Rattle.frame_header.specs.Slots.{slots_to}
use Rattle.frame_header.proofs.class.Class.slots.Given as goal

abbrev pub invariant-loop-rate_index : goal.invariant-loop-rate_index
invariant-loop-rate_index l = record {
  items : l.slots.items ≡ slots_to (l.rate_index - 1);
  count : array_vec_len l.slots ≡ 2 * (l.rate_index - 1);
}
