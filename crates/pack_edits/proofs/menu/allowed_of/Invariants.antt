-- The slots so far that are allowed.
use Rattle.std.proofs.Common.{filter, take, ◌≡◌, ◌≤◌}
use Rattle.arrayvec.specs.ArrayVec.{array_vec_len}
use Rattle.pack_edits.specs.Rates.{allows}
use Rattle.pack_edits.proofs.menu.allowed_of.Given as goal

abbrev pub invariant-loop-slot : goal.invariant-loop-slot
invariant-loop-slot l = record {
  items : l.menu.items ≡ filter (allows l.mode l.class) (take l.slot-index l.slots);
  count : array_vec_len l.menu ≤ l.slot-index;
}
