-- The areas of the slots so far.
use Rattle.std.proofs.Common.{All, map, take, ◌≡◌, ◌≤◌}
use Rattle.arrayvec.specs.ArrayVec.{array_vec_len}
use Rattle.frame_header.specs.Tables.{area_of}
use Rattle.best_plan.proofs.choice.areas_among.Given as goal

abbrev pub invariant-loop-slot : goal.invariant-loop-slot
invariant-loop-slot l = record {
  items : l.areas.items ≡ map (λ s. area_of l.lengths s l.protected) (take l.slot-index l.slots);
  count : array_vec_len l.areas ≡ l.slot-index;
  most : All (λ n. n ≤ 1441) l.areas.items;
}
