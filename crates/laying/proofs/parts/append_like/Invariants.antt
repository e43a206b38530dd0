-- The needs of the frames up to here were added, and there is room for those of the others.
use Rattle.std.proofs.Common.{length, map, take, vec_capacity, vec_len, ◌++◌, ◌+◌, ◌≡◌, ◌≤◌}
use Rattle.laying.specs.Needs.{need_of}
use Rattle.laying.proofs.parts.append_like.Given as goal

abbrev pub invariant-loop-row : goal.invariant-loop-row
invariant-loop-row l = record {
  added : l.needs.items ≡ l.initial.needs.items ++ map need_of (take l.row-index l.rows);
  count : vec_len l.needs ≡ vec_len l.initial.needs + l.row-index;
  room : vec_len l.initial.needs + length l.rows ≤ vec_capacity l.needs;
}
