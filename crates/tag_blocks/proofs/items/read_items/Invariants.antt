-- The items so far are the first of all, and the others are after them.
use Rattle.std.proofs.Common.{drop, false, length, ◌++◌, ◌-◌, ◌≡◌, ◌≤◌}
use Rattle.tag_blocks.specs.Items.{tag_items_from}
use Rattle.tag_blocks.proofs.items.read_items.Given as goal

abbrev pub invariant-loop : goal.invariant-loop
invariant-loop l = record {
  read : tag_items_from l.count false l.bytes
      ≡ l.items.items ++ tag_items_from (l.count - l.counter) l.met (drop l.passed l.bytes);
  within : l.passed ≤ length l.bytes;
}
