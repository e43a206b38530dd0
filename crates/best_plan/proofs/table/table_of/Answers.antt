-- One more frame, from the last to the first.
use Rattle.std.proofs.Common.{arith, rules}
use Rattle.best_plan.proofs.WalkLemmas.{table-more, table-none, table-width}
use Rattle.slot_plan.proofs.PartLemmas.{same-class}
use Rattle.best_plan.proofs.table.table_of.Goals as goal

pub loop-i-init : goal.loop-i-init
loop-i-init g c = grind (arith, table-none)

pub areas_of-areas-requires : goal.areas_of-areas-requires
areas_of-areas-requires g c = grind (arith, same-class)

pub append_frame-requires-clause-row : goal.append_frame-requires-clause-row
append_frame-requires-clause-row g c = record {
  choices = search rules;
  width = grind (arith, table-width);
}

pub loop-i-preserved : goal.loop-i-preserved
loop-i-preserved g c = search (arith, table-more)
