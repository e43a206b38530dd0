-- The part is placed after its lead-in.
use Rattle.std.proofs.{Common.arith, lemmas.Result.IfOk-weaker}
use Rattle.slot_plan.proofs.{PartLemmas.reserve_before-first, PlacedLemmas.led-of}
use Rattle.slot_plan.proofs.TableLemmas.{table-within}
use Rattle.slot_plan.proofs.placing.place_behind_lead_in.Goals as goal

pub least_slot-slot-requires : goal.least_slot-slot-requires
least_slot-slot-requires g c = grind (arith, reserve_before-first, table-within)

pub returns-clause-placed : goal.returns-clause-placed
returns-clause-placed g c = search (arith, IfOk-weaker, led-of)
