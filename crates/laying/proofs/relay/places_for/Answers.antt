-- The places of the plan, in order.
use Rattle.std.proofs.{Common.arith, lemmas.List.drop_all}
use Rattle.laying.proofs.PlacesLemmas.{behind-frame, behind-lead, places-end, places-next}
use Rattle.laying.proofs.{PlacesLemmas.places-none, RelayLemmas.item-next}
use Rattle.laying.proofs.relay.places_for.Goals as goal

pub returns-then-left-eq0-clause-places : goal.returns-then-left-eq0-clause-places
returns-then-left-eq0-clause-places c = grind (arith, places-none)

pub loop-place-preserved : goal.loop-place-preserved
loop-place-preserved c = grind (arith, item-next, behind-frame, behind-lead, places-next)

pub returns-clause-places : goal.returns-clause-places
returns-clause-places c = grind (arith, drop_all, places-end)
