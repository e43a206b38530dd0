-- The positions before are places.
use Rattle.std.proofs.Common.{map, take, ◌≡◌}
use Rattle.exact_span.specs.declared.exact_place.ExactPlace.TheVariants.{Place as Position}
use Rattle.split_edits.proofs.exact_points.exact_places.Given as goal

abbrev pub invariant-loop-position : goal.invariant-loop-position
invariant-loop-position l = l.places.items ≡ map Position (take l.position-index l.positions)
