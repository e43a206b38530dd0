-- The positions that a sheet lists are places of samples.
use Rattle.std.proofs.Common.{ap, map, ◌∙◌}
use Rattle.exact_span.specs.declared.exact_place.ExactPlace.TheVariants.{Place as Position}
use Rattle.split_edits.proofs.SheetLemmas.{exact-sound}
use Rattle.split_edits.proofs.exact_points.ExactPointsCut.places.Goals as goal

pub returns-in_ok-places-in-Sheet-clause-sound : goal.returns-in_ok-places-in-Sheet-clause-sound
returns-in_ok-places-in-Sheet-clause-sound g c =
    rw (c.in_ok-places-in-Sheet.ensures
    ∙ ap (map Position) c.as_slice.ensures.value) (exact-sound
    c.in_ok-positions-in-Sheet.positions.items c.in_ok-positions-in-Sheet.ensures.positions)
