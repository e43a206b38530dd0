-- The name is these texts exactly if the rest of it is the texts that are left.
use Rattle.std.proofs.Common.{bytes_eq, drop, flat_map, ◌≡◌}
use Rattle.requests.proofs.names.is_joined.Given as goal

abbrev pub invariant-loop-part : goal.invariant-loop-part
invariant-loop-part l =
    bytes_eq l.name (flat_map (λ part. part.now) l.parts)
    ≡ bytes_eq l.rest (flat_map (λ part. part.now) (drop l.part-index l.parts))
