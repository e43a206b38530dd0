-- The places before are counted, and the frames that are left take the others.
use Rattle.std.proofs.Common.{drop, ◌+◌, ◌≡◌}
use Rattle.laying.specs.Places.{places_for}
use Rattle.laying.proofs.relay.places_for.Given as goal

abbrev pub invariant-loop-place : goal.invariant-loop-place
invariant-loop-place l = record {
  counted : l.count ≡ l.place-index;
  rest : places_for l.fn.frames l.placed
      ≡ l.count + places_for l.left (drop l.place-index l.placed);
}
