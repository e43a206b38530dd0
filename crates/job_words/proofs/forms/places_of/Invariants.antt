-- The positions so far.
use Rattle.std.proofs.Common.{length, map, take, ◌≡◌, ◌≤◌}
use Rattle.job_words.specs.{Code.value_said, Kinds.place_said}
use Rattle.job_words.proofs.forms.places_of.Given as goal

abbrev pub invariant-loop-value : goal.invariant-loop-value
invariant-loop-value l =
    (l.places.items ≡ map place_said (map value_said (take l.value-index l.values)))
    × (length l.places.items ≡ l.value-index) × (length l.values ≤ 100)
