-- The places so far.
use Rattle.std.proofs.Common.{length, map, take, ◌≡◌, ◌≤◌}
use Rattle.job_words.specs.{Code.value_said, Kinds.exact_said}
use Rattle.job_words.proofs.forms.exact_places_of.Given as goal

abbrev pub invariant-loop-value : goal.invariant-loop-value
invariant-loop-value l =
    (l.places.items ≡ map exact_said (map value_said (take l.value-index l.values)))
    × (length l.places.items ≡ l.value-index) × (length l.values ≤ 100)
