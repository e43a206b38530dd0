-- The stretches so far, and the values that are left for others.
use Rattle.std.proofs.Common.{length, map, ◌*◌, ◌++◌, ◌+◌, ◌≡◌, ◌≤◌}
use Rattle.std.specs.Slice.Iter.{chunks_exact_rest, chunks_exact_size}
use Rattle.job_words.specs.{Code.value_said, Forms.pairs_of, Kinds.exact_said}
use Rattle.job_words.proofs.forms.stretches_of.Given as goal

abbrev pub invariant-loop-pair : goal.invariant-loop-pair
invariant-loop-pair l = (goal.iterator-loop-pair).can_next l.pair-iterator
    × (goal.iterator-loop-pair).is_finite l.pair-iterator
    × (chunks_exact_size l.pair-iterator ≡ 2)
    × (l.stretches.items
    ++ pairs_of (map exact_said (map value_said (chunks_exact_rest l.pair-iterator)))
    ≡ pairs_of (map exact_said (map value_said l.values)))
    × (2 * length l.stretches.items + length (chunks_exact_rest l.pair-iterator) ≤ 100)
