-- The kinds so far, and the room that is left.
use Rattle.std.proofs.Common.{length, replicate, ◌++◌, ◌+◌, ◌≡◌, ◌≤◌}
use Rattle.job_words.proofs.forms.repeat.Given as goal

abbrev pub invariant-loop : goal.invariant-loop
invariant-loop l = (l.kinds.items ≡ l.initial.kinds.items ++ replicate l.counter l.kind)
    × (length l.kinds.items ≡ length l.initial.kinds.items + l.counter)
    × (length l.initial.kinds.items + l.count ≤ 112)
