-- The flags that are given so far, and those that may follow.
use Rattle.std.proofs.Common.{drop, length, map, string_bytes, ◌++◌, ◌-◌, ◌≡◌, ◌≤◌}
use Rattle.job_words.specs.Flags.{leading_flags, leading_flags_up_to}
use Rattle.job_words.proofs.flags.leading_flags.Given as goal

abbrev pub invariant-loop : goal.invariant-loop
invariant-loop l = (l.given.items ++ leading_flags_up_to (length l.flags - l.counter)
    l.left.items (map string_bytes l.rest)
    ≡ leading_flags l.flags (drop 1 (map string_bytes l.words)))
    × (length l.given.items ≤ l.counter) × (length l.flags ≤ 4)
