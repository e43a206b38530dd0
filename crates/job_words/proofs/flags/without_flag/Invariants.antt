-- The others so far.
use Rattle.std.proofs.Common.{length, take, ◌≡◌, ◌≤◌}
use Rattle.job_words.specs.Flags.{without_flag}
use Rattle.job_words.proofs.flags.without_flag.Given as goal

abbrev pub invariant-loop-other : goal.invariant-loop-other
invariant-loop-other l = (l.others.items ≡ without_flag l.flag (take l.other-index l.flags))
    × (length l.others.items ≤ l.other-index) × (length l.flags ≤ 4)
