-- The flags that are left decide.
use Rattle.std.{proofs.Common.{drop, ◌≡◌}, specs.Prelude.find}
use Rattle.job_words.specs.Flags.{begins_flag}
use Rattle.job_words.proofs.flags.flag_with.Given as goal

abbrev pub invariant-loop-flag : goal.invariant-loop-flag
invariant-loop-flag l =
    find (begins_flag l.word) l.flags ≡ find (begins_flag l.word) (drop l.flag-index l.flags)
