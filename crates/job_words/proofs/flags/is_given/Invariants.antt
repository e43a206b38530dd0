-- None so far is the flag.
use Rattle.std.{proofs.Common.{false, take, ◌≡◌}, specs.List.list_any}
use Rattle.job_words.specs.Flags.{begins_flag, first_word}
use Rattle.job_words.proofs.flags.is_given.Given as goal

abbrev pub invariant-loop-other : goal.invariant-loop-other
invariant-loop-other l =
    list_any (begins_flag (first_word l.flag)) (take l.other-index l.given) ≡ false
