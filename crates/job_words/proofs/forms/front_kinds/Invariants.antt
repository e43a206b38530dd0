-- The command's word, and the words of the flags so far.
use Rattle.std.proofs.Common.{length, map, take, ◌*◌, ◌+◌, ◌≡◌, ◌≤◌}
use Rattle.job_words.specs.{Code.word_kind, Forms.front_kinds}
use Rattle.job_words.proofs.forms.front_kinds.Given as goal

abbrev pub invariant-loop-flag : goal.invariant-loop-flag
invariant-loop-flag l =
    (map word_kind l.kinds.items ≡ front_kinds l.command (take l.flag-index l.given))
    × (length l.kinds.items ≤ 1 + 2 * l.flag-index) × (length l.given ≤ 4)
