-- The words so far.
use Rattle.std.proofs.Common.{length, map, take, ◌++◌, ◌+◌, ◌≡◌, ◌≤◌}
use Rattle.job_words.specs.{Code.word_kind, Kinds.Fixed}
use Rattle.job_words.proofs.forms.append_flag.Given as goal

abbrev pub invariant-loop-word : goal.invariant-loop-word
invariant-loop-word l = (map word_kind l.kinds.items ≡ map word_kind l.initial.kinds.items
    ++ map Fixed (map (λ word. word.now) (take l.word-index l.word-items)))
    × (length l.kinds.items ≡ length l.initial.kinds.items + l.word-index)
    × (length l.initial.kinds.items ≤ 110)
