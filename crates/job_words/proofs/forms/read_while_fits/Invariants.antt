-- What the words so far say, and what those after them say.
use Rattle.std.proofs.Common.{drop, length, map, string_bytes, ◌++◌, ◌-◌, ◌≡◌, ◌≤◌}
use Rattle.job_words.specs.{Code.{value_said, word_kind}, Kinds.values_of}
use Rattle.job_words.proofs.forms.read_while_fits.Given as goal

abbrev pub invariant-loop-values : goal.invariant-loop-values
invariant-loop-values l = (map value_said l.values.items ++ values_of (drop (length l.values.items)
    (map word_kind l.kinds)) (drop (length l.values.items) (map string_bytes l.words))
    ≡ values_of (map word_kind l.kinds) (map string_bytes l.words))
    × (length l.values.items ≤ length l.kinds) × (length l.values.items ≤ length l.words)
    × (length l.kinds ≤ 112)

abbrev pub decreases-loop-values : goal.decreases-loop-values
decreases-loop-values l = length l.kinds - length l.values.items
