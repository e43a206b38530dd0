-- The names so far.
use Rattle.std.proofs.Common.{length, map, string_bytes, take, ◌≡◌, ◌≤◌}
use Rattle.mp3_cli.proofs.jobs.names_of.Given as goal

abbrev pub invariant-loop-word : goal.invariant-loop-word
invariant-loop-word l =
    (map (λ name. name.now) l.names.items ≡ map string_bytes (take l.word-index l.words))
    × (length l.names.items ≡ l.word-index) × (length l.words ≤ 64)
