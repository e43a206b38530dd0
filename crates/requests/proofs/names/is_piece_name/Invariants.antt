-- None of the names so far was this one.
use Rattle.std.proofs.Common.{bytes_eq, false, ℕ, ◌+◌, ◌<◌, ◌≡◌}
use Rattle.requests.specs.Names.{piece_name}
use Rattle.requests.proofs.names.is_piece_name.Given as goal

abbrev pub invariant-loop-before : goal.invariant-loop-before
invariant-loop-before l =
    (k : ℕ) → k < l.before → bytes_eq l.name (piece_name l.prefix (k + 1)) ≡ false
