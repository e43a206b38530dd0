-- What is copied into a caller's room.
use Rattle.std.specs.Prelude.{drop, length, List, take, ℕ, ◌++◌, ◌≡◌}

-- The first of these bytes were copied into a room, as many as there are and fit; the room is
-- otherwise as it was, and this is how many bytes there are.
pub record Copies (bytes before after : List ℕ) (size : ℕ) : Type 0 where
  pub copied : after ≡ take (length before) bytes ++ drop (length bytes) before
  pub sized : size ≡ length bytes
