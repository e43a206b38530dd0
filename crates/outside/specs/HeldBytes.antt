-- Bytes in memory, with room for more.
use Rattle.std.specs.Prelude.{List, ℕ}

-- bytes, and the room for them
pub record HeldBytes : Type 0 where
  pub bytes : List ℕ
  -- how many bytes there may be
  pub room : ℕ
