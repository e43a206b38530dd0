-- The memory of a pass.
use Rattle.std.specs.Prelude.{List, ℕ, [], ◌≡◌}
use Rattle.moved_gains.specs.Passing.{Passing}
use Rattle.outside.specs.{Feed.IsFedFrom, Files.Files}

-- what is held are bytes of the input, and nothing waits for the output
pub record IsPassingFresh (buffers : Passing) (files : Files) (input : List ℕ) : Type 0 where
  pub fed : IsFedFrom buffers.feed files input
  pub none : buffers.waiting ≡ []
