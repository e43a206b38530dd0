-- What it is to run the words of a session.
use Rattle.std.specs.Prelude.{false, ℕ, [], ◌≡◌}
use Rattle.mp3_cli.specs.Run.{ProgramRun}
use Rattle.session.specs.Shown.{Shown, with_empty_sinks, world_of}

-- The program did what the words ask for, over this folder and two sinks that held no bytes, and
-- ended with this status; then there are no words.
pub record RunsWords (old new : Shown) (status : ℕ) : Type 0 where
  pub program : ProgramRun false old.words (world_of (with_empty_sinks old)) (world_of new) status
  pub no_words : new.words ≡ []
