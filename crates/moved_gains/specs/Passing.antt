-- What the buffer of a pass holds.
use Rattle.std.specs.Prelude.{drop, IfErr, IfOk, length, List, OnOk, Result, take, ℕ, [], ◌^◌, ◌≡◌}
use Rattle.std.specs.Prelude.{◌≤◌}
use Rattle.outside.specs.{BufferOutput.AppendsWaiting, Feed.{buffer_size, Fed}, Files.IsFileThere}
use Rattle.outside.specs.Pass.{AppendsMadeBytes, AppendsPrefix, HasPassCause, IsPassReady}
use Rattle.outside.specs.Pass.{IsReadPassFault, Route, route_of, WritesMadeBytes, WritesPrefix}
use Rattle.outside.specs.{Seen.{OnFile, Seen}, declared.pass.{Pass.Pass, PassFault.PassFault}}

-- the bytes of the input that are held, and what waits for the output
pub record Passing : Type 0 where
  pub feed : Fed
  pub waiting : List ℕ

-- the bounds of what waits and of what is held after it
pub record AreBufferBounds (room : List ℕ) (file_offset done end : ℕ) : Type 0 where
  pub size : length room ≡ buffer_size
  pub ordered : done ≤ end
  pub few : end ≤ buffer_size
  pub early : file_offset ≤ 2 ^ 32

-- At least `n` bytes of the input from offset `at` on are held, after what waits, or a call failed.
pub record BuffersFill (pass : Pass) (at n : ℕ) (was now : Passing) (old new : Seen)
    (result : Result (Unit {0}) PassFault) : Type 0 where
  pub passed : OnOk result
      (AppendsWaiting pass.output.now was.waiting now.waiting old.files new.files)
  pub file_offset : OnOk result (now.feed.file_offset ≡ at)
  pub enough : OnOk result (n ≤ length now.feed.held)
  pub prefix : IfErr result (WritesPrefix pass (λ file. []) was.waiting old.files new.files)
  pub done : OnOk result (new.counts ≡ old.counts)
  pub cause : IfErr result (HasPassCause (route_of pass) old.files old.counts new.counts)
  pub ready : OnOk result (IsPassReady pass new.files now.feed)

-- The input of a pass is there, has the length that it was found with, and isn't too long.
pub record HasInput (pass : Pass) (old : Seen) : Type 0 where
  pub there : IsFileThere old.files pass.input.now
  pub found : OnFile old pass.input.now (λ file. length file ≡ pass.length)
  pub short : pass.length ≤ 2 ^ 32

-- The input was read on after the `kept` bytes of it,
-- until at least `n` bytes were there, or a read failed.
pub record ReadBehind (pass : Pass) (at kept n : ℕ) (before after : List ℕ) (old new : Seen)
    (result : Result ℕ PassFault) : Type 0 where
  pub enough : IfOk result (λ end. n ≤ end)
  pub most : IfOk result (λ end. end ≤ buffer_size)
  pub bytes : IfOk result (λ end. OnFile old pass.input.now (λ file.
      take kept before ≡ take kept (drop at file) → take end after ≡ take end (drop at file)))
  pub done : OnOk result (new.counts ≡ old.counts)
  pub cause : IfErr result (HasPassCause (route_of pass) old.files old.counts new.counts)
  pub read : IfErr result IsReadPassFault
  pub files : new.files ≡ old.files

-- A frame was written with its gains moved, or a call failed.
pub record MoveFrameAnswer (pass : Pass) (made : List ℕ → List ℕ) (stop : ℕ) (was now : Passing)
    (old new : Seen) (result : Result ℕ PassFault) : Type 0 where
  pub written : OnOk result (WritesMadeBytes pass made was.waiting now.waiting old.files new.files)
  pub prefix : IfErr result (WritesPrefix pass made was.waiting old.files new.files)
  pub end : IfOk result (λ end. end ≡ stop)
  pub done : OnOk result (new.counts ≡ old.counts)
  pub cause : IfErr result (HasPassCause (route_of pass) old.files old.counts new.counts)
  pub ready : OnOk result (IsPassReady pass new.files now.feed)

-- Frames were written with their gains moved, and what is between them, or a call failed.
pub record MoveFramesAnswer (pass : Pass) (made : List ℕ → List ℕ) (was now : Passing)
    (old new : Seen)
    (result : Result (Unit {0}) PassFault) : Type 0 where
  pub written : OnOk result (WritesMadeBytes pass made was.waiting now.waiting old.files new.files)
  pub prefix : IfErr result (WritesPrefix pass made was.waiting old.files new.files)
  pub done : OnOk result (new.counts ≡ old.counts)
  pub cause : IfErr result (HasPassCause (route_of pass) old.files old.counts new.counts)

-- A file was appended with its change, or a prefix of it if a call failed.
pub record ChangedAnswer (way : Route) (made : List ℕ → List ℕ) (old new : Seen)
    (result : Result (Unit {0}) PassFault) : Type 0 where
  pub written : OnOk result (AppendsMadeBytes way.input way.output made old.files new.files)
  pub prefix : IfErr result (AppendsPrefix way.input way.output made old.files new.files)
  pub done : OnOk result (new.counts ≡ old.counts)
  pub cause : IfErr result (HasPassCause way old.files old.counts new.counts)
