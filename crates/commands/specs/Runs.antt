-- What the call of a command that makes files guarantees, whatever its result.
use Rattle.std.specs.Prelude.{IfErr, IsErrOf, OnOk, Result, Some, ℕ, ◌↔◌, ◌≡◌}
use Rattle.commands.specs.AfterCall.{HasNumbers, IsCommandDone, IsCommandFault}
use Rattle.commands.specs.Command.{clash_of, Command, HoldsStreams}
use Rattle.commands.specs.declared.fault.EditFault.{EditFault, TheVariants.EqualNames}
use Rattle.outside.specs.{Counts.NoneFell, Seen.Seen}

-- the command ran from one moment to another, with this result
pub record IsRunOf (command : Command) (old new : Seen)
    (answer : Result (Unit {0}) EditFault) : Type 0 where
  -- all was written, or this is left
  pub done : OnOk answer (IsCommandDone command old new)
  pub left : IfErr answer (IsCommandFault command old new)
  -- the numbers of the fault are right too in a folder whose contents aren't known
  pub numbers : IfErr answer (HasNumbers command)
  -- the fault is that of equal names exactly if an input has the name of an output
  pub names : (number : ℕ) → IsErrOf answer (EqualNames number) ↔ (clash_of command ≡ Some number)
  -- the sources are well-formed, and the outputs hold the streams that they have to hold
  pub streams : OnOk answer (HoldsStreams command old.files)
  pub counts : NoneFell old.counts new.counts
