-- Laws of commands that keep what is there.
use Rattle.std.specs.Prelude.{Err, List, None, Ok, Some, ℕ, ◌≡◌}
use Rattle.commands.specs.Command.{Command, Made, written_files}
use Rattle.commands.specs.{Kept.{first_there, kept, made_names}, declared.fault.EditFault.EditFault}
use Rattle.commands.specs.declared.fault.{EditFault.TheVariants.Refused, Refusal.TheVariants.Exists}
use Rattle.outside.specs.Files.{Contents}

-- how a command that keeps what is there is tied to the command that doesn't
pub record LeavesWhatIsThere (command : Command) : Type 0 where
  -- it is refused where the other is, and with the same refusal
  pub refused : (files : Contents) (fault : EditFault) → command.makes files ≡ Err fault
      → (kept command).makes files ≡ Err fault
  -- where no name of what the other makes is there, both make the same
  pub free : (files : Contents) (made : Made) → command.makes files ≡ Ok made
      → first_there files 0 (made_names made) ≡ None → (kept command).makes files ≡ Ok made
  -- where one is, it is refused with the number of the first
  pub exists : (files : Contents) (made : Made) (place : ℕ) → command.makes files ≡ Ok made
      → first_there files 0 (made_names made) ≡ Some place
      → (kept command).makes files ≡ Err (Refused (Exists place))
  -- to keep what is there twice is to keep it once
  pub twice : (files : Contents) → (kept (kept command)).makes files ≡ (kept command).makes files
  -- once its outputs are written, each name that was there has the bytes that it had
  pub leaves : (files : Contents) (made : Made) → (kept command).makes files ≡ Ok made
      → (name bytes : List ℕ) → files name ≡ Some bytes
      → written_files made.outputs files name ≡ Some bytes

-- so it is for every command
abbrev pub KeptCommandsLeaveAll : Type 0
KeptCommandsLeaveAll = (command : Command) → LeavesWhatIsThere command
