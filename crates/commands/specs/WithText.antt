-- A command that makes files, and a text about them.
use Rattle.std.specs.Prelude.{Err, List, None, Ok, Result, ℕ}
use Rattle.commands.specs.{Command.{Command, Made}, declared.fault.EditFault.EditFault}
use Rattle.outside.specs.Files.{Contents}

-- the same result with this text, unless it is refused
abbrev pub with_text : List ℕ → Result Made EditFault → Result Made EditFault
with_text text (Ok made) = Ok (record made { text = text })
with_text text (Err fault) = Err fault

-- the same command, with a text made from the files that are there
abbrev pub telling_command : (Contents → List ℕ) → Command → Command
telling_command text command =
    record command { always = None; makes = λ files. with_text (text files) (command.makes files) }
