-- An entry of the table and its command agree.
use Rattle.std.specs.Prelude.{◌≡◌}
use Rattle.command_table.specs.Table.{command_of, inputs_of, outputs_of, sources_of}
use Rattle.job_words.specs.Request.{Request}

-- the command reads and writes the files of its entry
pub record HasItsFiles (asked : Request) : Type 0 where
  pub sources : (command_of asked).sources ≡ sources_of asked
  pub inputs : (command_of asked).inputs ≡ inputs_of asked
  pub outputs : (command_of asked).outputs ≡ outputs_of asked

-- each command reads and writes the files of its entry
abbrev pub FilesAreOfCommands : Type 0
FilesAreOfCommands = (asked : Request) → HasItsFiles asked
