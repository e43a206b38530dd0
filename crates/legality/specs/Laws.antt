-- What is legal is exactly what the commands accept.
use Rattle.std.specs.Prelude.{Err, List, Ok, ℕ, ◌↔◌, ◌≡◌}
use Rattle.command_table.specs.Table.{command_of}
use Rattle.commands.specs.{Command.{Command, Made}, declared.fault.EditFault.TheVariants.Refused}
use Rattle.commands.specs.declared.fault.Refusal.TheVariants.{Unfit}
use Rattle.job_words.specs.Request.{Request}
use Rattle.legality.specs.Legal.{IsLegalFor, IsUnfitFor}
use Rattle.outside.specs.Files.{Contents}
use Rattle.pack_edits.specs.Modes.{pack_mode_command}
use Rattle.requests.specs.declared.mode.PackMode.TheVariants.{Constant}

-- the command isn't refused
abbrev pub AcceptsFiles : Command → Contents → Type 0
AcceptsFiles command files = (made : Made) × (command.makes files ≡ Ok made)

-- whatever is asked for, and for all files: it is legal exactly where its command isn't refused
abbrev pub LegalIsAccepted : Type 0
LegalIsAccepted = (asked : Request) (files : Contents)
    → IsLegalFor asked files ↔ AcceptsFiles (command_of asked) files

-- With one bit rate alone a file is refused with `Unfit` exactly where no list of
-- its slots has room for the main data, with the first frame up to which none has.
abbrev pub UnfitIsRefused : Type 0
UnfitIsRefused =
    (files : Contents) (rate i : ℕ) (input output : List ℕ) → IsUnfitFor rate input output files i
    ↔ ((pack_mode_command (Constant rate) input output).makes files ≡ Err (Refused (Unfit i)))
