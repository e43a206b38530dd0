-- A command reads and writes the files of its entry.
use Rattle.std.proofs.Common.{append-nil, false, refl, sym, true, ◌≡◌}
use Rattle.command_table.specs.Laws.{FilesAreOfCommands}
use Rattle.command_table.specs.Table.{command_of, inputs_of, outputs_of, sources_of}
use Rattle.job_words.specs.Request.{Join, Pack, Request, SplitBy}
use Rattle.requests.specs.declared.mode.PackMode.TheVariants.{Least}

sources-are : (asked : Request) → (command_of asked).sources ≡ sources_of asked
sources-are (Pack Least input output) = refl
sources-are (Pack _ input output) = refl
sources-are (SplitBy false input prefix sheet) = refl
sources-are (SplitBy true input prefix sheet) = refl
sources-are (Join false output inputs) = refl
sources-are (Join true output inputs) = refl
sources-are _ = refl

inputs-are : (asked : Request) → (command_of asked).inputs ≡ inputs_of asked
inputs-are (Pack Least input output) = refl
inputs-are (Pack _ input output) = refl
inputs-are (SplitBy false input prefix sheet) = refl
inputs-are (SplitBy true input prefix sheet) = refl
inputs-are (Join false output inputs) = sym (append-nil inputs)
inputs-are (Join true output inputs) = sym (append-nil inputs)
inputs-are _ = refl

outputs-are : (asked : Request) → (command_of asked).outputs ≡ outputs_of asked
outputs-are (SplitBy false input prefix sheet) = refl
outputs-are (SplitBy true input prefix sheet) = refl
outputs-are (Join false output inputs) = refl
outputs-are (Join true output inputs) = refl
outputs-are _ = refl

-- each command reads and writes the files of its entry
pub names-are : FilesAreOfCommands
names-are asked = record {
  sources = sources-are asked;
  inputs = inputs-are asked;
  outputs = outputs-are asked;
}
