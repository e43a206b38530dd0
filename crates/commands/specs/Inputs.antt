-- The names of what a command that makes one file reads.
use Rattle.std.specs.Prelude.{List, option_copied, option_to_list, ℕ, ◌∷◌}
use Rattle.commands.specs.declared.inputs.Inputs.{Inputs}

-- the source, and then the sheet, if there is one
abbrev pub names_of : Inputs → List (List ℕ)
names_of inputs = inputs.source.now ∷ option_to_list (option_copied inputs.sheet)
