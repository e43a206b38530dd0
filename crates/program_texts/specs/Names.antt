-- The names of a command's files, by their places.
use Rattle.std.specs.Prelude.{List, slice_index_or, ℕ, [], ◌∷◌}
use Rattle.program_texts.specs.declared.output_names.Outputs.{Outputs}
use Rattle.program_texts.specs.declared.output_names.Outputs.TheVariants.{None, One, Pieces}
use Rattle.requests.specs.Names.{piece_names}

-- the name at a place, counted from 0
abbrev pub name_in : List (List ℕ) → ℕ → List ℕ
name_in names place = slice_index_or names place []

-- the names of all outputs
abbrev pub names_of_outputs : Outputs → List (List ℕ)
names_of_outputs None = []
names_of_outputs (One name) = name.now ∷ []
names_of_outputs (Pieces prefix) = piece_names prefix.now
