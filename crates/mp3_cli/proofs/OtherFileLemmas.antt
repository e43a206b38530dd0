-- Files that no output has the name of.
use Rattle.std.proofs.Common.{List, refl, ℕ, [], ◌∙◌, ◌∷◌, ◌≡◌}
use Rattle.chosen_streams.specs.Laws.{HasNone}
use Rattle.commands.specs.Command.{Output, written_files}
use Rattle.outside.{proofs.FilesLemmas.with_file_other, specs.Files.{Contents, with_file}}

-- a file that isn't one of the outputs is as it was
pub written-other : (outputs : List Output) (files : Contents) {name : List ℕ}
    → HasNone name outputs → written_files outputs files name ≡ files name
written-other [] files none = refl
written-other (output ∷ outputs) files {name} none =
    written-other outputs (with_file files output.name output.bytes) none.1
    ∙ with_file_other files output.bytes none.0
