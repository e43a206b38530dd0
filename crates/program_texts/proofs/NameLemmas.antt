-- The names of pieces by their places.
use Rattle.std.proofs.Common.{ap, arith, List, ℕ, [], ◌%◌, ◌+◌, ◌<◌, ◌∙◌, ◌≡◌}
use Rattle.program_texts.specs.Names.{name_in}
use Rattle.requests.{proofs.NamesLemmas.name-at, specs.Names.{piece_name, piece_names}}

-- the name at a place is the name of the piece with the next number
pub piece_at : (prefix : List ℕ) {place : ℕ} → place < 99
    → name_in (piece_names prefix) place ≡ piece_name prefix ((place + 1) % 100)
piece_at prefix {place} lt =
    let same : place + 1 ≡ (place + 1) % 100 = omega arith in
    name-at prefix [] lt ∙ ap (piece_name prefix) same
