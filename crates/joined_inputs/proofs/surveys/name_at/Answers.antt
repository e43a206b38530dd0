-- The name is the first of the names from its number on.
use Rattle.std.proofs.Common.{ap, drop, map, string_bytes, sym, ◌+◌, ◌∙◌, ◌∷◌}
use Rattle.joined_inputs.proofs.StepLemmas.{map-next}
use Rattle.joined_inputs.proofs.surveys.name_at.Goals as goal

pub returns : goal.returns
returns c =
    map-next string_bytes
    c.args.inputs.now c.requires c.index-inputs-number.is
    ∙ ap (λ n. n ∷ drop (c.args.number + 1) (map string_bytes c.args.inputs.now))
    (sym c.as_str.ensures.value)
