-- The inputs of a join as ranges: each from the first of its frames that is written on.
use Rattle.std.proofs.Common.{ap, arith, List, map, refl, [], ◌∷◌, ◌≡◌}
use Rattle.joined_inputs.specs.Inputs.{input_names, InputFields, parts_of}
use Rattle.joined_inputs.specs.Laying.{AreFromsWithin, rest_rows}
use Rattle.joined_inputs.specs.Ranges.{AreRangesWithin, range_names, range_rows, RangeFields}
use Rattle.joined_inputs.specs.Ranges.{ranges_in, rest_of_input}
use Rattle.outside.specs.Files.{Files}

abbrev rests : List InputFields → List RangeFields
rests inputs = map rest_of_input inputs

-- they have the names of the inputs
pub rest-names : (inputs : List InputFields) → range_names (rests inputs) ≡ input_names inputs
rest-names [] = refl
rest-names (i ∷ inputs) = ap (λ l. i.name ∷ l) (rest-names inputs)

-- their rows are those that the plan was made for
pub rest-rows : (inputs : List InputFields) → range_rows (rests inputs) ≡ rest_rows inputs
rest-rows [] = refl
rest-rows (i ∷ inputs) = grind (arith, rest-rows inputs)

-- they are the same parts
pub rest-parts : (files : Files) (inputs : List InputFields)
    → ranges_in files (rests inputs) ≡ parts_of files inputs
rest-parts files [] = refl
rest-parts files (i ∷ inputs) = grind (arith, rest-parts files inputs)

-- they end with their inputs
pub rest-within : (inputs : List InputFields) → AreFromsWithin inputs
    → AreRangesWithin (rests inputs)
rest-within [] within = tt
rest-within (i ∷ inputs) within = grind (arith, rest-within inputs within.1)
