-- If all frames of the inputs are written, the frames from the first one on are all frames.
use Rattle.std.proofs.Common.{arith, length, List, Option, refl, Some, ℕ, [], ◌-◌, ◌∷◌, ◌≡◌}
use Rattle.std.specs.Prelude.{unwrap_or}
use Rattle.frame_header.specs.Fields.{ClassFields}
use Rattle.joined_inputs.specs.Inputs.{AreJoinInputs, InputFields, survey_rows}
use Rattle.joined_inputs.specs.Laying.{AreFromsWithin, rest_rows}
use Rattle.laying.proofs.PlacesLemmas.{range-whole}
use Rattle.outside.specs.Files.{Files}

-- each input has at least as many frames as are left out
pub within-whole : (first : Option ClassFields) (allowed : ℕ) (files : Files)
    (inputs : List InputFields) → AreJoinInputs first allowed files inputs → AreFromsWithin inputs
within-whole first allowed files [] are = tt
within-whole first allowed files (i ∷ inputs) are = (
  omega (arith, are.2),
  within-whole (Some (unwrap_or first i.survey.class))
      (allowed - length i.survey.frames) files
      inputs are.3,
)

-- the rows from the first on are all rows
pub rows-whole : (first : Option ClassFields) (allowed : ℕ) (files : Files)
    (inputs : List InputFields) → AreJoinInputs first allowed files inputs
    → rest_rows inputs ≡ survey_rows inputs
rows-whole first allowed files [] are = refl
rows-whole first allowed files (i ∷ inputs) are =
    grind (
      arith,
      range-whole,
      rows-whole (Some (unwrap_or first i.survey.class))
          (allowed - length i.survey.frames) files inputs are.3,
    )
