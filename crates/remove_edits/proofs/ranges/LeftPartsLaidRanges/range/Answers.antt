-- The range is the part with its number.
use Rattle.std.proofs.Common.{arith, length, List, refl, slice_index_or, suc, zero, ℕ, [], ◌<◌, ◌∷◌}
use Rattle.std.proofs.{Common.◌≡◌, lemmas.List.length-map}
use Rattle.joined_inputs.proofs.StepLemmas.{map-next}
use Rattle.remove_edits.specs.Ready.{part_range}
use Rattle.seam_plan.specs.declared.stretches.Part.{Part}
use Rattle.sync_survey.specs.Faults.{survey_view}
use Rattle.remove_edits.proofs.ranges.LeftPartsLaidRanges.range.Goals as goal

any-default : (parts : List Part) (i : ℕ) (p q : Part) → i < length parts
    → slice_index_or parts i p ≡ slice_index_or parts i q
any-default [] i p q within = absurd (omega (arith, within))
any-default (x ∷ parts) zero p q within = refl
any-default (x ∷ parts) (suc i) p q within = any-default parts i p q (omega (arith, within))

pub returns : goal.returns
returns c =
    let parts = c.args.self.now.parts.now in
    let range = part_range c.args.self.now.name.now (survey_view c.args.self.now.survey.now) in
    let none : Part = record { from = 0; to = 0 } in
    let within : c.args.number < length parts = omega (arith, c.requires, length-map parts range) in
    let part = slice_index_or parts c.args.number none in
    map-next range parts within (any-default parts c.args.number none part within)
