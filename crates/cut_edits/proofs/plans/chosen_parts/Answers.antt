-- The chosen frames are the only part.
use Rattle.std.{proofs.Common.{ap, List, [], ◌∙◌, ◌∷◌}, specs.Prelude.slice_range}
use Rattle.laying.specs.Needs.{plan_input}
use Rattle.sync_survey.specs.Row.{Row}
use Rattle.cut_edits.proofs.plans.chosen_parts.Goals as goal

pub returns-clause-parts : goal.returns-clause-parts
returns-clause-parts c =
    c.in_ok-push.ensures.added [] c.new-parts.ensures.parts
    ∙ ap (λ (rows : List Row).
    plan_input (slice_range rows c.args.chosen.now.from c.args.chosen.now.to ∷ [])) c.frames.ensures
