-- Where there are bytes, the file doesn't end.
use Rattle.std.proofs.Common.{ap, unwrap_or, ◌∙◌}
use Rattle.sync_survey.{proofs.WalkLemmas.stop_is, specs.Walk.fault_at}
use Rattle.sync_survey.specs.declared.survey_fault.SurveyFault.TheVariants.{LostSync}
use Rattle.sync_survey.proofs.items.stop_fault.Goals as goal

pub returns-clause-fault : goal.returns-clause-fault
returns-clause-fault c =
    stop_is c.args.bytes.now c.args.at c.unwrap_or.result (LostSync c.args.at) c.requires
    (c.unwrap_or.ensures ∙ ap (λ o. unwrap_or o (LostSync c.args.at))
    (c.fault.ensures ∙ ap (fault_at c.args.at) c.item_front.ensures))
