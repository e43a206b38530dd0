-- The Info frame, sealed if something is kept.
use Rattle.std.proofs.Common.{ap, Option, sym, ◌∙◌}
use Rattle.info_header.specs.InfoFrame.{info_frame}
use Rattle.joined_inputs.specs.Planned.{info_kept}
use Rattle.laying.specs.{Written.info_for, declared.info.Kept.Kept}
use Rattle.sync_survey.specs.Faults.{survey_view}
use Rattle.joined_inputs.proofs.planned.splice_info_bytes.Goals as goal

pub returns-in_default : goal.returns-in_default
returns-in_default c first frames found slots =
    let s = survey_view c.args.survey.now in
    c.info_bytes.ensures first frames found slots
    ∙ ap (λ (k : Kept). info_frame first.header (info_for s.class frames k.quality k.extension))
    c.none.ensures
    ∙ ap (λ (o : Option Kept). info_frame first.header (info_kept o first.header s.class frames))
    (sym c.in_default.is)

pub returns : goal.returns
returns c first frames found slots =
    let s = survey_view c.args.survey.now in
    c.sealed_info_bytes.ensures.bytes first frames found slots
    ∙ ap (λ (o : Option Kept). info_frame first.header (info_kept o first.header s.class frames))
    (sym c.in-Some.is)
