-- The channel is one of the survey's channels.
use Rattle.std.proofs.Common.{ap, arith, subst, sym, ◌<◌, ◌∙◌}
use Rattle.frame_header.specs.Fields.{ClassFields}
use Rattle.moved_gains.{proofs.ExtremesLemmas.has_channel, specs.GainExtremes.HasChannel}
use Rattle.sync_survey.specs.Faults.{survey_view}
use Rattle.survey_tests.proofs.tests.gains.moving.Goals as goal

pub gains_of-requires : goal.gains_of-requires
gains_of-requires c =
    let below : c.args.channel < (survey_view c.args.survey.now).class.channels =
    omega (
      arith,
      c.if-channel-class.false,
      ap (λ (k : ClassFields). k.channels) (c.class-2.view_is ∙ c.class.ensures),
    ) in
    subst (HasChannel c.args.channel) (sym c.frames.ensures)
    (has_channel c.requires below)
