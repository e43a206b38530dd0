-- A chosen block is copied, and one that is not chosen has no bytes here.
use Rattle.std.proofs.Common.{ap, rules, sym, ◌∙◌}
use Rattle.frame_writer.proofs.WritingLemmas.{ok-both}
use Rattle.laying.proofs.{CopyLemmas.chosen-none, PassLemmas.ready-with}
use Rattle.outside.proofs.PassLemmas.{writes_nothing}
use Rattle.sync_survey.specs.Faults.{survey_view}
use mathlib.Core.Bool.{beq}
use Rattle.laying.proofs.relay.Relay.copy_chosen.Goals as goal

pub returns-then-goes_in_front-in_front : goal.returns-then-goes_in_front-in_front
returns-then-goes_in_front-in_front g c = record {
  written = search rules;
  prefix = search rules;
  done = search rules;
  cause = search rules;
  ready = ok-both c.copy.result (λ written pass. ready-with c.args.self.now _ _ _ _
      written.passed.passed written.passed.files c.requires.ready pass)
      c.copy.ensures.written c.copy.ensures.ready;
}

pub returns-else-goes_in_front-in_front : goal.returns-else-goes_in_front-in_front
returns-else-goes_in_front-in_front g c = record {
  written =
      let self = c.args.self.now in
      let s = survey_view self.survey.now in
      writes_nothing self.pass
      c.args.waiting.now c.requires.ready.pass.target
      (λ file holds. sym (chosen-none c.args.in_front s c.args.block.now file (sym (ap
      (λ b. beq b c.args.in_front) c.goes_in_front.ensures) ∙ c.if-goes_in_front-in_front.false)));
  prefix = search rules;
  done = search rules;
  cause = search rules;
  ready = search rules;
}
