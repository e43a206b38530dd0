-- What was passed on and what waits are the bytes of the frames.
use Rattle.std.proofs.{Common.{ap, rules, subst, ◌∙◌}, lemmas.Result.on_ok_weaker}
use Rattle.frame_writer.specs.Frames.{bytes_of_frames}
use Rattle.laying.proofs.EndLemmas.{lays-prefix, lays-written, new-behind, part-prefix}
use Rattle.laying.{proofs.PassLemmas.ready-passed, specs.Laid.selected_frames}
use Rattle.outside.proofs.BufferOutputLemmas.{err_at, err_by}
use Rattle.outside.proofs.PassLemmas.{causes_later, prefix_nothing}
use Rattle.outside.specs.{Files.with_appended_bytes, Pass.{WritesMadeBytes, WritesPrefix}}
use Rattle.sync_survey.specs.Faults.{survey_view}
use Rattle.laying.proofs.relay.Relay.lay.Goals as goal

pub returns-in_err-read_before : goal.returns-in_err-read_before
returns-in_err-read_before g c = search (rules, err_at, prefix_nothing)

pub returns-in_err-frames : goal.returns-in_err-frames
returns-in_err-frames g c = record {
  written = search rules;
  prefix = let self = c.args.self.now in
      let made = selected_frames (survey_view self.survey.now) c.args.selected.now in
      let b = c.args.buffers.now in
      let seen = g.D.Folder.seen in
      err_at c.from_residual-in_err-frames.result _ c.from_residual-in_err-frames.ensures.1
      (subst (λ f. WritesPrefix self.pass (λ file. bytes_of_frames (made file)) b.waiting f
      (seen c.frames.new.folder).files c.in_err-frames.field-0.0) c.read_before.ensures.reads.files
      (part-prefix self.pass made
      (seen c.read_before.new.folder).files (new-behind b.waiting c.requires.new)
      (rw c.placed.ensures at c.in_err-frames.ensures.gives.part)));
  ready = search rules;
  done = search rules;
  cause = search rules;
}

pub returns : goal.returns
returns g c = record {
  written =
      let made = selected_frames (survey_view c.args.self.now.survey.now) c.args.selected.now in
      let b = c.args.buffers.now in
      on_ok_weaker c.finish.result
      (λ passed.
      subst (λ f. WritesMadeBytes c.args.self.now.pass (λ file. bytes_of_frames (made file))
      b.waiting c.finish.new.unsent f (g.D.Folder.seen c.finish.new.folder).files)
      c.read_before.ensures.reads.files
      (lays-written c.args.self.now.pass made _
      (new-behind b.waiting c.requires.new)
      (rw c.placed.ensures at c.in_ok-frames.ensures.gives.lays) passed))
      c.finish.ensures.passed;
  prefix =
      let made = selected_frames (survey_view c.args.self.now.survey.now) c.args.selected.now in
      let b = c.args.buffers.now in
      err_by c.finish.result
      (λ fault part.
      subst (λ f. WritesPrefix c.args.self.now.pass (λ file. bytes_of_frames (made file))
      b.waiting f (g.D.Folder.seen c.finish.new.folder).files fault)
      c.read_before.ensures.reads.files
      (lays-prefix c.args.self.now.pass made _
      (new-behind b.waiting c.requires.new)
      (rw c.placed.ensures at c.in_ok-frames.ensures.gives.lays) part))
      c.finish.ensures.prefix;
  ready = on_ok_weaker c.finish.result (λ passed. ready-passed passed
      c.in_ok-frames.ensures.stands.ready) c.finish.ensures.passed;
  done = search rules;
  cause = let self = c.args.self.now in
      let seen = g.D.Folder.seen in
      let lays = c.in_ok-frames.ensures.gives.lays in
      causes_later c.finish.result _ (seen c.args.folder.now).files
      (seen c.frames.new.folder).files self.pass.output.now lays.passed _ _ _
      (lays.files
      ∙ ap (λ f. with_appended_bytes f self.pass.output.now lays.passed)
      c.read_before.ensures.reads.files)
      (c.in_ok-frames.ensures.gives.done ∙ c.in_ok-read_before.ensures.reads.done)
      c.finish.ensures.cause;
}
