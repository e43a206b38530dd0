-- The frames of a range, in as many places as they take.
use Rattle.std.proofs.Common.{arith, rules, subst, sym, ◌∙◌}
use Rattle.frame_writer.specs.Frames.{reach_of}
use Rattle.laying.proofs.PassLemmas.{part_none}
use Rattle.laying.proofs.RangeLemmas.{fits-range, lays-range, part-range, range-begins, reach-is}
use Rattle.laying.specs.Passing.{GivesPart, planned_frames, reach_behind_all, writing_in}
use Rattle.outside.proofs.BufferOutputLemmas.{err_at}
use Rattle.sync_survey.specs.Faults.{survey_view}
use Rattle.laying.proofs.relay.Relay.lay_range.Goals as goal

pub returns-in_err-read_before-clause-gives : goal.returns-in_err-read_before-clause-gives
returns-in_err-read_before-clause-gives g c = record {
  lays = search rules;
  part = let relay = c.args.self.now in
      let from = c.args.from in
      let to = c.args.to in
      let s = survey_view relay.survey.now in
      let b = c.args.buffers.now in
      let placed = c.args.placed.now in
      let old = (g.D.Folder.seen c.args.folder.now).files in
      let made = planned_frames relay from to placed in
      let reach = reach_behind_all (reach_of b.writer) relay from to placed in
      err_at c.from_residual.result _ c.from_residual.ensures.1
      (subst (λ f. GivesPart relay made reach b old f c.in_err-read_before.field-0.0)
      (sym c.read_before.ensures.reads.files)
      (part_none relay.pass.input.now relay.pass.output.now
      c.in_err-read_before.ensures.reads.read c.requires.stands.ready.pass.target
      (λ file holds more.
      range-begins s from c.requires.within placed
      more (c.requires.stands.ready.exact file holds) (omega arith) c.requires.fits)));
  reach = search rules;
  done = search rules;
  cause = search rules;
}

pub frames-requires-clause-fits : goal.frames-requires-clause-fits
frames-requires-clause-fits g c = grind (arith, fits-range)

pub returns-in_err-frames-clause-gives : goal.returns-in_err-frames-clause-gives
returns-in_err-frames-clause-gives g c = record {
  lays = search rules;
  part = let b = c.args.buffers.now in
      err_at c.from_residual-in_err-frames.result _ c.from_residual-in_err-frames.ensures.1
      (part-range (survey_view c.args.self.now.survey.now) c.args.from c.requires.within
      c.args.placed.now c.places_for-count.ensures.places _ _
      (writing_in b) _ c.read_before.ensures.reads.files (reach_of b.writer)
      c.in_err-frames.ensures.gives.part);
  reach = search rules;
  done = search rules;
  cause = search rules;
}

pub returns-clause-gives : goal.returns-clause-gives
returns-clause-gives g c = record {
  lays =
      lays-range (survey_view c.args.self.now.survey.now) c.args.from c.requires.within
      c.args.placed.now c.places_for-count.ensures.places _ _
      (writing_in c.args.buffers.now) _
      c.read_before.ensures.reads.files c.in_ok-frames.ensures.gives.lays;
  part = search rules;
  reach = c.in_ok-frames.ensures.gives.reach
      ∙ reach-is (survey_view c.args.self.now.survey.now) c.args.from c.requires.within
      c.args.placed.now c.places_for-count.ensures.places (reach_of c.args.buffers.now.writer);
  done = search rules;
  cause = search rules;
}
