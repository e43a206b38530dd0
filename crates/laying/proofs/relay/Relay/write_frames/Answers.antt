-- What is before the frames, and the frames after it.
use Rattle.std.proofs.{Common.{refl, rules}, lemmas.Result.on_ok_weaker}
use Rattle.frame_writer.specs.Frames.{bytes_of_frames}
use Rattle.laying.{proofs.PassLemmas.ok_never, specs.Laid.{selected_frames, selected_front}}
use Rattle.outside.proofs.BufferOutputLemmas.{err_at, err_by}
use Rattle.outside.proofs.PassLemmas.{causes_behind, prefix_as, prefix_then, writes_then}
use Rattle.sync_survey.specs.Faults.{survey_view}
use Rattle.laying.proofs.relay.Relay.write_frames.Goals as goal

pub returns-in_err-write_front : goal.returns-in_err-write_front
returns-in_err-write_front g c = record {
  written = ok_never _ _ c.from_residual.result c.from_residual.ensures.1;
  prefix = let s = survey_view c.args.self.now.survey.now in
      let selected = c.args.selected.now in
      err_at c.from_residual.result _ c.from_residual.ensures.1
      (prefix_as c.args.self.now.pass (selected_front s selected)
      (λ file. bytes_of_frames (selected_frames s selected file)) (λ file holds. refl)
      (rw c.as_slice.ensures.value at c.in_err-write_front.ensures.adds.prefix));
  done = ok_never _ _ c.from_residual.result c.from_residual.ensures.1;
  cause = err_at c.from_residual.result _
      c.from_residual.ensures.1 c.in_err-write_front.ensures.adds.cause;
  ready = ok_never _ _ c.from_residual.result c.from_residual.ensures.1;
}

pub returns : goal.returns
returns g c = record {
  written = on_ok_weaker c.lay.result
      (λ written. writes_then c.requires.ready.pass.apart
      (rw c.as_slice.ensures.value at c.in_ok-write_front.ensures.adds.written) written)
      c.lay.ensures.written;
  prefix = err_by c.lay.result
      (λ fault part. prefix_then c.requires.ready.pass.apart
      (rw c.as_slice.ensures.value at c.in_ok-write_front.ensures.adds.written) part)
      c.lay.ensures.prefix;
  done = search rules;
  cause = causes_behind c.in_ok-write_front.ensures.adds.written _ _
      c.in_ok-write_front.ensures.adds.done c.lay.result c.lay.ensures.cause;
  ready = search rules;
}
