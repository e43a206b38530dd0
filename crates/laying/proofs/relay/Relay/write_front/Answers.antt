-- The blocks before the frames, and the bytes of the Info frame.
use Rattle.std.proofs.{Common.{refl, rules, true, ◌++◌}, lemmas.Result.on_ok_weaker}
use Rattle.laying.{proofs.PassLemmas.{ok_never, ready-passed}, specs.Copying.chosen_bytes}
use Rattle.outside.proofs.BufferOutputLemmas.{err_at, err_by}
use Rattle.outside.proofs.PassLemmas.{causes_behind, prefix_as, prefix_piece, prefix_then}
use Rattle.outside.proofs.PassLemmas.{writes_piece, writes_then}
use Rattle.sync_survey.specs.Faults.{survey_view}
use Rattle.laying.proofs.relay.Relay.write_front.Goals as goal

pub returns-in_err-copy_blocks-clause-adds : goal.returns-in_err-copy_blocks-clause-adds
returns-in_err-copy_blocks-clause-adds g c = record {
  written = ok_never _ _ c.from_residual.result c.from_residual.ensures.1;
  prefix = let s = survey_view c.args.self.now.survey.now in
      let front = chosen_bytes true s s.blocks in
      err_at c.from_residual.result _ c.from_residual.ensures.1
      (prefix_as c.args.self.now.pass (λ file. front file ++ c.args.info.now)
      (λ file. c.args.info.now) (λ file holds. refl) c.in_err-copy_blocks.ensures.prefix);
  done = ok_never _ _ c.from_residual.result c.from_residual.ensures.1;
  cause =
      err_at c.from_residual.result _ c.from_residual.ensures.1 c.in_err-copy_blocks.ensures.cause;
  ready = ok_never _ _ c.from_residual.result c.from_residual.ensures.1;
}

pub returns-clause-adds : goal.returns-clause-adds
returns-clause-adds g c = record {
  written = on_ok_weaker c.send.result
      (λ passed. writes_then c.requires.ready.pass.apart
      c.in_ok-copy_blocks.ensures.written
      (writes_piece c.args.self.now.pass (λ file holds. refl) passed)) c.send.ensures.hands.passed;
  prefix = err_by c.send.result
      (λ fault part. prefix_then c.requires.ready.pass.apart
      c.in_ok-copy_blocks.ensures.written
      (prefix_piece c.args.self.now.pass (λ file holds. refl) part)) c.send.ensures.hands.prefix;
  done = search rules;
  cause = causes_behind c.in_ok-copy_blocks.ensures.written _ _
      c.in_ok-copy_blocks.ensures.done c.send.result c.send.ensures.hands.cause;
  ready = on_ok_weaker c.send.result (λ passed. ready-passed passed
      c.in_ok-copy_blocks.ensures.ready) c.send.ensures.hands.passed;
}
