-- A frame that is held is passed on with its gains moved.
use Rattle.std.proofs.Common.{arith, List, refl, rules, ℕ}
use Rattle.moved_gains.{proofs.BufferLemmas.{held_piece, ready_after}, specs.Moving.moved_row_bytes}
use Rattle.outside.proofs.BufferOutputLemmas.{err_at, passed_with}
use Rattle.outside.proofs.PassLemmas.{input_holds, prefix_as}
use Rattle.side_info.proofs.FrameLemmas.{side_in-take}
use Rattle.moved_gains.proofs.moving.GainPass.move_frame.Goals as goal

pub returns-in_err-fill : goal.returns-in_err-fill
returns-in_err-fill g c = record {
  written = search rules;
  prefix = let made : List ℕ → List ℕ =
      λ file. moved_row_bytes c.args.moved.now.steps file c.args.moved.now.row.now in
      err_at c.from_residual.result _ c.from_residual.ensures.1
      (prefix_as c.args.self.now.pass made made (λ file holds. refl) c.in_err-fill.ensures.prefix);
  end = search rules;
  done = search rules;
  cause = search rules;
  ready = search rules;
}

pub returns : goal.returns
returns g c = record {
  written = grind (arith, held_piece, input_holds, side_in-take, passed_with);
  prefix = search rules;
  end = search rules;
  done = search rules;
  cause = search rules;
  ready = grind (arith, ready_after);
}
