-- A piece that is held is passed on.
use Rattle.std.proofs.Common.{List, refl, rules, subst, sym, take, ℕ, ◌++◌}
use Rattle.moved_gains.proofs.BufferLemmas.{held_piece, ready_after}
use Rattle.outside.proofs.BufferOutputLemmas.{err_at, passed_with}
use Rattle.outside.{proofs.PassLemmas.{input_holds, prefix_as}, specs.BufferOutput.AppendsWaiting}
use Rattle.outside.specs.Pass.{bytes_at}
use Rattle.moved_gains.proofs.buffers.GainBuffers.copy_piece.Goals as goal

pub returns-in_err-fill : goal.returns-in_err-fill
returns-in_err-fill g c = record {
  written = search rules;
  prefix = err_at c.from_residual.result _ c.from_residual.ensures.1
      (prefix_as c.args.pass.now (bytes_at c.args.at c.args.n) (bytes_at c.args.at c.args.n)
      (λ file holds. refl) c.in_err-fill.ensures.prefix);
  done = search rules;
  cause = search rules;
  ready = search rules;
}

pub returns : goal.returns
returns g c = record {
  written = let pass = c.args.pass.now in
      let fed = c.fill.new.self.feed in
      let passed = c.in_ok-fill.ensures.passed in
      record {
        piece = take c.args.n fed.held;
        is = λ file holds.
            held_piece c.in_ok-fill.ensures.file_offset c.in_ok-fill.ensures.enough
            c.in_ok-fill.ensures.ready.fed_from file
            (input_holds (g.D.Folder.seen c.args.folder.now).files passed.passed
            file c.requires.ready.apart passed.files holds);
        passed = subst (λ (l : List ℕ).
            AppendsWaiting pass.output.now (c.args.self.now.waiting ++ take c.args.n fed.held) l
            (g.D.Folder.seen c.args.folder.now).files (g.D.Folder.seen c.fill.new.folder).files)
            (sym c.pass_on.ensures.waiting) (passed_with (take c.args.n fed.held) passed);
      };
  prefix = search rules;
  done = search rules;
  cause = search rules;
  ready = ready_after c.in_ok-fill.ensures.enough
      c.pass_on.ensures.file_offset c.pass_on.ensures.held c.in_ok-fill.ensures.ready;
}
