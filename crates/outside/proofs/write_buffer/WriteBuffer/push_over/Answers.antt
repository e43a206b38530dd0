use Rattle.std.proofs.Common.{ap, drop, length, List, rules, subst, sym, take, ℕ, ◌++◌, ◌+◌, ◌-◌}
use Rattle.std.proofs.{Common.{◌∙◌, ◌≡◌}, lemmas.List.drop-drop}
use Rattle.outside.proofs.BufferOutputLemmas.{on_err, passed_front, passed_then, passed_then_prefix}
use Rattle.outside.proofs.BufferOutputLemmas.{passed_waiting, prefix_waiting}
use Rattle.outside.proofs.{FilesLemmas.appended_there, PieceLemmas.part_from}
use Rattle.outside.specs.{BufferOutput.AppendsWaiting, Files.IsFileThere}
use Rattle.outside.proofs.write_buffer.WriteBuffer.push_over.Goals as goal

pub returns-in_err-finish : goal.returns-in_err-finish
returns-in_err-finish g c = record {
  passed = search rules;
  prefix = on_err
      c.from_residual.result
      (prefix_waiting c.args.name.now c.args.self.now c.args.piece.now _ _ _
      (rw (c.add.ensures, c.self.view_is) at c.in_err-finish.ensures.prefix));
  none = search rules;
  few = search rules;
  failed = search rules;
  done = search rules;
  counts = search rules;
}

pub write_whole-requires : goal.write_whole-requires
write_whole-requires g c = subst (λ f. IsFileThere f c.args.name.now)
    (sym c.in_ok-finish.ensures.appended) (appended_there _ c.args.name.now _)

pub returns-in_err-done : goal.returns-in_err-done
returns-in_err-done g c = record {
  passed = search rules;
  prefix = let free = c.free-free.result in
      on_err
      c.from_residual-in_err-done.result
      (passed_then_prefix
      (passed_waiting c.args.name.now c.args.self.now c.args.piece.now free _ _
      (rw (c.add.ensures, c.self.view_is) at c.in_ok-finish.ensures.appended))
      (rw part_from at c.in_err-done.ensures.prefix));
  none = search rules;
  few = search rules;
  failed = search rules;
  done = search rules;
  counts = search rules;
}

pub returns : goal.returns
returns g c = record {
  passed = let free = c.free-free.result in
      let piece = c.args.piece.now in
      let done = c.in_ok-done.done in
      let rest_is : c.add-2.new.self ≡ drop done (drop free piece) =
      c.add-2.ensures
      ∙ ap (λ (front : List ℕ). front ++ take (length piece - (free + done))
      (drop (free + done) piece)) (c.self-2.view_is ∙ c.in_ok-finish.ensures.none)
      ∙ part_from (free + done) piece
      ∙ sym (drop-drop done free piece) in
      subst
      (λ (after : List ℕ). AppendsWaiting c.args.name.now (c.args.self.now ++ piece) after
      (g.D.Folder.seen c.args.folder.now).files (g.D.Folder.seen c.write_whole.new.folder).files)
      (sym rest_is)
      (passed_then
      (passed_waiting c.args.name.now c.args.self.now piece free _ _
      (rw (c.add.ensures, c.self.view_is) at c.in_ok-finish.ensures.appended))
      (passed_front done
      (rw part_from at c.in_ok-done.ensures.written)));
  prefix = search rules;
  none = search rules;
  few = search rules;
  failed = search rules;
  done = search rules;
  counts = search rules;
}
