-- The bytes before the tag, the new tag, and the bytes after it.
use Rattle.std.proofs.Common.{List, refl, rules, ℕ, ◌++◌}
use Rattle.std.proofs.lemmas.Result.{err_from_is_err_and, on_ok_weaker}
use Rattle.moved_gains.specs.{Moving.bytes_around, declared.moving.NewTag.NewTag}
use Rattle.outside.proofs.BufferOutputLemmas.{err_at, err_by}
use Rattle.outside.proofs.PassLemmas.{cause_behind, causes_behind, prefix_as, prefix_piece}
use Rattle.outside.proofs.PassLemmas.{prefix_then, writes_piece, writes_then}
use Rattle.outside.specs.Pass.{bytes_between}
use Rattle.moved_gains.proofs.moving.GainPass.copy_around.Goals as goal

-- the new tag, and what is after what it replaces
abbrev rest : NewTag → ℕ → List ℕ → List ℕ
rest tag to file = tag.bytes.now ++ bytes_between file tag.end to

pub returns-in_err-copy : goal.returns-in_err-copy
returns-in_err-copy g c = record {
  written = search rules;
  prefix = let tag = c.args.tag.now in
      err_at c.from_residual.result _ c.from_residual.ensures.1
      (prefix_as c.args.self.now.pass (bytes_around tag c.args.from c.args.to) (rest tag c.args.to)
      (λ file holds. refl) c.in_err-copy.ensures.prefix);
  done = search rules;
  cause = search rules;
  ready = search rules;
}

pub returns-in_err-push : goal.returns-in_err-push
returns-in_err-push g c = record {
  written = search rules;
  prefix = let pass = c.args.self.now.pass in
      let tag = c.args.tag.now in
      err_at c.from_residual-in_err-push.result _ c.from_residual-in_err-push.ensures.1
      (prefix_then c.requires.ready.apart c.in_ok-copy.ensures.written
      (prefix_as pass (rest tag c.args.to) (λ file. bytes_between file tag.end c.args.to)
      (λ file holds. refl)
      (prefix_piece pass
      (λ file holds. refl) c.in_err-push.ensures.prefix)));
  done = search rules;
  cause = let p = err_from_is_err_and c.from_residual-in_err-push.result
      c.from_residual-in_err-push.ensures.1 in
      rw (p.1, p.2) (cause_behind c.in_ok-copy.ensures.written _ _ c.in_ok-copy.ensures.done _
      c.in_err-push.ensures.cause);
  ready = search rules;
}

pub returns : goal.returns
returns g c = record {
  written = let pass = c.args.self.now.pass in
      let apart = c.requires.ready.apart in
      let second = writes_piece pass {made = λ file. c.args.tag.now.bytes.now}
      (λ file holds. refl) c.in_ok-push.ensures.passed in
      on_ok_weaker c.copy-2.result (λ third. writes_then apart
      c.in_ok-copy.ensures.written (writes_then apart second third))
      c.copy-2.ensures.written;
  prefix = err_by c.copy-2.result
      (λ fault third.
      prefix_then c.requires.ready.apart c.in_ok-copy.ensures.written
      (prefix_then c.requires.ready.apart (writes_piece c.args.self.now.pass
      {made = λ file. c.args.tag.now.bytes.now} (λ file holds. refl) c.in_ok-push.ensures.passed)
      third))
      c.copy-2.ensures.prefix;
  done = search rules;
  cause = let pass = c.args.self.now.pass in
      let second = writes_piece pass {made = λ file. c.args.tag.now.bytes.now}
      (λ file holds. refl) c.in_ok-push.ensures.passed in
      causes_behind c.in_ok-copy.ensures.written _ _ c.in_ok-copy.ensures.done c.copy-2.result
      (causes_behind second _ _
      c.in_ok-push.ensures.done c.copy-2.result c.copy-2.ensures.cause);
  ready = search rules;
}
