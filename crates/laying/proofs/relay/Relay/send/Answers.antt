-- The bytes wait, and then all that waits is written.
use Rattle.std.proofs.Common.{ap, append-nil, List, rules, sym, ℕ, [], ◌++◌, ◌∙◌, ◌≡◌}
use Rattle.frame_writer.proofs.WritingLemmas.{err-map, ok-map}
use Rattle.outside.proofs.BufferOutputLemmas.{passed_then_all, passed_then_prefix, passed_there}
use Rattle.outside.{proofs.PassLemmas.causes_later, specs.BufferOutput.AppendsWaiting}
use Rattle.outside.specs.Files.{Files, with_appended_bytes}
use Rattle.laying.proofs.relay.Relay.send.Goals as goal

-- some bytes were passed on, and then all others
all_on : {name before mid after : List ℕ} {f g h : Files} → AppendsWaiting name before mid f g
    → after ≡ [] → h ≡ with_appended_bytes g name mid →
    AppendsWaiting name before after f h
all_on {name} {before} {mid} {after} {f} {g} {h} p none all = record {
  passed = before;
  split = sym (ap (λ (xs : List ℕ). before ++ xs) none ∙ append-nil before);
  files = passed_then_all p all;
}

pub finish-requires : goal.finish-requires
finish-requires g c = passed_there c.in_ok-push.ensures.passed

pub returns-clause-hands : goal.returns-clause-hands
returns-clause-hands g c = record {
  passed = ok-map c.finish.result (all_on c.in_ok-push.ensures.passed c.finish.ensures.none)
      c.finish.ensures.appended;
  prefix = err-map c.finish.result (passed_then_prefix c.in_ok-push.ensures.passed)
      c.finish.ensures.prefix;
  done = search rules;
  cause = let seen = g.D.Folder.seen in
      let on = c.in_ok-push.ensures.passed in
      causes_later c.finish.result _ (seen c.args.folder.now).files
      (seen c.push.new.folder).files c.args.self.now.pass.output.now on.passed _ _ _
      on.files c.in_ok-push.ensures.done c.finish.ensures.cause;
}
