-- What waited is appended, and more is read.
use Rattle.std.proofs.Common.{ap, arith, drop, length, length-drop, length-take, List, rules, subst}
use Rattle.std.proofs.Common.{sym, take, ℕ, [], ◌++◌, ◌-◌, ◌∙◌, ◌≡◌}
use Rattle.std.proofs.lemmas.Result.{err_from_is_err_and}
use Rattle.moved_gains.proofs.BufferLemmas.{all_on}
use Rattle.outside.proofs.{BufferOutputLemmas.err_at, FeedLemmas.{fed_by, fed_front, fills}}
use Rattle.outside.proofs.PassLemmas.{cause_later, input_held, prefix_nothing, prefix_then}
use Rattle.outside.proofs.PassLemmas.{ready_later, still_there}
use Rattle.outside.specs.{Files.{Holds, with_appended_bytes}, Pass.IsPassReady}
use Rattle.moved_gains.proofs.buffers.GainBuffers.refill.Goals as goal

pub read_behind-requires-clause-input : goal.read_behind-requires-clause-input
read_behind-requires-clause-input g c = grind (arith, still_there, input_held)

pub returns-in_err-self-inside : goal.returns-in_err-self-inside
returns-in_err-self-inside g c = record {
  passed = search rules;
  file_offset = search rules;
  enough = search rules;
  prefix = let pass = c.args.pass.now in
      let first = c.in_ok-hand_on.ensures.appended
      ∙ ap (with_appended_bytes (g.D.Folder.seen c.args.folder.now).files pass.output.now)
      (ap (take c.self.inside.done) c.deref.ensures.value ∙ ap (λ p. p.waiting) c.self.view_is) in
      err_at c.from_residual-in_err-self-inside.result _
      c.from_residual-in_err-self-inside.ensures.1
      (prefix_then {pass = pass} c.requires.ready.apart (all_on first)
      (prefix_nothing pass (λ file. []) []
      c.in_err-self-inside.ensures.read c.in_err-self-inside.ensures.files (still_there _
      pass.output.now _ pass.output.now c.in_ok-hand_on.ensures.appended c.requires.ready.target)));
  done = search rules;
  cause = grind (arith, err_from_is_err_and, cause_later);
  ready = search rules;
}

pub returns : goal.returns
returns g c = record {
  passed = search rules;
  file_offset = search rules;
  enough = grind (arith, fills, length-take);
  prefix = search rules;
  done = search rules;
  cause = search rules;
  ready = let pass = c.args.pass.now in
      let a = c.self.inside in
      let k = c.in_ok-self-inside.field-0 in
      let room = c.read_behind.new.room in
      let fed = c.args.self.now.feed in
      let ready = subst (λ f. IsPassReady pass f fed) (sym c.in_ok-self-inside.ensures.files)
      (ready_later _ c.in_ok-hand_on.ensures.appended c.requires.ready) in
      let size : length c.as_mut_slice-room.result.now ≡ 65536 =
      ap length c.as_mut_slice-room.ensures.value ∙ c.self.invariant.size in
      let long : length room ≡ 65536 =
      omega (arith, c.read_behind.auto.room, c.keep_from-kept.auto.room, size) in
      let room_is : take a.room.len (room ++ drop (length room) a.room.items) ≡ room =
      fills _ (omega (arith, long, size, c.as_mut_slice-room.ensures.len)) in
      let count : k - 0 ≡ k = omega arith in
      record {
        apart = ready.apart;
        source = ready.source;
        target = ready.target;
        length_is = ready.length_is;
        few = ready.few;
        fed_from = record {
          same = λ file holds.
              let mid =
              subst (λ f. Holds f pass.input.now file) c.in_ok-self-inside.ensures.files holds in
              let old = input_held _ _ file
              c.requires.ready.apart c.in_ok-hand_on.ensures.appended mid in
              let was = subst (λ p. take (length p.feed.held) (drop p.feed.file_offset file)
              ≡ p.feed.held) (sym c.self.view_is) (c.requires.ready.fed_from.same file old) in
              let front = fed_front a.file_offset (drop a.done a.room.items) file (omega
              (arith, length-drop a.done a.room.items, c.self.invariant.size, c.self.invariant.few))
              was in
              let kept = c.keep_from-kept.ensures.kept file (front ∙ ap (λ (l : List ℕ).
              take (a.end - a.done) (drop a.done l)) (sym c.as_mut_slice-room.ensures.value)) in
              let read = c.in_ok-self-inside.ensures.bytes file mid kept in
              subst (λ (l : List ℕ). take (length (take (k - 0) l)) (drop c.args.at file)
              ≡ take (k - 0) l) (sym room_is)
              (subst (λ n. take (length (take n room)) (drop c.args.at file) ≡ take n room)
              (sym count) (fed_by c.args.at room file
              (omega (arith, long, c.in_ok-self-inside.ensures.most)) read));
        };
      };
}
