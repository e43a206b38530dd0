-- What waited, and then the piece.
use Rattle.std.proofs.Common.{ap, append-nil, length, refl, subst, sym, take, ◌++◌, ◌∙◌, ◌≡◌}
use Rattle.std.proofs.lemmas.{List.take_at, Result.{on_err_weaker, on_ok_weaker}}
use Rattle.moved_gains.proofs.{BufferLemmas.ready_empty, buffers.GainBuffers.push.Given.Over}
use Rattle.outside.proofs.BufferOutputLemmas.{on_err, passed_then_prefix, prefix_of_front}
use Rattle.outside.proofs.FilesLemmas.{appended_there, appended_twice}
use Rattle.outside.proofs.PassLemmas.{causes_later, ready_later}
use Rattle.outside.specs.{BufferOutput.AppendedPrefix, Files.{IsFileThere, with_appended_bytes}}
use Rattle.outside.specs.Pass.{route_of}
use Rattle.moved_gains.proofs.buffers.GainBuffers.push.Goals as goal

pub returns-in_err-hand_on-clause-prefix : goal.returns-in_err-hand_on-clause-prefix
returns-in_err-hand_on-clause-prefix g c =
    let waits = c.args.self.now.waiting in
    let piece = c.args.piece.now in
    on_err c.from_residual.result
    (prefix_of_front (length waits)
    (subst (λ l. AppendedPrefix c.args.pass.now.output.now l
    (g.D.Folder.seen c.args.folder.now).files (g.D.Folder.seen c.hand_on.new.folder).files)
    (ap (take c.self.inside.done) c.deref.ensures.value ∙ ap (λ p. p.waiting) c.self.view_is
    ∙ sym (take_at waits piece (length waits) refl)) c.in_err-hand_on.ensures.prefix))

pub hand_on-requires-2 : goal.hand_on-requires-2
hand_on-requires-2 g c = subst (λ f. IsFileThere f c.args.pass.now.output.now)
    (sym c.in_ok-hand_on.ensures.appended) (appended_there _ c.args.pass.now.output.now _)

-- what waited was appended
first : (g : Over) (c : goal.After-hand_on-2 g)
    → (g.D.Folder.seen c.hand_on.new.folder).files ≡ with_appended_bytes
    (g.D.Folder.seen c.args.folder.now).files c.args.pass.now.output.now c.args.self.now.waiting
first g c = c.in_ok-hand_on.ensures.appended
    ∙ ap (with_appended_bytes (g.D.Folder.seen c.args.folder.now).files c.args.pass.now.output.now)
    (ap (take c.self.inside.done) c.deref.ensures.value ∙ ap (λ p. p.waiting) c.self.view_is)

pub returns-clause-passed : goal.returns-clause-passed
returns-clause-passed g c =
    let waits = c.args.self.now.waiting in
    let output = c.args.pass.now.output.now in
    let old = (g.D.Folder.seen c.args.folder.now).files in
    on_ok_weaker c.hand_on-2.result
    (λ more. record {
      passed = waits ++ c.args.piece.now;
      split = sym (append-nil (waits ++ c.args.piece.now));
      files = more ∙ ap (λ f. with_appended_bytes f output c.args.piece.now) (first g c)
          ∙ appended_twice old output waits c.args.piece.now;
    })
    c.hand_on-2.ensures.appended

pub returns-clause-prefix : goal.returns-clause-prefix
returns-clause-prefix g c =
    on_err_weaker c.hand_on-2.result (passed_then_prefix (record {
      passed = c.args.self.now.waiting;
      split = refl;
      files = first g c;
    })) c.hand_on-2.ensures.prefix

pub returns-clause-cause : goal.returns-clause-cause
returns-clause-cause g c =
    causes_later c.hand_on-2.result (route_of c.args.pass.now) _ _ c.args.pass.now.output.now _ _ _
    _ c.in_ok-hand_on.ensures.appended c.in_ok-hand_on.ensures.done c.hand_on-2.ensures.cause

pub returns-clause-ready : goal.returns-clause-ready
returns-clause-ready g c =
    let pass = c.args.pass.now in
    on_ok_weaker c.hand_on-2.result
    (λ more. ready_empty refl
    (ready_later _ more (ready_later _
    c.in_ok-hand_on.ensures.appended c.requires.ready)))
    c.hand_on-2.ensures.appended
