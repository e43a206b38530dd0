-- What waits goes into the buffer, and the buffer to the file.
use Rattle.std.proofs.Common.{ap, ap₂, List, rules, subst, ℕ, ◌++◌, ◌∙◌, ◌≡◌}
use Rattle.frame_writer.{proofs.WritingLemmas.is-open, specs.Frames.{held_bytes, WaitingFrames}}
use Rattle.frame_writer.specs.{Writer.{IsWriterSettled, Writer}, declared.writer.State.State}
use Rattle.outside.proofs.BufferOutputLemmas.{on_err, passed_then_all, passed_then_prefix}
use Rattle.outside.{proofs.BufferOutputLemmas.passed_there, specs.BufferOutput.AppendedPrefix}
use Rattle.outside.specs.Files.{with_appended_bytes}
use Rattle.frame_writer.proofs.writer.Writer.finish.Goals as goal

-- all that waits in an open writer is the frames' bytes
all : (held : WaitingFrames) (unsent : List ℕ) (state : State) (now : Writer)
    → IsWriterSettled state held unsent →
    record { held = held; state = state } ≡ now → now.state ≡ State.Open
    → unsent ++ held_bytes held ≡ held_bytes now.held
all held unsent state now settled view opened =
    ap₂ (λ (xs : List ℕ) (h : WaitingFrames). xs ++ held_bytes h)
    (is-open settled (ap (λ (w : Writer). w.state) view ∙ opened)).0
    (ap (λ (w : Writer). w.held) view)

pub finish-requires-2 : goal.finish-requires-2
finish-requires-2 g c = passed_there c.in_ok-finish.ensures.passed

pub returns-in_err-finish-2 : goal.returns-in_err-finish-2
returns-in_err-finish-2 g c = record {
  appended = search rules;
  none = search rules;
  finished = search rules;
  prefix = on_err c.from_residual-in_err-finish-2.result
      (subst (λ (xs : List ℕ). AppendedPrefix c.args.name.now xs
      (g.D.Folder.seen c.args.folder.now).files (g.D.Folder.seen c.finish-2.new.folder).files)
      (all c.self.inside.queue c.self.inside.unsent c.self.inside.state c.args.self.now
      c.self.invariant c.self.view_is c.requires.ready)
      (passed_then_prefix c.in_ok-finish.ensures.passed c.in_err-finish-2.ensures.prefix));
  ended = search rules;
  failed = search rules;
  done = search rules;
  counts = search rules;
}

pub returns : goal.returns
returns g c = record {
  appended = passed_then_all c.in_ok-finish.ensures.passed c.in_ok-finish-2.ensures.appended
      ∙ ap (with_appended_bytes (g.D.Folder.seen c.args.folder.now).files c.args.name.now)
      (all c.self.inside.queue c.self.inside.unsent c.self.inside.state c.args.self.now
      c.self.invariant c.self.view_is c.requires.ready);
  none = search rules;
  finished = search rules;
  prefix = search rules;
  ended = search rules;
  failed = search rules;
  done = search rules;
  counts = search rules;
}
