-- The frame goes into the buffer, and the buffer to the file.
use Rattle.std.proofs.Common.{ap, ap₂, List, rules, subst, ℕ, [], ◌∙◌, ◌≡◌}
use Rattle.frame_header.specs.Fields.{HeaderFields}
use Rattle.frame_writer.proofs.WritingLemmas.{is-open, passed-sent, unsent-prefix, writes-sent}
use Rattle.frame_writer.proofs.WritingLemmas.{writes-unsent}
use Rattle.frame_writer.specs.Frames.{Frame, frame_with_data, held_bytes, WaitingFrames}
use Rattle.frame_writer.specs.Writer.{IsWriterSettled, Writer}
use Rattle.frame_writer.specs.Writing.{AcceptsFrame, bytes_with_frame, WritesPart, Writing}
use Rattle.frame_writer.specs.{Writing.writing_of, declared.writer.State.State}
use Rattle.outside.proofs.BufferOutputLemmas.{on_err, passed_there}
use Rattle.outside.specs.BufferOutput.{AppendedPrefix, AppendsWaiting}
use Rattle.side_info.specs.{FrameFields.FrameFields, declared.side.Side.Side}
use Rattle.frame_writer.proofs.writer.Writer.frame.Goals as goal

-- nothing waits in the buffer of an open writer
nothing : (held : WaitingFrames) (unsent : List ℕ) (state : State) (now : Writer)
    → IsWriterSettled state held unsent →
    record { held = held; state = state } ≡ now → now.state ≡ State.Open
    → writing_of held unsent ≡ writing_of now.held []
nothing held unsent state now settled view opened =
    ap₂ writing_of (ap (λ (w : Writer). w.held) view)
    (is-open settled (ap (λ (w : Writer). w.state) view ∙ opened)).0

-- the frame that is given
given_is : (h : HeaderFields) (s : Side) (payload : List ℕ) (front : FrameFields) (whole : List ℕ)
    (frame : Frame) → frame ≡ record { kept = front; payload = whole } → front
    ≡ record { header = h; side = s } → whole ≡ payload → frame ≡ frame_with_data h s payload
given_is h s payload front whole frame is kept same = search rules

pub finish-requires : goal.finish-requires
finish-requires g c = passed_there c.in_ok-frame.ensures.answer.passed

pub returns-in_err-finish-clause-answer : goal.returns-in_err-finish-clause-answer
returns-in_err-finish-clause-answer g c = record {
  written = search rules;
  passed = search rules;
  part = let old = nothing c.self.inside.queue c.self.inside.unsent c.self.inside.state
      c.args.self.now c.self.invariant c.self.view_is c.requires.ready in
      let new = writing_of c.frame.new.self c.frame.new.unsent in
      on_err c.from_residual-in_err-finish.result
      (subst (λ (w : Writing). WritesPart c.args.name.now
      (frame_with_data c.args.header.now c.args.side.now c.args.payload.now) w c.frame.new.self
      (g.D.Folder.seen c.args.folder.now).files (g.D.Folder.seen c.finish.new.folder).files) old
      (subst (λ (f : Frame). WritesPart c.args.name.now f
      (writing_of c.self.inside.queue c.self.inside.unsent) c.frame.new.self
      (g.D.Folder.seen c.args.folder.now).files (g.D.Folder.seen c.finish.new.folder).files)
      (given_is c.args.header.now c.args.side.now c.args.payload.now c.new-front.result
      c.whole.result c.new-frame.result c.new-frame.ensures c.new-front.ensures c.whole.ensures)
      (writes-unsent c.in_ok-frame.ensures.answer.written c.in_err-finish.ensures.prefix)));
  prefix = let old = nothing c.self.inside.queue c.self.inside.unsent c.self.inside.state
      c.args.self.now c.self.invariant c.self.view_is c.requires.ready in
      let new = writing_of c.frame.new.self c.frame.new.unsent in
      on_err c.from_residual-in_err-finish.result
      (subst (λ (w : Writing). AppendedPrefix c.args.name.now (bytes_with_frame w
      (frame_with_data c.args.header.now c.args.side.now c.args.payload.now))
      (g.D.Folder.seen c.args.folder.now).files (g.D.Folder.seen c.finish.new.folder).files) old
      (subst (λ (f : Frame). AppendedPrefix c.args.name.now
      (bytes_with_frame (writing_of c.self.inside.queue c.self.inside.unsent) f)
      (g.D.Folder.seen c.args.folder.now).files (g.D.Folder.seen c.finish.new.folder).files)
      (given_is c.args.header.now c.args.side.now c.args.payload.now c.new-front.result
      c.whole.result c.new-frame.result c.new-frame.ensures c.new-front.ensures c.whole.ensures)
      (unsent-prefix new c.in_ok-frame.ensures.answer.passed c.in_err-finish.ensures.prefix)));
  class = search rules;
  reach = search rules;
  failed = search rules;
  done = search rules;
  counts = search rules;
}

pub returns-clause-answer : goal.returns-clause-answer
returns-clause-answer g c = record {
  written = let old = nothing c.self.inside.queue c.self.inside.unsent c.self.inside.state
      c.args.self.now c.self.invariant c.self.view_is c.requires.ready in
      let new = writing_of c.frame.new.self c.frame.new.unsent in
      subst (λ (w : Writing).
      AcceptsFrame c.args.name.now (frame_with_data c.args.header.now c.args.side.now
      c.args.payload.now) w (writing_of c.frame.new.self [])
      (g.D.Folder.seen c.args.folder.now).files (g.D.Folder.seen c.finish.new.folder).files) old
      (subst (λ (f : Frame). AcceptsFrame c.args.name.now f
      (writing_of c.self.inside.queue c.self.inside.unsent) (writing_of c.frame.new.self [])
      (g.D.Folder.seen c.args.folder.now).files (g.D.Folder.seen c.finish.new.folder).files)
      (given_is c.args.header.now c.args.side.now c.args.payload.now c.new-front.result
      c.whole.result c.new-frame.result c.new-frame.ensures c.new-front.ensures c.whole.ensures)
      (writes-sent c.in_ok-frame.ensures.answer.written c.in_ok-finish.ensures.appended));
  passed = let old = nothing c.self.inside.queue c.self.inside.unsent c.self.inside.state
      c.args.self.now c.self.invariant c.self.view_is c.requires.ready in
      let new = writing_of c.frame.new.self c.frame.new.unsent in
      subst (λ (w : Writing). AppendsWaiting c.args.name.now (bytes_with_frame w
      (frame_with_data c.args.header.now c.args.side.now c.args.payload.now))
      (held_bytes c.frame.new.self)
      (g.D.Folder.seen c.args.folder.now).files (g.D.Folder.seen c.finish.new.folder).files) old
      (subst (λ (f : Frame). AppendsWaiting c.args.name.now (bytes_with_frame
      (writing_of c.self.inside.queue c.self.inside.unsent) f) (held_bytes c.frame.new.self)
      (g.D.Folder.seen c.args.folder.now).files (g.D.Folder.seen c.finish.new.folder).files)
      (given_is c.args.header.now c.args.side.now c.args.payload.now c.new-front.result
      c.whole.result c.new-frame.result c.new-frame.ensures c.new-front.ensures c.whole.ensures)
      (passed-sent new c.in_ok-frame.ensures.answer.passed c.in_ok-finish.ensures.appended));
  part = search rules;
  prefix = search rules;
  class = search rules;
  reach = search rules;
  failed = search rules;
  done = search rules;
  counts = search rules;
}
