-- There is room, and pushing keeps what the queues hold together.
use Rattle.std.proofs.Common.{ap, arith, length, length-append, List, subst, sym, [], ◌++◌, ◌<◌}
use Rattle.std.proofs.Common.{◌∙◌, ◌∷◌, ◌≡◌}
use Rattle.frame_writer.proofs.FrameLemmas.{areas_length-pushed, AreFieldsOfClass-more, few-wait}
use Rattle.frame_writer.proofs.FrameLemmas.{more-written, pushed-kept}
use Rattle.frame_writer.proofs.queue.FrameQueue.push.Goals.{After-frame, After-push}
use Rattle.frame_writer.specs.Frames.{AreFramesWritten, Frame, frame_area, WaitingFrames}
use Rattle.frame_writer.specs.{Laid.AreAreasLaid, Laws.HasFrameRoom}
use Rattle.side_info.specs.FrameFields.{FrameFields}
use Rattle.frame_writer.proofs.queue.FrameQueue.push.Goals as goal

-- the frames that wait
abbrev held : After-frame → WaitingFrames
held c = record {
  class = c.self.inside.class;
  kept = c.self.inside.kept.items;
  waiting = c.self.inside.areas;
}

-- another frame may wait
room : (c : After-frame) → HasFrameRoom (held c)
room c = grind (arith, few-wait)

pub push-requires-clause-room : goal.push-requires-clause-room
push-requires-clause-room c = omega (arith, (room c).room, c.area-area.ensures.most)

-- the frame is the last that waits
pushed : (c : After-push) → length c.self.inside.kept.items < 256
    → (c.try_push_back.new.self.capacity ≡ 256)
    × (c.try_push_back.new.self.items ≡ c.self.inside.kept.items ++ c.args.frame.now.kept ∷ [])
pushed c few = grind (arith, pushed-kept)

pub invariant_of-self : goal.invariant_of-self
invariant_of-self c = grind (arith, room, length-append, areas_length-pushed, AreFieldsOfClass-more)

pub returns-clause-kept : goal.returns-clause-kept
returns-clause-kept c = grind (arith, pushed, room)

pub returns-clause-written : goal.returns-clause-written
returns-clause-written c = λ taken fs are.
    let queue = c.self.inside.kept in
    let pushed = pushed c (room (goal.at.returns-clause-written c).After-frame).few in
    let f : Frame = record { kept = c.front-front.result; payload = c.frame.inside.payload } in
    let is : f ≡ c.args.frame.now = λ i. record {
      kept = c.front-front.ensures i;
      payload = ap (λ (x : Frame). x.payload) c.frame.view_is i;
    } in
    subst (λ (ks : List FrameFields). AreFramesWritten taken
    (record { class = c.self.inside.class; kept = ks; waiting = c.push.new.self })
    (fs ++ c.args.frame.now ∷ [])) (sym pushed.1)
    (subst (λ (f : Frame). AreFramesWritten taken (record {
      class = c.self.inside.class;
      kept = queue.items ++ f.kept ∷ [];
      waiting = c.push.new.self;
    }) (fs ++ f ∷ [])) is
    (more-written f
    (λ given ps laid.
    subst (λ n. AreAreasLaid given
    c.push.new.self (ps ++ record { payload = f.payload; begin = n; area = frame_area f.kept }
    ∷ []))
    (c.from.ensures ∙ c.begin_in-begin.ensures.begin)
    (subst (λ n. AreAreasLaid given c.push.new.self (ps ++ record {
      payload = f.payload;
      begin = c.from.result;
      area = n;
    } ∷ [])) c.area-area.ensures.area
    (c.push.ensures.laid given ps laid)))
    (subst (λ h. AreFramesWritten taken h fs) (sym c.self.view_is) are)))
