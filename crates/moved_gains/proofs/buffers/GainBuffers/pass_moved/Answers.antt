-- The next bytes become the frame with moved gains, and wait.
use Rattle.std.proofs.Common.{ap, arith, drop, length, take, ◌++◌, ◌+◌, ◌-◌, ◌∙◌, ◌≡◌, ◌≤◌}
use Rattle.std.proofs.lemmas.{List.{length-take, take-take}, Slice.{drop-put_mid, take-put_mid}}
use Rattle.moved_gains.proofs.BufferLemmas.{held_later}
use Rattle.moved_gains.proofs.buffers.GainBuffers.pass_moved.Goals.{After-self-3-1}
use Rattle.moved_gains.specs.Moving.{moved_bytes}
use Rattle.outside.proofs.FeedLemmas.{fills}
use Rattle.side_info.specs.Frame.{side_in}
use borrow.Rule.Slice.PartMut.{put_mid, same_len_mid}
use Rattle.moved_gains.proofs.buffers.GainBuffers.pass_moved.Goals as goal

within : (c : After-self-3-1) → c.self.inside.done + c.args.n ≤ c.self.inside.end
within c = grind (arith, length-take)

-- the next bytes, which are the frame
count : (c : After-self-3-1) → c.self.inside.done + c.args.n - c.self.inside.done ≡ c.args.n
count c = omega arith

frame_is : (c : After-self-3-1) → take (c.self.inside.done + c.args.n - c.self.inside.done)
    (drop c.self.inside.done c.deref_mut.result.now) ≡ take c.args.n c.args.self.now.feed.held
frame_is c = grind (arith, count c, take-take, within c)

size : (c : After-self-3-1) → length c.move_front.new.front ≡ c.args.n
size c = grind (arith, frame_is, length-take)

-- the buffer with the changed frame in it
room_is : (c : After-self-3-1)
    → take c.self.inside.room.len (put_mid c.self.inside.done (c.self.inside.done + c.args.n
    - c.self.inside.done) c.deref_mut.result.now c.move_front.new.front
    ++ drop (length (put_mid c.self.inside.done (c.self.inside.done + c.args.n - c.self.inside.done)
    c.deref_mut.result.now c.move_front.new.front)) c.self.inside.room.items)
    ≡ put_mid c.self.inside.done (c.self.inside.done + c.args.n - c.self.inside.done)
    c.self.inside.room.items c.move_front.new.front
room_is c = grind (arith, fills, put_mid, same_len_mid)

pub returns-clause-waiting : goal.returns-clause-waiting
returns-clause-waiting c =
    let a = c.self.inside in
    let new = c.move_front.new.front in
    let row = c.args.moved.now.row.now in (
      new,
      ap (take (a.done + c.args.n)) (room_is c)
          ∙ take-put_mid a.done (a.done + c.args.n - a.done) a.room.items new (a.done + c.args.n)
          (omega (arith, size c))
          (omega (arith, within c, c.self.invariant.size, c.self.invariant.few))
          ∙ ap (λ p. p.waiting ++ new) c.self.view_is,
      λ side. c.move_front.ensures (ap (side_in row.header) (frame_is c) ∙ side)
          ∙ ap (moved_bytes c.args.moved.now.steps row) (frame_is c),
    )

pub returns-clause-held : goal.returns-clause-held
returns-clause-held c = grind (arith, room_is c, drop-put_mid, within c, size c, held_later)
