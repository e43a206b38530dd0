-- The 32 bytes begin with the side information.
use Rattle.std.proofs.Common.{ap, arith, drop, length, List, subst, take, ℕ, ◌++◌, ◌+◌, ◌∙◌, ◌≡◌}
use Rattle.std.proofs.lemmas.List.{length-take-le}
use Rattle.bit_fields.specs.Bits.{bytes}
use Rattle.frame_header.specs.Tables.{class_of, side_size_of}
use Rattle.side_info.proofs.FrontLemmas.{part-size, put-first, room-is}
use Rattle.side_info.specs.{FrameFields.FrameFields, Side.side_bits}
use Rattle.side_info.proofs.frame_front.FrameFront.put_room.Goals as goal

pub returns : goal.returns
returns c =
    let a = c.self.inside in
    let offset = c.args.offset in
    let room = c.args.room.now in
    let new = c.put_bytes.new.frame in
    subst (λ (f : FrameFields). take (offset + side_size_of (class_of f.header)) new
    ≡ take offset room ++ bytes (side_bits (class_of f.header) f.side)) c.self.view_is
    (put-first (take offset room) _ _ (drop (offset + length a.side) room)
    (c.put_bytes.ensures ∙ ap (λ (xs : List ℕ). take offset room
    ++ (xs ++ drop (offset + length a.side) room)) (room-is c.self.invariant))
    (omega
    (arith, length-take-le offset room (omega (arith, c.requires)), part-size c.self.invariant)))
