-- The first four bytes are the header, and the part is the side information.
use Rattle.std.proofs.Common.{arith, length, length-drop, List, take, ℕ, ◌≡◌, ◌≤◌}
use Rattle.std.proofs.lemmas.List.{length-take-le}
use Rattle.bit_fields.{proofs.BitsLemmas.AreBits-bits, specs.Bits.bits}
use Rattle.frame_header.proofs.HeaderLemmas.{header_bits-header_at, IsClass-class_of}
use Rattle.frame_header.proofs.HeaderLemmas.{IsHeader-header_at}
use Rattle.frame_header.specs.{Fields.{HeaderFields, IsHeader}, HeaderBits.header_bits}
use Rattle.frame_header.specs.Tables.{class_of, overhead_of, side_size_of}
use Rattle.side_info.proofs.FrameLemmas.{overhead-is, overhead-least}
use Rattle.side_info.proofs.{FrontLemmas.{are_written, written_fields}, SideLemmas.SideFits-side_at}
use Rattle.side_info.proofs.frame_front.FrameFront.read_in.Goals.{After-room_of_frame}
use Rattle.side_info.specs.{Frame.{side_in, side_part}, FrontBytes.front_view}
use Rattle.side_info.proofs.frame_front.FrameFront.read_in.Goals as goal

least : (h : HeaderFields) (frame : List ℕ) → overhead_of (class_of h) h.protected ≤ length frame
    → 4 ≤ length frame
least h frame room = omega (arith, room, overhead-least (class_of h) h.protected)

pub first_four-requires : goal.first_four-requires
first_four-requires c = least c.args.header.now c.args.frame.now c.requires.room

known : (c : After-room_of_frame) → IsHeader c.args.header.now
known c = IsHeader-header_at (take 4 c.args.frame.now) c.requires.heads

head : (c : After-room_of_frame) → bits c.first_four.result ≡ header_bits c.args.header.now
head c = grind (arith, header_bits-header_at, length-take-le, least)

size : (h : HeaderFields) (frame : List ℕ) → overhead_of (class_of h) h.protected ≤ length frame
    → length (side_part h frame) ≡ side_size_of (class_of h)
unfolding side_part
size h frame room = grind (arith, length-take-le, length-drop, overhead-is)

fields : (c : After-room_of_frame)
    → front_view (record { header = c.first_four.result; side = c.room_of_frame.result })
    ≡ record { header = c.args.header.now; side = side_in c.args.header.now c.args.frame.now }
unfolding side_in
fields c = search (arith, written_fields, known, head, size)

pub invariant_of-result : goal.invariant_of-result
invariant_of-result c = search (arith, are_written, known, head, size)

pub returns : goal.returns
unfolding side_in
returns c = search (arith, fields, SideFits-side_at, IsClass-class_of, known, AreBits-bits)
