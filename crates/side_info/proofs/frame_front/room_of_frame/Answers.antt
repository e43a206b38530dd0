-- A part of bytes.
use Rattle.std.proofs.Common.{arith, drop}
use Rattle.bit_fields.proofs.BitsLemmas.{AreBelow-drop, AreBelow-take, AreBytes-from_places}
use Rattle.frame_header.specs.Tables.{class_of, side_size_of}
use Rattle.side_info.specs.Frame.{side_offset, side_part}
use Rattle.side_info.proofs.frame_front.room_of_frame.Goals as goal

pub returns-clause-octets : goal.returns-clause-octets
unfolding side_part
returns-clause-octets c =
    let h = c.args.header.now in
    AreBelow-take 256 (side_size_of (class_of h)) (drop (side_offset h.protected) c.args.frame.now)
    (AreBelow-drop 256 (side_offset h.protected) c.args.frame.now
    (AreBytes-from_places c.args.frame.now (λ i. omega (arith, c.type_inv.frame i))))
