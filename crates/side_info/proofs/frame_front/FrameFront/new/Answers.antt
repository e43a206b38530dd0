-- The bytes that are written are the bytes of the fields.
use Rattle.std.proofs.Common.{ap, length, List, subst, ℕ, ◌∙◌, ◌≡◌}
use Rattle.bit_fields.{proofs.BitsLemmas.AreBytes-bytes, specs.Bits.{AreBytes, bits, bytes}}
use Rattle.frame_header.{proofs.HeaderLemmas.IsHeader-header_at, specs.Fields.IsHeader}
use Rattle.frame_header.specs.Tables.{class_of, side_size_of}
use Rattle.side_info.proofs.FrontLemmas.{are_written, written_fields}
use Rattle.side_info.proofs.SideLemmas.{AreBits-side_bits}
use Rattle.side_info.proofs.frame_front.FrameFront.new.Goals.{After-room_of}
use Rattle.side_info.specs.{FrameFields.FrameFields, FrontBytes.padded_side}
use Rattle.side_info.specs.{Side.{side_at, side_bits}, declared.side.Side.Side}
use Rattle.side_info.proofs.frame_front.FrameFront.new.Goals as goal

known : (c : After-room_of) → IsHeader c.args.header.now
known c = IsHeader-header_at c.bytes.result c.bytes.ensures.back

part : (c : After-room_of) → List ℕ
part c = bytes (side_bits (class_of c.args.header.now) c.args.side.now)

size : (c : After-room_of) → length (part c) ≡ side_size_of (class_of c.args.header.now)
unfolding part
size c = subst (λ d. length (bytes (side_bits d c.args.side.now)) ≡ side_size_of d)
    c.class.ensures c.room_of.ensures.size

all : (c : After-room_of) → AreBytes (part c)
unfolding part
all c = AreBytes-bytes (side_bits (class_of c.args.header.now) c.args.side.now)
    (AreBits-side_bits (class_of c.args.header.now) c.args.side.now)

room : (c : After-room_of) → c.room_of.result ≡ padded_side (part c)
unfolding part
room c = subst (λ d. c.room_of.result ≡ padded_side (bytes (side_bits d c.args.side.now)))
    c.class.ensures c.room_of.ensures.room

back : (c : After-room_of) → side_at (class_of c.args.header.now) (bits (part c)) ≡ c.args.side.now
unfolding part
back c = subst (λ d. side_at d (bits (bytes (side_bits d c.args.side.now))) ≡ c.args.side.now)
    c.class.ensures c.room_of.ensures.back

pub invariant_of-result : goal.invariant_of-result
invariant_of-result c =
    let at = (goal.at.invariant_of-result c).After-room_of in
    are_written (known at) c.bytes.result (part at)
    c.bytes.ensures.bits c.bytes.ensures.octets (size at) (all at) (room at)

pub returns : goal.returns
returns c =
    let at = (goal.at.returns c).After-room_of in
    written_fields (known at) c.bytes.result (part at)
    c.bytes.ensures.bits c.bytes.ensures.octets (size at) (all at) (room at)
    ∙ ap {A = Side} {B = FrameFields} (λ s. record { header = c.args.header.now; side = s })
    (back at)
