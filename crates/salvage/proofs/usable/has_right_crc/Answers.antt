-- A protected frame has room for a check word, which is judged by the frame's header and side
-- information.
use Rattle.std.proofs.Common.{ap, arith, sym, true, ◌+◌, ◌∙◌, ◌≡◌}
use Rattle.frame_header.specs.Tables.{class_of, side_size_of}
use Rattle.salvage.proofs.usable.has_right_crc.Goals.{After-stored_crc}
use Rattle.side_info.proofs.FrameLemmas.{overhead-protected, room-protected}
use Rattle.salvage.proofs.usable.has_right_crc.Goals as goal

is_protected : (c : After-stored_crc) → c.args.header.now.protected ≡ true
is_protected c = sym (ap (λ h. h.protected) c.header.view_is) ∙ c.if-not-header.false

side_end_is : (c : After-stored_crc)
    → 6 + c.side_size.result ≡ 6 + side_size_of (class_of c.args.header.now)
side_end_is c = omega (arith, c.side_size.ensures.size ∙ ap side_size_of c.class.ensures)

pub stored_crc-requires : goal.stored_crc-requires
stored_crc-requires c = grind (arith, room-protected)

pub right_crc-requires : goal.right_crc-requires
right_crc-requires c = grind (arith, side_end_is, overhead-protected, is_protected)

pub returns : goal.returns
returns c = grind (arith, is_protected, side_end_is)
