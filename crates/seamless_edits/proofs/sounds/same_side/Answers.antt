-- The bytes are the same exactly if the bits are.
use Rattle.std.proofs.Common.{ap, bytes_eq, subst, sym, take, ◌∙◌}
use Rattle.frame_header.specs.Tables.{side_size_of}
use Rattle.seamless_edits.proofs.SoundLemmas.{bits-tested, compared_side-fits}
use Rattle.side_info.specs.Side.{side_bits, SideFits}
use Rattle.seamless_edits.proofs.sounds.same_side.Goals as goal

pub side_room-first-requires : goal.side_room-first-requires
side_room-first-requires c =
    subst (SideFits c.args.class) (sym c.bare_side.ensures)
    (compared_side-fits c.requires.first)

pub side_room-second-requires : goal.side_room-second-requires
side_room-second-requires c =
    subst (SideFits c.args.class) (sym c.bare_side-2.ensures)
    (compared_side-fits c.requires.second)

pub returns : goal.returns
returns c =
    let class = c.args.class in
    let one = c.side_room-first in
    let other = c.side_room-second in
    c.eq.ensures
    ∙ ap (λ n. bytes_eq (take n one.result) (take n other.result)) c.side_size-size.ensures.size
    ∙ bits-tested (take (side_size_of class) one.result) (take (side_size_of class) other.result)
    (one.ensures.bits ∙ ap (side_bits class) c.bare_side.ensures)
    (other.ensures.bits ∙ ap (side_bits class) c.bare_side-2.ensures)
    one.ensures.octets other.ensures.octets
