-- The bytes that the group reaches are written again.
use Rattle.std.proofs.Common.{arith, drop, length, take, ◌*◌, ◌+◌, ◌-◌, ◌/◌, ◌<◌, ◌^◌, ◌≡◌}
use Rattle.bit_fields.proofs.BitsLemmas.{number-bits-below}
use Rattle.bit_fields.proofs.GroupBytesLemmas.{whole_small, write_group}
use Rattle.bit_fields.proofs.writer.put_in_bytes.Goals.{After-number_of}
use Rattle.bit_fields.proofs.writer.put_in_bytes.Goals as goal

size : (c : After-number_of)
    → length (take (c.args.last - c.args.at / 8) (drop (c.args.at / 8) c.args.bytes.now))
    ≡ c.args.last - c.args.at / 8
size c = cc

below : (c : After-number_of) → c.number_of.result
    < 2 ^ (8 * length (take (c.args.last - c.args.at / 8) (drop (c.args.at / 8) c.args.bytes.now)))
below c = grind (arith, number-bits-below)

pub set_number-requires-clause-fits : goal.set_number-requires-clause-fits
set_number-requires-clause-fits c =
    let k = size (goal.at.set_number-requires-clause-fits c).After-number_of in
    let h = below (goal.at.set_number-requires-clause-fits c).After-number_of in
    rw c.with_group-window.ensures
    (whole_small c.args.n (8 * (c.args.last) - (c.args.at + c.args.n)) h
    (omega arith) c.requires.fits)

pub returns : goal.returns
returns c = grind (arith, write_group)
