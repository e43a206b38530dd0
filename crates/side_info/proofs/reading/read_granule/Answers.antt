-- The fields are parts of three numbers.
use Rattle.bit_fields.{proofs.BitsLemmas.{AreBits-bits, length-bits}, specs.Bits.bits}
use Rattle.side_info.proofs.ReadLemmas.{granule_from, preflag_once}
use Rattle.side_info.proofs.reading.read_granule.Goals as goal

pub returns : goal.returns
returns c =
    let compress = c.compress_width-compress.ensures.width in
    let preflag = c.preflag_width.ensures.width in
    let once = preflag_once c.args.version
    (rw preflag at c.number_at-last.ensures.below) in
    rw once (granule_from c.args.version (bits c.args.bytes.now)
    c.args.at
    (AreBits-bits c.args.bytes.now) (rw length-bits c.requires.enough)
    c.number_at-first.ensures.below (rw compress at c.number_at-middle.ensures.below)
    (rw preflag at c.number_at-last.ensures.below)
    c.number_at-first.ensures.value (rw compress at c.number_at-middle.ensures.value)
    (rw (compress, preflag) at c.number_at-last.ensures.value))
