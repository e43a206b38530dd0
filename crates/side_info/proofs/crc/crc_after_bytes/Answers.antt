-- One byte more.
use Rattle.std.proofs.Common.{ap, sym, ◌∙◌}
use Rattle.bit_fields.proofs.BitsLemmas.{bits-nil}
use Rattle.side_info.{proofs.CrcLemmas.{remainder-more, remainder-nil}, specs.CheckWord.remainder}
use Rattle.side_info.proofs.crc.crc_after_bytes.Goals as goal

pub loop-byte-init : goal.loop-byte-init
loop-byte-init c = sym (ap (remainder c.args.word) bits-nil ∙ remainder-nil c.args.word)

pub loop-byte-preserved : goal.loop-byte-preserved
loop-byte-preserved c =
    let e =
    remainder-more c.args.word c.args.bytes.now c.loop-byte-test.true in
    cc
