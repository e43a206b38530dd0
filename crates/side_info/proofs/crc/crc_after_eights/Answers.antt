-- Eight bytes more.
use Rattle.std.proofs.Common.{ap, arith, sym, ◌∙◌}
use Rattle.bit_fields.proofs.BitsLemmas.{bits-nil}
use Rattle.side_info.proofs.CrcLemmas.{remainder-eight_more, remainder-nil}
use Rattle.side_info.specs.CheckWord.{remainder}
use Rattle.side_info.proofs.crc.crc_after_eights.Goals as goal

pub loop-i-init : goal.loop-i-init
loop-i-init c = sym (ap (remainder c.args.word) bits-nil ∙ remainder-nil c.args.word)

pub loop-i-preserved : goal.loop-i-preserved
loop-i-preserved c = search (arith, remainder-eight_more)
