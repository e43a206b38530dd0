-- Two bytes are read as a number.
use Rattle.std.proofs.Common.{◌∙◌}
use Rattle.bit_fields.proofs.BitsLemmas.{AreBytes-from_slice}
use Rattle.side_info.{proofs.FrameLemmas.word_at, specs.Frame.stored_crc}
use Rattle.side_info.proofs.frame.stored_crc.Goals as goal

pub returns : goal.returns
unfolding stored_crc
returns c = c.from_be_bytes.ensures
    ∙ word_at c.args.frame.now c.requires (AreBytes-from_slice c.args.frame.now c.type_inv.frame)
