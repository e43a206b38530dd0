-- A word and then a byte are written.
use Rattle.std.proofs.Common.{ap, ◌*◌, ◌∙◌}
use Rattle.bit_fields.{proofs.BitsLemmas.length-bits, specs.Bits.bits}
use Rattle.side_info.proofs.WriteLemmas.{one_put}
use Rattle.side_info.proofs.writing.put_one.Goals as goal

pub returns : goal.returns
returns c =
    one_put (bits c.args.bytes.now) c.args.front c.args.granule c.spanned.result
    (length-bits c.args.bytes.now ∙ ap (λ n. 8 * n) c.requires.room)
    c.spanned.ensures c.set_word.ensures c.set_low_byte.ensures
