-- Two words and then a byte are written.
use Rattle.std.proofs.Common.{ap, arith, ◌*◌, ◌+◌, ◌-◌, ◌∙◌}
use Rattle.bit_fields.{proofs.BitsLemmas.length-bits, specs.Bits.bits}
use Rattle.side_info.proofs.WriteLemmas.{two_put}
use Rattle.side_info.proofs.writing.put_two.Goals as goal

pub returns : goal.returns
returns c =
    two_put (bits c.args.bytes.now)
    c.args.front c.args.first c.args.second
    (c.args.size + c.args.width - 64) c.spanned.result c.spanned-2.result
    (length-bits c.args.bytes.now ∙ ap (λ n. 8 * n) c.requires.room)
    c.requires.widths.few (omega (arith, c.requires.widths.long, c.requires.widths.few))
    (omega (arith, c.requires.widths.long, c.requires.widths.whole))
    c.spanned.ensures c.spanned-2.ensures c.set_word.ensures c.set_word-2.ensures
    c.set_low_byte.ensures
