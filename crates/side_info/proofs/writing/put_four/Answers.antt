-- Four words are written in order.
use Rattle.std.proofs.Common.{ap, arith, get_or, ◌*◌, ◌∙◌}
use Rattle.bit_fields.{proofs.BitsLemmas.length-bits, specs.Bits.{bits, bits_of}}
use Rattle.side_info.proofs.WriteLemmas.{four_of, four_put}
use Rattle.side_info.proofs.writing.put_four.Goals as goal

pub returns : goal.returns
returns c =
    let gs = c.args.granules in
    four_put (bits c.args.bytes.now)
    c.args.front (get_or gs 0 0) (get_or gs 1 0) (get_or gs 2 0)
    (get_or gs 3 0) c.spanned.result c.spanned-2.result c.spanned-3.result c.spanned-4.result
    (length-bits c.args.bytes.now ∙ ap (λ n. 8 * n) c.requires.room)
    c.spanned.ensures c.spanned-2.ensures c.spanned-3.ensures c.spanned-4.ensures c.set_word.ensures
    c.set_word-2.ensures c.set_word-3.ensures c.set_word-4.ensures
    ∙ four_of gs (bits_of 20 c.args.front) (omega arith)
