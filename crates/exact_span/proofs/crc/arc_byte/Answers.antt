-- One bit more.
use Rattle.std.{proofs.Common.{add-one, ap, refl, sym, ℕ, ◌+◌, ◌∙◌, ◌≡◌}, specs.Prelude.bit_xor}
use Rattle.exact_span.specs.TagWord.{arc_bit, arc_bits}
use Rattle.exact_span.proofs.crc.arc_byte.Goals as goal

no-bits : (word : ℕ) → word ≡ arc_bits 0 word
unfolding arc_bits
no-bits word = refl

next-bit : (bits word : ℕ) → arc_bit (arc_bits bits word) ≡ arc_bits (bits + 1) word
unfolding arc_bits
next-bit bits word = ap (λ n. arc_bits n word) (sym (add-one bits))

pub loop-init : goal.loop-init
loop-init c = ap (bit_xor c.args.word) c.from.ensures ∙ no-bits (bit_xor c.args.word c.args.byte)

pub loop-preserved : goal.loop-preserved
loop-preserved c =
    c.arc_bit-next.ensures ∙ ap arc_bit c.loop.invariant
    ∙ next-bit c.loop.counter (bit_xor c.args.word c.args.byte)
