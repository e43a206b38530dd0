-- Rounded up.
use Rattle.std.{proofs.Common.{ap, ◌∙◌}, specs.Int.div_ceil}
use Rattle.side_info.{proofs.SideLemmas.div_ceil-eight, specs.Side.{payload_bits, payload_bytes}}
use Rattle.side_info.proofs.side.Side.payload_bytes.Goals as goal

pub returns : goal.returns
unfolding payload_bytes
returns c = c.div_ceil.ensures ∙ ap (λ n. div_ceil n 8) c.all_bits.ensures.bits
    ∙ div_ceil-eight (payload_bits c.args.self.now)
