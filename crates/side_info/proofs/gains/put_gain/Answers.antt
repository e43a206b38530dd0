-- The eight bits are the bits of the gain.
use Rattle.bit_fields.specs.Bits.{bits}
use Rattle.side_info.proofs.GainsLemmas.{gain_put}
use Rattle.side_info.proofs.gains.put_gain.Goals as goal

pub returns : goal.returns
returns c version g before after l e =
    gain_put version g c.args.gain c.args.at before after (bits c.args.bytes.now)
    (bits c.put_byte.new.bytes) c.put_byte.ensures l e
