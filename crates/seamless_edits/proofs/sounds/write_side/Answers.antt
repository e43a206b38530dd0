-- What is written is bytes.
use Rattle.std.proofs.Common.{arith}
use Rattle.bit_fields.proofs.BitsLemmas.{AreBytes-from_places}
use Rattle.seamless_edits.proofs.sounds.write_side.Goals as goal

pub returns-clause-octets : goal.returns-clause-octets
returns-clause-octets c = grind (arith, AreBytes-from_places)
