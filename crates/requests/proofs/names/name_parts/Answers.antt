-- The prefix, the digits and the ending.
use Rattle.std.proofs.Common.{append-nil, refl}
use Rattle.requests.specs.Names.{piece_name}
use Rattle.requests.proofs.names.name_parts.Goals as goal

pub returns : goal.returns
unfolding piece_name
returns c = simp append-nil (rw (c.digit.ensures, c.digit-2.ensures) refl)
