-- The fields are the groups.
use Rattle.std.proofs.Common.{arith}
use Rattle.frame_header.proofs.HeaderLemmas.{header_fields-groups, header_in-good}
use Rattle.frame_header.proofs.header.header_of.Goals as goal

pub returns : goal.returns
returns c = grind (arith, header_fields-groups, header_in-good)
