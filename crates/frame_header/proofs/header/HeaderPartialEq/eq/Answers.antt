-- The fields are compared in order, but version and slot last.
use Rattle.std.proofs.Common.{rules}
use Rattle.frame_header.proofs.ComparingLemmas.{compared_last}
use Rattle.frame_header.proofs.header.HeaderPartialEq.eq.Goals as goal

pub returns : goal.returns
returns c = search (rules, compared_last) depth 12
