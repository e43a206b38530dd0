-- The fields of the head are those of the bytes of its frame.
use Rattle.std.proofs.{Common.arith, lemmas.List.{length-replicate, length-take-le}}
use Rattle.laying.proofs.KeptLemmas.{fields-some}
use Rattle.laying.proofs.info.head_fields.Goals as goal

pub returns : goal.returns
returns g c = grind (arith, length-take-le, length-replicate, fields-some)
