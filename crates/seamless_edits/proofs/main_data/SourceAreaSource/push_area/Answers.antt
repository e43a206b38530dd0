-- The area of the frame is within the file, after what comes before it in the frame.
use Rattle.std.proofs.{Common.arith, lemmas.List.{length-replicate, length-take-le}}
use Rattle.laying.proofs.ReadLemmas.{area-at}
use Rattle.seamless_edits.proofs.main_data.SourceAreaSource.push_area.Goals as goal

pub returns-clause-area : goal.returns-clause-area
returns-clause-area g c = grind (arith, length-take-le, length-replicate, area-at)
