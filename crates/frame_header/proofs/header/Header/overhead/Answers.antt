-- What is before the area is shorter than any frame of the class.
use Rattle.std.proofs.Common.{arith}
use Rattle.frame_header.proofs.{HeaderLemmas.IsClass-class_of, LengthLemmas.area_some}
use Rattle.frame_header.specs.Tables.{area_of}
use Rattle.frame_header.proofs.header.Header.overhead.Goals as goal

pub returns-clause-whole : goal.returns-clause-whole
unfolding area_of
returns-clause-whole c = grind (arith, area_some, IsClass-class_of)
