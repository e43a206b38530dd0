-- The head is read as it was written.
use Rattle.remove_laws.proofs.NumberLemmas.{keep-numbers}
use Rattle.remove_laws.proofs.number_laws.numbers_are_kept.Goals as goal

pub returns : goal.returns
returns c = keep-numbers
