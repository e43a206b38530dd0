-- What is asked for is within the file.
use Rattle.std.proofs.Common.{arith, refl}
use Rattle.sync_survey.proofs.FoldersLemmas.{shown}
use Rattle.sync_survey.proofs.looks.look.Goals as goal

pub returns-in_err-fill_exact-clause-refused : goal.returns-in_err-fill_exact-clause-refused
returns-in_err-fill_exact-clause-refused g c = grind arith

pub returns-clause-shows : goal.returns-clause-shows
returns-clause-shows g c = λ bytes holds.
    shown (c.requires.known.long bytes holds) refl
    (omega (arith, c.min-wanted.ensures)) (c.in_ok-fill_exact.ensures.bytes bytes holds)
