-- The first frame of a stream.
use Rattle.sync_survey.proofs.StartLemmas.{start-first}
use Rattle.sync_survey.proofs.laws.starts_are_least.Goals as goal

pub returns : goal.returns
returns c = λ file start is.
    let first = start-first is in
    record { item = first.frame.is; whole = first.frame.within; least = first.least }
