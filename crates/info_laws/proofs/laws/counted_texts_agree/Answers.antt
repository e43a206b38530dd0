-- Its head gives the numbers of what is there.
use Rattle.info_laws.proofs.CountLemmas.{counted-agree}
use Rattle.info_laws.proofs.laws.counted_texts_agree.Goals as goal

pub returns : goal.returns
returns c = counted-agree
