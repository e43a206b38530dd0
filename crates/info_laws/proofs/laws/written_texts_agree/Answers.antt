-- Each written file is such a file.
use Rattle.info_laws.proofs.CountLemmas.{written-agree}
use Rattle.info_laws.proofs.laws.written_texts_agree.Goals as goal

pub returns : goal.returns
returns c = written-agree
