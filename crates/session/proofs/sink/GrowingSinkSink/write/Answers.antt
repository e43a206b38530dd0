use Rattle.std.proofs.Common.{arith}
use Rattle.outside.proofs.FilesLemmas.{sent_is}
use Rattle.session.proofs.sink.GrowingSinkSink.write.Goals as goal

pub returns-in-Ok-clause-answer : goal.returns-in-Ok-clause-answer
returns-in-Ok-clause-answer c = grind (arith, sent_is)
