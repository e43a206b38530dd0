use Rattle.std.proofs.Common.{arith}
use Rattle.outside.proofs.FilesLemmas.{sent_is}
use Rattle.outside.proofs.memory.sink.MemSinkSink.write.Goals as goal

pub returns-clause-answer : goal.returns-clause-answer
returns-clause-answer c = grind (arith, sent_is)
