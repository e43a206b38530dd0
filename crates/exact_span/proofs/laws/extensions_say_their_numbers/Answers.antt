-- The bytes 21 to 23 are the bytes of both numbers.
use Rattle.exact_span.proofs.ExtensionLemmas.{extension-says}
use Rattle.exact_span.proofs.laws.extensions_say_their_numbers.Goals as goal

pub returns : goal.returns
returns c = extension-says
