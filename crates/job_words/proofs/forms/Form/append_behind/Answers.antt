-- The last kind is repeated as often as the definition says.
use Rattle.std.proofs.{Common.{append_assoc, arith}, lemmas.List.{length-map, map-append}}
use Rattle.job_words.proofs.FollowLemmas.{map-replicate}
use Rattle.job_words.proofs.forms.Form.append_behind.Goals as goal

pub returns : goal.returns
returns c = grind (arith, length-map, map-replicate, map-append, append_assoc)
