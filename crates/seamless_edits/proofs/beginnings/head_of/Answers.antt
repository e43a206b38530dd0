-- Only a read can fail.
use Rattle.std.proofs.Common.{ap, Err, refl}
use Rattle.seamless_edits.proofs.KnownLemmas.{reads-only}
use Rattle.seamless_edits.proofs.beginnings.head_of.Goals as goal

pub returns-in-Err-clause-stopped : goal.returns-in-Err-clause-stopped
returns-in-Err-clause-stopped g c = record {
  place_is = refl;
  size = _;
  cause = c.in-Err.ensures.cause;
  read = reads-only (λ e. c.in-Err.ensures.reads (ap (λ fault. Err fault) e));
}
