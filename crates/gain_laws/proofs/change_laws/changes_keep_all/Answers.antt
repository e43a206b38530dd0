-- The law, from the edits that make the changed file.
use Rattle.gain_laws.proofs.KeptFileLemmas.{changes_kept}
use Rattle.gain_laws.proofs.change_laws.changes_keep_all.Goals as goal

pub returns : goal.returns
returns c = changes_kept
