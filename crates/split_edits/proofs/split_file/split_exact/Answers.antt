-- The cut at places of samples is proper.
use Rattle.split_edits.proofs.CutLemmas.{exact-points-proper}
use Rattle.split_edits.proofs.split_file.split_exact.Goals as goal

pub split_by-requires-clause-proper : goal.split_by-requires-clause-proper
split_by-requires-clause-proper g c = exact-points-proper c.args.points.now
