-- The cut at positions is proper.
use Rattle.split_edits.proofs.CutLemmas.{points-proper}
use Rattle.split_edits.proofs.split_file.split.Goals as goal

pub split_by-requires-clause-proper : goal.split_by-requires-clause-proper
split_by-requires-clause-proper g c = points-proper c.args.points.now
