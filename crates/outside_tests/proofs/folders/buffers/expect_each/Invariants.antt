-- What is held is the file's bytes, in a folder whose contents aren't known.
use Rattle.outside.specs.{Feed.IsFedFrom, Files.untold_files}
use Rattle.outside_tests.proofs.folders.buffers.expect_each.Given as goal

abbrev pub invariant-loop-case : goal.invariant-loop-case
invariant-loop-case g l = IsFedFrom l.feed untold_files l.name
