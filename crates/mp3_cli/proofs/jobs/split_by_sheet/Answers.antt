-- With the flag the file is cut to a sample, without it to a frame.
use Rattle.mp3_cli.proofs.jobs.split_by_sheet.Goals as goal

pub returns-then-exact : goal.returns-then-exact
returns-then-exact g c = rw c.if-exact.true c.split_exact.ensures

pub returns-else-exact : goal.returns-else-exact
returns-else-exact g c = rw c.if-exact.false c.split.ensures
