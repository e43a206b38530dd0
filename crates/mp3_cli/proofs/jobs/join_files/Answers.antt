-- With the flag a text is sent, without it nothing.
use Rattle.mp3_cli.proofs.RunLemmas.{asked_silent, one_silent, run_ends, told_ends}
use Rattle.mp3_cli.proofs.jobs.join_files.Goals as goal

pub returns-then-seamless-clause-ends : goal.returns-then-seamless-clause-ends
returns-then-seamless-clause-ends g c =
    let is = c.join_seamless.ensures in
    rw c.if-seamless.true
    (told_ends c.join_seamless.result
    is.run.done is.run.left is.says is.run.numbers is.run.names)

pub returns-then-seamless-clause-streams : goal.returns-then-seamless-clause-streams
returns-then-seamless-clause-streams g c = rw c.if-seamless.true c.join_seamless.ensures.run.streams

pub returns-else-seamless-clause-ends : goal.returns-else-seamless-clause-ends
returns-else-seamless-clause-ends g c =
    rw c.if-seamless.false (run_ends
    (asked_silent g.D.Folder.keeping (one_silent _ _)) _ c.join.ensures)

pub returns-else-seamless-clause-streams : goal.returns-else-seamless-clause-streams
returns-else-seamless-clause-streams g c = rw c.if-seamless.false c.join.ensures.streams
