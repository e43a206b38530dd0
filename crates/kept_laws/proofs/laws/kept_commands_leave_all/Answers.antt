-- What is made and left of any files.
use Rattle.kept_laws.proofs.LeavesLemmas.{leave_all}
use Rattle.kept_laws.proofs.laws.kept_commands_leave_all.Goals as goal

pub returns : goal.returns
returns c = leave_all
