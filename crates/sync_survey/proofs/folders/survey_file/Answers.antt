-- The survey refuses what a step refuses, since the steps before left the files and all counts.
use Rattle.std.proofs.Common.{arith}
use Rattle.sync_survey.proofs.folders.survey_file.Goals as goal

pub returns-in_err-size-clause-frames : goal.returns-in_err-size-clause-frames
returns-in_err-size-clause-frames g c = grind (arith, c.in_err-size.ensures.refused c.args.allowed)

pub returns-in_err-front_end-clause-frames : goal.returns-in_err-front_end-clause-frames
returns-in_err-front_end-clause-frames g c =
    grind (arith, c.in_err-front_end.ensures.refused c.args.allowed)

pub returns-in_err-start-clause-frames : goal.returns-in_err-start-clause-frames
returns-in_err-start-clause-frames g c =
    grind (arith, c.in_err-start.ensures.refused c.args.allowed)

pub returns-in_err-head-clause-frames : goal.returns-in_err-head-clause-frames
returns-in_err-head-clause-frames g c = grind (arith, c.in_err-head.ensures.refused c.args.allowed)

pub returns-clause-frames : goal.returns-clause-frames
returns-clause-frames g c = grind arith
