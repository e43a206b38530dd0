-- The text is looked for in the frame's own bytes.
use Rattle.std.proofs.Common.{arith, ◌∙◌}
use Rattle.sync_survey.proofs.{FoldersLemmas.shown_in, WalkLemmas.head_shown}
use Rattle.sync_survey.proofs.heads.find_head.Goals as goal

pub returns-clause-head : goal.returns-clause-head
returns-clause-head g c = λ bytes holds.
    c.head_in.ensures.head
    ∙ head_shown c.args.first.now
    (shown_in c.bytes.ensures (c.in_ok-look.ensures.shows bytes holds))
    (omega (arith, c.head_in.ensures.most))
