-- The places that are left to be marked.
use Rattle.std.proofs.Common.{drop, ◌≡◌}
use Rattle.remove_edits.specs.Ready.{with_lead_ins}
use Rattle.remove_edits.proofs.marked.mark.Given as goal

abbrev pub invariant-loop-at : goal.invariant-loop-at
invariant-loop-at l = with_lead_ins (drop l.at-index l.lead_ins) l.placed
    ≡ with_lead_ins l.lead_ins l.fn.placed
