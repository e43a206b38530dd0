-- The slots of the class are all slots, and a header's own is one of them.
use Rattle.slot_plan.proofs.AreaLemmas.{class-ascend}
use Rattle.slot_plan.proofs.policy.LeastPolicy.choices.Goals as goal

pub returns-clause-ascending : goal.returns-clause-ascending
returns-clause-ascending c =
    class-ascend c.args.header.now.protected
    c.slots.ensures.slots c.class.ensures (c.slots.ensures.ascending c.args.header.now.protected)
