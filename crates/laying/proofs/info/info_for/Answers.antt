-- From only the slots.
use Rattle.std.proofs.Common.{IfSome, length, List, subst, ℕ, ◌≡◌}
use Rattle.laying.proofs.InfoLemmas.{fields-are}
use Rattle.slot_plan.specs.declared.needs.Placed.{Placed}
use Rattle.laying.proofs.info.info_for.Goals as goal

pub returns-clause-info : goal.returns-clause-info
returns-clause-info c = λ frames slots.
    fields-are c.args.class (λ (p : Placed). p.slot) c.args.placed.now frames slots
    c.args.kept.now.quality c.args.kept.now.extension c.info_over.ensures
    (λ table is. subst (λ (t : _). IfSome t (λ (l : List ℕ). length l ≡ 100)) is
    c.are_sized.ensures.table)
