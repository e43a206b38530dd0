-- The only slot is the smallest.
use Rattle.std.proofs.Common.{ap, subst, sym, [], ◌∷◌}
use Rattle.frame_header.specs.Tables.{class_of}
use Rattle.slot_plan.{proofs.AreaLemmas.least-one, specs.Reserve.IsLeastSlot}
use Rattle.slot_plan.proofs.policy.KeepPolicy.least_slot_by.Goals as goal

pub returns : goal.returns
returns c =
    subst (λ slot. IsLeastSlot c.args._wanted (class_of c.args.header.now)
    c.args.header.now.protected (c.args.header.now.slot ∷ []) slot)
    (ap (λ h. h.slot) (sym c.header.view_is))
    (least-one c.requires.enough)
