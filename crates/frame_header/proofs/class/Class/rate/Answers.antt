-- The bit rate is within the bounds of the tables.
use Rattle.std.proofs.Common.{rules, subst, sym, ◌≡◌, ◌≤◌}
use Rattle.frame_header.{proofs.LengthLemmas.{rate-least, rate-most}, specs.Fields.IsSlot}
use Rattle.frame_header.specs.Tables.{rate_of}
use Rattle.frame_header.proofs.class.Class.rate.Goals as goal

pub returns-clause-least : goal.returns-clause-least
unfolding rate_of
returns-clause-least c =
    let slot : IsSlot c.args.slot = subst IsSlot c.slot.view_is c.slot.invariant in
    let is : c.from.result ≡ rate_of c.args.self.now c.args.slot = search rules in
    subst (λ n. 8 ≤ n) (sym is) (rate-least c.args.self.now c.args.slot slot)

pub returns-clause-most : goal.returns-clause-most
unfolding rate_of
returns-clause-most c =
    let slot : IsSlot c.args.slot = subst IsSlot c.slot.view_is c.slot.invariant in
    let is : c.from.result ≡ rate_of c.args.self.now c.args.slot = search rules in
    subst (λ n. n ≤ 320) (sym is) (rate-most c.args.self.now c.args.slot slot)
