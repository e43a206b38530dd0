-- The entry of the table is the length.
use Rattle.std.proofs.Common.{ap, ap₂, get_or, subst, sym, [], ◌*◌, ◌+◌, ◌-◌, ◌<◌, ◌∙◌, ◌≡◌, ◌≤◌}
use Rattle.frame_header.proofs.LengthLemmas.{area_some, length-most, length_in_table-is}
use Rattle.frame_header.specs.{Fields.{IsClass, IsSlot}, Tables.{length_of, side_size_of}}
use Rattle.frame_header.specs.declared.class.TheConstants.{LENGTHS}
use Rattle.frame_header.proofs.class.Class.length_of.Goals as goal

class : (c : goal.After-from-2) → IsClass c.args.self.now
class c = subst IsClass c.self.view_is c.self.invariant

slot : (c : goal.After-from-2) → IsSlot c.args.slot
slot c = subst IsSlot c.slot.view_is c.slot.invariant

is : (c : goal.After-from-2)
    → c.from.result + c.from-2.result ≡ length_of c.args.self.now c.args.slot
is c =
    ap₂ (λ m n. m + n)
    (c.from.ensures ∙ ap (λ v. get_or (get_or LENGTHS (3 * v + c.self.inside.frequency_index) [])
    (c.slot.inside.rate_index - 1) 0) c.version_index.ensures) c.from-2.ensures
    ∙ length_in_table-is _ _ c.self.invariant c.slot.invariant
    ∙ ap₂ length_of c.self.view_is c.slot.view_is

pub returns-clause-length : goal.returns-clause-length
returns-clause-length c = is c

pub returns-clause-most : goal.returns-clause-most
returns-clause-most c =
    subst (λ n. n ≤ 1441) (sym (is c)) (length-most c.args.self.now c.args.slot (class c) (slot c))

pub returns-clause-room : goal.returns-clause-room
returns-clause-room c = subst (λ n. 6 + side_size_of c.args.self.now < n) (sym (is c))
    (area_some c.args.self.now c.args.slot (class c) (slot c))
