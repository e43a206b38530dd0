-- It is the first in the order of the areas.
use Rattle.std.proofs.Common.{ap, false, subst, sym, ◌∙◌, ◌≡◌, ◌≤◌}
use Rattle.frame_header.specs.{Fields.IsClass, Tables.area_of}
use Rattle.info_header.proofs.FrameLemmas.{info_slot-least, info_slot-room}
use Rattle.info_header.specs.InfoFrame.{first_with_room, info_slot_of}
use Rattle.info_header.proofs.writing.info_slot.Goals as goal

pub returns-clause-room : goal.returns-clause-room
unfolding info_slot_of
returns-clause-room c =
    let is : c.first_with_room.result ≡ info_slot_of c.args.class =
    c.first_with_room.ensures
    ∙ ap (first_with_room c.args.class) (c.as_slice.ensures.value ∙ c.slots-slots.ensures.slots) in
    subst (λ s. 156 ≤ area_of c.args.class s false) (sym is)
    (info_slot-room c.args.class (subst IsClass c.class.view_is c.class.invariant))

pub returns-clause-least : goal.returns-clause-least
unfolding info_slot_of
returns-clause-least c = λ other slot room.
    let is : c.first_with_room.result ≡ info_slot_of c.args.class =
    c.first_with_room.ensures
    ∙ ap (first_with_room c.args.class) (c.as_slice.ensures.value ∙ c.slots-slots.ensures.slots) in
    subst (λ s. area_of c.args.class s false ≤ area_of c.args.class other false) (sym is)
    (info_slot-least c.args.class (subst IsClass c.class.view_is c.class.invariant) other slot room)
