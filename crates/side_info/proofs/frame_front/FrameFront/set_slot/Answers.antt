-- Another header of the same class before the same side information.
use Rattle.std.proofs.Common.{ap, refl, ◌∙◌, ◌≡◌}
use Rattle.bit_fields.specs.Bits.{bits}
use Rattle.frame_header.specs.{Fields.{HeaderFields, IsHeader, SlotFields}, HeaderBits.header_bits}
use Rattle.side_info.proofs.FrontLemmas.{header_fields-written, header_written, written}
use Rattle.side_info.proofs.frame_front.FrameFront.set_slot.Goals.{After-put_slot}
use Rattle.side_info.specs.{FrameFields.FrameFields, FrontBytes.header_of}
use Rattle.side_info.proofs.frame_front.FrameFront.set_slot.Goals as goal

-- the header in the slot
abbrev slotted : HeaderFields → SlotFields → HeaderFields
slotted h slot = record h { slot = slot }

known : (c : After-put_slot) → IsHeader (slotted (header_of c.self.inside) c.args.slot)
known c = let h = c.self.invariant.known in record {
  slot = c.put_slot.ensures.known;
  frequency_index = h.frequency_index;
  mode = h.mode;
  mode_extension = h.mode_extension;
  emphasis = h.emphasis;
}

head : (c : After-put_slot)
    → bits c.put_slot.new.four ≡ header_bits (slotted (header_of c.self.inside) c.args.slot)
head c = c.put_slot.ensures.bits (header_of c.self.inside) (written c.self.invariant).head

pub invariant_of-self : goal.invariant_of-self
invariant_of-self c =
    let at = (goal.at.invariant_of-self c).After-put_slot in
    header_written c.self.invariant
    (known at) c.put_slot.new.four (head at) c.put_slot.ensures.octets refl

pub returns : goal.returns
returns c =
    let at = (goal.at.returns c).After-put_slot in
    header_fields-written c.self.invariant (known at) c.put_slot.new.four (head at)
    c.put_slot.ensures.octets refl
    ∙ ap {A = FrameFields} {B = FrameFields}
    (λ f. record { header = slotted f.header c.args.slot; side = f.side }) c.self.view_is
