-- The slot is in bits of the header's four bytes.
use Rattle.std.proofs.Common.{ap, ap₂, subst, sym, ℕ, ◌==◌, ◌∙◌}
use Rattle.frame_header.specs.Fields.{IsSlot, SlotFields}
use Rattle.side_info.proofs.FrontLemmas.{slot_read}
use Rattle.side_info.proofs.frame_front.FrameFront.slot.Goals as goal

pub invariant_of-result : goal.invariant_of-result
invariant_of-result c =
    subst (λ n. IsSlot (record { rate_index = n; padding = c.number_at-2.result == 1 }))
    (ap (λ s. s.rate_index) (slot_read c.self.inside) ∙ sym c.number_at.ensures.value)
    c.self.invariant.known.slot

pub returns : goal.returns
returns c =
    ap₂ {A = ℕ} {B = ℕ} {C = SlotFields} (λ n b. record { rate_index = n; padding = b == 1 })
    c.number_at.ensures.value c.number_at-2.ensures.value
    ∙ sym (slot_read c.self.inside)
    ∙ ap (λ f. f.header.slot) c.self.view_is
