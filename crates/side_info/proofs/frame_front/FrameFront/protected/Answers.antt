-- The protection bit is in the header's four bytes.
use Rattle.std.proofs.Common.{ap, sym, ◌==◌, ◌∙◌}
use Rattle.side_info.proofs.FrontLemmas.{protected_read}
use Rattle.side_info.proofs.frame_front.FrameFront.protected.Goals as goal

pub returns : goal.returns
returns c = ap (λ b. b == 0) c.number_at.ensures.value ∙ sym (protected_read c.self.inside)
    ∙ ap (λ f. f.header.protected) c.self.view_is
