-- The mode extension is in bits of the header's four bytes.
use Rattle.std.proofs.Common.{ap, sym, ◌∙◌}
use Rattle.side_info.proofs.FrontLemmas.{mode_extension_read}
use Rattle.side_info.proofs.frame_front.FrameFront.mode_extension.Goals as goal

pub returns-clause-value : goal.returns-clause-value
returns-clause-value c = c.number_at.ensures.value ∙ sym (mode_extension_read c.self.inside)
    ∙ ap (λ f. f.header.mode_extension) c.self.view_is
