-- The four bytes are the bytes of the header.
use Rattle.std.{proofs.Common.{ap, sym, ◌∙◌}, specs.Result.is_ok}
use Rattle.side_info.proofs.FrontLemmas.{header_read, written}
use Rattle.side_info.proofs.frame_front.FrameFront.header.Goals as goal

pub unwrap-requires : goal.unwrap-requires
unwrap-requires c = ap is_ok (c.read.ensures ∙ (written c.self.invariant).at)

pub returns : goal.returns
returns c =
    sym (header_read c.self.inside (sym c.read.ensures ∙ c.unwrap.ensures))
    ∙ ap (λ f. f.header) c.self.view_is
