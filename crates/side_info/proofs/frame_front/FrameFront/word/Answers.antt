-- The four bytes are the bytes of the header.
use Rattle.std.proofs.Common.{ap, ◌∙◌}
use Rattle.frame_header.specs.HeaderBits.{header_bits}
use Rattle.side_info.proofs.FrontLemmas.{word_bits, word_fields, written}
use Rattle.side_info.proofs.frame_front.FrameFront.word.Goals as goal

pub returns-clause-bits : goal.returns-clause-bits
returns-clause-bits c =
    word_bits c.self.invariant c.from_be_bytes.ensures
    ∙ (written c.self.invariant).head
    ∙ ap (λ f. header_bits f.header) c.self.view_is

pub returns-clause-fields : goal.returns-clause-fields
returns-clause-fields c =
    word_fields c.self.invariant c.from_be_bytes.ensures
    ∙ ap (λ f. f.header) c.self.view_is
