-- The fields are the same where the bits are.
use Rattle.std.proofs.Common.{ap₂, subst, sym, ◌∙◌}
use Rattle.frame_header.specs.{Fields.HeaderFields, HeaderBits.header_bits}
use Rattle.side_info.proofs.FrontLemmas.{alike-fields, fields-alike}
use Rattle.side_info.specs.{FrameFields.header_like, FrontBytes.AreHeadersAlike}
use Rattle.side_info.proofs.frame_front.FrameFront.is_like.Goals as goal

pub returns : goal.returns
returns c =
    let own = c.args.self.now.header in
    let other = c.args.other.now.header in
    let bits = ap₂ AreHeadersAlike c.word.ensures.bits c.word-2.ensures.bits in (
      (λ is.
          sym c.word.ensures.fields ∙ fields-alike (c.are_alike.ensures.0 is)
          ∙ ap₂ header_like c.word-2.ensures.fields c.word.ensures.fields),
      (λ is. c.are_alike.ensures.1
          (subst (λ T. T) (sym bits) (subst (λ (h : HeaderFields). AreHeadersAlike (header_bits h)
          (header_bits other)) (sym is) (alike-fields other own)))),
    )
