-- The side information is at the front of the 32 bytes.
use Rattle.std.proofs.Common.{ap, ap₂, subst, sym, take, ◌∙◌, ◌≡◌}
use Rattle.bit_fields.specs.Bits.{bits}
use Rattle.frame_header.specs.Tables.{class_of, side_size_of}
use Rattle.side_info.{proofs.FrontLemmas.{fits, side_read}, specs.FrontBytes.{header_of, own_side}}
use Rattle.side_info.specs.Side.{side_at, SideFits}
use Rattle.side_info.proofs.frame_front.FrameFront.side_in.Goals as goal

pub returns-clause-side : goal.returns-clause-side
unfolding own_side
returns-clause-side c =
    let class : c.args.class ≡ class_of (header_of c.self.inside) =
    c.requires ∙ ap (λ f. class_of f.header) (sym c.self.view_is) in
    let size : c.side_size.result ≡ side_size_of (class_of (header_of c.self.inside)) =
    c.side_size.ensures.size ∙ ap side_size_of class in
    c.read.ensures.side
    ∙ ap₂ (λ d n. side_at d (bits (take n c.self.inside.side))) class size
    ∙ sym (side_read c.self.inside)
    ∙ ap (λ f. f.side) c.self.view_is

pub returns-clause-fits : goal.returns-clause-fits
returns-clause-fits c =
    subst (λ d. SideFits d c.args.self.now.side) (sym c.requires) (subst
    (λ f. SideFits (class_of f.header) f.side) c.self.view_is (fits c.self.invariant))
