-- The side information depends on version and channels alone.
use Rattle.std.proofs.Common.{ap, subst, sym, ◌∙◌, ◌≡◌}
use Rattle.bit_fields.specs.Bits.{bits}
use Rattle.frame_header.specs.{Fields.IsClass, Tables.side_size_of}
use Rattle.side_info.proofs.ReadLemmas.{side_at-class, side_size-class}
use Rattle.side_info.{proofs.SideLemmas.IsSideOf-side_at, specs.{Parts.class_with, Side.side_at}}
use Rattle.side_info.proofs.side.Side.read_over.Goals as goal

pub read_shape-requires-clause-size : goal.read_shape-requires-clause-size
read_shape-requires-clause-size c =
    c.requires.size ∙ sym (ap side_size_of c.class.view_is) ∙ sym (side_size-class
    (class_with c.class.inside.version c.class.inside.frequency_index c.class.inside.channels))

side : (c : goal.After-read_shape)
    → c.read_shape.new.side ≡ side_at c.args.class (bits c.args.bytes.now)
side c =
    c.read_shape.ensures
    ∙ side_at-class (class_with c.class.inside.version c.class.inside.frequency_index
    c.class.inside.channels) (bits c.args.bytes.now)
    ∙ ap (λ d. side_at d (bits c.args.bytes.now)) c.class.view_is

pub returns : goal.returns
returns c = IsSideOf-side_at
    (subst IsClass c.class.view_is c.class.invariant) c.requires.size (side c)
