-- The side information depends on version and channels alone.
use Rattle.std.proofs.Common.{ap₂, subst, sym, ◌∙◌, ◌≡◌}
use Rattle.bit_fields.specs.Bits.{bits}
use Rattle.frame_header.specs.{Fields.IsClass, Tables.side_size_of}
use Rattle.side_info.proofs.ReadLemmas.{side_at-class, side_size-class}
use Rattle.side_info.{proofs.SideLemmas.IsSideOf-side_at, specs.{Parts.class_with, Side.side_at}}
use Rattle.side_info.proofs.side.read_stereo.Goals as goal

pub read_parts-requires-clause-size : goal.read_parts-requires-clause-size
read_parts-requires-clause-size c =
    c.requires.size ∙ sym (side_size-class c.args.class)
    ∙ ap₂ (λ v n. side_size_of (class_with v 0 n)) c.requires.version c.requires.channels

side : (c : goal.After-read_parts)
    → c.read_parts.new.side ≡ side_at c.args.class (bits c.args.bytes.now)
side c =
    c.read_parts.ensures
    ∙ sym (ap₂ (λ v n. side_at (class_with v 0 n) (bits c.args.bytes.now))
    c.requires.version c.requires.channels)
    ∙ side_at-class c.args.class (bits c.args.bytes.now)

pub returns : goal.returns
returns c = IsSideOf-side_at
    (subst IsClass c.class.view_is c.class.invariant) c.requires.size (side c)
