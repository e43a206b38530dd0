-- The fields before the granules and the granules are the side information.
use Rattle.std.proofs.Common.{ap, arith, subst, sym, ◌∙◌, ◌≡◌}
use Rattle.bit_fields.specs.Bits.{bits}
use Rattle.frame_header.specs.{Fields.IsClass, Tables.side_size_of}
use Rattle.side_info.proofs.{SideLemmas.side_at-side_bits, WriteLemmas.side_bits-parts}
use Rattle.side_info.proofs.side.Side.write.Goals.{After-write_granules}
use Rattle.side_info.specs.Side.{side_at, side_bits}
use Rattle.side_info.proofs.side.Side.write.Goals as goal

written : (c : After-write_granules)
    → bits c.write_granules.new.bytes ≡ side_bits c.args.class c.args.self.now
written c = grind (arith, side_bits-parts)

pub write_granules-requires-clause-size : goal.write_granules-requires-clause-size
unfolding side_size_of
write_granules-requires-clause-size c = c.requires.size ∙ ap side_size_of (sym c.class.view_is)

pub returns-clause-written : goal.returns-clause-written
returns-clause-written c = written (goal.at.returns-clause-written c).After-write_granules

pub returns-clause-back : goal.returns-clause-back
returns-clause-back c =
    ap (side_at c.args.class) (written (goal.at.returns-clause-back c).After-write_granules)
    ∙ side_at-side_bits c.args.class (subst IsClass c.class.view_is c.class.invariant)
    c.args.self.now
    (record {
      scfsi = omega arith;
      granules = omega arith;
      first = c.write_granules.ensures.two;
      second = c.write_granules.ensures.second_two;
    })
    c.requires.fits
