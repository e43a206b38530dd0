-- The shift and the remainder are the group.
use Rattle.std.proofs.{Common.arith, lemmas.Nat.one_shl}
use Rattle.frame_header.proofs.HeaderLemmas.{group-bits_of}
use Rattle.frame_header.proofs.header.group_of.Goals as goal

pub returns-clause-group : goal.returns-clause-group
returns-clause-group c =
    grind (
      arith,
      one_shl c.args.width 32 (omega arith),
      group-bits_of c.args.from c.args.width
          c.args.word c.requires.within,
    )
