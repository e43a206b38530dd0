-- The shift and the remainder are the group.
use Rattle.std.proofs.{Common.arith, lemmas.Nat.one_shl}
use Rattle.frame_header.proofs.HeaderLemmas.{group-bits_of}
use Rattle.side_info.proofs.frame_front.group_of.Goals as goal

pub returns : goal.returns
returns c =
    grind (
      arith,
      one_shl c.args.n 32 (omega (arith, c.requires.few)),
      group-bits_of c.args.at
          c.args.n c.args.word c.requires.within,
    )
