-- The sum has the header's numbers in its groups.
use Rattle.std.proofs.Common.{arith, ◌*◌, ◌+◌, ◌≡◌}
use Rattle.frame_header.proofs.HeaderLemmas.{bits_of-header_number, header_in-header_bits}
use Rattle.frame_header.{proofs.HeaderLemmas.header_number, specs.HeaderView.header_view}
use Rattle.frame_header.proofs.header.word_of.Goals as goal

number : (c : goal.After-from-10)
    → 4292870144 + c.version_bits.result * 524288 + 131072 + c.from.result * 65536
    + c.from-2.result * 4096 + c.from-3.result * 1024 + c.from-4.result * 512
    + c.from-5.result * 256 + c.from-6.result * 64 + c.from-7.result * 16 + c.from-8.result * 8
    + c.from-9.result * 4 + c.from-10.result ≡ header_number (header_view c.header.inside)
number c = grind arith

pub returns-clause-bits : goal.returns-clause-bits
returns-clause-bits c = grind (arith, number c, bits_of-header_number c.header.invariant)

pub returns-clause-back : goal.returns-clause-back
returns-clause-back c =
    grind (
      arith,
      number c,
      bits_of-header_number c.header.invariant,
      header_in-header_bits c.header.invariant,
    )
