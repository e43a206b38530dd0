-- The bits of the four bytes are the bits of the number.
use Rattle.std.proofs.Common.{ap, arith, subst, sym, ◌∙◌}
use Rattle.bit_fields.specs.Bits.{AreBytes, bits}
use Rattle.frame_header.proofs.HeaderLemmas.{AreBytes-to_be_bytes, bits-to_be_bytes}
use Rattle.frame_header.{proofs.HeaderLemmas.header_bytes-same, specs.Reading.header_at}
use Rattle.frame_header.proofs.header.Header.bytes.Goals as goal

pub returns-clause-bits : goal.returns-clause-bits
returns-clause-bits c = grind (arith, bits-to_be_bytes)

pub returns-clause-back : goal.returns-clause-back
unfolding header_at
returns-clause-back c = grind (arith, bits-to_be_bytes)

pub returns-clause-same : goal.returns-clause-same
returns-clause-same c four all l is =
    header_bytes-same
    (ap bits c.to_be_bytes.ensures ∙ bits-to_be_bytes (omega arith)
    ∙ c.word_of.ensures.bits)
    (subst AreBytes (sym c.to_be_bytes.ensures) (AreBytes-to_be_bytes c.word_of.result)) all l is

pub returns-clause-octets : goal.returns-clause-octets
returns-clause-octets c = grind (arith, AreBytes-to_be_bytes)
