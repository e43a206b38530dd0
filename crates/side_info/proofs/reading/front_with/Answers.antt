-- The fields are parts of one number.
use Rattle.std.proofs.{Common.{arith, length, pow_mono, ◌+◌, ◌≤◌}, lemmas.Nat.one_shl}
use Rattle.bit_fields.{proofs.BitsLemmas.{AreBits-bits, length-bits}, specs.Bits.bits}
use Rattle.side_info.proofs.ReadLemmas.{begin-below, front_fields}
use Rattle.side_info.proofs.reading.front_with.Goals.{After-number_at-fields}
use Rattle.side_info.proofs.reading.front_with.Goals as goal

enough : (c : After-number_at-fields)
    → c.args.begin + c.args.private_bits + c.args.first + c.args.second
    ≤ length (bits c.args.bytes.now)
enough c = rw length-bits c.requires.enough

pub overflow_cast-result : goal.overflow_cast-result
overflow_cast-result c =
    grind (
      arith,
      pow_mono c.requires.widths.begin_is,
      begin-below,
      AreBits-bits c.args.bytes.now,
      enough,
    )

pub returns : goal.returns
returns c =
    grind (
      arith,
      one_shl c.args.private_bits 32 (omega arith),
      one_shl c.args.first 32 (omega
          arith),
      one_shl c.args.second 32 (omega arith),
      front_fields (bits c.args.bytes.now)
          c.args.begin c.args.private_bits c.args.first c.args.second
          (AreBits-bits c.args.bytes.now) (enough c) c.number_at-fields.ensures.below
          c.number_at-fields.ensures.value,
      AreBits-bits c.args.bytes.now,
      enough c,
    )
