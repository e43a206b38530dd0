-- Enough bits are left, and the value is the number of the first n of them.
use Rattle.std.proofs.{Common.{arith, length, ◌*◌, ◌+◌, ◌≤◌}, lemmas.Grind.common_steps}
use Rattle.bit_fields.proofs.{BitsLemmas.length-left, reader.Bits.take.Goals.Else-left-n}
use Rattle.bit_fields.specs.Groups.{group}
use Rattle.bit_fields.proofs.reader.Bits.take.Goals as goal

enough : (c : Else-left-n) → c.self.inside.place + c.args.n ≤ 8 * length c.self.inside.bytes.now
enough c = grind (arith, length-left)

pub number_at-value-requires-clause-room : goal.number_at-value-requires-clause-room
number_at-value-requires-clause-room c = grind (arith, enough)

pub invariant_of-self : goal.invariant_of-self
invariant_of-self c = (c.self.invariant.0, enough (goal.at.invariant_of-self c).Else-left-n)

pub returns : goal.returns
unfolding group
returns c = grind (arith, common_steps)
