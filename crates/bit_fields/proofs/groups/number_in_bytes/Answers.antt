-- The group is within the bytes that it reaches.
use Rattle.std.proofs.{Common.{arith, rules, ◌<◌}, lemmas.Nat.one_shl}
use Rattle.bit_fields.proofs.GroupBytesLemmas.{read_group}
use Rattle.bit_fields.proofs.groups.number_in_bytes.Goals as goal

pub returns : goal.returns
returns c =
    let few : c.args.n < 64 = omega arith in
    record {
      value = rw (one_shl c.args.n 64 few)
          (read_group c.args.bytes.now c.args.n
          (omega arith) (omega arith) (omega arith) (omega arith) c.number_of-window.ensures);
      below = search rules;
    }
