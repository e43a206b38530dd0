-- The group is within the eight bytes.
use Rattle.std.proofs.{Common.{arith, rules, ◌+◌, ◌-◌, ◌<◌, ◌≡◌}, lemmas.Nat.one_shl}
use Rattle.bit_fields.proofs.GroupBytesLemmas.{read_group}
use Rattle.bit_fields.proofs.groups.number_in_word.Goals as goal

pub returns : goal.returns
returns c =
    let few : c.args.n < 64 = omega arith in
    let word : c.min-first.result + 8 - c.min-first.result ≡ 8 = omega arith in
    record {
      value =
          grind (
            arith,
            one_shl c.args.n 64 few,
            read_group c.args.bytes.now {from = c.args.at} c.args.n
                {first = c.min-first.result} {last = c.min-first.result + 8} {window =
                c.word_at.result} (omega (
                  arith,
                  c.min-first.ensures,
                )) (omega (arith, c.min-first.ensures)) (omega arith) (omega
                (arith, c.min-first.ensures)) (rw word c.word_at.ensures),
          );
      below = search rules;
    }
