-- A number below 2 ^ 64 has at most 20 digits.
use Rattle.std.proofs.{Common.{arith, decimal, length-drop}, lemmas.Fmt.length-decimal-le}
use Rattle.list_edits.proofs.line.Line.put_long.Goals as goal

pub write_digits-self-inside-requires : goal.write_digits-self-inside-requires
write_digits-self-inside-requires c =
    grind (
      arith,
      decimal c.args.number,
      length-decimal-le 20 c.args.number (omega arith) (omega
          arith) (omega arith),
      length-drop c.self.inside.front c.self.inside.room,
    )
