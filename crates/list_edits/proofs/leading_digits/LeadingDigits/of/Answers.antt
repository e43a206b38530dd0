-- A number below 10^14 has at most 14 digits.
use Rattle.std.proofs.{Common.{arith, decimal}, lemmas.Fmt.length-decimal-le}
use Rattle.list_edits.proofs.leading_digits.LeadingDigits.of.Goals as goal

pub write_digits-start-requires : goal.write_digits-start-requires
write_digits-start-requires c = grind (arith, decimal, length-decimal-le)
