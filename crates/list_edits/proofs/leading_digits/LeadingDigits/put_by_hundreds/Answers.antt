-- A number is the digits that are kept and the last two.
use Rattle.std.proofs.Common.{arith}
use Rattle.list_edits.proofs.DecimalLemmas.{kept_hundreds, put_behind}
use Rattle.list_edits.proofs.leading_digits.LeadingDigits.put_by_hundreds.Goals as goal

pub returns-then-behind-lt100-clause-number : goal.returns-then-behind-lt100-clause-number
returns-then-behind-lt100-clause-number c =
    put_behind _ _ (omega (arith, c.self.view_is))
    c.put_pair.ensures c.put_before.ensures (kept_hundreds
    c.self.invariant.2 c.self.invariant.3 c.ranges.number.fits c.if-behind-lt100.true)
