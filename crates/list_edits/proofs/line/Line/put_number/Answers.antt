-- A number below 2 ^ 64 has at most 20 digits.
use Rattle.list_edits.proofs.DecimalLemmas.{few_before}
use Rattle.list_edits.proofs.line.Line.put_number.Goals as goal

pub returns-then-number-lt10000-clause-few : goal.returns-then-number-lt10000-clause-few
returns-then-number-lt10000-clause-few c =
    few_before c.args.self.now c.ranges.number.fits c.put_short.ensures

pub returns-else-number-lt10000-clause-few : goal.returns-else-number-lt10000-clause-few
returns-else-number-lt10000-clause-few c =
    few_before c.args.self.now c.ranges.number.fits c.put_long.ensures
