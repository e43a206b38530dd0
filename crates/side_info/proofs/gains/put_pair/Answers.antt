-- One channel, or the second after the first.
use Rattle.std.proofs.Common.{ap, arith, ◌+◌}
use Rattle.side_info.proofs.GainsLemmas.{both_put, one_put}
use Rattle.side_info.proofs.gains.put_pair.Goals as goal

pub returns-then-channels-eq1-clause-put : goal.returns-then-channels-eq1-clause-put
returns-then-channels-eq1-clause-put c gs before after = search (arith, one_put)

pub returns-clause-put : goal.returns-clause-put
returns-clause-put c gs before after =
    both_put c.args.version gs c.args.pair.now before after
    (omega (arith, c.if-channels-eq1.false)) (omega arith)
    (ap (λ n. c.args.at + n) c.granule_width.ensures) c.put_gain.ensures c.put_gain-2.ensures
