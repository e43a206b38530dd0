-- Rising frames are split at any frame.
use Rattle.std.proofs.Common.{nat_le, rules}
use Rattle.std.proofs.lemmas.List.Sorted.{IsPartitionedBy-leb, IsPartitionPoint-from_clause}
use Rattle.fade_plan.proofs.curve.count_up_to.Goals as goal

pub returns-clause-parted : goal.returns-clause-parted
returns-clause-parted c =
    IsPartitionPoint-from_clause (λ p. nat_le p.frame c.args.frame)
    c.args.points.now c.partition_point.result c.partition_point.ensures.partitioned
    (IsPartitionedBy-leb (λ p. p.frame) c.args.points.now c.args.frame c.requires)
    (λ a r f' k. search rules)
