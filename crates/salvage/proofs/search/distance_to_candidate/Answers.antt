-- There is no usable anchored frame up to the place that is found.
use Rattle.std.proofs.Common.{arith}
use Rattle.salvage.{proofs.SearchLemmas.{bare_joined, bare_more}, specs.Steps.HasNoUsableFrame}
use Rattle.salvage.proofs.search.distance_to_candidate.Goals as goal

pub returns-then-at-end-clause-none : goal.returns-then-at-end-clause-none
returns-then-at-end-clause-none c = λ k some low.
    bare_joined (HasNoUsableFrame c.args.role.now c.args.offset c.args.front.now) 1
    c.loop-at.at c.find_begin-at.result c.loop-at.invariant.none
    (λ k low high h is. absurd (c.find_begin-at.ensures.none k low high h is)) k
    (omega (arith, some)) low

pub loop-at-preserved : goal.loop-at-preserved
loop-at-preserved c =
    let bare = HasNoUsableFrame c.args.role.now c.args.offset c.args.front.now in
    let before = bare_joined bare 1 c.loop-at.at c.find_begin-at.result c.loop-at.invariant.none
    (λ k low high h is. absurd (c.find_begin-at.ensures.none k low high h is)) in record {
      none =
          bare_more bare 1 c.find_begin-at.result before
          (c.may_be_usable.ensures c.if-may_be_usable.false);
      some = omega arith;
      few = omega (arith, c.find_begin-at.ensures.high, c.if-at-end.false);
    }
