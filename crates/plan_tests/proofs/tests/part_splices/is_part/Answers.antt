-- All frames are of the class of the first.
use Rattle.std.proofs.Common.{rules, subst, sym, ◌∙◌}
use Rattle.slot_plan.{proofs.PartLemmas.one-class, specs.FreeBytes.FitsBehind}
use Rattle.plan_tests.proofs.tests.part_splices.is_part.Goals as goal

pub returns : goal.returns
returns c = λ is. record {
  some = search rules;
  same = one-class c.args.needs.now c.index-needs-0.result
      (c.are_of_one_class.ensures c.if-not-are_of_one_class.false)
      (sym (c.is_same.ensures.equal.0 c.if-not-is_same.false) ∙ c.class.ensures);
  fits = subst (λ n. FitsBehind n n c.args.needs.now) c.window-window.ensures.window
      (c.fit.ensures is);
}
