-- The list that the table gives, after the lead-in that its sums give.
use Rattle.std.proofs.Common.{ap, arith, subst, [], ◌++◌, ◌∙◌, ◌∷◌, ◌≡◌}
use Rattle.best_plan.proofs.PlanLemmas.{first-sum, plan-behind, plan-without, whole-sum}
use Rattle.best_plan.proofs.{WalkLemmas.table-width, shortest.best.Goals.In_ok-table}
use Rattle.best_plan.specs.{Best.IsBestPlan, Table.IsLeadInOfSums}
use Rattle.slot_plan.{proofs.PartLemmas.{one-class, window-first}, specs.Parts.window_in}
use Rattle.slot_plan.specs.{Plans.entries, Reserve.free_bytes_behind}
use Rattle.best_plan.proofs.shortest.best.Given as given
use Rattle.best_plan.proofs.shortest.best.Goals as goal

pub table_of-requires-clause-class : goal.table_of-requires-clause-class
table_of-requires-clause-class g c = grind (arith, one-class)

pub walk-requires-clause-class : goal.walk-requires-clause-class
walk-requires-clause-class g c = grind (arith, one-class)

pub walk-requires-2-clause-class : goal.walk-requires-2-clause-class
walk-requires-2-clause-class g c = grind (arith, one-class)

-- the window of the first frame is the window of all
whole_window : (g : given.Over) (c : In_ok-table g)
    → c.window-window.result ≡ window_in c.args.needs.now
whole_window g c = grind (arith, window-first)

pub index-requires : goal.index-requires
index-requires g c = grind (arith, table-width)

pub returns-then-index-lt-NOTHING : goal.returns-then-index-lt-NOTHING
returns-then-index-lt-NOTHING g c = grind (arith, whole_window, first-sum, plan-without)

pub lead_in-frame-requires-clause-sums : goal.lead_in-frame-requires-clause-sums
lead_in-frame-requires-clause-sums g c = grind (arith, table-width)

pub lead_in-frame-requires-clause-some : goal.lead_in-frame-requires-clause-some
lead_in-frame-requires-clause-some g c = grind (arith, whole_window, whole-sum)

pub returns : goal.returns
returns g c =
    let needs = c.args.needs.now in
    let choices = g.P.Policy.choices_of c.args.policy.now in
    let sums = c.in_ok-table.table.sums.items in
    let places = c.in_ok-table.table.places.items in
    let window = whole_window g (goal.at.returns g c).In_ok-table in
    let first = first-sum c.window-window.result choices needs sums places
    c.index.result.now c.in_ok-table.ensures c.index.ensures in
    let by = subst (λ l. IsLeadInOfSums c.window-window.result c.class-class.result l
    c.lead_in-frame.result) c.as_slice.ensures.value c.lead_in-frame.ensures in
    let old = c.in_ok-push.ensures.items
    ∙ ap (λ l. l ++ c.lead_in-frame.result ∷ []) c.in_ok-placed.ensures.items in
    subst (λ n. IsBestPlan n choices needs (entries c.from_placed-2.result)) window
    (plan-behind choices needs c.index-needs-0.result places c.requires.some
    c.class-class.ensures c.in_ok-table.ensures by
    (c.free_behind-free.ensures.free ∙ ap (λ n. free_bytes_behind c.window-window.result 0 0 n)
    c.area_of-area.ensures.area) c.push.new.self.items c.walk-2.new.placed.items
    (entries c.from_placed-2.result) c.requires.few
    (omega (arith, first, c.if-index-lt-NOTHING.false)) old c.in_ok-walk-2.ensures
    c.from_placed-2.ensures)
