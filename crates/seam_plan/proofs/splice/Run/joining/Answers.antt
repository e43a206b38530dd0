-- The slot in which the first frame joins, as `joins` returns it.
use Rattle.std.proofs.Common.{length, None, rules, Some, subst, ◌≡◌}
use Rattle.frame_header.specs.{Fields.IsClass, Tables.window_of}
use Rattle.seam_plan.proofs.JoinLemmas.{join-fit, joining_frames-empty, joins-as}
use Rattle.slot_plan.specs.{FreeBytes.IsJoinSlot, Parts.AreNeedsOfClass}
use Rattle.seam_plan.proofs.splice.Run.joining.Goals as goal

pub returns-then-is_empty-clause-joining : goal.returns-then-is_empty-clause-joining
returns-then-is_empty-clause-joining c = λ class frames rest places before is needs.
    let none : length c.args.needs.now ≡ 0 = search rules in
    joining_frames-empty (window_of class.version) c.args.seam frames rest needs
    none

pub returns-in_default-clause-joining : goal.returns-in_default-clause-joining
returns-in_default-clause-joining c = λ class frames rest places before is needs.
    let same = subst (λ k. AreNeedsOfClass k c.args.needs.now) is.of_class c.requires.same in
    joins-as class c.args.seam frames rest None same
    (subst IsClass is.of_class c.requires.within.known) is.left needs
    (subst (IsJoinSlot (window_of class.version) c.args.self.now.left c.args.needs.now)
    c.in_default.is (c.joins.ensures class same))

pub returns-clause-joining : goal.returns-clause-joining
returns-clause-joining c = λ class frames rest places before is needs.
    let same = subst (λ k. AreNeedsOfClass k c.args.needs.now) is.of_class c.requires.same in
    joins-as class c.args.seam frames rest
    (Some c.in-Some.slot) same (subst IsClass is.of_class c.requires.within.known) is.left needs
    (subst (IsJoinSlot (window_of class.version) c.args.self.now.left c.args.needs.now)
    c.in-Some.is (c.joins.ensures class same))

pub returns-clause-fit : goal.returns-clause-fit
returns-clause-fit c =
    join-fit c.args.self.now.class c.args.self.now.left c.args.needs.now c.in-Some.slot
    (subst
    (IsJoinSlot (window_of c.args.self.now.class.version) c.args.self.now.left c.args.needs.now)
    c.in-Some.is (c.joins.ensures c.args.self.now.class c.requires.same))
