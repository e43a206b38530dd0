-- What the splice leaves with the frames after it.
use Rattle.std.proofs.Common.{arith, Some, subst, sym, ◌++◌}
use Rattle.frame_header.specs.Tables.{window_of}
use Rattle.seam_plan.proofs.{SpliceLemmas.{in-window, some-in}, splice.Run.add.Goals.In-Some}
use Rattle.seam_plan.specs.Decisions.{AddedFramesFit, joined_needs}
use Rattle.slot_plan.proofs.FreeByteLemmas.{left-on}
use Rattle.slot_plan.specs.FreeBytes.{IsMostLeft, needs_with_first_slot}
use Rattle.seam_plan.proofs.splice.Run.add.Goals as goal

-- the frames fit with the first in its slot
fit : (c : In-Some)
    → AddedFramesFit c.args.self.now.class c.args.self.now.left c.args.needs.now
    (Some c.in-Some.slot)
fit c = subst (AddedFramesFit c.args.self.now.class c.args.self.now.left c.args.needs.now)
    c.in-Some.is c.requires.fit

pub left_in_slot-self-requires-clause-some : goal.left_in_slot-self-requires-clause-some
left_in_slot-self-requires-clause-some c =
    some-in c.args.self.now.class c.args.self.now.left c.args.needs.now c.in-Some.slot
    (fit (goal.at.left_in_slot-self-requires-clause-some c).In-Some)

pub left_in_slot-self-requires-clause-fits : goal.left_in_slot-self-requires-clause-fits
left_in_slot-self-requires-clause-fits c =
    in-window c.args.self.now.class c.args.self.now.left c.args.needs.now c.in-Some.slot
    (fit (goal.at.left_in_slot-self-requires-clause-fits c).In-Some)

pub returns-clause-left : goal.returns-clause-left
returns-clause-left c = λ frames before.
    let window = window_of c.args.self.now.class.version in
    subst (λ o. IsMostLeft window window (frames ++ joined_needs o c.args.needs.now)
    c.left_in_slot-self.result) (sym c.in-Some.is)
    ((left-on window window c.args.self.now.left c.left_in_slot-self.result frames
    (needs_with_first_slot c.in-Some.slot c.args.needs.now) (omega arith) before).1
    c.left_in_slot-self.ensures)
