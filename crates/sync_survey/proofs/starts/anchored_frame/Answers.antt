-- The frame, and what is at its end.
use Rattle.std.proofs.Common.{arith, Bool, cond, false, List, None, Some, sym, true, ℕ, ◌∙◌, ◌≡◌}
use Rattle.sync_survey.proofs.StartLemmas.{shown_before, shown_none, shown_over}
use Rattle.sync_survey.{proofs.starts.anchored_frame.Goals.After-is_anchor, specs.Looks.Shows}
use Rattle.sync_survey.specs.Start.{anchored_frame}
use Rattle.sync_survey.proofs.starts.anchored_frame.Goals as goal

pub returns-in_default : goal.returns-in_default
returns-in_default c = grind (arith, shown_none)

pub returns-then-from-left-clause-frame : goal.returns-then-from-left-clause-frame
returns-then-from-left-clause-frame c = λ file shows.
    sym (shown_over shows
    (sym c.item_front.ensures ∙ c.in-Frame.is)
    (omega (arith, c.if-from-left.true, c.from.ensures, c.length-length.ensures.length)))

-- a whole frame is anchored if what is at its end is an anchor
found : (c : After-is_anchor) (file : List ℕ)
    → Shows file c.args.offset c.args.front.now c.args.left → (b : Bool) → c.is_anchor.result ≡ b
    → cond b (Some (record { offset = c.args.offset; header = c.in-Frame.header })) None
    ≡ anchored_frame file c.args.offset
found c file shows b is = grind (arith, shown_before)

pub returns-then-not-is_anchor-clause-frame : goal.returns-then-not-is_anchor-clause-frame
returns-then-not-is_anchor-clause-frame c = λ file shows.
    found (goal.at.returns-then-not-is_anchor-clause-frame c).After-is_anchor file shows
    false c.if-not-is_anchor.true

pub returns-clause-frame : goal.returns-clause-frame
returns-clause-frame c = λ file shows.
    found (goal.at.returns-clause-frame c).After-is_anchor file shows
    true c.if-not-is_anchor.false
