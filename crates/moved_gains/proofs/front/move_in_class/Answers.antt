-- Moved side information differs only in gains from what is in the frame.
use Rattle.std.proofs.Common.{ap, subst, sym, ◌∙◌, ◌≡◌}
use Rattle.moved_gains.{proofs.MovedFrameLemmas.other_gains, specs.Gains.moved_side}
use Rattle.side_info.{proofs.FrameLemmas.shaped-side_in, specs.Frame.{frame_with_side, side_in}}
use Rattle.side_info.specs.Side.{HasOtherGains}
use Rattle.moved_gains.proofs.front.move_in_class.Goals as goal

pub returns : goal.returns
returns c is =
    let row = c.args.row.now in
    let h = row.header in
    let steps = c.args.steps.now in
    let old = c.args.front.now in
    let moved : c.moved_side.result ≡ moved_side steps row.side = c.moved_side.ensures
    ∙ ap (moved_side steps) (c.side_in.ensures.side ∙ ap (λ f. f.side) c.front-own.ensures) in
    let other : HasOtherGains (side_in h old) c.moved_side.result =
    subst (HasOtherGains (side_in h old)) (ap (moved_side steps) is ∙ sym moved)
    (other_gains steps (side_in h old) (shaped-side_in h old)) in
    subst (λ k. HasOtherGains (side_in k old) c.moved_side.result
    → c.put_gains.new.frame ≡ frame_with_side k c.moved_side.result old)
    (ap (λ f. f.header) c.front-own.ensures) c.put_gains.ensures.gains other
    ∙ ap (λ s. frame_with_side h s old) moved
