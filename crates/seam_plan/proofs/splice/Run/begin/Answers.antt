-- All frames of the first input.
use Rattle.std.proofs.Common.{ap, arith, length, subst, sym, [], ◌-◌, ◌∙◌, ◌≡◌, ◌≤◌}
use Rattle.frame_header.specs.Tables.{window_of}
use Rattle.seam_plan.proofs.SpliceLemmas.{all-free, splice-begins}
use Rattle.seam_plan.specs.Decisions.{frame_places, last_seven}
use Rattle.slot_plan.specs.FreeBytes.{FitBehindFree, IsMostLeft}
use Rattle.seam_plan.proofs.splice.Run.begin.Goals as goal

pub leaves-requires : goal.leaves-requires
leaves-requires c = subst (λ n. FitBehindFree n c.args.input.now.needs.now)
    (sym c.window-window.ensures.window) (all-free c.requires)

pub returns-clause-splice : goal.returns-clause-splice
returns-clause-splice c = λ first is.
    let window = window_of c.args.class.version in
    let needs = c.args.input.now.needs.now in
    let within : c.window-window.result ≤ window = omega (arith, c.window-window.ensures.window) in
    let left = subst (λ w. IsMostLeft window w needs c.leaves.result)
    c.window-window.ensures.window (c.leaves.ensures c.args.class c.requires.same within) in
    let none : length needs - 0 ≡ length needs = omega arith in
    splice-begins is
    c.note.ensures.class (subst (IsMostLeft window window needs) (sym c.note.ensures.left) left)
    (c.note.ensures.last [] (c.new.ensures) ∙ ap (λ n. last_seven (frame_places 0 0 n)) none)
    (c.note.ensures.rest ∙ c.rest_of.ensures.rest)
