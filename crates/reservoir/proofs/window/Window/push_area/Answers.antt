-- The last bytes of all areas, with one area more.
use Rattle.std.proofs.Common.{ap, ap₂, ◌++◌, ◌∙◌}
use Rattle.circular_buffer.specs.Buffer.{keep_last}
use Rattle.reservoir.proofs.WindowLemmas.{window-more}
use Rattle.reservoir.proofs.window.Window.push_area.Goals as goal

pub returns-clause-main : goal.returns-clause-main
returns-clause-main c = λ main over.
    ap (λ b. b.items) c.extend_from_slice.ensures
    ∙ ap₂ (λ n bytes. keep_last n (bytes ++ c.args.area.now)) c.self.invariant.0 c.self.view_is
    ∙ window-more main c.args.area.now over
