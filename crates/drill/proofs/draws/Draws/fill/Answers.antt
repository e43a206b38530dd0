-- One more byte.
use Rattle.std.proofs.Common.{ap, arith, length, set, suc, sym, ◌+◌, ◌<◌, ◌∙◌, ◌≡◌}
use Rattle.drill.proofs.DrawsLemmas.{behind-more, behind-none, byte-more, no-byte}
use Rattle.drill.specs.Draws.{next_state, state_after}
use Rattle.drill.proofs.draws.Draws.fill.Goals as goal

pub loop-byte-init : goal.loop-byte-init
loop-byte-init c = grind (arith, no-byte, behind-none)

pub loop-byte-preserved : goal.loop-byte-preserved
loop-byte-preserved c =
    let at = c.loop-byte in
    let i = at.byte-index in
    let seed = c.args.self.now.state in
    let within : i < length c.args.bytes.now =
    omega (arith, c.loop-byte-test.true, at.auto.bytes) in
    let state = c.draw.ensures.state ∙ ap next_state at.invariant.state in
    let one : suc i ≡ i + 1 = omega arith in
    record {
      bytes = grind (arith, set, byte-more);
      state = state ∙ sym (behind-more i seed) ∙ ap (λ n. state_after n seed) one;
    }
