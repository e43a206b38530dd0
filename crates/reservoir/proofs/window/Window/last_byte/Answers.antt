-- The byte's first bits, and zeros.
use Rattle.std.proofs.Common.{arith, length-append, ◌++◌, ◌-◌, ◌<◌}
use Rattle.reservoir.proofs.WindowLemmas.{last-packed, none-packed}
use Rattle.reservoir.proofs.window.Window.last_byte.Goals as goal

pub returns-then-bits-eq0-clause-packed : goal.returns-then-bits-eq0-clause-packed
returns-then-bits-eq0-clause-packed c = none-packed (c.args.self.now
    ++ (c.args.before.now ++ c.args.area.now)) c.args.at c.if-bits-eq0.true

pub returns-clause-packed : goal.returns-clause-packed
returns-clause-packed c =
    let some : 0 < c.args.bits = omega (arith, c.if-bits-eq0.false) in
    let more = c.args.before.now ++ c.args.area.now in
    last-packed (c.args.self.now ++ more) (8 - c.args.bits)
    (omega (
      arith,
      c.requires.within,
      some,
      length-append c.args.self.now more,
      length-append c.args.before.now c.args.area.now,
    )) c.byte_at-byte.ensures
    (omega (arith, c.requires.few)) some
