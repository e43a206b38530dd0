-- No bit is lost.
use Rattle.std.proofs.Common.{arith, pow_mono, ◌+◌, ◌-◌, ◌/◌, ◌<◌, ◌^◌, ◌≡◌, ◌≤◌}
use Rattle.std.proofs.lemmas.Nat.{one_shl, shr-shr}
use Rattle.bit_fields.proofs.GroupBytesLemmas.{above_whole, upper_small, upper_whole, whole_small}
use Rattle.bit_fields.proofs.groups.with_group.Goals.{After-from}
use Rattle.bit_fields.proofs.groups.with_group.Goals as goal

small : (c : After-from) → c.args.window < 2 ^ 64
small c = omega arith

above : (c : After-from)
    → c.args.window / 2 ^ c.args.low / 2 ^ c.args.n ≡ c.args.window / 2 ^ (c.args.n + c.args.low)
above c = grind (arith, shr-shr)

pub overflow_add-result : goal.overflow_add-result
overflow_add-result c =
    let at = (goal.at.overflow_add-result c).After-from in
    let kept = above_whole {total = 64} {window = c.args.window} c.args.n c.args.low {value =
    c.args.value} (small at)
    (omega arith) c.requires.fits (omega arith) in
    let upper = upper_small {total = 64} {window = c.args.window} c.args.n c.args.low {value =
    c.args.value} (small at)
    (omega arith) c.requires.fits in
    let fewer : 64 - c.args.low ≤ 64 = omega arith in
    let fits : 2 ^ (64 - c.args.low) ≤ 2 ^ 64 = pow_mono fewer in
    rw (c.from.ensures, above at, kept) (omega arith)

pub overflow_add-result-2 : goal.overflow_add-result-2
overflow_add-result-2 c =
    let at = (goal.at.overflow_add-result-2 c).After-from in
    let kept = above_whole {total = 64} {window = c.args.window} c.args.n c.args.low {value =
    c.args.value} (small at)
    (omega arith) c.requires.fits (omega arith) in
    let upper = upper_whole {total = 64} {window = c.args.window} c.args.n c.args.low {value =
    c.args.value} (small at)
    (omega arith) c.requires.fits (omega arith) in
    let whole = whole_small {total = 64} {window = c.args.window} c.args.n c.args.low {value =
    c.args.value} (small at)
    (omega arith) c.requires.fits in
    let one = one_shl c.args.low 64 (omega arith) in
    rw (c.from.ensures, above at, kept, upper, one) (omega arith)

pub returns : goal.returns
returns c =
    grind (
      arith,
      upper_whole {total = 64} {window = c.args.window} c.args.n c.args.low {value =
          c.args.value} (small c) (omega
          arith) c.requires.fits (omega arith),
      one_shl c.args.low 64 (omega arith),
      above c,
    )
