-- The area is held together with what is before it.
use Rattle.std.proofs.Common.{append-nil, arith, length, List, subst, ℕ, ◌+◌, ◌-◌, ◌≡◌}
use Rattle.reservoir.{proofs.WindowLemmas.window-last, specs.Window.{AreBitsPacked, main_bits}}
use Rattle.reservoir.proofs.window.Window.main_data.Goals as goal

pub returns-clause-payload : goal.returns-clause-payload
returns-clause-payload c = λ main over.
    let n = c.args.bits in
    let reach = c.args.area + c.args.begin in
    let most : length main + 0 - reach ≡ length main - c.args.area - c.args.begin = omega arith in
    subst (λ k. AreBitsPacked c.main_data_with.result n (main_bits main k n)) most
    (subst (λ (xs : List ℕ). AreBitsPacked c.main_data_with.result n
    (main_bits xs (length main + 0 - reach) n)) (append-nil main)
    (c.main_data_with.ensures.payload main (window-last over)))
