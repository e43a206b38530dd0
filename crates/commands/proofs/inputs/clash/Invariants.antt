-- None of the names before is an output's.
use Rattle.std.proofs.Common.{drop, map, ◌≡◌}
use Rattle.commands.specs.Command.{clash_from}
use Rattle.commands.proofs.inputs.clash.Given as goal

abbrev pub invariant-loop-number : goal.invariant-loop-number
invariant-loop-number g l =
    clash_from (g.O.OutputNames.names l.outputs)
    l.number (map g.N.AsStr.text (drop l.number l.inputs))
    ≡ clash_from (g.O.OutputNames.names l.outputs) 0 (map g.N.AsStr.text l.inputs)
