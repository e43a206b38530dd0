-- The heads so far count and have these values.
use Rattle.std.proofs.Common.{drop, ◌≡◌}
use Rattle.seamless_edits.specs.Numbers.{all_say}
use Rattle.seamless_edits.proofs.numbers.all_say.Given as goal

abbrev pub invariant-loop-beginning : goal.invariant-loop-beginning
invariant-loop-beginning l =
    all_say l.gain (drop l.beginning-index l.beginnings) ≡ all_say l.gain l.beginnings
