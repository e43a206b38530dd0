-- None of the bytes so far is the one that is searched for.
use Rattle.std.{proofs.Common.{drop, length, ◌+◌, ◌-◌, ◌==◌, ◌≡◌, ◌≤◌}, specs.List.position_or_len}
use Rattle.cue_sheet.proofs.digits.position_of.Given as goal

abbrev pub invariant-loop-place : goal.invariant-loop-place
invariant-loop-place l = (l.place ≤ length l.text) × (position_or_len (λ b. b == l.byte) l.text
    ≡ l.place + position_or_len (λ b. b == l.byte) (drop l.place l.text))

abbrev pub decreases-loop-place : goal.decreases-loop-place
decreases-loop-place l = length l.text - l.place
