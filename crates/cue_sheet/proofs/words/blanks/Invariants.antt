-- All bytes so far are blanks.
use Rattle.std.{proofs.Common.{drop, length, ◌+◌, ◌-◌, ◌≡◌, ◌≤◌}, specs.List.prefix_len}
use Rattle.cue_sheet.specs.Lines.{is_blank}
use Rattle.cue_sheet.proofs.words.blanks.Given as goal

abbrev pub invariant-loop-count : goal.invariant-loop-count
invariant-loop-count l = (l.count ≤ length l.text)
    × (prefix_len is_blank l.text ≡ l.count + prefix_len is_blank (drop l.count l.text))

abbrev pub decreases-loop-count : goal.decreases-loop-count
decreases-loop-count l = length l.text - l.count
