-- None of the bytes so far is a blank.
use Rattle.std.{proofs.Common.{drop, length, ◌+◌, ◌-◌, ◌≡◌, ◌≤◌}, specs.List.position_or_len}
use Rattle.cue_sheet.specs.Lines.{is_blank}
use Rattle.cue_sheet.proofs.words.word_length.Given as goal

abbrev pub invariant-loop-count : goal.invariant-loop-count
invariant-loop-count l = (l.count ≤ length l.text)
    × (position_or_len is_blank l.text ≡ l.count + position_or_len is_blank (drop l.count l.text))

abbrev pub decreases-loop-count : goal.decreases-loop-count
decreases-loop-count l = length l.text - l.count
