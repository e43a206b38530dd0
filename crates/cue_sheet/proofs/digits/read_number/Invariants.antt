-- All bytes so far are digits, and this is the number that they spell.
use Rattle.std.{proofs.Common.{length, take, ◌≡◌, ◌≤◌}, specs.Str.Parse.{AllDigits, digits_value}}
use Rattle.cue_sheet.proofs.digits.read_number.Given as goal

abbrev pub invariant-loop-digit : goal.invariant-loop-digit
invariant-loop-digit l = (l.least ≤ length l.digits) × (length l.digits ≤ l.most)
    × AllDigits 10 (take l.digit-index l.digits)
    × (l.number ≡ digits_value 10 (take l.digit-index l.digits))
