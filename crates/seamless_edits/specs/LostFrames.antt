-- Which frames of the inputs are lost, and how many of them are written, as silence.
use Rattle.std.specs.{List.enumerate_from, Prelude.{count_by, filter, List, map, nat_le, ℕ}}
use Rattle.joined_inputs.specs.Inputs.{InputFields}
use Rattle.sync_survey.specs.{HeadApart.head_apart, Row.Row}

-- the numbers of the lost frames among these, counted from 0
abbrev pub lost_numbers : List Row → List ℕ
lost_numbers rows =
    map (λ (p : ℕ × Row). p.0)
    (filter (λ (p : ℕ × Row). p.1.lost) (enumerate_from 0 rows))

-- the numbers of the lost frames of an input whose head is set apart
abbrev pub lost_in_input : InputFields → List ℕ
lost_in_input i = lost_numbers (head_apart i.survey).frames

-- how many of these numbers are at least this great
abbrev pub lost_from : ℕ → List ℕ → ℕ
lost_from from numbers = count_by (nat_le from) numbers
