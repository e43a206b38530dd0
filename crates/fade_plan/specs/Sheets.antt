-- Sheets of a fade: what a line says, the first line at fault, and the points. Lines and words are
-- split as in a cue sheet.
use Rattle.std.specs.Prelude.{Bool, count_by, Err, false, if◌then◌else◌, length, List, map, nat_le}
use Rattle.std.specs.Prelude.{None, Ok, Option, Result, Some, true, unsigned_abs, ℕ, ℤ, [], ◌++◌}
use Rattle.std.specs.Prelude.{◌+◌, ◌==◌, ◌∷◌, ◌≤◌}
use Rattle.cue_sheet.specs.{Digits.steps_in, Lines.{lines_from, lines_of, words_of}}
use Rattle.cue_sheet.specs.{Places.{IsPlace, place_of}, declared.place.Place.Place}
use Rattle.fade_plan.specs.declared.entry.FadeEntry.{FadeEntry, TheVariants.{At, Broken, Passed}}
use Rattle.fade_plan.specs.declared.envelope_fault.EnvelopeFault.{EnvelopeFault}
use Rattle.fade_plan.specs.declared.envelope_fault.EnvelopeFault.TheVariants.{Line, NoPoints}

-- a point of gain: the line in which it is, counted from 1, its position, and its steps
pub record EnvelopePoint : Type 0 where
  pub line : ℕ
  pub place : Place
  pub steps : ℤ

-- ---- lines

-- a word that begins with `#`
abbrev pub is_comment : List ℕ → Bool
is_comment [] = false
is_comment (first ∷ rest) = first == 35

-- a point, if both words are legal
abbrev pub point_entry : Option Place → Option ℤ → FadeEntry
point_entry None steps = Broken
point_entry (Some place) None = Broken
point_entry (Some place) (Some steps) = At place steps

-- exactly two words, a position and steps
abbrev pub point_of : List (List ℕ) → FadeEntry
point_of [] = Broken
point_of (place ∷ []) = Broken
point_of (place ∷ steps ∷ []) = point_entry (place_of place) (steps_in steps)
point_of (place ∷ steps ∷ third ∷ more) = Broken

-- what a line says by its words: a comment and a line without words are skipped, every other line
-- is a point
unfoldable pub fade_entry_of : List (List ℕ) → FadeEntry
fade_entry_of [] = Passed
fade_entry_of (first ∷ rest) = if is_comment first then Passed else point_of (first ∷ rest)

-- what a line says
abbrev pub fade_entry_in : List ℕ → FadeEntry
fade_entry_in line = fade_entry_of (words_of line)

-- what each line of a sheet says
abbrev pub fade_entries_of : List ℕ → List FadeEntry
fade_entries_of bytes = map fade_entry_in (lines_of bytes)

-- the lines from a place on
abbrev pub fade_entries_from : List ℕ → ℕ → List FadeEntry
fade_entries_from text at = map fade_entry_in (lines_from text at)

-- ---- faults

-- the line is a point
abbrev pub is_point : FadeEntry → Bool
is_point Passed = false
is_point (At place steps) = true
is_point Broken = false

-- after `points` points a line is at fault if it breaks its rule or is one point too many: a sheet
-- has at most 1,000
abbrev pub is_at_fault : ℕ → FadeEntry → Bool
is_at_fault points Passed = false
is_at_fault points (At place steps) = nat_le 1000 points
is_at_fault points Broken = true

-- the number of the first line at fault, among lines after others; lines are counted from 1
unfoldable pub first_faulty_line : List FadeEntry → List FadeEntry → Option ℕ
first_faulty_line before [] = None
first_faulty_line before (entry ∷ more) =
    if is_at_fault (count_by is_point before) entry then Some (length before + 1)
    else first_faulty_line (before ++ (entry ∷ [])) more

-- ---- the envelope

-- the point of a line with this number, if the line is a point
abbrev pub point_at : ℕ → FadeEntry → List EnvelopePoint
point_at line Passed = []
point_at line (At place steps) = record { line = line; place = place; steps = steps } ∷ []
point_at line Broken = []

-- the points of lines whose numbers begin with this one
unfoldable pub points_from : ℕ → List FadeEntry → List EnvelopePoint
points_from line [] = []
points_from line (entry ∷ more) = point_at line entry ++ points_from (line + 1) more

-- a sheet has to have a point
abbrev pub some_points : List EnvelopePoint → Result (List EnvelopePoint) EnvelopeFault
some_points [] = Err NoPoints
some_points (point ∷ more) = Ok (point ∷ more)

-- the result, unless a line is at fault
abbrev pub fault_or_envelope : Option ℕ → Result (List EnvelopePoint) EnvelopeFault
    → Result (List EnvelopePoint) EnvelopeFault
fault_or_envelope None answer = answer
fault_or_envelope (Some line) answer = Err (Line line)

-- the points that lines say, or the first fault
abbrev pub envelope_in : List FadeEntry → Result (List EnvelopePoint) EnvelopeFault
envelope_in entries =
    fault_or_envelope (first_faulty_line [] entries) (some_points (points_from 1 entries))

-- the points of a sheet, or its fault
unfoldable pub envelope_of : List ℕ → Result (List EnvelopePoint) EnvelopeFault
envelope_of bytes = envelope_in (fade_entries_of bytes)

-- a position that a word can say, and steps from -255 to 255
abbrev pub IsPoint : Place → ℤ → Type 0
IsPoint place steps = IsPlace place × (unsigned_abs steps ≤ 255)

-- if a line is a point, its position and its steps are legal
abbrev pub IsFadeEntry : FadeEntry → Type 0
IsFadeEntry Passed = Unit {0}
IsFadeEntry (At place steps) = IsPoint place steps
IsFadeEntry Broken = Unit {0}
