-- By how many steps the gains of each frame of a file move.
use Rattle.std.specs.Prelude.{false, if◌then◌else◌, List, nat_lt, slice_get, Some, suc, ℕ, ℤ, []}
use Rattle.std.specs.Prelude.{◌∷◌, ◌≡◌}
use Rattle.fade_plan.specs.Curves.{steps_at, steps_back}
use Rattle.moved_gains.specs.declared.course.Course.{Course, TheVariants.{Along, Even}}
use Rattle.requests.specs.declared.shift.Steps.{Steps}
use Rattle.sync_survey.specs.Row.{Row}

-- the same steps for every frame
abbrev pub constant_steps : Steps → ℕ → Steps
constant_steps steps at = steps

-- the same steps for both channels, without wrap
abbrev pub equal_steps : ℤ → Steps
equal_steps steps = record { left = steps; right = steps; wrap = false }

-- the steps of a frame with this number, counted from 0
abbrev pub course_steps : Course → ℕ → Steps
course_steps (Even steps) frame = steps
course_steps (Along curve back) frame = equal_steps (steps_back back (steps_at curve frame))

-- how many of these frames are before an offset: the number of the frame that is there
abbrev pub number_at : List Row → ℕ → ℕ
number_at [] at = 0
number_at (row ∷ rows) at =
    if nat_lt row.offset at then suc (number_at rows at) else number_at rows at

-- frame i of these has number i at its offset
abbrev pub AreRowsNumbered : List Row → Type 0
AreRowsNumbered rows =
    (i : ℕ) (row : Row) → slice_get rows i ≡ Some row → number_at rows row.offset ≡ i

-- the steps of the frame that is at an offset of a file with these frames
abbrev pub steps_at_offset : Course → List Row → ℕ → Steps
steps_at_offset course rows at = course_steps course (number_at rows at)
