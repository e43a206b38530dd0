-- The parts of a file that stay when stretches of its frames are taken out.
use Rattle.std.specs.Prelude.{Err, if◌then◌else◌, List, nat_le, nat_lt, None, Ok, Option, Result}
use Rattle.std.specs.Prelude.{Some, ℕ, [], ◌&&◌, ◌++◌, ◌+◌, ◌<◌, ◌∷◌, ◌≤◌}
use Rattle.seam_plan.specs.declared.stretches.Part.{Part}

-- The first two neighbours that aren't in order among the numbers of stretches, given where the
-- stretch before them ends. They are in order where each stretch has a frame, none begins before
-- the end of the one before it, and none ends after the last frame. Stretches may touch.
unfoldable pub disorder_from : ℕ → ℕ → List (ℕ × ℕ) → Option (ℕ × ℕ)
disorder_from frames before [] = None
disorder_from frames before (stretch ∷ stretches) =
    if nat_lt stretch.0 before then Some (before, stretch.0)
    else if nat_lt stretch.0 stretch.1 && nat_le stretch.1 frames
    then disorder_from frames stretch.1 stretches
    else Some stretch

-- the frames from one number to before another, if there is one
abbrev pub part_between : ℕ → ℕ → List Part
part_between from to = if nat_lt from to then record { from = from; to = to } ∷ [] else []

-- what stays before, between and after stretches that are in order
unfoldable pub staying_from : ℕ → ℕ → List (ℕ × ℕ) → List Part
staying_from frames before [] = part_between before frames
staying_from frames before (stretch ∷ stretches) =
    part_between before stretch.0 ++ staying_from frames stretch.1 stretches

-- these parts, or 0 and the number of frames where there is none
abbrev pub parts_or_none : ℕ → List Part → Result (List Part) (ℕ × ℕ)
parts_or_none frames [] = Err (0, frames)
parts_or_none frames (part ∷ parts) = Ok (part ∷ parts)

-- these parts, unless two neighbours aren't in order
abbrev pub parts_in_order : ℕ → Option (ℕ × ℕ) → List Part → Result (List Part) (ℕ × ℕ)
parts_in_order frames None parts = parts_or_none frames parts
parts_in_order frames (Some pair) parts = Err pair

-- The parts that stay, or the two numbers for which they are refused: the first two
-- neighbours that aren't in order, or 0 and the number of frames where no frame stays.
unfoldable pub staying_parts : ℕ → List (ℕ × ℕ) → Result (List Part) (ℕ × ℕ)
staying_parts frames stretches =
    parts_in_order frames (disorder_from frames 0 stretches) (staying_from frames 0 stretches)

-- Each part has a frame and is within the file. The first begins at `least`
-- or later, and between two neighbours there is at least one frame.
unfoldable pub AreInOrder : ℕ → ℕ → List Part → Type 0
AreInOrder least frames [] = Unit {0}
AreInOrder least frames (part ∷ parts) =
    (least ≤ part.from) × (part.from < part.to) × (part.to ≤ frames)
    × AreInOrder (part.to + 1) frames parts
