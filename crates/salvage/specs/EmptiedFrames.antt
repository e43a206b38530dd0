-- The frames of a damaged file that are written as empty ones.
use Rattle.std.specs.List.{enumerate_from}
use Rattle.std.specs.Prelude.{filter_map, if◌then◌else◌, List, None, Option, Some, ℕ}
use Rattle.salvage.specs.declared.mended.Emptied.{Emptied}
use Rattle.sync_survey.specs.Row.{Row}

-- a frame with its number, if it becomes an empty one
abbrev pub emptied_frame : ℕ → Row → Option Emptied
emptied_frame number r =
    if r.lost then Some (record { number = number; offset = r.offset }) else None

-- the frames among these that become empty ones, counted from a number on
abbrev pub emptied_from : ℕ → List Row → List Emptied
emptied_from number rows =
    filter_map (λ (p : ℕ × Row). emptied_frame p.0 p.1) (enumerate_from number rows)
