-- The lines that say what becomes of each input after the first.
use Rattle.std.specs.Prelude.{flat_map, List, ℕ, [], ◌∷◌}
use Rattle.seam_plan.specs.{Seams.left_out_count, declared.splice.Joint.Joint}
use Rattle.seamless_edits.specs.{LostFrames.lost_from, Seamless.{told_line, ToldInput}}

-- what is told of inputs with these names, given what became of each, and the numbers of its lost
-- frames
abbrev pub told_by : List (List ℕ) → List Joint → List (List ℕ) → List ToldInput
told_by (name ∷ names) (j ∷ joints) (numbers ∷ lost) = record {
  name = name;
  seam = j.seam;
  lost = lost_from (left_out_count j.seam) numbers;
} ∷ told_by names joints lost
told_by _ _ _ = []

-- the line of each input
abbrev pub told_lines : List (List ℕ) → List Joint → List (List ℕ) → List ℕ
told_lines names joints lost = flat_map told_line (told_by names joints lost)
