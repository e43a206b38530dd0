-- Laws of windows over main data.
use Rattle.std.specs.Prelude.{List, ℕ, [], ◌++◌, ◌+◌, ◌∷◌, ◌≤◌}
use Rattle.circular_buffer.specs.Buffer.{keep_last}
use Rattle.frame_header.specs.{Fields.{HeaderFields, IsHeader}, Tables.{area_of, class_of}}
use Rattle.reservoir.specs.Window.{IsWindowOver, window_size}
use Rattle.side_info.specs.{Side.SideFits, declared.side.Side.Side}

-- all areas, joined in order
abbrev pub joined_areas : List (List ℕ) → List ℕ
joined_areas [] = []
joined_areas (area ∷ areas) = area ++ joined_areas areas

-- what is held after these areas were pushed in order
abbrev pub held_after_areas : List ℕ → List (List ℕ) → List ℕ
held_after_areas held [] = held
held_after_areas held (area ∷ areas) = held_after_areas (keep_last window_size (held ++ area)) areas

-- a window holds the end of all areas that were pushed
abbrev pub AreasAreHeld : Type 0
AreasAreHeld =
    (areas : List (List ℕ)) → IsWindowOver (held_after_areas [] areas) (joined_areas areas)

-- a frame's area and its main_data_begin add up to at most 1,939 bytes, so no frame's main data
-- begin further back than a window reaches
abbrev pub FramesAreHeld : Type 0
FramesAreHeld = (h : HeaderFields) (s : Side) → IsHeader h → SideFits (class_of h) s
    → area_of (class_of h) h.slot h.protected + s.main_data_begin ≤ 1939
