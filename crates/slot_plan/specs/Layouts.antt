-- Where the main data of each frame may be in the areas of all frames,
-- joined in order (main_data_begin, ISO/IEC 11172-3 and 13818-3, 2.4.2.7).
use Rattle.std.specs.Prelude.{Bool, leb, List, max, true, ℕ, [], ◌&&◌, ◌+◌, ◌-◌, ◌∷◌, ◌≤◌}

-- a frame: the lengths of its main data and of its own area in bytes
pub record FrameLengths : Type 0 where
  pub bytes : ℕ
  pub area : ℕ

-- Where main data may start, if the main data before these frames end at `end`
-- and `before` bytes of areas are before them. Each start isn't before the end
-- of the main data before it, is at most the window before the frame's own area
-- and not after that area's first byte, and the main data end within that area.
unfoldable pub IsDataLayout : ℕ → ℕ → ℕ → List FrameLengths → List ℕ → Type 0
IsDataLayout window end before [] [] = Unit {0}
IsDataLayout window end before [] (start ∷ starts) = ⊥
IsDataLayout window end before (frame ∷ frames) [] = ⊥
IsDataLayout window end before (frame ∷ frames) (start ∷ starts) =
    (end ≤ start) × (before ≤ start + window) × (start ≤ before)
    × (start + frame.bytes ≤ before + frame.area)
    × IsDataLayout window (start + frame.bytes) (before + frame.area) frames starts

-- after `before` bytes of areas that hold nothing, the frames have a layout
unfoldable pub HasLayout : ℕ → ℕ → List FrameLengths → Type 0
HasLayout window before frames = (starts : List ℕ) × IsDataLayout window 0 before frames starts

-- main_data_begin of each frame, if all main data start as early as they may: at the end
-- of the main data before, or the window before the frame's own area, whichever is later
unfoldable pub begins_of : ℕ → ℕ → ℕ → List FrameLengths → List ℕ
begins_of window end before [] = []
begins_of window end before (frame ∷ frames) =
    let start = max end (before - window) in
    (before - start) ∷ begins_of window (start + frame.bytes) (before + frame.area) frames

-- whether there is a layout: whether all main data that start
-- as early as they may end within the areas of their frames
unfoldable pub has_layout : ℕ → ℕ → ℕ → List FrameLengths → Bool
has_layout window end before [] = true
has_layout window end before (frame ∷ frames) =
    let start = max end (before - window) in
    leb (start + frame.bytes) (before + frame.area)
    && has_layout window (start + frame.bytes) (before + frame.area) frames
