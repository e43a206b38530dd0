-- Main data laid into the areas of frames (main_data_begin, ISO/IEC
-- 11172-3 and 13818-3, 2.4.2.7); the zeros between and after them are this
-- project's. Places are counted in bytes, over all areas, joined in order.
use Rattle.std.specs.Prelude.{drop, length, List, min, replicate, take, ℕ, [], ◌++◌, ◌+◌, ◌-◌, ◌∷◌}
use Rattle.std.specs.Prelude.{◌≡◌, ◌≤◌}

-- how many bytes of areas may wait
abbrev pub most_waiting : ℕ
most_waiting = 8192

-- a frame's main data, its main_data_begin, and how many bytes its own area has
pub record FrameData : Type 0 where
  pub payload : List ℕ
  pub begin : ℕ
  pub area : ℕ

-- n zeros
abbrev pub zeros : ℕ → List ℕ
zeros n = replicate n 0

-- where the main data of a frame begin, if its area starts at `area_start`
abbrev pub frame_data_start : ℕ → FrameData → ℕ
frame_data_start area_start p = area_start - p.begin

-- where the main data of a frame end, if its area starts at `area_start`
abbrev pub frame_data_end : ℕ → FrameData → ℕ
frame_data_end area_start p = frame_data_start area_start p + length p.payload

-- where the areas of these frames end, if the first of them starts at `area_start`
abbrev pub areas_end : ℕ → List FrameData → ℕ
areas_end area_start [] = area_start
areas_end area_start (p ∷ ps) = areas_end (area_start + p.area) ps

-- where the main data of the last of these frames end, if those before the first end at `end`
abbrev pub data_end : ℕ → ℕ → List FrameData → ℕ
data_end end area_start [] = end
data_end end area_start (p ∷ ps) = data_end (frame_data_end area_start p) (area_start + p.area) ps

-- no main data begin before the end of those before them, and none end after their frame's own area
abbrev pub CanDataBeLaidFrom : ℕ → ℕ → List FrameData → Type 0
CanDataBeLaidFrom end area_start [] = Unit {0}
CanDataBeLaidFrom end area_start (p ∷ ps) =
    (end + p.begin ≤ area_start) × (frame_data_end area_start p ≤ area_start + p.area)
    × CanDataBeLaidFrom (frame_data_end area_start p) (area_start + p.area) ps

-- the bytes from the end of the main data before these frames to the end of their
-- areas: zeros up to each frame's main data, then these, and zeros after the last
abbrev pub laid_data_from : ℕ → ℕ → List FrameData → List ℕ
laid_data_from end area_start [] = zeros (area_start - end)
laid_data_from end area_start (p ∷ ps) =
    zeros (frame_data_start area_start p - end)
    ++ (p.payload ++ laid_data_from (frame_data_end area_start p) (area_start + p.area) ps)

-- the main data of these frames can be laid into their areas
abbrev pub CanDataBeLaid : List FrameData → Type 0
CanDataBeLaid ps = CanDataBeLaidFrom 0 0 ps

-- the bytes of all areas
abbrev pub laid_data : List FrameData → List ℕ
laid_data ps = laid_data_from 0 0 ps

-- ---- areas that wait

-- the bytes of areas that wait, and how many at their
-- end are after the main data that were laid last
pub record WaitingAreas : Type 0 where
  pub bytes : List ℕ
  pub free : ℕ

-- how many of the first `count` bytes that wait are before the free bytes at the end
abbrev pub laid_count : ℕ → WaitingAreas → ℕ
laid_count count w = min count (length w.bytes - w.free)

-- these bytes at a place, written over as many that were there
abbrev pub overwritten_bytes : ℕ → List ℕ → List ℕ → List ℕ
overwritten_bytes place more bytes = take place bytes ++ (more ++ drop (place + length more) bytes)

-- what waits after an area of `area` bytes was added and
-- main data were laid that begin `begin` bytes before it
abbrev pub areas_after_laying : WaitingAreas → List ℕ → ℕ → ℕ → List ℕ
areas_after_laying w payload begin area =
    overwritten_bytes (length w.bytes - begin) payload (w.bytes ++ zeros area)

-- what was forwarded and what waits are the bytes of the areas of
-- these frames, and the free bytes are after all their main data
pub record AreAreasLaid (given : List ℕ) (waiting : WaitingAreas)
    (ps : List FrameData) : Type 0 where
  pub fit : CanDataBeLaid ps
  pub same : given ++ waiting.bytes ≡ laid_data ps
  pub free : waiting.free + data_end 0 0 ps ≤ areas_end 0 ps
  pub room : waiting.free ≤ length waiting.bytes

-- the main data of the first of these frames begin at most `free` bytes before its own area
abbrev pub BeginsWithin : ℕ → List FrameData → Type 0
BeginsWithin free [] = Unit {0}
BeginsWithin free (p ∷ ps) = p.begin ≤ free
