-- Main data laid into areas: their length in bytes together, and where each frame's are.
use Rattle.std.proofs.Common.{ap, append_assoc, arith, drop, length, length-append, List, None}
use Rattle.std.proofs.Common.{refl, slice_get, Some, subst, suc, sym, take, zero, ℕ, [], ◌++◌, ◌+◌}
use Rattle.std.proofs.{Common.{◌-◌, ◌∙◌, ◌∷◌, ◌≡◌, ◌≤◌}, lemmas.List.{drop-drop, drop_at}}
use Rattle.frame_writer.proofs.LaidLemmas.{length-zeros}
use Rattle.frame_writer.specs.Laid.{areas_end, CanDataBeLaidFrom, data_end, frame_data_end}
use Rattle.frame_writer.specs.Laid.{frame_data_start, FrameData, laid_data_from, zeros}

-- ---- the main data of all frames

-- they reach from the end of the main data before them to the end of the areas
pub length-laid : (end : ℕ) {area_start : ℕ} (ps : List FrameData) → end ≤ area_start
    → CanDataBeLaidFrom end area_start ps
    → end + length (laid_data_from end area_start ps) ≡ areas_end area_start ps
length-laid end {area_start} [] within fits = omega (arith, within, length-zeros (area_start - end))
length-laid end {area_start} (p ∷ ps) within fits =
    grind (
      arith,
      length-zeros,
      length-append,
      length-laid (frame_data_end area_start p) ps fits.1 fits.2,
    )

-- ---- the main data of one frame

-- The main data of the frames before it end before its own begin, and these end in its own area.
pub record IsWellLaid (end area_start : ℕ) (ps : List FrameData) (i : ℕ)
    (p : FrameData) : Type 0 where
  pub later : end ≤ data_end end area_start (take i ps)
  pub begins : data_end end area_start (take i ps) + p.begin ≤ areas_end area_start (take i ps)
  pub ends : frame_data_end (areas_end area_start (take i ps)) p
      ≤ areas_end area_start (take i ps) + p.area

-- in a layout each frame's main data are well laid among those of the others
pub well-laid : (end : ℕ) {area_start : ℕ} (ps : List FrameData) (i : ℕ) {p : FrameData}
    → CanDataBeLaidFrom end area_start ps → slice_get ps i ≡ Some p
    → IsWellLaid end area_start ps i p
well-laid end [] i fits is = absurd cc
well-laid end (q ∷ ps) zero fits is = grind arith
well-laid end {area_start} (q ∷ ps) (suc i) {p} fits is =
    grind (arith, well-laid (frame_data_end area_start q) ps i fits.2 is)

-- the main data laid up to frame i end where its own do
pub data_end-next : (end area_start : ℕ) (ps : List FrameData) (i : ℕ) {p : FrameData}
    → slice_get ps i ≡ Some p → data_end end area_start (take (suc i) ps)
    ≡ frame_data_end (areas_end area_start (take i ps)) p
data_end-next end area_start [] i is = absurd cc
data_end-next end area_start (q ∷ ps) zero is = grind arith
data_end-next end area_start (q ∷ ps) (suc i) {p} is =
    data_end-next (frame_data_end area_start q) (area_start + q.area) ps i is

-- nothing comes after the last frame
pub take-last : (ps : List FrameData) (i : ℕ) → slice_get ps i ≡ None → take (suc i) ps ≡ take i ps
take-last [] zero is = refl
take-last [] (suc i) is = refl
take-last (q ∷ ps) zero is = absurd cc
take-last (q ∷ ps) (suc i) is = ap (λ (rest : List FrameData). q ∷ rest) (take-last ps i is)

-- a frame's main data are where its main_data_begin says
pub laid-there : (end area_start : ℕ) (ps : List FrameData) (i : ℕ) (p : FrameData)
    → CanDataBeLaidFrom end area_start ps → slice_get ps i ≡ Some p → (rest : List ℕ)
    × (drop (frame_data_start (areas_end area_start (take i ps)) p - end)
    (laid_data_from end area_start ps)
    ≡ p.payload ++ rest)
laid-there end area_start [] i p fits is = absurd cc
laid-there end area_start (q ∷ ps) zero p fits is =
    let same : q ≡ p = cc in
    let gap = frame_data_start area_start q - end in
    let more = laid_data_from (frame_data_end area_start q) (area_start + q.area) ps in
    subst (λ (r : FrameData). (rest : List ℕ)
    × (drop (frame_data_start area_start r - end) (laid_data_from end area_start (q ∷ ps))
    ≡ r.payload ++ rest))
    same
    (more, drop_at (zeros gap) (q.payload ++ more) gap (length-zeros gap))
laid-there end area_start (q ∷ ps) (suc i) p fits is =
    let gap = frame_data_start area_start q - end in
    let now = frame_data_end area_start q in
    let later = area_start + q.area in
    let more = laid_data_from now later ps in
    let place = frame_data_start (areas_end later (take i ps)) p in
    let behind = well-laid now ps i fits.2 is in
    let found = laid-there now later ps i p fits.2 is in
    let split : place - end ≡ (gap + length q.payload) + (place - now) =
    omega (arith, fits.0, behind.later, behind.begins) in
    let front : length (zeros gap ++ q.payload) ≡ gap + length q.payload =
    omega (arith, length-append (zeros gap) q.payload, length-zeros gap) in (
      found.0,
      ap (λ n. drop n (zeros gap ++ (q.payload ++ more))) split
          ∙ sym (drop-drop (place - now) (gap + length q.payload)
          (zeros gap ++ (q.payload ++ more)))
          ∙ ap (drop (place - now))
          (sym (ap (drop (gap + length q.payload)) (append_assoc (zeros gap) q.payload more))
          ∙ drop_at (zeros gap ++ q.payload) more (gap + length q.payload) front)
          ∙ found.1,
    )
