-- Where the main data of the frames that are kept are in the areas of all frames, whatever gaps are
-- between them.
use Rattle.std.specs.Prelude.{false, if◌then◌else◌, length, List, None, Option, slice_get, Some}
use Rattle.std.specs.Prelude.{suc, true, zero, ℕ, ◌+◌, ◌||◌, ◌≡◌, ◌≤◌}
use Rattle.salvage.specs.SoundFrames.{is_sound}
use Rattle.sync_survey.specs.{MainData.{end_of_data, is_silent, place}, Row.Row}
use Rattle.sync_survey.specs.declared.{places.Head.Head, rows.ReservoirState.ReservoirState}

-- where the main data end after a frame; a frame that becomes empty, or has none, doesn't change
-- this
abbrev pub kept_end : ℕ → ℕ → Option Row → ℕ
kept_end place ended None = ended
kept_end place ended (Some r) = if r.lost || is_silent r then ended else end_of_data place r

-- the end of the main data of the last frame before frame i that is kept and has any, or 0
unfoldable pub end_of_kept : Option Head → List Row → ℕ → ℕ
end_of_kept head rows zero = 0
end_of_kept head rows (suc i) =
    kept_end (place head rows i) (end_of_kept head rows i) (slice_get rows i)

-- The main data that are kept before a frame end before its own area. The main data of each frame
-- that is kept begin neither before all areas nor before the end of the main data kept before them,
-- and end within its own area, so they are in the areas of all frames as they are in the areas of
-- its island.
pub record IsKeptWell (head : Option Head) (rows : List Row) (i : ℕ) (r : Row) : Type 0 where
  pub before : end_of_kept head rows i ≤ place head rows i
  pub sound : r.lost ≡ false → is_sound (place head rows i) (end_of_kept head rows i) r ≡ true

-- this holds for each of these frames
abbrev pub AreKeptWell : Option Head → List Row → Type 0
AreKeptWell head rows = (i : ℕ) (r : Row) → slice_get rows i ≡ Some r → IsKeptWell head rows i r

-- the frames so far, and where in their areas the island began
pub record AreKeptTo (head : Option Head) (rows : List Row) (b : ReservoirState) : Type 0 where
  pub frames : AreKeptWell head rows
  pub base : ℕ
  pub place_is : place head rows (length rows) ≡ base + b.place
  pub ended_is : end_of_kept head rows (length rows) ≤ base + b.ended
  pub within : end_of_kept head rows (length rows) ≤ place head rows (length rows)
