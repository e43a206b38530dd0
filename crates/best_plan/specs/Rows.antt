-- How `best` works: for each frame and each number of free bytes before it,
-- the least sum of the areas from it on, and the first area that has it.
use Rattle.std.specs.Prelude.{All, AllPairs, IfSome, IsTrue, length, List, slice_index, ℕ, ◌++◌}
use Rattle.std.specs.Prelude.{◌+◌, ◌-◌, ◌<◌, ◌≡◌, ◌≤◌}
use Rattle.best_plan.specs.declared.choice.{ChoiceRow.ChoiceRow, SumBounds.SumBounds}
use Rattle.best_plan.specs.declared.rows.Sums.{Sums}
use Rattle.frame_header.specs.Limits.{most_frame_length}
use Rattle.slot_plan.specs.Reserve.{free_bytes_behind}

-- the sum if nothing fits, greater than all others
abbrev pub nothing : ℕ
nothing = 4294967295

-- the sum of this area and of the least sum after it
abbrev pub area_sum : ℕ → ℕ → ℕ → List ℕ → ℕ → ℕ
area_sum window free bytes later area =
    area + slice_index later (free_bytes_behind window free bytes area)

-- that sum, or `nothing` if the main data don't fit
pub record IsSum (window free bytes area : ℕ) (later : List ℕ) (cost : ℕ) : Type 0 where
  pub least : bytes ≤ free + area → cost ≤ area_sum window free bytes later area
  pub fits : cost < nothing → bytes ≤ free + area
  pub found : cost < nothing → cost ≡ area_sum window free bytes later area

-- the least sum over some areas, where `later` has the least
-- sums from the next frame on, and the first place that has it
pub record IsAreaChoice (window free bytes : ℕ) (areas later : List ℕ)
    (cost place : ℕ) : Type 0 where
  pub least : (k : ℕ) → k < length areas → bytes ≤ free + slice_index areas k
      → cost ≤ area_sum window free bytes later (slice_index areas k)
  pub within : cost < nothing → place < length areas
  pub fits : cost < nothing → bytes ≤ free + slice_index areas place
  pub found : cost < nothing → cost ≡ area_sum window free bytes later (slice_index areas place)
  pub first : (k : ℕ) → k < place → cost < nothing → bytes ≤ free + slice_index areas k
      → cost < area_sum window free bytes later (slice_index areas k)

-- the areas of a frame, with a window of this length
pub record AreFrameAreas (window : ℕ) (areas : List ℕ) : Type 0 where
  pub narrow : window ≤ 511
  pub most : All (λ n. n ≤ most_frame_length) areas
  pub few : length areas ≤ 28
  pub ascending : AllPairs (λ m n. m < n) areas

-- the areas of a frame, and the least sums of the frames after it
pub record AreAreasAndSums (window : ℕ) (areas later : List ℕ) : Type 0 where
  pub choices : AreFrameAreas window areas
  -- one for each number of free bytes up to the window
  pub width : length later ≡ window + 1

-- a row for each number of free bytes up to the window: sums and places
pub record IsRow (window bytes : ℕ) (areas later row cells : List ℕ) : Type 0 where
  pub width : length row ≡ window + 1
  pub many : length cells ≡ window + 1
  pub each : (free : ℕ) → free ≤ window
      → IsAreaChoice window free bytes areas later (slice_index row free) (slice_index cells free)

-- a row of places was appended
pub record AppendsRow (window bytes : ℕ) (areas later row old new : List ℕ) : Type 0 where
  pub cells : List ℕ
  pub appended : new ≡ old ++ cells
  pub is : IsRow window bytes areas later row cells

-- the row of a frame with these choices was appended
abbrev pub AddsRow : ChoiceRow → List ℕ → List ℕ → List ℕ → Type 0
AddsRow row sums old new = AppendsRow row.window row.bytes row.areas.now row.later.now sums old new

-- numbers that no sum of a row is less than: the sum
-- by itself, and together with the bytes that are free
pub record AreBounds (later : List ℕ) (least whole : ℕ) : Type 0 where
  pub alone : (free : ℕ) → free < length later → least ≤ slice_index later free
  pub together : (free : ℕ) → free < length later → whole ≤ slice_index later free + free

-- what is known if `free` bytes are free before a frame with these areas
pub record AreKnownBounds (free bytes : ℕ) (areas later : List ℕ) (known : SumBounds) : Type 0 where
  -- no later sum is less than the bounds
  pub bounds : AreBounds later known.alone known.together
  -- the first areas are too small
  pub from_within : known.from ≤ length areas
  pub small : (k : ℕ) → k < known.from → free + slice_index areas k < bytes

-- the areas before this place, which isn't after `from`, are too small; the area at it isn't
pub record AreAreasTooSmall (free bytes : ℕ) (areas : List ℕ) (from place : ℕ) : Type 0 where
  pub within : place ≤ from
  pub small : (k : ℕ) → k < place → free + slice_index areas k < bytes
  pub large : place < from → bytes ≤ free + slice_index areas place

-- each free byte saves one byte of areas: the sum together
-- with the bytes that are free is always the same
abbrev pub HasUnitSlope : List ℕ → Type 0
HasUnitSlope sums =
    (free : ℕ) → free < length sums → slice_index sums free + free ≡ slice_index sums 0

-- from `least` free bytes on each saves at most one
-- byte of areas, and fewer are too few for any list
pub record HasSlopeAtMostOne (sums : List ℕ) (least : ℕ) : Type 0 where
  pub none : (free : ℕ) → free < least → free < length sums → nothing ≤ slice_index sums free
  pub near : (free : ℕ) → least ≤ free → free + 1 < length sums
      → slice_index sums free ≤ slice_index sums (free + 1) + 1

-- what is recorded about the sums of a row is true
pub record AreKnownSlopes (sums : Sums) : Type 0 where
  -- whether each free byte saves one
  pub even : IsTrue sums.even → HasUnitSlope sums.by_free.items
  -- from how many on each saves at most one
  pub near : IfSome sums.near (λ least. HasSlopeAtMostOne sums.by_free.items least)

-- two rows of sums
pub record AreRows (window : ℕ) (later sums : List ℕ) : Type 0 where
  pub narrow : window ≤ 511
  pub later_width : length later ≡ window + 1
  pub width : length sums ≡ window + 1

-- the sums of an area from one number of free bytes on and
-- before another; the sums for fewer free bytes are unchanged
pub record AreSums (window bytes area : ℕ) (later : List ℕ) (start end : ℕ)
    (old new : List ℕ) : Type 0 where
  pub width : length new ≡ length old
  pub before : (free : ℕ) → free < start → slice_index new free ≡ slice_index old free
  pub most : (free : ℕ) → start ≤ free → free < end → slice_index new free ≤ nothing
  pub each : (free : ℕ) → start ≤ free → free < end
      → IsSum window free bytes area later (slice_index new free)

-- whatever is free, the first area with which the main data fit leaves at most the window
pub record HasWindowRoom (window bytes : ℕ) (areas : List ℕ) : Type 0 where
  pub some : 0 < length areas
  pub most : bytes ≤ slice_index areas (length areas - 1)
  pub least : slice_index areas 0 ≤ bytes
  pub near : (k : ℕ) → 0 < k → k < length areas
      → slice_index areas k ≤ slice_index areas (k - 1) + window

-- the first area with which the main data fit
pub record IsFirstArea (bytes : ℕ) (areas : List ℕ) (free place : ℕ) : Type 0 where
  pub within : place < length areas
  pub fits : bytes ≤ free + slice_index areas place
  pub small : (k : ℕ) → k < place → free + slice_index areas k < bytes

-- up to this number of free bytes, not included, the areas before
-- this place are too small; from it on the last of them isn't
pub record IsEndAt (window bytes : ℕ) (areas : List ℕ) (place end : ℕ) : Type 0 where
  pub within : end ≤ window + 1
  pub small : (free k : ℕ) → free < end → k < place → free + slice_index areas k < bytes
  pub some : (free : ℕ) → end ≤ free → free ≤ window → 0 < place
  pub large : (free : ℕ) → end ≤ free → free ≤ window → bytes ≤ free + slice_index areas (place - 1)

-- a row of the first areas with which the main data fit was appended
pub record AppendsFirstAreas (window bytes : ℕ) (areas old new : List ℕ) : Type 0 where
  pub cells : List ℕ
  pub appended : new ≡ old ++ cells
  pub many : length cells ≡ window + 1
  pub each : (free : ℕ) → free ≤ window → IsFirstArea bytes areas free (slice_index cells free)
