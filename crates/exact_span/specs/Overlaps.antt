-- The frames that two files of one stream share, where the samples of the second come right after
-- the samples of the first.
use Rattle.std.specs.Prelude.{if◌then◌else◌, min, nat_le, None, Option, Some, ℕ, ◌%◌, ◌&&◌, ◌+◌}
use Rattle.std.specs.Prelude.{◌-◌, ◌/◌, ◌<◌, ◌==◌, ◌≤◌}
use Rattle.exact_span.specs.{PlayedPositions.samples_in, declared.overlap.Overlap.Overlap}
use Rattle.frame_header.specs.{Fields.ClassFields, declared.version.Version.Version}
use Rattle.frame_header.specs.declared.version.Version.TheVariants.{One, Two, TwoFive}

-- Position `start` of the second file is where the played positions of the first end, `rest`
-- positions before the end of its last frame. So the frames in the first `start + rest` positions
-- of the second are shared, if these are whole frames that it has. The shared frames have to be
-- alike from the one on in which position `start` is, and the last one in any case.
unfoldable pub shared_overlap : ClassFields → ℕ → ℕ → ℕ → Option Overlap
shared_overlap class rest start frames =
    let samples = samples_in class in
    let shared = (start + rest) / samples in
    if (start + rest) % samples == 0 && nat_le shared frames
    then Some (record { frames = shared; first_alike = min (start / samples) (shared - 1) })
    else None

-- at least one frame is shared, and at least one of the shared frames has to be alike
abbrev pub IsOverlap : Overlap → Type 0
IsOverlap overlap = overlap.first_alike < overlap.frames

-- the most frames that two files of a version share if both heads count
abbrev pub most_shared : Version → ℕ
most_shared One = 7
most_shared Two = 14
most_shared TwoFive = 14

-- the most shared frames that have to be alike
abbrev pub most_alike : Version → ℕ
most_alike One = 4
most_alike Two = 7
most_alike TwoFive = 7

-- no more frames are shared, and no more have to be alike, than these numbers
pub record IsOverlapShort (class : ClassFields) (overlap : Overlap) : Type 0 where
  pub frames : overlap.frames ≤ most_shared class.version
  pub alike : overlap.frames ≤ overlap.first_alike + most_alike class.version
