-- Moved gains (global_gain of ISO/IEC 11172-3, 2.4.2.7, in steps of 1.5 dB). The rules for
-- moving them are this project's: a lost frame and a silent granule stay as they are, and
-- without wrap a whole file is refused if one gain would leave the range from 0 to 255.
use Rattle.std.specs.{Int.int_rem_euclid, Option.option_or}
use Rattle.std.specs.Prelude.{Bool, if◌then◌else◌, List, nat_lt, negsuc, None, not, Option, pos}
use Rattle.std.specs.Prelude.{Some, true, unsigned_abs, ℕ, ℤ, ◌+ℤ◌, [], ◌&&◌, ◌==◌, ◌∷◌}
use Rattle.moved_gains.specs.declared.gains.OutOfRange.{OutOfRange}
use Rattle.requests.specs.declared.shift.Steps.{Steps}
use Rattle.side_info.specs.{Side.granule_in, declared.{granule.Granule.Granule, side.Side.Side}}

-- silent: no main data, so that the gain doesn't matter
abbrev pub is_silent_granule : Granule → Bool
is_silent_granule g = g.part2_3_length == 0

-- a gain moved by `steps` steps, modulo 256; without wrap no sum outside 0 to 255 gets here
abbrev pub moved_gain : ℤ → ℕ → ℕ
moved_gain steps gain = unsigned_abs (int_rem_euclid (pos gain +ℤ steps) (pos 256))

-- a granule with its gain moved; a silent one stays
abbrev pub moved_granule : ℤ → Granule → Granule
moved_granule steps g =
    if is_silent_granule g then g else record g { global_gain = moved_gain steps g.global_gain }

-- a granule with channel 0 moved by the left steps and channel 1 by the right steps
abbrev pub moved_channels : Steps → Side → ℕ → List Granule
moved_channels steps s granule =
    moved_granule steps.left (granule_in s granule 0)
    ∷ moved_granule steps.right (granule_in s granule 1) ∷ []

-- side information with its gains moved; all other side fields stay
unfoldable pub moved_side : Steps → Side → Side
moved_side steps s =
    record s { granules = moved_channels steps s 0 ∷ moved_channels steps s 1 ∷ [] }

-- side information with its gains moved; a lost frame stays whole
abbrev pub moved_side_unless_lost : Bool → Steps → Side → Side
moved_side_unless_lost lost steps s = if lost then s else moved_side steps s

-- ---- the range

-- the number is outside the range from 0 to 255
abbrev pub is_out_of_range : ℤ → Bool
is_out_of_range (pos n) = nat_lt 255 n
is_out_of_range (negsuc n) = true

-- the gain of this granule and channel, if it would leave the range
abbrev pub gain_out_of_range : ℤ → Side → ℕ → ℕ → Option OutOfRange
gain_out_of_range steps s granule channel = let g = granule_in s granule channel in
    if not (is_silent_granule g) && is_out_of_range (pos g.global_gain +ℤ steps)
    then Some (record { granule = granule; channel = channel; gain = g.global_gain }) else None

-- the first gain of a frame that would leave the range,
-- in order of granules and channels; none with wrap
unfoldable pub side_out_of_range : Steps → Side → Option OutOfRange
side_out_of_range steps s =
    if steps.wrap then None
    else option_or (gain_out_of_range steps.left s 0 0)
    (option_or (gain_out_of_range steps.right s 0 1)
    (option_or (gain_out_of_range steps.left s 1 0) (gain_out_of_range steps.right s 1 1)))
