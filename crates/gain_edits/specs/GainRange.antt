-- The first gain of a file that would leave the range.
use Rattle.std.specs.Prelude.{List, None, Option, Some, ℕ}
use Rattle.commands.specs.{Refusing.first_refusal, declared.fault.Refusal.Refusal}
use Rattle.commands.specs.declared.fault.Refusal.TheVariants.{GainRange}
use Rattle.moved_gains.specs.{Edited.row_out_of_range, declared.gains.OutOfRange.OutOfRange}
use Rattle.requests.specs.declared.shift.Steps.{Steps}
use Rattle.sync_survey.specs.Row.{Row}

-- the gain that would leave the range, in the frame at this offset
abbrev pub out_of_range_refusal : ℕ → Option OutOfRange → Option Refusal
out_of_range_refusal offset (Some stuck) =
    Some (GainRange offset stuck.granule stuck.channel stuck.gain)
out_of_range_refusal offset None = None

-- the refusal for a gain of a frame that is moved by the steps at its offset
abbrev pub row_range_fault : (ℕ → Steps) → Row → Option Refusal
row_range_fault steps row =
    out_of_range_refusal row.offset (row_out_of_range (steps row.offset) row)

-- the first gain of these frames, each moved by the steps at its offset, that would leave the range
abbrev pub range_fault : (ℕ → Steps) → List Row → Option Refusal
range_fault steps rows = first_refusal (row_range_fault steps) rows
