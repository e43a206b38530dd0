-- What holds of every stream that is made from a seed and packed.
use Rattle.std.specs.Prelude.{map, Ok, ℕ, ◌<◌, ◌≡◌, ◌≤◌}
use Rattle.drill.specs.Drill.{drill_frames}
use Rattle.drill.specs.Drilled.{lead_ins_in, packed_file, packed_plan, packing_of}
use Rattle.laying.specs.LaidFiles.{stream_entry}
use Rattle.sync_survey.specs.Faults.{HoldsStream}

-- the packing isn't refused, and the packed file holds the frames that were drawn, and no others
pub record IsPacked (seed count : ℕ) : Type 0 where
  pub made : packing_of seed count ≡ Ok (packed_file seed count)
  pub holds : HoldsStream (packed_file seed count) (map stream_entry (drill_frames seed count))

-- this holds for every seed and every count that may be asked for
abbrev pub DrillsArePacked : Type 0
DrillsArePacked = (seed count : ℕ) → 0 < count → count ≤ 20000 → IsPacked seed count

-- the packed file has no lead-in
abbrev pub DrillsHaveNoLeadIn : Type 0
DrillsHaveNoLeadIn =
    (seed count : ℕ) → 0 < count → count ≤ 20000 → lead_ins_in (packed_plan seed count) ≡ 0
