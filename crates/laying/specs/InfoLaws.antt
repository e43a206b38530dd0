-- Laws of the Info frame before chosen frames.
use Rattle.std.specs.Prelude.{flat_map, List, map, ◌≡◌}
use Rattle.frame_header.specs.{Fields.{ClassFields, HeaderFields, SlotFields}, Tables.window_of}
use Rattle.laying.specs.Relaid.{AreParts, AreSlots, FilePart, part_frames, part_needs}
use Rattle.laying.specs.{Relaid.relaid_frames, Written.slot_in}
use Rattle.slot_plan.specs.{Plans.IsPlan, declared.needs.Placed.Placed}

-- the frames of parts, placed as planned, are in the slots of the plan, one for each place
abbrev pub SlotsArePlanned : Type 0
SlotsArePlanned =
    (c : ClassFields) (choices : HeaderFields → List SlotFields) (parts : List FilePart)
    (placed : List Placed) → AreParts c parts → AreSlots choices
    → IsPlan (window_of c.version) choices (map part_needs parts) placed
    → map slot_in (relaid_frames (flat_map part_frames parts) placed)
    ≡ map (λ (p : Placed). p.slot) placed
