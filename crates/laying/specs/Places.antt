-- The first places of a plan, which the frames of one input take before those of other inputs.
use Rattle.std.specs.Prelude.{Bool, false, List, suc, take, true, zero, ℕ, [], ◌∷◌}
use Rattle.slot_plan.specs.declared.needs.Placed.{Placed}

-- how many frames are left after a lead-in, or after a frame
abbrev pub frame_count_behind : Bool → ℕ → ℕ
frame_count_behind true frames = suc frames
frame_count_behind false frames = frames

-- how many places of a plan `frames` frames take, with their lead-ins
unfoldable pub places_for : ℕ → List Placed → ℕ
places_for frames [] = 0
places_for zero (p ∷ placed) = 0
places_for (suc frames) (p ∷ placed) = suc (places_for (frame_count_behind p.lead_in frames) placed)

-- the places that `frames` frames take
abbrev pub own_places : ℕ → List Placed → List Placed
own_places frames placed = take (places_for frames placed) placed
