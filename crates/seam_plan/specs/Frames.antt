-- What inputs bring to a join without seams: their frames, and what their heads say of them.
use Rattle.std.specs.Prelude.{Bool, List, map, Option, ℕ}
use Rattle.exact_span.specs.declared.played.Played.{Played}
use Rattle.slot_plan.specs.declared.needs.Need.{Need}

-- A frame: what it needs, and its sound, the numbers by which it is compared
-- with others. These determine its entry in the stream, except for the gains.
pub record SpliceFrame : Type 0 where
  pub need : Need
  pub sound : List ℕ

-- what these frames need
abbrev pub needs_of : List SpliceFrame → List Need
needs_of frames = map (λ f. f.need) frames

-- what an input brings: its frames, and its played positions
pub record Brought : Type 0 where
  -- all its frames, at least one
  pub frames : List SpliceFrame
  -- whether all bytes of the side information of the first frame are 0
  pub blank : Bool
  -- its played positions, if its head has counts
  pub played : Option Played
