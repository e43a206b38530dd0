-- What frames sound like, whether or not they join a splice, and what inputs add to it.
use Rattle.std.proofs.Common.{arith, flat_map, List, map, Some, ℕ, ◌≡◌}
use Rattle.seam_plan.specs.{Frames.SpliceFrame, Joins.joining_frames, Seams.JointFrames}

-- what the frames sound like, in order
abbrev pub sounds : List SpliceFrame → List (List ℕ)
sounds frames = map (λ (f : SpliceFrame). f.sound) frames

-- joining changes no sound
pub joining_frames-sounds : (window : ℕ) (splice rest : List SpliceFrame)
    {frames : List SpliceFrame} → joining_frames window splice rest ≡ Some frames
    → sounds frames ≡ sounds rest
unfolding joining_frames
joining_frames-sounds window splice rest is = grind arith

-- the frames that these inputs add to the splice, in order
abbrev pub added : List JointFrames → List SpliceFrame
added joints = flat_map (λ (j : JointFrames). j.frames) joints
