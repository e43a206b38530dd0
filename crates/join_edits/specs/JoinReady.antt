-- What is prepared for a join of all frames before its output is created.
use Rattle.std.specs.Prelude.{IfSome, List, map, slice_get, Some, ℕ, ◌≡◌}
use Rattle.frame_writer.specs.Frames.{Frame}
use Rattle.info_header.specs.InfoFrame.{info_frame}
use Rattle.joined_inputs.specs.Inputs.{CanInputsBeJoined, class_of_first, InputFields, survey_rows}
use Rattle.joined_inputs.specs.{Laying.window_for, declared.work.JoinWork.JoinWork}
use Rattle.laying.specs.{Fits.FitsFromReach, Needs.{need_of, needs_of_parts}, NeedsFit.own_choice}
use Rattle.laying.specs.{Passing.IsRelayFresh, Written.{plain_info, slot_in}}
use Rattle.slot_plan.specs.{LeastPlan.least_plan, Plans.entries, declared.needs.Placed.Placed}
use Rattle.sync_survey.specs.Row.{Row}

-- the slots of the plan of all frames of these inputs
unfoldable pub least_plan_of : List InputFields → List Placed
least_plan_of inputs =
    least_plan (window_for (class_of_first inputs)) own_choice
    (map (map need_of) (survey_rows inputs))

-- the plan can be written frame by frame
abbrev pub FitsAll : List InputFields → List Placed → Type 0
FitsAll inputs placed =
    FitsFromReach (window_for (class_of_first inputs)) 0
    (needs_of_parts (survey_rows inputs)) placed

-- these are the bytes of the Info frame before frames in the slots of this plan
abbrev pub IsJoinedInfo : List InputFields → List Placed → List ℕ → Type 0
IsJoinedInfo inputs placed bytes =
    (frames : List Frame) → map slot_in frames ≡ map (λ (p : Placed). p.slot) placed →
    (i : InputFields) → slice_get inputs 0 ≡ Some i
    → (first : Row) → slice_get i.survey.frames 0 ≡ Some first
    → bytes ≡ info_frame first.header (plain_info i.survey.class frames)

-- this is the plan, and it can be written
pub record IsPlanOf (inputs : List InputFields) (placed : List Placed) : Type 0 where
  pub plan : placed ≡ least_plan_of inputs
  pub fits : FitsAll inputs placed

-- the inputs can be joined, this is their plan, with the Info
-- frame before it, and the buffers are for frames of their class
pub record IsJoinReady (inputs : List InputFields) (work : JoinWork) : Type 0 where
  pub joined : CanInputsBeJoined inputs
  pub plan : IsPlanOf inputs (entries work.plan)
  pub info : IsJoinedInfo inputs (entries work.plan) work.info.items
  pub fresh : IfSome (class_of_first inputs) (λ class. IsRelayFresh class work.buffers)
