-- What is prepared for a splice before the output is created.
use Rattle.std.specs.Prelude.{IfSome, length, List, map, slice_get, Some, ℕ, [], ◌-◌, ◌∷◌, ◌≡◌}
use Rattle.frame_writer.specs.Frames.{Frame}
use Rattle.info_header.specs.InfoFrame.{info_frame}
use Rattle.joined_inputs.specs.{Inputs.{class_of_first, InputFields}, Laying.{FitsWork, window_for}}
use Rattle.joined_inputs.specs.Planned.{info_kept, plan_of_splice_needs}
use Rattle.joined_inputs.specs.declared.work.JoinWork.{JoinWork}
use Rattle.laying.specs.Written.{slot_in}
use Rattle.seamless_edits.specs.Deciding.{from_places, left_out_of, splice_needs}
use Rattle.seamless_edits.specs.{Numbers.splice_kept, declared.beginnings.Beginning.Beginning}
use Rattle.seamless_edits.specs.declared.{decided.Decided.Decided, numbers.{Ends.Ends, Moved.Moved}}
use Rattle.slot_plan.specs.{Plans.entries, declared.needs.Placed.Placed}
use Rattle.sync_survey.specs.Row.{Row}

-- how many frames are left out at the front of the splice, and how many lead-ins it has
abbrev pub moved_of : Decided → List Placed → Moved
moved_of d placed =
    record { left_out = d.front; lead_ins = length placed - length (splice_needs d) }

-- how many frames the last input has
abbrev pub last_length : InputFields → List InputFields → ℕ
last_length i [] = length i.survey.frames
last_length i (j ∷ inputs) = last_length j inputs

-- the class of the inputs, and how many frames the first and the last have
abbrev pub AreEnds : List InputFields → Ends → Type 0
AreEnds [] ends = ⊥
AreEnds (i ∷ inputs) ends = ends ≡ record {
  class = i.survey.class;
  first = length i.survey.frames;
  last = last_length i inputs;
}

-- these are the bytes of the Info frame before the splice in the slots of this plan
abbrev pub IsSpliceInfo : List InputFields → List Beginning → Decided → List Placed → List ℕ
    → Type 0
IsSpliceInfo inputs bs d placed bytes =
    (frames : List Frame) → map slot_in frames ≡ map (λ (p : Placed). p.slot) placed
    → (i : InputFields) → slice_get inputs 0 ≡ Some i → (first : Row)
    → slice_get i.survey.frames d.front ≡ Some first
    → (ends : Ends) → AreEnds inputs ends → bytes ≡ info_frame first.header
    (info_kept (splice_kept bs ends (moved_of d placed)) first.header i.survey.class frames)

-- the plan of the splice, which can be written, the Info frame before it, and the buffers
pub record IsSpliceReady (inputs : List InputFields) (bs : List Beginning) (d : Decided)
    (work : JoinWork) : Type 0 where
  pub plan : entries work.plan
      ≡ plan_of_splice_needs (window_for (class_of_first inputs)) (splice_needs d)
  pub fits : IfSome (class_of_first inputs)
      (λ class. FitsWork class (from_places inputs (left_out_of d)) work)
  pub info : IsSpliceInfo inputs bs d (entries work.plan) work.info.items
