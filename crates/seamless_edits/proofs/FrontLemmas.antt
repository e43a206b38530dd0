-- How many frames are left out at the front of the splice.
use Rattle.std.proofs.{Common.{arith, length, List, true, ℕ, ◌<◌, ◌≡◌, ◌≤◌}, lemmas.List.length-map}
use Rattle.frame_header.specs.Fields.{ClassFields}
use Rattle.seam_plan.specs.Frames.{Brought, SpliceFrame}
use Rattle.seam_plan.specs.Joins.{has_lead_in, lead_in_header, leads_others}
use Rattle.seam_plan.specs.Seams.{front_left_out_count}
use Rattle.seamless_edits.specs.Deciding.{CanBeginSplice, input_needs}
use Rattle.slot_plan.{proofs.FreeByteLemmas.more-behind, specs.FreeBytes.FitBehindWindow}
use Rattle.slot_plan.specs.declared.needs.Need.{Need}
use Rattle.sync_survey.specs.Faults.{SurveyFields}

-- no more than one frame is left out at the front
pub front-most : (class : ClassFields) (first : Brought) (splice : List SpliceFrame)
    → front_left_out_count class first splice ≤ 1
unfolding front_left_out_count
front-most class first splice = grind arith

-- a lead-in has at least one frame after it
leads-some : (window : ℕ) (needs : List Need) → leads_others window needs ≡ true → 2 ≤ length needs
unfolding lead_in_header
leads-some window needs is = grind arith

-- fewer frames are left out at the front than the first input has
pub front-behind : (class : ClassFields) (first : Brought) (splice : List SpliceFrame)
    → 0 < length first.frames → front_left_out_count class first splice < length first.frames
unfolding front_left_out_count has_lead_in
front-behind class first splice some = grind (arith, leads-some, length-map)

-- the frames of an input fit after a whole window
pub begin-window : {s : SurveyFields} → CanBeginSplice s → FitBehindWindow (input_needs s)
begin-window can = grind (arith, more-behind)
