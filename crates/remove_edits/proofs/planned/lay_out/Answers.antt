-- The plan, the Info frame before it, and the buffers.
use Rattle.std.proofs.Common.{ap, ap₂, arith, length, List, map, Option, option_copied}
use Rattle.std.{proofs.Common.{slice_index_or, subst, sym, ◌∙◌, ◌≡◌, ◌≤◌}, specs.Prelude.slice_get}
use Rattle.exact_span.specs.declared.written.WrittenFrames.{WrittenFrames}
use Rattle.info_header.specs.InfoFrame.{info_frame}
use Rattle.joined_inputs.specs.Planned.{info_kept}
use Rattle.laying.specs.{Passing.IsRelayFresh, declared.info.Kept.Kept}
use Rattle.remove_edits.proofs.PlannedLemmas.{first-is}
use Rattle.remove_edits.proofs.RemovalLemmas.{first-there-is, removal-slots}
use Rattle.remove_edits.proofs.planned.lay_out.Goals.{After-placed-placed}
use Rattle.remove_edits.specs.Ready.{IsSplicePlanned}
use Rattle.remove_edits.specs.Removed.{all_parts_written, first_left, kept_of_written}
use Rattle.remove_edits.specs.Removed.{removal_frames, removal_kept, removal_plan}
use Rattle.seam_plan.specs.declared.stretches.Part.{Part}
use Rattle.slot_plan.specs.declared.needs.Placed.{Placed}
use Rattle.sync_survey.specs.{Faults.survey_view, Row.Row}
use Rattle.remove_edits.proofs.planned.lay_out.Goals as goal

abbrev none : Part
none = record { from = 0; to = 0 }

module _ (c : After-placed-placed) where
  planned : IsSplicePlanned (survey_view c.args.survey.now) c.args.parts.now c.in_ok-plan.field-0
  planned = c.in_ok-plan.ensures

  placed-is : c.placed-placed.result.now
      ≡ removal_plan (survey_view c.args.survey.now) c.args.parts.now
  placed-is = c.placed-placed.ensures ∙ planned.plan

  few : length c.placed-placed.result.now ≤ 2900064
  few = omega (arith, ap (λ (l : List Placed). length l) c.placed-placed.ensures, planned.few)

  from-is : (slice_index_or c.args.parts.now 0 none).from ≡ first_left c.args.parts.now
  from-is = first-is c.args.parts.now none c.requires.splice.are.some

pub overflow_cast-placed : goal.overflow_cast-placed
overflow_cast-placed c =
    let here = (goal.at.overflow_cast-placed c).After-placed-placed in
    omega (arith, few here)

pub splice_info_bytes-info-requires-clause-within :
    goal.splice_info_bytes-info-requires-clause-within
splice_info_bytes-info-requires-clause-within c =
    let here = (goal.at.splice_info_bytes-info-requires-clause-within c).After-placed-placed in
    rw (from-is here) (first-there-is
    c.requires.splice.are)

pub splice_info_bytes-info-requires-clause-few : goal.splice_info_bytes-info-requires-clause-few
splice_info_bytes-info-requires-clause-few c =
    few (goal.at.splice_info_bytes-info-requires-clause-few c).After-placed-placed

pub returns : goal.returns
returns c =
    let here = (goal.at.returns c).After-placed-placed in
    let s = survey_view c.args.survey.now in
    let parts = c.args.parts.now in
    let head = option_copied c.args.head in
    let is = planned here in
    let kept : c.kept_of-kept.result ≡ removal_kept head s parts =
    c.kept_of-kept.ensures
    ∙ ap (λ k. kept_of_written head k (length c.frames.result.now) c.as_slice.result.now
    (length c.placed-placed.result.now)) c.class-class.ensures
    ∙ ap₂ (λ n (w : List WrittenFrames). kept_of_written head s.class n w
    (length c.placed-placed.result.now))
    (ap (λ (l : List Row). length l) c.frames.ensures) (c.as_slice.ensures.value ∙ is.written)
    ∙ ap (λ (l : List Placed). kept_of_written head s.class (length s.frames)
    (all_parts_written s parts) (length l)) (placed-is here) in
    record {
      plan = is.plan;
      info = λ file can first there.
          c.splice_info_bytes-info.ensures first (removal_frames parts file s)
          (ap (λ n. slice_get s.frames n) (from-is here) ∙ there)
          (removal-slots c.requires.splice.are can
          ∙ sym (ap (map (λ (p : Placed). p.slot)) (placed-is here)))
          ∙ ap (λ (k : Option Kept). info_frame first.header
          (info_kept k first.header s.class (removal_frames parts file s))) kept;
      fresh =
          subst (λ k. IsRelayFresh k c.in_ok-buffers.buffers) c.class-class.ensures
          c.in_ok-buffers.ensures;
    }
