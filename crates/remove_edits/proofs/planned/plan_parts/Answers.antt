-- The plan of the splice, with the lead-ins among its places.
use Rattle.std.proofs.Common.{ap, ap₂, arith, drop, length, List, subst, sym, take, ◌++◌, ◌+◌, ◌-◌}
use Rattle.std.proofs.Common.{◌∙◌, ◌≡◌, ◌≤◌}
use Rattle.frame_header.specs.Tables.{window_of}
use Rattle.joined_inputs.specs.Planned.{plan_of_splice_needs}
use Rattle.remove_edits.proofs.PlannedLemmas.{marked-few, needs-few, needs-many, needs-splice}
use Rattle.remove_edits.proofs.PlannedLemmas.{places-fit, plan-long, plan-marked, written-are}
use Rattle.remove_edits.proofs.{PlannedLemmas.written-fits, planned.plan_parts.Goals.After-len}
use Rattle.remove_edits.specs.Ready.{IsSpliceOfParts, put_off_by, with_lead_ins}
use Rattle.remove_edits.specs.Removed.{items_left, plan_of_items, removal_plan}
use Rattle.remove_edits.specs.declared.splice.DecidedSplice.{DecidedSplice}
use Rattle.seam_plan.specs.declared.stretches.Part.{Part}
use Rattle.slot_plan.specs.{Parts.AreNeedsOfClass, Plans.entries, declared.needs.Placed.Placed}
use Rattle.sync_survey.specs.Faults.{survey_view, SurveyFields}
use Rattle.remove_edits.proofs.planned.plan_parts.Goals as goal

pub plan_splice-requires-clause-some : goal.plan_splice-requires-clause-some
plan_splice-requires-clause-some c =
    rw c.as_slice.ensures.value
    (needs-splice c.requires c.in_ok-needs.ensures).some

pub plan_splice-requires-clause-few : goal.plan_splice-requires-clause-few
plan_splice-requires-clause-few c =
    rw c.as_slice.ensures.value
    (needs-few c.requires c.in_ok-needs.ensures)

pub plan_splice-requires-clause-fits : goal.plan_splice-requires-clause-fits
plan_splice-requires-clause-fits c =
    let splice = needs-splice c.requires c.in_ok-needs.ensures in
    rw c.as_slice.ensures.value (record {
      class = (survey_view c.args.survey.now).class;
      same = splice.same;
      fits = splice.fits;
    })

-- what the plan is
module _ (c : After-len) where
  abbrev s : SurveyFields
  s = survey_view c.args.survey.now

  abbrev parts : List Part
  parts = c.args.parts.now

  abbrev d : DecidedSplice
  d = c.in_ok-needs.field-0

  splice : IsSpliceOfParts s parts d
  splice = c.in_ok-needs.ensures

  abbrev plan : List Placed
  plan = plan_of_items s (items_left s parts)

  plan-is : entries c.in_ok-plan.plan ≡ plan
  plan-is =
      c.in_ok-plan.ensures.plan s.class
      (subst (AreNeedsOfClass s.class) (sym c.as_slice.ensures.value)
      (needs-splice c.requires splice).same)
      ∙ ap (plan_of_splice_needs (window_of s.class.version))
      (c.as_slice.ensures.value ∙ splice.needs)

  placed-is : c.placed.result.now ≡ plan
  placed-is = c.placed.ensures ∙ plan-is

  len-is : c.len.result ≡ length (items_left s parts)
  len-is = c.len.ensures ∙ c.in_ok-needs.field-0.needs.ok.0 ∙ needs-many c.requires splice

  long : (length (items_left s parts) ≤ length plan)
      × (length plan ≤ length (items_left s parts) + 1)
  long = plan-long c.requires splice

pub overflow_sub-before : goal.overflow_sub-before
overflow_sub-before c =
    let here = (goal.at.overflow_sub-before c).After-len in
    rw (placed-is here, len-is here) (long here).0

pub overflow_cast-before : goal.overflow_cast-before
overflow_cast-before c =
    let here = (goal.at.overflow_cast-before c).After-len in
    omega (
      arith,
      ap (λ (l : List Placed). length l) (placed-is here),
      len-is here,
      (long here).1,
    )

pub put_off-written-requires-clause-fits : goal.put_off-written-requires-clause-fits
put_off-written-requires-clause-fits c =
    let here = (goal.at.put_off-written-requires-clause-fits c).After-len in
    rw (c.as_slice-2.ensures.value, placed-is here, len-is here)
    (written-fits c.requires (splice here))

pub marked-requires-clause-within : goal.marked-requires-clause-within
marked-requires-clause-within c =
    let here = (goal.at.marked-requires-clause-within c).After-len in
    rw (c.as_slice-3.ensures.value, placed-is here, len-is here, plan-is here)
    (places-fit c.requires (splice here))

pub returns : goal.returns
returns c =
    let here = (goal.at.returns c).After-len in
    let before = c.before in
    let is : length c.placed.result.now - c.len.result
    ≡ length (plan here) - length (items_left (s here) (parts here)) =
    ap₂ (λ (l : List Placed) n. length l - n) (placed-is here) (len-is here) in
    let marked : entries c.in_ok-plan-2.plan ≡ removal_plan (s here) (parts here) =
    c.in_ok-plan-2.ensures
    ∙ ap₂ (λ (l : List Placed) n. take n l ++ with_lead_ins c.as_slice-3.result.now (drop n l))
    (plan-is here) is
    ∙ ap (λ l. take (length (plan here) - length (items_left (s here) (parts here))) (plan here)
    ++ with_lead_ins l
    (drop (length (plan here) - length (items_left (s here) (parts here))) (plan here)))
    c.as_slice-3.ensures.value
    ∙ plan-marked c.requires (splice here) in
    record {
      plan = marked;
      few = rw marked (marked-few c.requires (splice here));
      written =
          c.put_off-written.ensures
          ∙ ap₂ put_off_by is c.as_slice-2.ensures.value
          ∙ written-are c.requires (splice here);
    }
