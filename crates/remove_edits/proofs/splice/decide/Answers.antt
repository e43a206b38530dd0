-- The splice begins with the first part, and goes on with each of the others.
use Rattle.std.proofs.Common.{ap, arith, length, List, slice_index_or, subst, take, [], ◌<◌, ◌∙◌}
use Rattle.std.proofs.{Common.{◌∷◌, ◌≡◌, ◌≤◌}, lemmas.List.take_all}
use Rattle.joined_inputs.proofs.InputLemmas.{take-next}
use Rattle.remove_edits.proofs.{ItemLemmas.left-one, JoinLemmas.{part-here, part-order}}
use Rattle.remove_edits.proofs.{RemovalLemmas.part-needs-are, splice.decide.Goals.After-as_slice}
use Rattle.remove_edits.specs.{Ready.{CanBeSplice, IsSpliceOfParts}, Removed.part_needs_of}
use Rattle.seam_plan.proofs.PartJointLemmas.{needs-items}
use Rattle.seam_plan.specs.{PartSplices.{IsPartSplice, item_needs}, declared.stretches.Part.Part}
use Rattle.sync_survey.specs.Faults.{survey_view, SurveyFields}
use Rattle.remove_edits.proofs.splice.decide.Goals as goal

abbrev none : Part
none = record { from = 0; to = 0 }

abbrev first : List Part → Part
first parts = slice_index_or parts 0 none

-- the first part has a frame, and is within the file
module _ {s : SurveyFields} {parts : List Part} (can : CanBeSplice s parts) where
  some : (first parts).from < (first parts).to
  some = (part-order none can.are can.are.some).2

  within : (first parts).to ≤ length s.frames
  within = (part-order none can.are can.are.some).3

  one : take 1 parts ≡ first parts ∷ []
  one = take-next parts 0 (part-here none can.are can.are.some)

pub begin-requires-clause-part : goal.begin-requires-clause-part
begin-requires-clause-part c =
    let s = survey_view c.args.survey.now in
    record {
      ordered = omega (arith, some c.requires);
      within = within c.requires;
    }

pub begin-requires-clause-some : goal.begin-requires-clause-some
begin-requires-clause-some c = some c.requires

module _ (c : After-as_slice) where
  abbrev s : SurveyFields
  s = survey_view c.args.survey.now

  needs-are : c.as_slice.result.now ≡ part_needs_of s (first c.args.parts.now)
  needs-are =
      c.as_slice.ensures.value ∙ c.in_ok-decided.ensures.needs
      ∙ ap item_needs (left-one s (first c.args.parts.now))
      ∙ needs-items (part_needs_of s (first c.args.parts.now))

pub begin-splice-requires : goal.begin-splice-requires
begin-splice-requires c =
    rw (needs-are c)
    (rw c.class.ensures (part-needs-are (s c) c.requires.are.placed
    (some c.requires) (within c.requires)))

pub loop-number-init : goal.loop-number-init
loop-number-init c =
    rw (one c.requires) (record {
      of_parts = c.in_ok-decided.ensures;
      is_splice =
          subst (λ l. IsPartSplice (survey_view c.args.survey.now).class l c.begin-splice.result)
          (c.as_slice.ensures.value ∙ c.in_ok-decided.ensures.needs)
          (subst (λ k. IsPartSplice k c.as_slice.result.now c.begin-splice.result) c.class.ensures
          c.begin-splice.ensures.splice);
      sound = c.begin-splice.ensures.sound;
    })

pub add-requires-clause-before : goal.add-requires-clause-before
add-requires-clause-before c = c.loop-number.invariant

pub loop-number-preserved : goal.loop-number-preserved
loop-number-preserved c = c.in_ok-add.ensures

pub returns : goal.returns
returns c =
    subst (λ l. IsSpliceOfParts (survey_view c.args.survey.now) l c.loop-number.decided)
    (take_all c.loop-number.number c.args.parts.now (omega (arith, c.loop-number-test.false)))
    c.loop-number.invariant.of_parts
