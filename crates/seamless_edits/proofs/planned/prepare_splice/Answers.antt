-- All that is prepared for a splice.
use Rattle.std.proofs.Common.{ap, append-nil, ap₂, arith, drop, length, List, map, Option, Some}
use Rattle.std.proofs.{Common.{subst, sym, ℕ, [], ◌+◌, ◌∙◌, ◌∷◌, ◌≡◌, ◌≤◌}, lemmas.List.length-drop}
use Rattle.std.specs.Prelude.{slice_get}
use Rattle.frame_header.specs.{Limits.most_output_frames, Tables.window_of}
use Rattle.info_header.specs.InfoFrame.{info_frame}
use Rattle.joined_inputs.specs.Inputs.{class_of_first, input_view, InputFields}
use Rattle.joined_inputs.specs.Planned.{info_kept, plan_of_splice_needs}
use Rattle.joined_inputs.specs.declared.work.JoinWork.{JoinWork}
use Rattle.laying.{proofs.PlacesLemmas.plan-length, specs.declared.info.Kept.Kept}
use Rattle.seamless_edits.proofs.{KnownLemmas.get-at, MovedLemmas.fits-moved}
use Rattle.seamless_edits.proofs.planned.prepare_splice.Goals.{After-placed-placed}
use Rattle.seamless_edits.specs.{Numbers.splice_kept, SpliceReady.{AreEnds, moved_of}}
use Rattle.seamless_edits.specs.declared.numbers.Ends.{Ends}
use Rattle.slot_plan.specs.{Parts.AreNeedsOfClass, Plans.entries, declared.needs.Need.Need}
use Rattle.slot_plan.specs.declared.needs.Placed.{Placed}
use Rattle.seamless_edits.proofs.planned.prepare_splice.Goals as goal

splice-length : (window : ℕ) (needs : List Need)
    → length (plan_of_splice_needs window needs) ≤ length needs + 1
splice-length window needs = grind (arith, plan-length, append-nil)

ends-same : (inputs : List InputFields) (a b : Ends) → AreEnds inputs a → AreEnds inputs b → a ≡ b
ends-same inputs a b x y = grind arith

first-class : (inputs : List InputFields) {i : InputFields} {rest : List InputFields}
    → drop 0 inputs ≡ i ∷ rest → class_of_first inputs ≡ Some i.survey.class
first-class [] e = absurd cc
first-class (j ∷ inputs) {i} {rest} e = grind arith

-- the plan has at most one frame more than the splice, which is few
few : (c : After-placed-placed) → length c.placed-placed.result.now ≤ most_output_frames
few c = grind (arith, splice-length, length-drop)

pub overflow_cast-moved : goal.overflow_cast-moved
overflow_cast-moved c = grind (arith, few)

pub splice_info_bytes-info-requires-clause-within :
    goal.splice_info_bytes-info-requires-clause-within
splice_info_bytes-info-requires-clause-within c =
    c.requires.splice.behind _ (get-at (map input_view c.args.inputs.now) 0 c.input_at.ensures)

pub splice_info_bytes-info-requires-clause-few : goal.splice_info_bytes-info-requires-clause-few
splice_info_bytes-info-requires-clause-few c = grind (arith, few)

pub returns : goal.returns
returns c =
    let splice = c.requires.splice in
    let inputs = map input_view c.args.inputs.now in
    let d = c.args.decided.now in
    let i = input_view c.input_at.result.now in
    let plan = c.in_ok-plan.plan in
    let work : JoinWork = grind arith in
    let needs = c.splice-needs.ensures in
    let same = subst (AreNeedsOfClass splice.class) (sym needs) splice.same in
    let window = window_of splice.class.version in
    let one : Some splice.class ≡ Some i.survey.class = grind (arith, first-class) in
    let class : splice.class ≡ i.survey.class = cc in
    record {
      plan = grind arith;
      fits = grind (arith, fits-moved);
      info = λ frames slots t is first found ends are.
          let here = get-at inputs 0 c.input_at.ensures in
          let again : Some t ≡ Some i = sym is ∙ here in
          let tells-same : t ≡ i = cc in
          let moved : record { left_out = d.front; lead_ins = c.saturating_sub.result }
          ≡ moved_of d (entries plan) = grind arith in
          let kept : c.kept_of-kept.result
          ≡ splice_kept c.args.beginnings.now ends (moved_of d (entries plan)) =
          grind (arith, ends-same) in
          c.splice_info_bytes-info.ensures first frames
          (ap (λ (u : InputFields). slice_get u.survey.frames d.front) (sym tells-same) ∙ found)
          (slots ∙ sym (ap (map (λ (p : Placed). p.slot)) c.placed-placed.ensures))
          ∙ ap₂ (λ (o : Option Kept) (u : InputFields).
          info_frame first.header (info_kept o first.header u.survey.class frames)) kept
          (sym tells-same);
    }
