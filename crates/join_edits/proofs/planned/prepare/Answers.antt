-- The Info frame is about frames in the slots of the plan.
use Rattle.std.proofs.{Common.{ap, arith, map, sym, ◌∙◌, ◌≡◌}, lemmas.List.length-map}
use Rattle.info_header.specs.InfoFrame.{info_frame}
use Rattle.join_edits.proofs.PlanLemmas.{plan-few}
use Rattle.joined_inputs.{proofs.InputLemmas.{alike-first, can-some}, specs.Inputs.input_view}
use Rattle.laying.specs.{Written.info_for, declared.info.Kept.Kept}
use Rattle.slot_plan.specs.declared.needs.Placed.{Placed}
use Rattle.join_edits.proofs.planned.prepare.Goals as goal

pub input_at-requires : goal.input_at-requires
input_at-requires c = grind (arith, can-some, length-map)

pub info_bytes-info-requires-clause-within : goal.info_bytes-info-requires-clause-within
info_bytes-info-requires-clause-within c = grind (arith, alike-first)

pub info_bytes-info-requires-clause-few : goal.info_bytes-info-requires-clause-few
info_bytes-info-requires-clause-few c = grind (arith, plan-few)

pub returns : goal.returns
returns c =
    let i = input_view c.input_at.result.now in
    record {
      joined = c.requires;
      plan = c.in_ok-plan.ensures;
      info = λ frames slots t is.
          let found = rw c.input_at.ensures at is in
          let same : i ≡ t = cc in
          rw (← same) (λ first found.
          c.info_bytes-info.ensures first frames found
          (slots ∙ sym (ap (map (λ (p : Placed). p.slot)) c.placed.ensures))
          ∙ ap (λ (n : Kept).
          info_frame first.header (info_for i.survey.class frames n.quality n.extension))
          c.none.ensures);
      fresh = rw c.input_at.ensures (rw c.class.ensures at c.in_ok-buffers.ensures);
    }
