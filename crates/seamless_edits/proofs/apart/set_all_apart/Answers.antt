-- The head of one more survey is set apart, and its lost frames are listed.
use Rattle.std.proofs.Common.{ap, arith, get_or, length, map, sym, vec_items, [], ◌<◌, ◌∙◌, ◌∷◌}
use Rattle.std.proofs.lemmas.List.{get_or-map, length-map, map-append, map-set}
use Rattle.joined_inputs.specs.Inputs.{input_view, InputFields}
use Rattle.seamless_edits.proofs.{KnownLemmas.apart-next, LostLemmas.lost-more}
use Rattle.seamless_edits.specs.{Beginnings.input_without_head, LostFrames.lost_in_input}
use Rattle.sync_survey.specs.Faults.{SurveyFields}
use Rattle.seamless_edits.proofs.apart.set_all_apart.Goals as goal

pub loop-input-preserved : goal.loop-input-preserved
loop-input-preserved c =
    let at = c.loop-input in
    let i = at.input-index in
    let item = c.input-item.result in
    let xs = map input_view c.args.inputs.now in
    let within : i < length c.args.inputs.now =
    omega (arith, c.loop-input-test.true, at.auto.inputs) in
    let now : i < length at.inputs = omega (arith, within, at.auto.inputs) in
    let mapped : i < length xs = omega (arith, within, length-map c.args.inputs.now input_view) in
    let here = sym (get_or-map input_view at.inputs i item (input_view item) now) in
    let x = get_or at.inputs i item in
    let new = record x { survey = c.set_head_apart.new.survey } in
    record {
      apart =
          map-set input_view at.inputs i new
          ∙ apart-next xs
          (input_view item) mapped at.invariant.apart
          (ap (λ (s : SurveyFields). record (input_view x) { survey = s })
          c.in_ok-numbers.ensures.apart
          ∙ ap input_without_head here);
      lost =
          ap (map vec_items) c.in_ok-push.ensures.items
          ∙ map-append vec_items at.lost.items (c.in_ok-numbers.numbers ∷ [])
          ∙ lost-more xs (input_view item) mapped
          at.invariant.apart (c.in_ok-numbers.ensures.lost
          ∙ ap (λ (f : InputFields). lost_in_input f) here) at.invariant.lost;
    }
