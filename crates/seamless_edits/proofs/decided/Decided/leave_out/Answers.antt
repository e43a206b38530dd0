-- One more input begins behind what is left out of it.
use Rattle.std.proofs.Common.{ap, arith, drop, get_or, length, map, set, sym, ◌+◌, ◌<◌, ◌∙◌, ◌∷◌}
use Rattle.std.proofs.{Common.◌≡◌, lemmas.List.{get_or-map, length-map, map-set}}
use Rattle.joined_inputs.specs.Inputs.{input_view, InputFields}
use Rattle.seamless_edits.{proofs.KnownLemmas.from-next, specs.Deciding.left_out_of}
use Rattle.seamless_edits.proofs.decided.Decided.leave_out.Goals as goal

pub loop-input-preserved : goal.loop-input-preserved
loop-input-preserved c =
    let at = c.loop-input in
    let i = at.input-index in
    let item = c.input-item.result in
    let from = c.left_out-input.result in
    let froms = left_out_of c.args.self.now in
    let now : i < length at.inputs = omega (arith, c.loop-input-test.true, at.auto.inputs) in
    let mapped : i < length (map input_view c.args.inputs.now) =
    omega (arith, c.loop-input-test.true, length-map c.args.inputs.now input_view) in
    let here = sym (get_or-map input_view at.inputs i item (input_view item) now) in
    let next : drop i froms ≡ from ∷ drop (i + 1) froms =
    rw at.invariant.place at c.left_out-input.ensures in
    record {
      place = ap (λ n. n + 1) at.invariant.place;
      inputs =
          map-set input_view at.inputs i (record (get_or at.inputs i item) { from = from })
          ∙ ap (λ (y : InputFields). set (map input_view at.inputs) i (record y { from = from }))
          here
          ∙ from-next (map input_view c.args.inputs.now) froms
          (input_view item) mapped at.invariant.inputs next;
    }
