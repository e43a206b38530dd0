-- One more piece.
use Rattle.std.proofs.Common.{ap, arith, drop, length, length-append, map, Ok, sym, take, [], ◌-◌}
use Rattle.std.proofs.{Common.{◌∙◌, ◌∷◌}, lemmas.List.{map-append, Elements.{All-drop, All-take}}}
use Rattle.laying.{proofs.RelayLemmas.item-next, specs.Laid.selected_part}
use Rattle.laying.specs.declared.selected.Selected.{Selected}
use Rattle.split_edits.proofs.PiecesLemmas.{fault-of-all, laid-is, match_err, pieces-push}
use Rattle.split_edits.proofs.PiecesLemmas.{place-laid, place-refused, places-laid}
use Rattle.split_edits.{proofs.piece.make_pieces.Goals.After-to-item, specs.Steps.piece_part}
use Rattle.split_edits.proofs.piece.make_pieces.Given as given
use Rattle.split_edits.proofs.piece.make_pieces.Goals as goal

-- the place at which a piece ends is sound
sound : (g : given.Over) (c : After-to-item g) → g.C.Cut.IsSound c.to-item.result
sound g c =
    rw c.to-item.is (All-take g.C.Cut.IsSound (length c.args.places.now - 1)
    (drop 1 c.args.places.now)
    (All-drop g.C.Cut.IsSound 1 c.args.places.now c.requires.places.0)
    c.loop-to.to-index c.to-item.result (omega (arith, c.loop-to-test.true)))

pub loop-to-preserved : goal.loop-to-preserved
loop-to-preserved g c =
    let at = c.loop-to in
    let cut = g.C.Cut.cutting c.args.cut.now in
    let rest = take (length c.args.places.now - 1) (drop 1 c.args.places.now) in
    let to = c.to-item.result in
    let next = item-next rest (omega (arith, c.loop-to-test.true)) c.to-item.is in
    let piece = c.in_ok-piece.piece in
    let items = c.in_ok-push.ensures.items in
    let more = ap (map piece_part) items ∙ map-append piece_part at.pieces.items (piece ∷ []) in
    record {
      pieces =
          grind (
            arith,
            pieces-push c.args.prefix.now 1 at.pieces.items piece at.invariant.pieces (omega (
              arith,
              at.invariant.many,
              at.invariant.number,
            )) c.in_ok-piece.ensures.name
                (rw c.in_ok-piece.ensures.selected c.in_ok-selected.ensures.writable),
          );
      many = omega
          (arith, at.invariant.many, ap length items, length-append at.pieces.items (piece ∷ []));
      number = omega (arith, at.invariant.number);
      sound = sound g (goal.at.loop-to-preserved g c).After-to-item;
      laid = λ file s is.
          rw more
          (place-laid cut file s at.to-index at.from.now rest (map piece_part at.pieces.items)
          (at.invariant.laid file s is) next
          (c.in_ok-selected.ensures.laid file s is
          ∙ ap (λ (x : Selected). Ok (selected_part x)) (sym c.in_ok-piece.ensures.selected)));
    }

pub select-requires-clause-to : goal.select-requires-clause-to
select-requires-clause-to g c = sound g (goal.at.select-requires-clause-to g c).After-to-item

pub returns-in_err-selected-clause-laid : goal.returns-in_err-selected-clause-laid
returns-in_err-selected-clause-laid g c =
    let at = c.loop-to in
    let cut = g.C.Cut.cutting c.args.cut.now in
    let rest = take (length c.args.places.now - 1) (drop 1 c.args.places.now) in
    let to = c.to-item.result in
    let next = item-next rest (omega (arith, c.loop-to-test.true)) c.to-item.is in
    match_err c.from_residual.result _ _ c.from_residual.ensures.1
    (fault-of-all
    (λ is file s known.
    laid-is cut file s c.args.places.now c.requires.places.1 c.index-places-0.is
    ∙ place-refused cut file s at.to-index at.from.now rest (map piece_part at.pieces.items)
    (at.invariant.laid file s known) next (is file s known))
    c.in_err-selected.ensures.laid)

pub returns-clause-laid : goal.returns-clause-laid
returns-clause-laid g c = search (arith, laid-is, places-laid)
