-- One more piece is whole, or begun.
use Rattle.std.proofs.Common.{arith, drop, length, refl, rules, string_bytes, take, [], ◌+◌, ◌∙◌}
use Rattle.std.proofs.{Common.{◌∷◌, ◌≡◌, ◌≢◌}, lemmas.List.{length-take, take_all}}
use Rattle.commands.proofs.OutputLemmas.{not_begun, output_whole, pass_fault, touches_prefix}
use Rattle.commands.proofs.OutputLemmas.{touches_whole}
use Rattle.cut_edits.proofs.LaidPassLemmas.{relay-ready}
use Rattle.laying.{proofs.RelayLemmas.item-next, specs.Laid.IsWritableSelection}
use Rattle.outside.proofs.FilesLemmas.{emptied_held_other, fails_touches}
use Rattle.outside.specs.{Files.{Files, OnlyTouches}, declared.pass.PassFault.TheVariants.Write}
use Rattle.split_edits.proofs.OutputsLemmas.{all-touched, IsNextPiece, more-wrote, none-wrote}
use Rattle.split_edits.proofs.OutputsLemmas.{piece_made, pieces-fault, Wrote}
use Rattle.split_edits.proofs.writing.write_pieces.Goals.{After-create, After-loop-piece}
use Rattle.split_edits.specs.declared.piece.PlannedPiece.{PlannedPiece}
use Rattle.sync_survey.specs.Faults.{survey_view}
use Rattle.split_edits.proofs.writing.write_pieces.Given as given
use Rattle.split_edits.proofs.writing.write_pieces.Goals as goal

pub loop-piece-init : goal.loop-piece-init
loop-piece-init g c = record {
  wrote = none-wrote (survey_view c.args.survey.now) c.requires.split.there;
  place = refl;
  fed = c.requires.fed;
  unsent = c.requires.unsent;
  counts = refl;
}

-- the next piece
module _ (g : given.Over) (c : After-create g) where
  abbrev piece : PlannedPiece
  piece = c.piece-item.result

  ready : (c.args.input.now ≢ string_bytes piece.name)
      × IsWritableSelection (survey_view c.args.survey.now) piece.selected
  ready = rw c.piece-item.is (c.requires.split.ready c.loop-piece.piece-index piece
      (omega (arith, c.loop-piece-test.true)))

  next : drop c.loop-piece.piece-index c.args.pieces.now
      ≡ piece ∷ drop (c.loop-piece.piece-index + 1) c.args.pieces.now
  next = item-next c.args.pieces.now
      (omega (arith, c.loop-piece-test.true)) c.piece-item.is

  place-is : c.loop-piece.place ≡ length (take c.loop-piece.piece-index c.args.pieces.now)
  place-is = omega (
    arith,
    c.loop-piece.invariant.place,
    length-take c.loop-piece.piece-index c.args.pieces.now,
    c.loop-piece-test.true,
  )

  next-piece : {new : Files} → OnlyTouches (string_bytes piece.name ∷ [])
      (g.D.Folder.seen c.loop-piece.folder).files new
      → IsNextPiece (survey_view c.args.survey.now) c.args.input.now c.args.pieces.now
      c.loop-piece.piece-index piece (g.D.Folder.seen c.args.folder.now).files
      (g.D.Folder.seen c.loop-piece.folder).files new
  next-piece touches =
      record { next = next; wrote = c.loop-piece.invariant.wrote; touches = touches }

  apart : c.args.input.now ≢ c.as_str.result.now
  apart same = ready.0 (same ∙ c.as_str.ensures.value)

pub write-requires-clause-ready : goal.write-requires-clause-ready
write-requires-clause-ready g c =
    let away = apart g (goal.at.write-requires-clause-ready g c).After-create in
    let stands = c.loop-piece.invariant.wrote.stands in
    relay-ready (g.D.Folder.seen c.loop-piece.folder).files away stands.there c.requires.split.laid
    (λ file holds. c.requires.split.has file (stands.before file holds))
    c.length.ensures c.in-Ok.ensures.answer.created
    (record {
      same = grind (arith, emptied_held_other);
    })

pub write-requires-clause-writable : goal.write-requires-clause-writable
write-requires-clause-writable g c =
    (ready g (goal.at.write-requires-clause-writable g c).After-create).1

pub returns-in_default : goal.returns-in_default
returns-in_default g c =
    let at = (goal.at.returns-in_default g c).After-create in
    let kept = rw c.as_str.ensures.value at c.in_default.ensures.answer.kept in
    record {
      written = tt;
      touches = all-touched (next-piece g at (fails_touches kept));
      done = tt;
      left =
          pieces-fault (next-piece g at (fails_touches kept)) Write _
          (place-is g at) c.loop-piece.invariant.counts (
            refl,
            record {
              rose = rw c.as_str.ensures.value at c.in_default.ensures.answer.failed;
              files = not_begun _ _ _ _ kept;
            },
          );
      numbers = search rules;
      counts = search rules;
    }

pub returns-in-Err : goal.returns-in-Err
returns-in-Err g c =
    let at = (goal.at.returns-in-Err g c).After-create in
    let made = piece_made (survey_view c.args.survey.now) (piece g at) in
    let touches = touches_prefix made
    (apart g at) _ _ c.in-Ok.ensures.answer.created c.in-Err.ensures.prefix in
    let fault = pass_fault made (apart g at) _ _ c.in-Ok.ensures.answer.created
    (c.args.input.now ∷ []) refl 0 c.in-Err.fault _ _
    c.in-Ok.ensures.answer.done c.in-Err.ensures.prefix c.in-Err.ensures.cause in
    let touches = touches_prefix _
    (apart g at) _ _ c.in-Ok.ensures.answer.created c.in-Err.ensures.prefix in
    record {
      written = tt;
      touches = all-touched (next-piece g at (rw c.as_str.ensures.value at touches));
      done = tt;
      left =
          rw c.of_pass.ensures
          (pieces-fault (next-piece g at (rw c.as_str.ensures.value at touches))
          c.in-Err.fault _ (place-is g at) c.loop-piece.invariant.counts
          (rw c.as_str.ensures.value at fault));
      numbers = search rules;
      counts = search rules;
    }

pub loop-piece-preserved : goal.loop-piece-preserved
loop-piece-preserved g c =
    let at = (goal.at.loop-piece-preserved g c).After-create in
    let touches = touches_whole _
    (apart g at) _ _ c.in-Ok.ensures.answer.created c.in_default-write.ensures.written in
    let whole = output_whole (piece_made (survey_view c.args.survey.now) (piece g at))
    (apart g at) _ _ c.in-Ok.ensures.answer.created c.in_default-write.ensures.written in
    record {
      wrote = more-wrote (next-piece g at (rw c.as_str.ensures.value at touches))
          (ready g at).0 (rw c.as_str.ensures.value at whole);
      place = omega (arith, c.loop-piece.invariant.place);
      fed = c.in_default-write.ensures.ready.pass.fed_from;
      unsent = c.in_default-write.ensures.none;
      counts = grind arith;
    }

-- all pieces are whole
all-wrote : (g : given.Over) (c : After-loop-piece g)
    → Wrote (survey_view c.args.survey.now) c.args.input.now c.args.pieces.now
    (g.D.Folder.seen c.args.folder.now).files (g.D.Folder.seen c.loop-piece.folder).files
all-wrote g c = rw (take_all c.loop-piece.piece-index c.args.pieces.now
    (omega (arith, c.loop-piece-test.false))) at c.loop-piece.invariant.wrote

pub returns : goal.returns
returns g c =
    record {
      written = (all-wrote g c).files;
      touches = (all-wrote g c).touches;
      done = search rules;
      left = tt;
      numbers = tt;
      counts = search rules;
    }
