-- Line by line, then what waits.
use Rattle.std.proofs.Common.{ap, ap₂, arith, drop, get_or, length, List, map, subst, sym}
use Rattle.std.proofs.Common.{vec_items, ℕ, ◌++◌, ◌+◌, ◌<◌, ◌∙◌, ◌∷◌, ◌≡◌}
use Rattle.joined_inputs.{proofs.StepLemmas.map-next, specs.Inputs.{input_names, input_view}}
use Rattle.laying.proofs.RelayLemmas.{item-next}
use Rattle.list_edits.proofs.ListingLemmas.{all_lines, line_failed, prefix_behind, said_more}
use Rattle.list_edits.proofs.ListingLemmas.{said_none, sent_behind}
use Rattle.outside.{proofs.BufferOutputLemmas.on_err, specs.BufferOutput.{SendsWaiting, SentPrefix}}
use Rattle.seam_plan.specs.{Seams.left_out_count, declared.splice.Joint.Joint}
use Rattle.seamless_edits.proofs.LineLemmas.{name-next, told-cons, told-past}
use Rattle.seamless_edits.proofs.lines.send_lines.Goals.{After-finish, After-push_line}
use Rattle.seamless_edits.specs.{Lines.{told_by, told_lines}, LostFrames.lost_from}
use Rattle.seamless_edits.specs.Seamless.{seam_line, told_line, ToldInput}
use Rattle.seamless_edits.proofs.lines.send_lines.Given as given
use Rattle.seamless_edits.proofs.lines.send_lines.Goals as goal

pub loop-place-init : goal.loop-place-init
loop-place-init g c = grind (arith, said_none, told_line, told_by)

-- the input of a line, and those whose lines are left before it
module _ (g : given.Over) (c : After-push_line g) where
  abbrev names : List (List ℕ)
  names = input_names (map input_view c.args.inputs.now)

  abbrev joints : List Joint
  joints = c.args.joints.now

  abbrev lost : List (List ℕ)
  lost = map vec_items c.args.lost.now

  abbrev all : List ToldInput
  all = told_by (drop 1 names) joints (drop 1 lost)

  abbrev left : ℕ → List ToldInput
  left i = told_by (drop (i + 1) names) (drop i joints) (drop (i + 1) lost)

  abbrev line : Joint → ToldInput
  line j = record {
    name = (input_view c.input_at-input.result.now).name;
    seam = j.seam;
    lost = lost_from (left_out_count j.seam) (vec_items c.index-lost-place.result);
  }

  abbrev told : ToldInput
  told = line c.index-joints-place.result

  next : left c.loop-place.place ≡ told ∷ left (c.loop-place.place + 1)
  next =
      let place = c.loop-place.place in
      let items = c.args.lost.now in
      let within : place < length joints = omega (arith, c.loop-place-test.true) in
      let there : place + 1 < length items = omega (arith, within, c.requires.lost) in
      told-cons
      (name-next (map input_view c.args.inputs.now) (place + 1) c.input_at-input.ensures)
      (item-next joints within c.index-joints-place.is)
      (map-next vec_items items there c.index-lost-place.is)

  -- the joint, as it is read
  abbrev joint : Joint
  joint = get_or joints c.loop-place.place c.index-joints-place.result

  line-is : seam_line told.name joint.seam c.count_from-lost.result ≡ told_line told
  line-is =
      ap (seam_line told.name joint.seam)
      (c.count_from-lost.ensures ∙ ap₂ lost_from c.left_out.ensures c.as_slice.ensures.value)
      ∙ ap (λ (j : Joint). told_line (line j)) (sym c.index-joints-place.is)

pub loop-place-preserved : goal.loop-place-preserved
loop-place-preserved g c =
    let at = (goal.at.loop-place-preserved g c).After-push_line in
    let i = c.loop-place.place in
    record {
      within = omega (arith, c.loop-place-test.true);
      done = c.in_ok-push_line.ensures.cause.done ∙ c.loop-place.invariant.done;
      said = said_more told_line (all g at) c.loop-place.invariant.said
          (next g at) (subst (λ (l : List ℕ). SendsWaiting (c.loop-place.buffer ++ l)
          c.push_line.new.buffer
          (g.T.Sink.heard c.loop-place.out).sent (g.T.Sink.heard c.push_line.new.out).sent)
          (line-is g at) c.in_ok-push_line.ensures.passed);
    }

pub returns-in_err-push_line-clause-prefix : goal.returns-in_err-push_line-clause-prefix
returns-in_err-push_line-clause-prefix g c =
    let at = (goal.at.returns-in_err-push_line-clause-prefix g c).After-push_line in
    let i = c.loop-place.place in
    on_err c.from_residual.result
    (line_failed told_line (all g at) c.loop-place.invariant.said (next g at)
    (subst (λ (l : List ℕ). SentPrefix (c.loop-place.buffer ++ l)
    (g.T.Sink.heard c.loop-place.out).sent
    (g.T.Sink.heard c.push_line.new.out).sent)
    (line-is g at) c.in_err-push_line.ensures.prefix))

-- behind the loop all lines were sent or wait
all-said : (g : given.Over) (c : After-finish g) → SendsWaiting
    (told_lines (drop 1 (input_names (map input_view c.args.inputs.now))) c.args.joints.now
    (drop 1 (map vec_items c.args.lost.now)))
    c.loop-place.buffer (g.T.Sink.heard c.args.out.now).sent (g.T.Sink.heard c.loop-place.out).sent
all-said g c = grind (arith, all_lines, told_line, told-past)

pub returns-clause-sent : goal.returns-clause-sent
returns-clause-sent g c =
    sent_behind c.finish.result _ (all-said g (goal.at.returns-clause-sent g c).After-finish)
    c.finish.ensures.sent

pub returns-clause-prefix : goal.returns-clause-prefix
returns-clause-prefix g c =
    prefix_behind c.finish.result _ (all-said g (goal.at.returns-clause-prefix g c).After-finish)
    c.finish.ensures.prefix
