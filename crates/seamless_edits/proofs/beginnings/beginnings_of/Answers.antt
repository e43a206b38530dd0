-- Input by input.
use Rattle.std.proofs.Common.{ap, ap₂, arith, length, List, map, take, ℕ, ◌<◌, ◌∙◌}
use Rattle.std.proofs.lemmas.List.{length-map, take_all}
use Rattle.commands.proofs.RefusingLemmas.{err_with}
use Rattle.joined_inputs.proofs.InputLemmas.{take-next}
use Rattle.joined_inputs.specs.Inputs.{input_names, input_view, InputFields}
use Rattle.outside.specs.Seen.{seen_folder}
use Rattle.seamless_edits.proofs.KnownLemmas.{begun-more, known-here, named-at}
use Rattle.seamless_edits.proofs.ReadFaultLemmas.{fault-later, stops-among, stops-fault}
use Rattle.seamless_edits.{proofs.ReadFaultLemmas.stops-numbers, specs.Beginnings.IsBeginning}
use Rattle.seamless_edits.specs.Seamless.{begins_blank}
use Rattle.seamless_edits.proofs.beginnings.beginnings_of.Goals as goal

pub head_of-requires-clause-there : goal.head_of-requires-clause-there
head_of-requires-clause-there g c =
    rw c.loop-place.invariant.files
    (known-here _ c.loop-place.place c.requires.held c.input_at.ensures).there

pub head_of-requires-clause-laid : goal.head_of-requires-clause-laid
head_of-requires-clause-laid g c =
    (known-here _ c.loop-place.place c.requires.held c.input_at.ensures).laid

pub head_of-requires-clause-exact : goal.head_of-requires-clause-exact
head_of-requires-clause-exact g c = λ file holds.
    (known-here _ c.loop-place.place c.requires.held c.input_at.ensures).exact file
    (rw c.loop-place.invariant.files at holds)

-- the input whose head was to be read is one of the inputs
within : {A : Type 0} (view : A → InputFields) (items : List A) (place : ℕ) → place < length items
    → place < length (input_names (map view items))
within view items place is = omega (
  arith,
  is,
  length-map items view,
  length-map (map view items) (λ (i : InputFields). i.name),
)

pub returns-in_err-head-clause-refused : goal.returns-in_err-head-clause-refused
returns-in_err-head-clause-refused g c =
    let inputs = map input_view c.args.inputs.now in
    let place = c.loop-place.place in
    err_with _ _ c.from_residual.ensures.1
    (fault-later (input_names inputs) _ _
    (ap₂ seen_folder c.loop-place.invariant.files c.loop-place.invariant.counts)
    (stops-fault c.head_of.ensures.reads.files
    (stops-among
    (within input_view c.args.inputs.now place c.loop-place-test.true)
    (named-at inputs place c.input_at.ensures) c.in_err-head.ensures.stopped)))

pub returns-in_err-head-clause-numbers : goal.returns-in_err-head-clause-numbers
returns-in_err-head-clause-numbers g c =
    let inputs = map input_view c.args.inputs.now in
    let place = c.loop-place.place in
    err_with _ _ c.from_residual.ensures.1
    (stops-numbers
    (length-map inputs (λ (i : InputFields). i.name) ∙ length-map c.args.inputs.now input_view)
    (stops-among
    (within input_view c.args.inputs.now place c.loop-place-test.true)
    (named-at inputs place c.input_at.ensures) c.in_err-head.ensures.stopped))

pub loop-place-preserved : goal.loop-place-preserved
loop-place-preserved g c =
    let inputs = map input_view c.args.inputs.now in
    let place = c.loop-place.place in
    let inv = c.loop-place.invariant in
    let i = input_view c.input_at.result.now in
    let begun : IsBeginning (g.D.Folder.seen c.args.folder.now).files i
    (record { head = c.in_ok-head.head; blank = c.begins_blank-blank.result }) =
    record {
      head = λ file holds. c.in_ok-head.ensures.head file (rw (← inv.files) at holds);
      blank = c.begins_blank-blank.ensures ∙ ap begins_blank c.frames.ensures;
    } in
    record {
      begun =
          rw (take-next inputs place c.input_at.ensures, c.in_ok-push.ensures.items)
          (begun-more (take place inputs) c.loop-place.beginnings.items inv.begun begun);
      files = c.head_of.ensures.reads.files ∙ inv.files;
      counts = c.in_ok-head.ensures.reads.done ∙ inv.counts;
    }

pub returns-clause-begun : goal.returns-clause-begun
returns-clause-begun g c = grind (arith, length-map, take_all)
