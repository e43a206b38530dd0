-- The second pass, and the text.
use Rattle.std.proofs.Common.{ap, arith, drop, length, List, map, refl, sym, vec_items, ℕ, ◌∙◌, ◌≡◌}
use Rattle.std.proofs.{Common.◌≤◌, lemmas.List.{length-map, take_at}}
use Rattle.commands.proofs.MakeLemmas.{returned_run}
use Rattle.commands.proofs.TellingLemmas.{says-all, says-prefix, telling_run, unsent_run}
use Rattle.commands.specs.{Command.Command, SentText.IsCommandText, SingleOutput.one_command}
use Rattle.joined_inputs.proofs.InputLemmas.{named-long}
use Rattle.joined_inputs.specs.Inputs.{input_names, input_view, InputFields}
use Rattle.seam_plan.specs.declared.splice.Joint.{Joint}
use Rattle.seamless_edits.proofs.SeamlessCommandLemmas.{joints-many, left-names, left_inputs}
use Rattle.seamless_edits.proofs.SeamlessCommandLemmas.{ready-text, ready-writable, text_of}
use Rattle.seamless_edits.proofs.SeamlessCommandLemmas.{written-run}
use Rattle.seamless_edits.proofs.seamless_file.write_and_tell.Goals.{After-deref}
use Rattle.seamless_edits.specs.{Deciding.{from_places, left_out_of}, Lines.told_lines}
use Rattle.seamless_edits.specs.Seamless.{seamless_command, seamless_task}
use Rattle.seamless_edits.proofs.seamless_file.write_and_tell.Given as given
use Rattle.seamless_edits.proofs.seamless_file.write_and_tell.Goals as goal

-- the inputs that are written, and their names
module _ (g : given.Over) (c : After-deref g) where
  abbrev names : List (List ℕ)
  names = input_names (map input_view c.args.ready.now.inputs.items)

  abbrev left : List InputFields
  left = left_inputs
      c.requires.ready

  named : input_names left ≡ names
  named = left-names
      c.requires.ready

  new-is : map input_view c.leave_out.new.inputs ≡ left
  new-is = c.leave_out.ensures
      ∙ ap (λ l. from_places (map input_view l) (left_out_of c.args.ready.now.made.decided))
      c.deref_mut.ensures.value

  names-long : length names ≡ length c.args.ready.now.inputs.items
  names-long = sym (named-long (map input_view c.args.ready.now.inputs.items) refl)
      ∙ length-map c.args.ready.now.inputs.items input_view

  new-long : length c.leave_out.new.inputs ≡ length c.args.ready.now.inputs.items
  new-long = omega (
    arith,
    length-map c.leave_out.new.inputs input_view,
    ap length new-is,
    named-long left named,
    names-long,
  )

  now : map input_view c.deref.result.now ≡ left
  now = grind (arith, take_at, new-long, new-is, c.deref.ensures.value)

  some : 1 ≤ length names
  some = omega (arith, c.requires.some, names-long)

  long-now : length c.deref.result.now ≡ length names
  long-now = omega (
    arith,
    length-map c.deref.result.now input_view,
    ap length now,
    named-long left named,
  )

  -- the lines that are sent are the text of the command
  lines-text : {known : List InputFields} {joints : List Joint} {lost : List (List ℕ)}
      → known ≡ map input_view c.deref.result.now
      → joints ≡ c.args.ready.now.made.decided.joints.items
      → lost ≡ map vec_items c.args.ready.now.lost.items → (all : List ℕ)
      → IsCommandText (seamless_command c.args.output.now names)
      (g.D.Folder.seen c.args.folder.now).files all
      → told_lines (drop 1 (input_names known)) joints (drop 1 lost) ≡ all
  lines-text are joined counted all is =
      rw (are, now, named, joined, counted)
      (ready-text some
      c.args.output.now c.requires.ready is)

  abbrev silent : Command
  silent = one_command (seamless_task names) c.args.output.now

pub write_joined-requires-clause-can : goal.write_joined-requires-clause-can
write_joined-requires-clause-can g c =
    rw (now g c) (ready-writable c.requires.ready c.requires.free)

pub returns-in_err-write_joined-clause-run : goal.returns-in_err-write_joined-clause-run
returns-in_err-write_joined-clause-run g c =
    let at = (goal.at.returns-in_err-write_joined-clause-run g c).After-deref in
    let met = c.in_err-write_joined.ensures in
    returned_run c.from_residual.ensures.1
    (telling_run (text_of (names g at)) (silent g at)
    (written-run c.requires.free (some g at)
    c.requires.ready (rw (long-now g at) at met.numbers) (rw (now g at, named g at) at met.wrote)
    c.write_joined.ensures.counts))

pub send_lines-requires-clause-inputs : goal.send_lines-requires-clause-inputs
send_lines-requires-clause-inputs g c =
    let at = (goal.at.send_lines-requires-clause-inputs g c).After-deref in
    omega (
      arith,
      joints-many c.requires.ready,
      ap (λ (l : List Joint). length l) c.as_slice.ensures.value,
      ap length c.deref-2.ensures.value,
      ap length c.deref.ensures.value,
      long-now g at,
    )

pub returns-in-Ok-clause-run : goal.returns-in-Ok-clause-run
returns-in-Ok-clause-run g c =
    let at = (goal.at.returns-in-Ok-clause-run g c).After-deref in
    telling_run (text_of (names g at)) (silent g at)
    (written-run c.requires.free (some g at)
    c.requires.ready tt (rw (now g at, named g at) at c.in_ok-write_joined.ensures.wrote)
    c.write_joined.ensures.counts)

pub returns-in-Ok-clause-says : goal.returns-in-Ok-clause-says
returns-in-Ok-clause-says g c =
    let at = (goal.at.returns-in-Ok-clause-says g c).After-deref in
    let old = (g.D.Folder.seen c.args.folder.now).files in
    let output = c.args.output.now in
    says-all
    (g.T.Sink.heard c.args.out.now) (g.T.Sink.heard c.send_lines.new.out)
    (lines-text g at (ap (map input_view) (c.deref-2.ensures.value ∙ sym c.deref.ensures.value))
    c.as_slice.ensures.value (ap (map vec_items) c.deref-3.ensures.value))
    c.in-Ok.ensures.sent c.in-Ok.ensures.cause.done

pub returns-in-Err-clause-run : goal.returns-in-Err-clause-run
returns-in-Err-clause-run g c =
    let at = (goal.at.returns-in-Err-clause-run g c).After-deref in
    unsent_run (text_of (names g at)) (silent g at)
    (written-run c.requires.free (some g at)
    c.requires.ready tt (rw (now g at, named g at) at c.in_ok-write_joined.ensures.wrote)
    c.write_joined.ensures.counts)

pub returns-in-Err-clause-says : goal.returns-in-Err-clause-says
returns-in-Err-clause-says g c =
    let at = (goal.at.returns-in-Err-clause-says g c).After-deref in
    let old = (g.D.Folder.seen c.args.folder.now).files in
    let output = c.args.output.now in
    says-prefix
    (g.T.Sink.heard c.args.out.now) (g.T.Sink.heard c.send_lines.new.out)
    (lines-text g at (ap (map input_view) (c.deref-2.ensures.value ∙ sym c.deref.ensures.value))
    c.as_slice.ensures.value (ap (map vec_items) c.deref-3.ensures.value))
    c.in-Err.ensures.prefix c.in-Err.ensures.cause.failed
