-- Step by step, with the faults met before the output is created.
use Rattle.std.proofs.Common.{ap, ap₂, arith, length, List, map, string_bytes, sym, ◌∙◌, ◌≡◌, ◌≤◌}
use Rattle.std.proofs.lemmas.List.{length-map, take_at, with_items_is}
use Rattle.commands.proofs.RefusingLemmas.{err_with}
use Rattle.commands.specs.declared.fault.EditFault.TheVariants.{Memory}
use Rattle.joined_inputs.proofs.InputLemmas.{inputs-join, named-long}
use Rattle.joined_inputs.specs.Inputs.{CanInputsBeJoined, input_names, input_view, InputFields}
use Rattle.joined_inputs.specs.declared.inputs.JoinInput.{JoinInput}
use Rattle.outside.specs.{Files.Files, Seen.seen_folder}
use Rattle.seamless_edits.proofs.SeamlessCommandLemmas.{apart-decided, apart-names, inputs-known}
use Rattle.seamless_edits.proofs.SeamlessCommandLemmas.{read-fault-early}
use Rattle.seamless_edits.proofs.seamless_file.prepare_all.Goals.{After-deref-3, In_ok-inputs}
use Rattle.seamless_edits.specs.Beginnings.{AreBeginnings, input_without_head}
use Rattle.seamless_edits.specs.{Deciding.CanBeDecided, LostFrames.lost_in_input}
use Rattle.seamless_edits.specs.Seamless.{seamless_file, seamless_stream}
use Rattle.seamless_edits.specs.declared.beginnings.Beginning.{Beginning}
use Rattle.seamless_edits.proofs.seamless_file.prepare_all.Given as given
use Rattle.seamless_edits.proofs.seamless_file.prepare_all.Goals as goal

apart-long : (new items : List JoinInput) → map input_view new
    ≡ map input_without_head (map input_view items) → length new ≡ length items
apart-long new items is = grind (arith, length-map)

pub returns-in_err-inputs-clause-refused : goal.returns-in_err-inputs-clause-refused
returns-in_err-inputs-clause-refused g c =
    err_with _ _ c.from_residual.ensures.1
    (c.in_err-inputs.ensures.refused seamless_file seamless_stream)

-- the inputs have their surveys
module _ (g : given.Over) (c : In_ok-inputs g) where
  abbrev items : List JoinInput
  items = c.in_ok-inputs.inputs.items

  abbrev found : List InputFields
  found = map input_view items

  named : input_names found ≡ map string_bytes c.args.names.now
  named = c.in_ok-inputs.ensures.names

  long : length found ≡ length c.args.names.now
  long = named-long found named ∙ length-map c.args.names.now string_bytes

  some : 1 ≤ length found
  some = omega (arith, c.requires.some, long)

  can : CanInputsBeJoined found
  can = inputs-join (g.D.Folder.seen c.args.folder.now).files found c.in_ok-inputs.ensures.inputs
      some (omega (arith, c.requires.few, long))

pub beginnings_of-requires-clause-few : goal.beginnings_of-requires-clause-few
beginnings_of-requires-clause-few g c = grind (arith, long, length-map)

pub beginnings_of-requires-clause-held : goal.beginnings_of-requires-clause-held
beginnings_of-requires-clause-held g c = grind (arith, inputs-known)

pub returns-in_err-beginnings-clause-refused : goal.returns-in_err-beginnings-clause-refused
returns-in_err-beginnings-clause-refused g c =
    let at = (goal.at.returns-in_err-beginnings-clause-refused g c).In_ok-inputs in
    let names = map string_bytes c.args.names.now in
    err_with _ _ c.from_residual-in_err-beginnings.ensures.1
    (read-fault-early names _ (found g at) _ (named g at) (some g at)
    c.in_ok-inputs.ensures.inputs
    (ap₂ seen_folder c.survey_all.ensures.reads.files c.in_ok-inputs.ensures.reads.done)
    (rw (c.deref.ensures.value, named g at) at c.in_err-beginnings.ensures.refused))

pub returns-in_err-lost-clause-refused : goal.returns-in_err-lost-clause-refused
returns-in_err-lost-clause-refused g c =
    let at = (goal.at.returns-in_err-lost-clause-refused g c).In_ok-inputs in
    err_with _ _ c.from_residual-in_err-lost.ensures.1
    (read-fault-early (map string_bytes c.args.names.now) _ (found g at) Memory (named g at)
    (some g at) c.in_ok-inputs.ensures.inputs
    (ap₂ seen_folder c.survey_all.ensures.reads.files c.in_ok-inputs.ensures.reads.done)
    (ap₂ seen_folder c.beginnings_of.ensures.reads.files c.in_ok-beginnings.ensures.reads.done))

-- their heads are set apart
module _ (g : given.Over) (c : After-deref-3 g) where
  abbrev whole : List InputFields
  whole = map input_view c.in_ok-inputs.inputs.items

  abbrev bs : List Beginning
  bs = c.in_ok-beginnings.beginnings.items

  abbrev old : Files
  old = (g.D.Folder.seen c.args.folder.now).files

  files-same : (g.D.Folder.seen c.beginnings_of.new.folder).files ≡ old
  files-same = c.beginnings_of.ensures.reads.files ∙ c.survey_all.ensures.reads.files

  begun : AreBeginnings old whole bs
  begun = grind arith

  new-is : map input_view c.set_all_apart.new.inputs ≡ map input_without_head whole
  new-is = grind arith

  new-long : length c.set_all_apart.new.inputs ≡ length c.in_ok-inputs.inputs.items
  new-long = apart-long c.set_all_apart.new.inputs c.in_ok-inputs.inputs.items new-is

  inputs-now : map input_view c.deref-2.result.now ≡ map input_without_head whole
  inputs-now = grind (arith, take_at, new-long, new-is)

  can-now : CanInputsBeJoined whole
      → CanBeDecided (g.D.Folder.seen c.beginnings_of.new.folder).files
      (map input_view c.deref-2.result.now) c.deref-3.result.now
  can-now can = grind (arith, files-same, inputs-now, apart-decided, can, begun)

pub make_ready-requires : goal.make_ready-requires
make_ready-requires g c =
    record { can = can-now g c (can g (goal.at.make_ready-requires g c).In_ok-inputs) }

pub returns-in_err-made-clause-refused : goal.returns-in_err-made-clause-refused
returns-in_err-made-clause-refused g c =
    let at = goal.at.returns-in_err-made-clause-refused g c in
    let ready = at.In_ok-inputs in
    let names = map string_bytes c.args.names.now in
    let before : input_names (map input_view c.deref-2.result.now) ≡ names =
    rw (inputs-now g at.After-deref-3)
    (apart-names (found g ready) ∙ named g ready) in
    err_with _ _ c.from_residual-in_err-made.ensures.1
    (read-fault-early names _ (found g ready) _ (named g ready) (some g ready)
    c.in_ok-inputs.ensures.inputs
    (ap₂ seen_folder (c.beginnings_of.ensures.reads.files ∙ c.survey_all.ensures.reads.files)
    (c.in_ok-beginnings.ensures.reads.done ∙ c.in_ok-inputs.ensures.reads.done))
    (rw before at c.in_err-made.ensures.refused))

pub returns-in_err-made-clause-numbers : goal.returns-in_err-made-clause-numbers
returns-in_err-made-clause-numbers g c =
    let at = goal.at.returns-in_err-made-clause-numbers g c in
    let ready = at.In_ok-inputs in
    let many : length c.deref-2.result.now ≡ length c.args.names.now =
    apart-long c.deref-2.result.now (items g ready) (inputs-now g at.After-deref-3)
    ∙ sym (length-map (items g ready) input_view) ∙ long g ready in
    err_with _ _ c.from_residual-in_err-made.ensures.1 (rw many at c.in_err-made.ensures.numbers)

pub returns-clause-ready : goal.returns-clause-ready
returns-clause-ready g c =
    let at = goal.at.returns-clause-ready g c in
    let ready = at.In_ok-inputs in
    let now = at.After-deref-3 in
    record {
      found = found g ready;
      bs = bs g now;
      named = named g ready;
      are = c.in_ok-inputs.ensures.inputs;
      joined = can g ready;
      begun = begun g now;
      inputs = grind (arith, with_items_is, new-long, new-is);
      lost =
          c.in_ok-lost.ensures.lost
          ∙ ap (λ (l : List JoinInput). map lost_in_input (map input_view l))
          c.deref_mut.ensures.value;
      made =
          grind (
            arith,
            files-same g,
            inputs-now g,
            c.deref-3.ensures.value,
            c.in_ok-made.ensures.made,
          );
    }
