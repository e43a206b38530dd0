-- The output is created, and then written by a pass over the inputs, which stay.
use Rattle.std.proofs.Common.{ap, arith, drop, flat_map, List, map, refl, rules, ℕ, [], ◌∙◌, ◌∷◌}
use Rattle.std.proofs.Common.{◌≡◌, ◌≢◌}
use Rattle.commands.proofs.OutputLemmas.{not_begun, output_whole, pass_fault, touches_prefix}
use Rattle.commands.{proofs.OutputLemmas.touches_whole, specs.SingleOutput.first_input}
use Rattle.cut_edits.proofs.LaidPassLemmas.{appends-as_prefix}
use Rattle.frame_header.specs.Fields.{ClassFields}
use Rattle.joined_inputs.proofs.RestLemmas.{rest-parts}
use Rattle.joined_inputs.proofs.SourceLemmas.{first-class, first-source, ranges-beside, told-beside}
use Rattle.joined_inputs.proofs.written.write_joined.Goals.{In-Ok}
use Rattle.joined_inputs.specs.Inputs.{input_names, input_view, InputFields}
use Rattle.joined_inputs.specs.Laying.{AreSources, FitsWork, join_bytes}
use Rattle.outside.proofs.FilesLemmas.{emptied_there, emptied_touches, fails_touches}
use Rattle.outside.specs.Files.{Files, files_holding, LeavesAllBut}
use Rattle.joined_inputs.proofs.written.write_joined.Given as given
use Rattle.joined_inputs.proofs.written.write_joined.Goals as goal

module _ (g : given.Over) (c : In-Ok g) where
  abbrev old : Files
  old = (g.D.Folder.seen c.args.folder.now).files

  abbrev mid : Files
  mid = (g.D.Folder.seen c.create.new.self).files

  abbrev inputs : List InputFields
  inputs = map input_view c.args.inputs.now

  abbrev names : List (List ℕ)
  names = input_names inputs

  abbrev class : ClassFields
  class = (input_view c.input_at.result.now).survey.class

  class-is : c.requires.can.class ≡ class
  class-is = first-class c.input_at.ensures c.requires.can.first

  sources : AreSources class c.args.output.now old inputs
  sources = grind (arith, class-is)

  fits : FitsWork class inputs c.args.work.now
  fits = rw (← class-is) c.requires.can.fits

  only : LeavesAllBut (c.args.output.now ∷ []) old mid
  only = rw c.in-Ok.ensures.answer.created (emptied_touches _ _).others

  apart : (input_view c.input_at.result.now).name ≢ c.args.output.now
  apart = (first-source _ c.input_at.ensures sources).apart

  -- the bytes to write don't change when the output is created
  beside : (file : List ℕ) → join_bytes mid inputs c.args.work.now file
      ≡ join_bytes old inputs c.args.work.now file
  beside file = grind (arith, flat_map, told-beside, rest-parts, only, sources)

pub append_joined-requires-clause-join : goal.append_joined-requires-clause-join
append_joined-requires-clause-join g c =
    let at = (goal.at.append_joined-requires-clause-join g c).In-Ok in
    record {
      from = (input_view c.input_at.result.now).from;
      later = drop 1 (inputs g at);
      are = c.input_at.ensures;
      length = c.length.ensures;
      apart = apart g at;
      sources = ranges-beside _ _ _ _ _ (only g at) (sources g at);
      target = rw c.in-Ok.ensures.answer.created (emptied_there (old g at) c.args.output.now);
    }

pub append_joined-requires-clause-fits : goal.append_joined-requires-clause-fits
append_joined-requires-clause-fits g c = grind (arith, fits)

pub returns-in-Ok-append_joined-clause-wrote : goal.returns-in-Ok-append_joined-clause-wrote
returns-in-Ok-append_joined-clause-wrote g c =
    let at = (goal.at.returns-in-Ok-append_joined-clause-wrote g c).In-Ok in
    let output = c.args.output.now in
    let created = c.in-Ok.ensures.answer.created in
    let written = c.in-Ok-append_joined.ensures.written in
    record {
      written = λ bytes holds.
          output_whole _ (apart g at) (old g at) _
          created written bytes (rw c.input_at.ensures at holds)
          ∙ ap (files_holding (old g at) output) (beside g at bytes);
      touches = touches_whole _ (apart g at) _ _ created written;
      done = search rules;
      left = tt;
    }

pub returns-in-Err-clause-wrote : goal.returns-in-Err-clause-wrote
returns-in-Err-clause-wrote g c =
    let at = (goal.at.returns-in-Err-clause-wrote g c).In-Ok in
    let created = c.in-Ok.ensures.answer.created in
    let cause = c.in-Err.ensures.cause in
    let part = appends-as_prefix (λ file holds. beside g at file) c.in-Err.ensures.prefix in
    record {
      written = tt;
      touches = touches_prefix _ (apart g at) _ _ created c.in-Err.ensures.prefix;
      done = tt;
      left = rw c.of_pass.ensures
          (pass_fault _ (apart g at) _ _
          created (names g at) (ap (λ l. first_input (input_names l)) c.input_at.ensures)
          c.in-Err.stopped.number c.in-Err.stopped.fault cause.size _
          c.in-Ok.ensures.answer.done part
          cause.cause);
    }

-- the output wasn't created
pub returns-in_default-clause-wrote : goal.returns-in_default-clause-wrote
returns-in_default-clause-wrote g c =
    let kept = c.in_default.ensures.answer.kept in
    record {
      written = tt;
      touches = fails_touches kept;
      done = tt;
      left = (
        refl,
        record { rose = c.in_default.ensures.answer.failed; files = not_begun _ _ _ _ kept },
      );
    }
