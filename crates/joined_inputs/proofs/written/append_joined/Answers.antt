-- The ID3v2 blocks of the first input and the Info frame, the frames of all inputs, and then what
-- waits.
use Rattle.std.proofs.Common.{ap, append-nil, arith, flat_map, length, List, map, refl, rules, sym}
use Rattle.std.proofs.{Common.{ℕ, [], ◌++◌, ◌<◌, ◌∷◌, ◌≡◌, ◌≢◌}, lemmas.List.length-map}
use Rattle.std.specs.List.{concat}
use Rattle.cut_edits.proofs.LaidPassLemmas.{appends-as_prefix}
use Rattle.frame_writer.specs.Frames.{bytes_of_frames}
use Rattle.joined_inputs.proofs.RestLemmas.{rest-names, rest-parts, rest-rows, rest-within}
use Rattle.joined_inputs.proofs.SourceLemmas.{first-source, ranges-beside, told-beside}
use Rattle.joined_inputs.proofs.StepLemmas.{cause-at, source-ready, told_ranges}
use Rattle.joined_inputs.proofs.written.append_joined.Goals.{After-append_front}
use Rattle.joined_inputs.specs.{Inputs.{input_names, input_view, InputFields}, Laying.join_bytes}
use Rattle.joined_inputs.specs.Ranges.{RangeFields, rest_of_input}
use Rattle.laying.specs.{Relaid.relaid_frames, Written.front_blocks}
use Rattle.outside.proofs.BufferOutputLemmas.{err_at, passed_there}
use Rattle.outside.proofs.FilesLemmas.{appended_leaves, appended_there, touches_none}
use Rattle.outside.proofs.PassLemmas.{cause_behind, cause_later, prefix_as, prefix_then, writes_all}
use Rattle.outside.proofs.PassLemmas.{writes_as, writes_end, writes_then}
use Rattle.outside.specs.Files.{Files, Holds, LeavesAllBut}
use Rattle.outside.specs.Pass.{AppendsMadeBytes, WritesMadeBytes, WritesPrefix}
use Rattle.outside.specs.declared.pass.PassFault.{PassFault}
use Rattle.slot_plan.specs.{Plans.entries, declared.needs.Placed.Placed}
use Rattle.sync_survey.specs.Faults.{survey_view}
use Rattle.joined_inputs.proofs.written.append_joined.Given as given
use Rattle.joined_inputs.proofs.written.append_joined.Goals as goal

pub append_front-requires-clause-ready : goal.append_front-requires-clause-ready
append_front-requires-clause-ready g c = grind (arith, source-ready, first-source)

-- the blocks, the Info frame and all frames are the file
module _ (g : given.Over) (c : After-append_front g) where
  abbrev old : Files
  old = (g.D.Folder.seen c.args.folder.now).files

  abbrev inputs : List InputFields
  inputs = map input_view c.args.inputs.now

  abbrev ranges : List RangeFields
  ranges = map rest_of_input inputs

  -- there is a first input
  some : 0 < length (input_names inputs)
  some = rw c.requires.join.are (omega arith)

  abbrev whole : List ℕ → List ℕ
  whole = join_bytes old inputs c.args.work.now

  abbrev front : List ℕ → List ℕ
  front file =
      concat (front_blocks file (survey_view c.args.first.now.survey.now)) ++ c.as_slice.result.now

  abbrev frames : Files → List Placed → List ℕ
  frames mid placed = bytes_of_frames (relaid_frames (told_ranges mid ranges) placed)

  all : (mid : Files) (placed : List Placed) → placed ≡ entries c.args.work.now.plan
      → LeavesAllBut (c.args.first.now.pass.output.now ∷ []) old mid
      → (file : List ℕ) → Holds old c.args.first.now.pass.input.now file
      → front file ++ frames mid placed ≡ whole file
  all mid placed is only file holds = grind (arith, told-beside, rest-parts old inputs, flat_map)

  -- the front, and then the frames, or a part of them
  module _ {mid : Files} {placed : List Placed} (is : placed ≡ entries c.args.work.now.plan)
      {waiting : List ℕ} (none : waiting ≡ [])
      (begins : AppendsMadeBytes
      c.args.first.now.pass.input.now c.args.first.now.pass.output.now front old
      mid)
    where
      begun : WritesMadeBytes c.args.first.now.pass front [] waiting old mid
      begun = rw none (record {
        piece = begins.bytes;
        is = begins.is;
        passed = record {
          passed = begins.bytes;
          split = sym (append-nil begins.bytes);
          files = begins.files;
        };
      })

      apart : c.args.first.now.pass.input.now ≢ c.args.first.now.pass.output.now
      apart = c.requires.join.apart

      only : LeavesAllBut (c.args.first.now.pass.output.now ∷ []) old mid
      only = rw begins.files (appended_leaves old c.args.first.now.pass.output.now begins.bytes)

      both : {after : List ℕ} {new : Files}
          → WritesMadeBytes c.args.first.now.pass (λ file. frames mid placed) waiting after mid new
          → WritesMadeBytes c.args.first.now.pass whole [] after old new
      both rest =
          let pass = c.args.first.now.pass in
          writes_as pass (all mid placed is only) (writes_then apart begun rest)

      part : {new : Files} {fault : PassFault}
          → WritesPrefix c.args.first.now.pass (λ file. frames mid placed) waiting mid new fault
          → WritesPrefix c.args.first.now.pass whole [] old new fault
      part rest =
          let pass = c.args.first.now.pass in
          appends-as_prefix (all mid placed is only) (prefix_then apart begun rest)

pub returns-in-Err : goal.returns-in-Err
returns-in-Err g c =
    let at = (goal.at.returns-in-Err g c).After-append_front in
    let placed = entries c.args.work.now.plan in
    let first = old g at in
    let none = (touches_none (c.args.first.now.pass.output.now ∷ []) first).others in
    record {
      written = tt;
      prefix = prefix_as c.args.first.now.pass (whole g at) (λ _. frames g at first placed)
          (λ file holds. sym (all g at first placed refl none file holds)) c.in-Err.ensures.prefix;
      done = tt;
      cause = record {
        within = some g at;
        size = _;
        cause = cause-at (input_names (inputs g at)) 0 _ _ _ _ _ _
            (ap input_names c.requires.join.are) c.in-Err.ensures.cause;
      };
    }

pub lay_all-requires-clause-few : goal.lay_all-requires-clause-few
lay_all-requires-clause-few g c = grind (arith, length-map)

pub lay_all-requires-clause-pass : goal.lay_all-requires-clause-pass
lay_all-requires-clause-pass g c =
    let join = c.requires.join in
    let files = c.in_default.ensures.written.files in
    record {
      begins = _;
      later = _;
      are = ap (map rest_of_input) join.are;
      named = refl;
      apart = join.apart;
      sources = ranges-beside _ _ _ _ _ (rw files (appended_leaves _ _ _)) join.sources;
      target = rw files (appended_there _ _ _);
    }

pub lay_all-requires-clause-within : goal.lay_all-requires-clause-within
lay_all-requires-clause-within g c = rest-within _ c.requires.fits.within

pub lay_all-requires-clause-fits : goal.lay_all-requires-clause-fits
lay_all-requires-clause-fits g c = grind (arith, rest-rows)

pub returns-in_err-lay_all : goal.returns-in_err-lay_all
returns-in_err-lay_all g c =
    let w = (goal.at.returns-in_err-lay_all g c).After-append_front in
    let mid = (g.D.Folder.seen c.append_front.new.folder).files in
    let front = c.in_default.ensures.written in
    let h = c.in_err-lay_all.ensures.cause in
    let rest = part g w c.placed.ensures c.in_default.ensures.none front
    c.in_err-lay_all.ensures.prefix in
    record {
      written = search rules;
      prefix = err_at c.from_residual.result _ c.from_residual.ensures.1 rest;
      done = search rules;
      cause = search (arith, err_at, cause_later, rest-names);
    }

pub finish-requires : goal.finish-requires
finish-requires g c = passed_there c.in_ok-lay_all.ensures.written.passed

pub returns-in-Ok : goal.returns-in-Ok
returns-in-Ok g c =
    let w = (goal.at.returns-in-Ok g c).After-append_front in
    let mid = (g.D.Folder.seen c.append_front.new.folder).files in
    let rest = both g w c.placed.ensures c.in_default.ensures.none
    c.in_default.ensures.written c.in_ok-lay_all.ensures.written in
    record {
      written = writes_all rest c.in-Ok.ensures.appended;
      prefix = tt;
      done = search rules;
      cause = tt;
    }

pub returns-in-Err-finish : goal.returns-in-Err-finish
returns-in-Err-finish g c =
    let w = (goal.at.returns-in-Err-finish g c).After-append_front in
    let mid = (g.D.Folder.seen c.append_front.new.folder).files in
    let front = c.in_default.ensures.written in
    let frames = c.in_ok-lay_all.ensures in
    let rest = both g w c.placed.ensures c.in_default.ensures.none front
    frames.written in
    record {
      written = tt;
      prefix = writes_end rest c.in-Err-finish.ensures.prefix;
      done = tt;
      cause = record {
        within = some g w;
        size = _;
        cause = cause-at (input_names (inputs g w)) 0 _ _ _ _ _ _
            (ap input_names c.requires.join.are)
            (cause_later _ _ c.args.first.now.pass.output.now front.bytes _
            c.in-Err-finish.fault front.files c.in_default.ensures.done
            (cause_behind frames.written _ _ frames.done c.in-Err-finish.fault
            c.in-Err-finish.ensures.cause));
      };
    }
