-- The second pass over the inputs of a join.
use Rattle.std.specs.List.{concat}
use Rattle.std.specs.Prelude.{flat_map, IfErr, length, List, map, None, OnOk, Option, Result}
use Rattle.std.specs.Prelude.{slice_index_or, slice_range, Some, ℕ, [], ◌++◌, ◌<◌, ◌∷◌, ◌≡◌, ◌≢◌}
use Rattle.std.specs.Prelude.{◌≤◌}
use Rattle.frame_header.specs.{Fields.ClassFields, Tables.window_of}
use Rattle.frame_writer.specs.Frames.{bytes_of_frames, Frame}
use Rattle.joined_inputs.specs.Inputs.{class_of_first, InputFields, parts_of}
use Rattle.joined_inputs.specs.Ranges.{AreRangeSources, rest_of_input}
use Rattle.joined_inputs.specs.declared.{stopped.Stopped.Stopped, work.JoinWork.JoinWork}
use Rattle.laying.specs.{Fits.FitsFromReach, Needs.needs_of_parts, Passing.IsRelayFresh}
use Rattle.laying.specs.{Relaid.{part_frames, relaid_frames}, Written.front_blocks}
use Rattle.laying.specs.declared.relay.Relay.{Relay}
use Rattle.outside.specs.{Counts.Counts, Files.{Files, IsFileThere}}
use Rattle.outside.specs.Pass.{AppendsMadeBytes, AppendsPrefix, HasPassCause, route}
use Rattle.outside.specs.{Pass.{WritesMadeBytes, WritesPrefix}, Seen.Seen}
use Rattle.slot_plan.specs.{Plans.entries, declared.needs.Placed.Placed}
use Rattle.sync_survey.specs.{Faults.survey_view, Row.Row}

-- ---- the frames that are written

-- how far main data may begin before their area in a stream of their class
abbrev pub window_for : Option ClassFields → ℕ
window_for None = 0
window_for (Some class) = window_of class.version

-- each input has at least as many frames as are left out at its front
abbrev pub AreFromsWithin : List InputFields → Type 0
AreFromsWithin [] = Unit {0}
AreFromsWithin (i ∷ inputs) = (i.from ≤ length i.survey.frames) × AreFromsWithin inputs

-- the frames of each input that are written
abbrev pub rest_rows : List InputFields → List (List Row)
rest_rows inputs =
    map (λ (i : InputFields). slice_range i.survey.frames i.from (length i.survey.frames)) inputs

-- the frames in the slots of a plan, with the contents that the folder has
abbrev pub placed_frames : Files → List InputFields → List Placed → List ℕ → List Frame
placed_frames files inputs placed _ =
    relaid_frames (flat_map part_frames (parts_of files inputs)) placed

-- the blocks of the first input before its frames
abbrev pub first_front_bytes : List ℕ → List InputFields → List ℕ
first_front_bytes file [] = []
first_front_bytes file (i ∷ inputs) = concat (front_blocks file i.survey)

-- the blocks, the Info frame, and these frames in the slots of the prepared plan
abbrev pub join_bytes : Files → List InputFields → JoinWork → List ℕ → List ℕ
join_bytes files inputs work file =
    (first_front_bytes file inputs ++ work.info.items)
    ++ bytes_of_frames (placed_frames files inputs (entries work.plan) file)

-- the plan can be written frame by frame, and the buffers are for frames of this class
pub record FitsWork (class : ClassFields) (inputs : List InputFields)
    (work : JoinWork) : Type 0 where
  pub within : AreFromsWithin inputs
  pub fits : FitsFromReach (window_of class.version) 0 (needs_of_parts (rest_rows inputs))
      (entries work.plan)
  pub fresh : IsRelayFresh class work.buffers

-- ---- the inputs beside the output

-- each of these is a source beside the output, and its frames are of this class
abbrev pub AreSources : ClassFields → List ℕ → Files → List InputFields → Type 0
AreSources class output files inputs = AreRangeSources class output files (map rest_of_input inputs)

-- the inputs are there, and their frames can be written by the prepared plan
pub record CanJoinBeWritten (output : List ℕ) (files : Files) (inputs : List InputFields)
    (work : JoinWork) : Type 0 where
  pub class : ClassFields
  pub first : class_of_first inputs ≡ Some class
  pub sources : AreSources class output files inputs
  pub fits : FitsWork class inputs work

-- The inputs are joined: this pass is over the first of them, with its survey, and writes another
-- file that is there.
pub record IsJoinPass (first : Relay) (inputs : List InputFields) (files : Files) : Type 0 where
  pub from : ℕ
  pub later : List InputFields
  pub are : inputs ≡ record {
    name = first.pass.input.now;
    survey = survey_view first.survey.now;
    from = from;
  } ∷ later
  pub length : first.pass.length ≡ (survey_view first.survey.now).length
  pub apart : first.pass.input.now ≢ first.pass.output.now
  pub sources : AreSources (survey_view first.survey.now).class first.pass.output.now files inputs
  pub target : IsFileThere files first.pass.output.now

-- ---- why the pass ends early

-- the pass over one of these inputs ended early, for this cause
pub record HasJoinCause (names : List (List ℕ)) (output : List ℕ) (files : Files)
    (before after : Counts) (stopped : Stopped) : Type 0 where
  pub within : stopped.number < length names
  pub size : ℕ
  pub cause : HasPassCause
      (route (slice_index_or names stopped.number []) output size) files before after stopped.fault

-- ---- what a step returns

-- The bytes made from the inputs were added to what waits for the output, or only a prefix was
-- appended.
pub record AddsJoined (first : Relay) (names : List (List ℕ)) (made : List ℕ → List ℕ)
    (before after : List ℕ) (old new : Seen) (result : Result (Unit {0}) Stopped) : Type 0 where
  pub written : OnOk result (WritesMadeBytes first.pass made before after old.files new.files)
  pub prefix : IfErr result
      (λ stopped. WritesPrefix first.pass made before old.files new.files stopped.fault)
  pub done : OnOk result (new.counts ≡ old.counts)
  pub cause : IfErr result
      (HasJoinCause names first.pass.output.now old.files old.counts new.counts)

-- The bytes made from the inputs were appended to the output, or only a prefix.
pub record AppendsJoined (first : Relay) (names : List (List ℕ)) (made : List ℕ → List ℕ)
    (old new : Seen) (result : Result (Unit {0}) Stopped) : Type 0 where
  pub written : OnOk result
      (AppendsMadeBytes first.pass.input.now first.pass.output.now made old.files new.files)
  pub prefix : IfErr result (λ stopped. AppendsPrefix first.pass.input.now first.pass.output.now
      made old.files new.files stopped.fault)
  pub done : OnOk result (new.counts ≡ old.counts)
  pub cause : IfErr result
      (HasJoinCause names first.pass.output.now old.files old.counts new.counts)
