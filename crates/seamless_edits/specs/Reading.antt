-- Inputs that are read before there is an output.
use Rattle.std.specs.Prelude.{length, List, slice_get, slice_index_or, Some, ℕ, [], ◌<◌, ◌∷◌, ◌≡◌}
use Rattle.commands.specs.AfterCall.{by_why, no_cause, why_of}
use Rattle.commands.specs.SingleOutput.{LosesInput, ReadsNothing}
use Rattle.commands.specs.declared.fault.EditFault.{EditFault}
use Rattle.joined_inputs.specs.{Inputs.InputFields, declared.stopped.Stopped.Stopped}
use Rattle.laying.specs.{Areas.IsHeld, Relaid.payload_of}
use Rattle.outside.specs.{Counts.Counts, Files.{Files, Holds}}
use Rattle.outside.specs.{Pass.{HasInputCause, IsReadPassFault, Route, route}, Seen.Seen}
use Rattle.seamless_edits.specs.declared.main_data.Source.{Source}
use Rattle.sync_survey.specs.{Faults.{survey_view, SurveyFields}, Row.Row}

-- ---- one input

-- the route of an input that is read before there is an output
abbrev pub source_route : Source → Route
source_route source = route source.name.now [] (survey_view source.survey.now).length

-- the main data of frame i, if the input's content is known
abbrev pub IsMainDataOf : List ℕ → Files → SurveyFields → ℕ → List ℕ → Type 0
IsMainDataOf input files s i bytes =
    (file : List ℕ) → Holds files input file → (r : Row) → slice_get s.frames i ≡ Some r
    → bytes ≡ payload_of file s i r

-- ---- all inputs

-- each of the inputs is there, with a survey by which its frames can be read
abbrev pub AreHeld : Files → List InputFields → Type 0
AreHeld files [] = Unit {0}
AreHeld files (i ∷ inputs) = IsHeld files i.name i.survey × AreHeld files inputs

-- ---- why the inputs can't be read

-- the pass over this input ended early, for this cause
pub record StopsAtInput (place : ℕ) (name : List ℕ) (files : Files) (before after : Counts)
    (stopped : Stopped) : Type 0 where
  pub place_is : stopped.number ≡ place
  pub size : ℕ
  pub cause : HasInputCause name size files before after stopped.fault
  pub read : IsReadPassFault stopped.fault

-- the pass over one of these inputs ended early, for this cause
pub record StopsAmongInputs (inputs : List (List ℕ)) (files : Files) (before after : Counts)
    (stopped : Stopped) : Type 0 where
  pub within : stopped.number < length inputs
  pub stops : StopsAtInput stopped.number (slice_index_or inputs stopped.number []) files before
      after
      stopped

-- one of the inputs could not be read
pub record ReadsNone (inputs : List (List ℕ)) (old new : Seen) (fault : EditFault) : Type 0 where
  pub place : ℕ
  pub within : place < length inputs
  pub reads : ReadsNothing place (slice_index_or inputs place []) old new fault

-- one of the inputs became shorter
pub record LosesOne (inputs : List (List ℕ)) (old new : Seen) (fault : EditFault) : Type 0 where
  pub place : ℕ
  pub within : place < length inputs
  pub loses : LosesInput place (slice_index_or inputs place []) old new fault

-- one of the inputs could not be read or became shorter, or memory ran out
abbrev pub IsInputReadFault : List (List ℕ) → Seen → Seen → EditFault → Type 0
IsInputReadFault inputs old new fault = by_why
    (record no_cause {
      unread = ReadsNone inputs old new fault;
      shorter = LosesOne inputs old new fault;
      no_memory = new ≡ old;
    })
    (why_of fault)
