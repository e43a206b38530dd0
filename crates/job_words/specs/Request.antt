-- What the program is asked to do. Names are bytes.
use Rattle.std.specs.List.{All}
use Rattle.std.specs.Prelude.{Bool, Err, IsTrue, length, List, map, neg_ℤ, Ok, pos, Result}
use Rattle.std.specs.Prelude.{string_bytes, ℕ, ℤ, ◌≤ℤ◌, ◌<◌, ◌≤◌}
use Rattle.cue_sheet.specs.{Places.IsPlace, declared.place.Place.Place}
use Rattle.exact_span.specs.{Places.IsExactPlace, declared.exact_place.ExactPlace.ExactPlace}
use Rattle.job_words.specs.{Kinds.is_name, declared.jobs.Job.Job}
use Rattle.requests.specs.declared.{mode.PackMode.PackMode, shift.Shift.Shift}
use Rattle.job_words.specs.declared.jobs.Job.TheVariants as job

-- what is asked for
pub data Request : Type 0 where
  Help : Request
  Version : Request
  -- the name of the file that is listed, and of the file that is described
  ListFile : List ℕ → Request
  InfoFile : List ℕ → Request
  -- the change, whether it is noted in the tag, the names of the input and of the output
  Gain : Shift → Bool → List ℕ → List ℕ → Request
  -- the names of the input and of the output
  Undo : List ℕ → List ℕ → Request
  -- the position of the first frame and of the first frame after them,
  -- whether each has the least slot, the names of the input and of the output
  Cut : Place → Place → Bool → List ℕ → List ℕ → Request
  -- the name of the input, the place of the first sample and
  -- of the first sample after them, and the name of the output
  CutExact : List ℕ → ExactPlace → ExactPlace → List ℕ → Request
  -- how the bit rates are chosen, the names of the input and of the output
  Pack : PackMode → List ℕ → List ℕ → Request
  -- the name of the input, what the names of the outputs begin with, and the positions
  SplitAt : List ℕ → List ℕ → List Place → Request
  -- the name of the input, what the names of the outputs
  -- begin with, and the places among the samples
  SplitExact : List ℕ → List ℕ → List ExactPlace → Request
  -- whether it is split at samples, the name of the input, what the
  -- names of the outputs begin with, and the name of the cue sheet
  SplitBy : Bool → List ℕ → List ℕ → List ℕ → Request
  -- whether frames that only a piece needs are left out, the names of the output and of the inputs
  Join : Bool → List ℕ → List (List ℕ) → Request
  -- the seed of a stream, and the number of its frames
  Drill : ℕ → ℕ → Request
  -- whether a fade is undone, the names of the input, of the output and of the sheet
  Fade : Bool → List ℕ → List ℕ → List ℕ → Request
  -- the names of the input and of the output
  Salvage : List ℕ → List ℕ → Request
  -- the names of the input and of the output, and the stretches that go: of
  -- each the place of its first frame, and of the first frame that stays after it
  Remove : List ℕ → List ℕ → List (ExactPlace × ExactPlace) → Request

-- ---- what is asked for is in range

-- a word that can be a file's name
abbrev pub IsName : List ℕ → Type 0
IsName word = IsTrue (is_name word)

-- a number of steps that can be asked for
pub record IsStepCount (steps : ℤ) : Type 0 where
  pub low : neg_ℤ (pos 255) ≤ℤ steps
  pub high : steps ≤ℤ pos 255

-- the names of files that can be joined
pub record AreJoinNames (inputs : List (List ℕ)) : Type 0 where
  pub some : 1 ≤ length inputs
  pub few : length inputs ≤ 64
  pub names : All IsName inputs

-- positions at which a stream can be split
pub record AreSplitPlaces (places : List Place) : Type 0 where
  pub some : 2 ≤ length places
  pub few : length places ≤ 100
  pub each : All IsPlace places

-- places among the samples at which a stream can be split
pub record AreExactPlaces (places : List ExactPlace) : Type 0 where
  pub some : 2 ≤ length places
  pub few : length places ≤ 100
  pub each : All IsExactPlace places

-- a stretch whose places can be asked for
abbrev pub IsStretch : ExactPlace × ExactPlace → Type 0
IsStretch stretch = IsExactPlace stretch.0 × IsExactPlace stretch.1

-- stretches that can be removed
pub record AreStretches (stretches : List (ExactPlace × ExactPlace)) : Type 0 where
  pub some : 1 ≤ length stretches
  pub few : length stretches ≤ 50
  pub each : All IsStretch stretches

-- a seed of a stream
abbrev pub IsSeed : ℕ → Type 0
IsSeed seed = seed < 2147483648

-- a number of frames of such a stream that can be asked for
pub record IsCount (count : ℕ) : Type 0 where
  pub some : 1 ≤ count
  pub few : count ≤ 20000

-- what is asked for is sound: its names, steps, positions and numbers can be asked for
abbrev pub IsSoundRequest : Request → Type 0
IsSoundRequest Help = Unit {0}
IsSoundRequest Version = Unit {0}
IsSoundRequest (ListFile input) = IsName input
IsSoundRequest (InfoFile input) = IsName input
IsSoundRequest (Gain shift tags input output) =
    IsName input × IsName output × IsStepCount shift.steps
IsSoundRequest (Undo input output) = IsName input × IsName output
IsSoundRequest (Cut from to least input output) =
    IsName input × IsName output × IsPlace from × IsPlace to
IsSoundRequest (CutExact input from to output) =
    IsName input × IsName output × IsExactPlace from × IsExactPlace to
IsSoundRequest (Pack mode input output) = IsName input × IsName output
IsSoundRequest (SplitAt input prefix places) = IsName input × IsName prefix × AreSplitPlaces places
IsSoundRequest (SplitExact input prefix places) =
    IsName input × IsName prefix × AreExactPlaces places
IsSoundRequest (SplitBy exact input prefix sheet) = IsName input × IsName prefix × IsName sheet
IsSoundRequest (Join seamless output inputs) = IsName output × AreJoinNames inputs
IsSoundRequest (Drill seed count) = IsSeed seed × IsCount count
IsSoundRequest (Fade back input output sheet) = IsName input × IsName output × IsName sheet
IsSoundRequest (Salvage input output) = IsName input × IsName output
IsSoundRequest (Remove input output stretches) =
    IsName input × IsName output × AreStretches stretches

-- ---- the jobs of the code

-- what a job of the code asks for
abbrev pub job_request : Job → Request
job_request job.Help = Help
job_request job.Version = Version
job_request (job.List input) = ListFile input.now
job_request (job.Info input) = InfoFile input.now
job_request (job.Gain shift tags input output) = Gain shift tags input.now output.now
job_request (job.Undo input output) = Undo input.now output.now
job_request (job.Cut from to least input output) = Cut from to least input.now output.now
job_request (job.CutExact input from to output) = CutExact input.now from to output.now
job_request (job.Pack mode input output) = Pack mode input.now output.now
job_request (job.SplitAt input prefix places) = SplitAt input.now prefix.now places.items
job_request (job.SplitExact input prefix places) = SplitExact input.now prefix.now places.items
job_request (job.SplitBy exact input prefix sheet) = SplitBy exact input.now prefix.now sheet.now
job_request (job.Join seamless output inputs) =
    Join seamless output.now (map string_bytes inputs.now)
job_request (job.Drill seed count) = Drill seed count
job_request (job.Fade back input output sheet) = Fade back input.now output.now sheet.now
job_request (job.Salvage input output) = Salvage input.now output.now
job_request (job.Remove input output stretches) = Remove input.now output.now stretches.items

-- what is asked for, or the place of the bad word
abbrev pub request_result : Result Job ℕ → Result Request ℕ
request_result (Ok job) = Ok (job_request job)
request_result (Err place) = Err place
