-- What a pass that repacks frames makes of its output.
use Rattle.std.specs.Prelude.{drop, if◌then◌else◌, length, List, map, min, slice_range, take, ℕ, []}
use Rattle.std.specs.Prelude.{◌++◌, ◌+◌, ◌-◌, ◌<◌, ◌==◌, ◌∷◌, ◌≡◌, ◌≤◌}
use Rattle.frame_header.specs.{Fields.ClassFields, Tables.{area_of, class_of, window_of}}
use Rattle.frame_writer.specs.{Frames.{all_frame_data, Frame, WaitingFrames}, Laid.BeginsWithin}
use Rattle.frame_writer.specs.Writing.{AreBytesBehind, IsNewQueue, IsWriterOf, Writing, writing_of}
use Rattle.laying.specs.{Fits.{FitsFromReach, last_reach, reach_behind}, Needs.need_of}
use Rattle.laying.specs.Relaid.{all_frames, frame_with_place, planned_frame, relaid_frames}
use Rattle.laying.specs.{Relaid.survey_frame, Surveys.CanBeRelaid}
use Rattle.laying.specs.declared.{buffers.RelayBuffers.RelayBuffers, relay.Relay.Relay}
use Rattle.outside.specs.{Feed.{Fed, IsFedFrom}, Files.{Files, Holds, with_appended_bytes}}
use Rattle.outside.specs.{Pass.IsPassReady, declared.pass.PassFault.{PassFault, TheVariants.Write}}
use Rattle.reservoir.specs.Window.{IsWindowOver}
use Rattle.slot_plan.specs.declared.needs.{Need.Need, Placed.Placed}
use Rattle.sync_survey.specs.Faults.{survey_view, SurveyFields}
use Rattle.sync_survey.specs.MainData.{area_bytes, data_end_before, main_bytes, own_area, place}
use Rattle.sync_survey.specs.{Row.Row, Survey.IsSurveyLaidOut}

-- The survey is that of the input, which is read while the
-- output is written, and the feed holds bytes of the input.
pub record IsRelayReady (relay : Relay) (files : Files) (fed : Fed) : Type 0 where
  pub pass : IsPassReady relay.pass files fed
  pub length_is : relay.pass.length ≡ (survey_view relay.survey.now).length
  pub exact : (file : List ℕ) → Holds files relay.pass.input.now file
      → CanBeRelaid file (survey_view relay.survey.now)
  pub laid : IsSurveyLaidOut (survey_view relay.survey.now)

-- the feed holds bytes of no file, nothing waits, and
-- the writer was given no frame of this class yet
pub record IsRelayFresh (class : ClassFields) (b : RelayBuffers) : Type 0 where
  pub fed : (files : Files) (name : List ℕ) → IsFedFrom b.feed files name
  pub none : b.waiting ≡ []
  pub new : IsNewQueue class b.writer

-- what waits for the output
abbrev pub writing_in : RelayBuffers → Writing
writing_in b = writing_of b.writer b.waiting

-- A window is over as many bytes as the areas of the head and of the frames before
-- frame i have. If the input's content is known, they are the bytes of these areas.
pub record IsWindowOverFrames (window input : List ℕ) (files : Files) (s : SurveyFields)
    (i : ℕ) : Type 0 where
  pub main : List ℕ
  pub held : IsWindowOver window main
  pub long : length main ≡ place s.head s.frames i
  pub is : (file : List ℕ) → Holds files input file
      → main ≡ main_bytes file s.head (take i s.frames)

-- `held` bytes before the area of frame i reach back to
-- the end of the main data before it, or are at least 511
abbrev pub ReachesBack : ℕ → SurveyFields → ℕ → Type 0
ReachesBack held s i = min 511 (place s.head s.frames i - data_end_before s.head s.frames i) ≤ held

-- A window, and after it `count` bytes of the input at offset `at`, hold the last bytes of
-- the areas of the head and of the frames before frame i, as many as later main data can
-- reach: main data begin neither before the end of those before them nor more than 511 bytes
-- before their own area. If the input's content is known, they are the bytes of these areas.
pub record HoldsLastAreas (window input : List ℕ) (files : Files) (s : SurveyFields)
    (at count i : ℕ) : Type 0 where
  pub passed : List ℕ
  pub long : length passed + length window + count ≡ place s.head s.frames i
  pub reaches : ReachesBack (length window + count) s i
  pub within : at + count ≤ s.length
  pub few : count ≤ 1939
  pub is : (file : List ℕ) → Holds files input file
      → (passed ++ window) ++ take count (drop at file) ≡ main_bytes file s.head (take i s.frames)

-- A window with these bytes after it holds the last bytes of the areas in the same way.
pub record HoldsLastWithBytes (window last input : List ℕ) (files : Files) (s : SurveyFields)
    (i : ℕ) : Type 0 where
  pub passed : List ℕ
  pub long : length passed + length window + length last ≡ place s.head s.frames i
  pub reaches : ReachesBack (length window + length last) s i
  pub few : length last ≤ 1939
  pub is : (file : List ℕ) → Holds files input file
      → (passed ++ window) ++ last ≡ main_bytes file s.head (take i s.frames)

-- how many bytes of areas are before the first one that was read;
-- if that is the first frame's, the area of the head was read too
abbrev pub skipped_area_bytes : SurveyFields → ℕ → ℕ
skipped_area_bytes s first = if first == 0 then 0 else place s.head s.frames first

-- A window is over those of the areas before frame i that begin with the area of this
-- first frame. If the input's content is known, its bytes are the bytes of these areas.
pub record IsWindowOverLast (window input : List ℕ) (files : Files) (s : SurveyFields)
    (first i : ℕ) : Type 0 where
  pub main : List ℕ
  pub held : IsWindowOver window main
  pub long : skipped_area_bytes s first + length main ≡ place s.head s.frames i
  pub is : (file : List ℕ) → Holds files input file
      → (skipped : List ℕ) × (length skipped ≡ skipped_area_bytes s first)
      × (main_bytes file s.head (take i s.frames) ≡ skipped ++ main)

-- `count` bytes of the input from offset `at` on were
-- given. If its content is known, they are its bytes there.
pub record AreGivenBytes (given input : List ℕ) (files : Files) (at count : ℕ) : Type 0 where
  pub long : length given ≡ count
  pub is : (file : List ℕ) → Holds files input file → given ≡ take count (drop at file)

-- These are as many bytes as the area of a frame has. If the
-- input's content is known, they are the bytes of that area.
pub record IsAreaOf (area input : List ℕ) (files : Files) (row : Row) : Type 0 where
  pub long : length area ≡ own_area row.header
  pub is : (file : List ℕ) → Holds files input file → area ≡ area_bytes file row.offset row.header

-- An area comes after a window, `own` bytes of areas come after it, and its first `taken`
-- bytes are before the end of the last main data. Then the window is over the end of the area
-- alone: at least what is after the taken bytes, or enough for 511 bytes with those after the
-- area. Or it is over all that it held and the whole area, none of which was taken.
pub record KeepsReach (old new area : List ℕ) (own taken : ℕ) : Type 0 where
  pub first : ℕ
  pub within : first ≤ length area
  pub many : min (511 - own) (length area - taken) ≤ length area - first
  pub whole : taken + first ≡ 0 → IsWindowOver new (old ++ area)
  pub rest : 0 < taken + first → IsWindowOver new (drop first area)

-- Frames were passed to the writer and more was appended to the output. If
-- the input's content is known, they are the frames made from its bytes.
pub record LaysFrames (input output : List ℕ) (made : List ℕ → List Frame) (old new : Writing)
    (before after : Files) : Type 0 where
  pub frames : List Frame
  pub is : (file : List ℕ) → Holds before input file → frames ≡ made file
  pub passed : List ℕ
  pub files : after ≡ with_appended_bytes before output passed
  pub writer : (base out : List ℕ) (fs : List Frame) → IsWriterOf base out old fs
      → IsWriterOf base (out ++ passed) new (fs ++ frames)

-- The pass ended early: a prefix of the bytes was
-- appended, and after a failed write not all of them.
pub record PassEndsEarly (name bytes : List ℕ) (old new : Files) (fault : PassFault) : Type 0 where
  pub count : ℕ
  pub within : count ≤ length bytes
  pub short : fault ≡ Write → count < length bytes
  pub files : new ≡ with_appended_bytes old name (take count bytes)

-- Only the first of these frames were passed to the writer, or all of them. A
-- prefix was appended of bytes that no later main data can reach, whatever frames
-- follow, if their main data begin within `reach` bytes before their own area.
pub record LaysPart (input output : List ℕ) (made : List ℕ → List Frame) (reach : ℕ) (old : Writing)
    (before after : Files) (fault : PassFault) : Type 0 where
  pub settled : List ℕ
  pub prefix : PassEndsEarly output settled before after fault
  pub done : List Frame
  pub held : WaitingFrames
  pub writer : (base out : List ℕ) (fs : List Frame) → IsWriterOf base out old fs
      → AreBytesBehind base (out ++ settled) held (fs ++ done)
  pub is : (file : List ℕ) → Holds before input file → (more : List Frame)
      → BeginsWithin reach (all_frame_data more)
      → (rest : List Frame) × (done ++ rest ≡ made file ++ more)
      × BeginsWithin held.waiting.free (all_frame_data rest)

-- ---- for a relay and its buffers

-- `LaysFrames` for a relay, from its input to its output
abbrev pub GivesFrames : Relay → (List ℕ → List Frame) → RelayBuffers → RelayBuffers → Files → Files
    → Type 0
GivesFrames relay made old new before after =
    LaysFrames relay.pass.input.now relay.pass.output.now made
    (writing_in old) (writing_in new) before after

-- `LaysPart` for a relay that ended early
abbrev pub GivesPart : Relay → (List ℕ → List Frame) → ℕ → RelayBuffers → Files → Files → PassFault
    → Type 0
GivesPart relay made reach old before after fault = LaysPart relay.pass.input.now
    relay.pass.output.now made reach (writing_in old) before after fault

-- frame i in its slot
abbrev pub relay_frame : Relay → ℕ → Row → Placed → List ℕ → List Frame
relay_frame relay i row p file =
    frame_with_place p (survey_frame file (survey_view relay.survey.now) i row) ∷ []

-- what is at a place of the plan: the lead-in before frame i, or the frame
abbrev pub relay_planned_frame : Relay → ℕ → Row → Placed → List ℕ → List Frame
relay_planned_frame relay i row p file =
    planned_frame p (survey_frame file (survey_view relay.survey.now) i row) ∷ []

-- the frames from number `from` up to, but not including, number `to`, as they were planned
abbrev pub planned_frames : Relay → ℕ → ℕ → List Placed → List ℕ → List Frame
planned_frames relay from to placed file =
    relaid_frames (slice_range (all_frames file (survey_view relay.survey.now)) from to) placed

-- how many bytes before a frame's own area main data may begin at most in this stream
abbrev pub survey_window : SurveyFields → ℕ
survey_window s = window_of s.class.version

-- how many bytes before the next area main data may begin after this frame in its slot
abbrev pub own_reach : Relay → Row → Placed → ℕ
own_reach relay row p = min (survey_window (survey_view relay.survey.now))
    (p.begin + area_of (class_of row.header) p.slot row.header.protected - (need_of row).bytes)

-- how many bytes before the next area main data may begin after what is at this place of the plan
abbrev pub placed_reach : Relay → Row → Placed → ℕ
placed_reach relay row p =
    reach_behind (survey_window (survey_view relay.survey.now)) p (need_of row)

-- what the frames from number `from` up to, but not including, number `to` need
abbrev pub needs_from : SurveyFields → ℕ → ℕ → List Need
needs_from s from to = map need_of (slice_range s.frames from to)

-- how many bytes before the next area main data may begin after all these places
abbrev pub reach_behind_all : ℕ → Relay → ℕ → ℕ → List Placed → ℕ
reach_behind_all reach relay from to placed =
    last_reach (survey_window (survey_view relay.survey.now)) reach
    (needs_from (survey_view relay.survey.now) from to) placed

-- the plan can be written frame by frame, if main data
-- may begin at most `reach` bytes before the first area
abbrev pub FitsRelayReach : ℕ → Relay → ℕ → ℕ → List Placed → Type 0
FitsRelayReach reach relay from to placed =
    FitsFromReach (survey_window (survey_view relay.survey.now)) reach
    (needs_from (survey_view relay.survey.now) from to) placed
