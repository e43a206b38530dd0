-- What calls of a relay require, return and leave.
use Rattle.std.specs.Prelude.{drop, IfErr, length, List, OnErr, OnOk, Result, slice_get, Some, take}
use Rattle.std.specs.Prelude.{ℕ, [], ◌+◌, ◌≡◌, ◌≤◌}
use Rattle.frame_header.specs.Tables.{class_of, overhead_of}
use Rattle.frame_writer.specs.Frames.{EndsInArea, Frame, IsNextSettled, reach_after_frame, reach_of}
use Rattle.frame_writer.specs.{Frames.WaitingFrames, Writing.{AcceptsFrame, WritesPart, Writing}}
use Rattle.laying.specs.Passing.{GivesFrames, GivesPart, HoldsLastAreas, HoldsLastWithBytes}
use Rattle.laying.specs.Passing.{IsAreaOf, IsRelayReady, ReachesBack}
use Rattle.laying.specs.declared.{buffers.RelayBuffers.RelayBuffers, relay.AreaSpan.AreaSpan}
use Rattle.laying.specs.declared.relay.{HeldAreas.HeldAreas, NextFrame.NextFrame, Reading.Reading}
use Rattle.laying.specs.declared.relay.Relay.{Relay}
use Rattle.outside.specs.{BufferOutput.{AppendedPrefix, AppendsWaiting}, Feed.Fed, Files.Files}
use Rattle.outside.specs.Pass.{AppendsMadeBytes, AppendsPrefix, HasPassCause, IsReadPassFault}
use Rattle.outside.specs.{Pass.{route_of, WritesMadeBytes, WritesPrefix}, Seen.Seen}
use Rattle.outside.specs.declared.pass.PassFault.{PassFault}
use Rattle.reservoir.specs.Window.{window_size}
use Rattle.side_info.specs.{Side.{payload_bits, SideFits}, declared.frame_front.Extent.Extent}
use Rattle.sync_survey.specs.{Faults.{survey_view, SurveyFields}, MainData.own_area, Row.Row}
use Rattle.sync_survey.specs.Survey.{AreWellPlaced}

-- ---- the state

-- The input can be read, and frames of its class can be passed to the writer.
pub record IsRelayOpen (relay : Relay) (files : Files) (b : RelayBuffers) : Type 0 where
  pub ready : IsRelayReady relay files b.feed
  pub class : b.writer.class ≡ (survey_view relay.survey.now).class
  pub unsettled : IsNextSettled b.writer → ⊥

-- A window, and the area before the next frame if that
-- isn't in it yet, hold what that frame can reach.
abbrev pub HoldsUpTo : Relay → Reading → Files → List ℕ → Type 0
HoldsUpTo relay reading files window = HoldsLastAreas window relay.pass.input.now files
    (survey_view relay.survey.now) reading.at reading.count reading.next

-- The relay is open, and what the next frame can reach is held.
pub record IsRelayAtFrame (relay : Relay) (files : Files) (b : RelayBuffers)
    (reading : Reading) : Type 0 where
  pub on : IsRelayOpen relay files b
  pub over : HoldsUpTo relay reading files b.window

-- The next frame of the input is this one.
pub record IsNextFrame (relay : Relay) (reading : Reading) (next : NextFrame) : Type 0 where
  pub known : next.class ≡ (survey_view relay.survey.now).class
  pub found : slice_get (survey_view relay.survey.now).frames reading.next ≡ Some next.row.now

-- The writer can take the frame: it is of the writer's class,
-- and its main data begin within reach and end in its own area.
pub record CanGiveFrame (held : WaitingFrames) (f : Frame) : Type 0 where
  pub class : class_of f.kept.header ≡ held.class
  pub fits : SideFits held.class f.kept.side
  pub begin : f.kept.side.main_data_begin ≤ reach_of held
  pub within : EndsInArea f
  pub few : length f.payload ≤ window_size
  pub unsettled : IsNextSettled held → ⊥

-- ---- what is read

-- The input was read or couldn't be; the files stay, and reading can continue.
pub record RelayReadAnswer {T : Type 0} (relay : Relay) (fed : Fed) (old new : Seen)
    (result : Result T PassFault) : Type 0 where
  pub done : OnOk result (new.counts ≡ old.counts)
  pub cause : IfErr result (HasPassCause (route_of relay.pass) old.files old.counts new.counts)
  pub read : IfErr result IsReadPassFault
  pub files : new.files ≡ old.files
  pub ready : IsRelayReady relay new.files fed

-- The feed holds the bytes for the next frame: those of its
-- own area, and before them those that the window lacks.
pub record GivesArea (relay : Relay) (reading : Reading) (row : Row) (files : Files)
    (window given : List ℕ) (span : AreaSpan) : Type 0 where
  pub over : HoldsLastWithBytes window (take span.before given) relay.pass.input.now files
      (survey_view relay.survey.now) reading.next
  pub area : IsAreaOf (drop span.skip given) relay.pass.input.now files row
  pub before : span.before ≤ length given
  pub skip : span.skip ≤ length given
  pub at : span.at ≡ row.offset + overhead_of (class_of row.header) row.header.protected
  pub ends : span.at + length (drop span.skip given) ≤ (survey_view relay.survey.now).length

-- The main data of frame i can be cut out: they have `extent.bits` bits, begin
-- `extent.begin` bytes before its own area, and don't reach back to what isn't held.
pub record CanCutData (s : SurveyFields) (i : ℕ) (row : Row) (extent : Extent)
    (held : HeldAreas) : Type 0 where
  pub placed : AreWellPlaced s.head s.class s.frames
  pub found : slice_get s.frames i ≡ Some row
  pub begin : extent.begin ≡ row.side.main_data_begin
  pub bits : extent.bits ≡ payload_bits row.side
  pub area : length held.own.now ≡ own_area row.header
  pub few : length held.before.now ≤ 1939
  pub over : ReachesBack (length held.window.now + length held.before.now) s i

-- ---- what is written

-- A frame was passed to the writer, or a write failed.
pub record TakesFrame (relay : Relay) (f : Frame) (was now : Writing) (old new : Seen)
    (result : Result (Unit {0}) PassFault) : Type 0 where
  pub written : OnOk result (AcceptsFrame relay.pass.output.now f was now old.files new.files)
  pub part : OnErr result (WritesPart relay.pass.output.now f was now.held old.files new.files)
  pub reach : reach_of now.held ≡ reach_after_frame was.held.class f
  pub class : OnOk result (now.held.class ≡ was.held.class)
  pub unsettled : OnOk result (IsNextSettled now.held → ⊥)
  pub done : OnOk result (new.counts ≡ old.counts)
  pub cause : IfErr result (HasPassCause (route_of relay.pass) old.files old.counts new.counts)

-- These frames were passed to the writer, after which main data may begin
-- at most `behind` bytes before their own area, or only part of them was.
pub record RelayFramesAnswer {T : Type 0} (relay : Relay) (made : List ℕ → List Frame) (behind : ℕ)
    (was now : RelayBuffers) (old new : Seen) (result : Result T PassFault) : Type 0 where
  pub lays : OnOk result (GivesFrames relay made was now old.files new.files)
  pub part : IfErr result (GivesPart relay made behind was old.files new.files)
  pub reach : OnOk result (reach_of now.writer ≡ behind)
  pub done : OnOk result (new.counts ≡ old.counts)
  pub cause : IfErr result (HasPassCause (route_of relay.pass) old.files old.counts new.counts)

-- These bytes were forwarded to the output, except for
-- those that still wait for it, or a write failed.
pub record ForwardAnswer (relay : Relay) (bytes after : List ℕ) (old new : Seen)
    (result : Result (Unit {0}) PassFault) : Type 0 where
  pub passed : OnOk result (AppendsWaiting relay.pass.output.now bytes after old.files new.files)
  pub prefix : OnErr result (AppendedPrefix relay.pass.output.now bytes old.files new.files)
  pub done : OnOk result (new.counts ≡ old.counts)
  pub cause : IfErr result (HasPassCause (route_of relay.pass) old.files old.counts new.counts)

-- What is made from the input was added to what waits
-- for the output, or only a prefix was appended.
pub record AddMadeAnswer (relay : Relay) (made : List ℕ → List ℕ) (before after : List ℕ)
    (fed : Fed)
    (old new : Seen) (result : Result (Unit {0}) PassFault) : Type 0 where
  pub written : OnOk result (WritesMadeBytes relay.pass made before after old.files new.files)
  pub prefix : IfErr result (WritesPrefix relay.pass made before old.files new.files)
  pub done : OnOk result (new.counts ≡ old.counts)
  pub cause : IfErr result (HasPassCause (route_of relay.pass) old.files old.counts new.counts)
  pub ready : OnOk result (IsRelayReady relay new.files fed)

-- What is made from the input was appended to the output, or only a prefix of it.
pub record AppendMadeAnswer (relay : Relay) (made : List ℕ → List ℕ) (b : RelayBuffers)
    (old new : Seen)
    (result : Result (Unit {0}) PassFault) : Type 0 where
  pub written : OnOk result
      (AppendsMadeBytes relay.pass.input.now relay.pass.output.now made old.files new.files)
  pub prefix : IfErr result
      (AppendsPrefix relay.pass.input.now relay.pass.output.now made old.files new.files)
  -- on success nothing waits
  pub none : OnOk result (b.waiting ≡ [])
  pub done : OnOk result (new.counts ≡ old.counts)
  pub cause : IfErr result (HasPassCause (route_of relay.pass) old.files old.counts new.counts)
  pub ready : OnOk result (IsRelayReady relay new.files b.feed)
