-- Steps of a pass, in order.
use Rattle.std.proofs.Common.{append-nil, append_assoc, arith, IsErrAnd, length-append, List, OnOk}
use Rattle.std.proofs.Common.{refl, Result, subst, sym, take, ℕ, [], ◌++◌, ◌∙◌, ◌∷◌, ◌≡◌, ◌≢◌, ◌≤◌}
use Rattle.std.proofs.Math.Seq.{take-append-add}
use Rattle.frame_writer.specs.Frames.{all_frame_data, Frame, WaitingFrames}
use Rattle.frame_writer.specs.Laid.{BeginsWithin, FrameData}
use Rattle.frame_writer.specs.Writing.{AcceptsFrame, WritesPart, Writing}
use Rattle.laying.specs.Passing.{HoldsLastAreas, IsRelayReady, LaysFrames, LaysPart, PassEndsEarly}
use Rattle.laying.specs.declared.relay.Relay.{Relay}
use Rattle.outside.proofs.FilesLemmas.{appended_nothing, appended_twice}
use Rattle.outside.proofs.PassLemmas.{input_held, input_holds, ready_later}
use Rattle.outside.specs.{BufferOutput.{AppendedPrefix, AppendsWaiting}, Feed.Fed}
use Rattle.outside.specs.Files.{Files, Holds, IsFileThere, with_appended_bytes}
use Rattle.outside.specs.{Pass.{IsPassReady, IsReadPassFault}, declared.pass.PassFault.PassFault}
use Rattle.sync_survey.specs.Faults.{SurveyFields}

module _ (relay : Relay) (old new : Files) (fed now : Fed) where
  ready-held : ((file : List ℕ) → Holds new relay.pass.input.now file
      → Holds old relay.pass.input.now file) → IsRelayReady relay old fed
      → IsPassReady relay.pass new now → IsRelayReady relay new now
  ready-held held ready pass = grind arith

  -- all is ready for the next step after bytes were appended
  -- to the output, with the feed still on the input
  pub ready-with : (more : List ℕ) → new ≡ with_appended_bytes old relay.pass.output.now more
      → IsRelayReady relay old fed → IsPassReady relay.pass new now → IsRelayReady relay new now
  ready-with more is ready = grind (arith, ready-held, input_held)

  -- if no file changed, all is ready for the next step
  pub ready-filled : new ≡ old → IsRelayReady relay old fed → IsPassReady relay.pass new now
      → IsRelayReady relay new now
  ready-filled same = ready-held (λ file. subst (λ f. Holds f relay.pass.input.now file) same)

-- after bytes were appended to the output, all is ready for the next step
pub ready-later : {relay : Relay} {old new : Files} {fed : Fed} (more : List ℕ)
    → new ≡ with_appended_bytes old relay.pass.output.now more → IsRelayReady relay old fed
    → IsRelayReady relay new fed
ready-later more is ready = search (arith, ready-with, ready_later)

-- after a buffer passed something on, all is ready for the next step
pub ready-passed : {relay : Relay} {before after : List ℕ} {old new : Files} {fed : Fed}
    → AppendsWaiting relay.pass.output.now before after old new → IsRelayReady relay old fed
    → IsRelayReady relay new fed
ready-passed {before = before} {after = after} {old = old} {new = new} {fed = fed} passed ready =
    search (arith, ready-later)

-- after bytes were appended to another file, the
-- window still holds the last of the input's main data
pub holds-later : {window input output : List ℕ} {s : SurveyFields} {at count i : ℕ}
    {old new : Files} (more : List ℕ) → input ≢ output → new ≡ with_appended_bytes old output more
    → HoldsLastAreas window input old s at count i → HoldsLastAreas window input new s at count i
holds-later more apart is over = grind (arith, input_held)

-- after a failed write a pass ended early
pub ends-short : {name bytes : List ℕ} {old new : Files} {fault : PassFault}
    → AppendedPrefix name bytes old new → PassEndsEarly name bytes old new fault
ends-short part = grind arith

-- ---- frames passed to the writer

-- main data that begin within one reach begin within a longer one
pub begins_more : {reach free : ℕ} (ps : List FrameData) → reach ≤ free → BeginsWithin reach ps
    → BeginsWithin free ps
begins_more ps within begins = grind arith

module _ (input output : List ℕ) where
  -- before the first frame none was laid
  pub lays_none : {made : List ℕ → List Frame} (w : Writing) {files : Files}
      → IsFileThere files output → ((file : List ℕ) → Holds files input file → [] ≡ made file)
      → LaysFrames input output made w w files files
  lays_none w {files} there none = record {
    frames = [];
    is = none;
    passed = [];
    files = sym (appended_nothing files output there);
    writer = grind (arith, append-nil);
  }

  -- a frame that the writer accepted was laid
  pub lays_one : {made : List ℕ → List Frame} {f : Frame} {old new : Writing} {before after : Files}
      → ((file : List ℕ) → Holds before input file → f ∷ [] ≡ made file)
      → AcceptsFrame output f old new before after
      → LaysFrames input output made old new before after
  lays_one {f = f} is on =
      record { frames = f ∷ []; is = is; passed = on.passed; files = on.files; writer = on.writer }

  -- laying some frames is laying any others that are equal
  pub lays_as : {made other : List ℕ → List Frame} {old new : Writing} {before after : Files}
      → ((file : List ℕ) → Holds before input file → made file ≡ other file)
      → LaysFrames input output made old new before after
      → LaysFrames input output other old new before after
  lays_as same lays = grind arith

  -- a write failed at the first of them
  pub part_one : {made : List ℕ → List Frame} {reach : ℕ} {f : Frame} {old : Writing}
      {held : WaitingFrames}
      {before after : Files} {fault : PassFault}
      → ((file : List ℕ) → Holds before input file → f ∷ [] ≡ made file) → reach ≤ held.waiting.free
      → WritesPart output f old held before after
      → LaysPart input output made reach old before after fault
  part_one {f = f} {held = held} is within part = record {
    settled = part.settled;
    prefix = ends-short part.prefix;
    done = f ∷ [];
    held = held;
    writer = part.writer;
    is = grind (arith, begins_more);
  }

  -- none of them was laid, as a read failed
  pub part_none : {made : List ℕ → List Frame} {reach : ℕ} {w : Writing} {files : Files}
      {fault : PassFault} → IsReadPassFault fault → IsFileThere files output
      → ((file : List ℕ) → Holds files input file → (more : List Frame) → BeginsWithin reach
      (all_frame_data more) → BeginsWithin w.held.waiting.free (all_frame_data (made file ++ more)))
      → LaysPart input output made reach w files files fault
  part_none {made} {w = w} read there begins = record {
    settled = w.unsent;
    prefix = grind (arith, appended_nothing);
    done = [];
    held = w.held;
    writer = grind (arith, append-nil);
    is = λ file holds more within. (made file ++ more, refl, begins file holds more within);
  }

  module _ {made : List ℕ → List Frame} (next : List ℕ → List Frame) {old mid : Writing}
      {before now : Files}
      (apart : input ≢ output) (lays : LaysFrames input output made old mid before now) where
    -- two steps lay what they made, concatenated
    pub lays_then : {new : Writing} {after : Files} → LaysFrames input output next mid new now after
        → LaysFrames input output (λ file. made file ++ next file) old new before after
    lays_then more = record {
      frames = lays.frames ++ more.frames;
      is = grind (arith, input_holds);
      passed = lays.passed ++ more.passed;
      files = grind (arith, appended_twice);
      writer = grind (arith, append_assoc);
    }

    -- if the second step failed, a part of that was laid
    pub part_then : {reach : ℕ} {after : Files} {fault : PassFault}
        → LaysPart input output next reach mid now after fault
        → LaysPart input output (λ file. made file ++ next file) reach old before after fault
    part_then part = record {
      settled = lays.passed ++ part.settled;
      prefix =
          grind (
            arith,
            length-append lays.passed part.settled,
            appended_twice before output
                lays.passed (take part.prefix.count part.settled),
            take-append-add lays.passed
                part.settled part.prefix.count,
          );
      done = lays.frames ++ part.done;
      held = part.held;
      writer = grind (arith, append_assoc);
      is = λ file holds more begins.
          let found = part.is file (input_holds before lays.passed file apart
          lays.files holds) more begins in (
            found.0,
            append_assoc lays.frames part.done found.0
                ∙ (λ i. lays.is file holds i ++ found.1 i)
                ∙ sym (append_assoc (made file) (next file) more),
            found.2,
          );
    }

-- a call that failed didn't succeed, so whatever is to hold on success holds
pub ok_never : {T E : Type 0} (P : Type 0) (Q : E → Type 0) (r : Result T E) → IsErrAnd r Q
    → OnOk r P
ok_never P Q r is = grind arith
