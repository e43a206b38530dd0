-- Laws of frames on their way to a file.
use Rattle.std.proofs.Common.{append-nil, append_assoc, arith, drop, Err, length, length-append}
use Rattle.std.proofs.Common.{List, Ok, OnErr, OnOk, refl, Result, subst, take, ℕ, [], ◌++◌, ◌∷◌}
use Rattle.std.proofs.Common.{◌≡◌, ◌≤◌}
use Rattle.std.proofs.lemmas.List.{append_cancel_right, length-take-le, nil_from_length}
use Rattle.std.proofs.lemmas.List.{take-append-le}
use Rattle.frame_header.specs.Fields.{ClassFields}
use Rattle.frame_writer.proofs.FrameLemmas.{first-framed_bytes, first-written}
use Rattle.frame_writer.specs.Frames.{AreFramesWritten, first_bytes, Frame, frame_area, held_bytes}
use Rattle.frame_writer.specs.Frames.{IsNextSettled, WaitingFrames}
use Rattle.frame_writer.specs.{Laid.{AreAreasLaid, FrameData, WaitingAreas}, Writer.IsWriterSettled}
use Rattle.frame_writer.specs.Writing.{AcceptsFrame, AreBytesBehind, ForwardsBytes, ForwardsFrames}
use Rattle.frame_writer.specs.Writing.{ForwardsPart, waiting_bytes, WritesPart, Writing, writing_of}
use Rattle.frame_writer.specs.declared.writer.State.{State}
use Rattle.outside.proofs.BufferOutputLemmas.{passed_more, passed_more_prefix, passed_then_prefix}
use Rattle.outside.proofs.{BufferOutputLemmas.passed_with, FilesLemmas.appended_twice}
use Rattle.outside.specs.BufferOutput.{AppendedPrefix, AppendsWaiting}
use Rattle.outside.specs.Files.{Files, with_appended_bytes}
use Rattle.side_info.specs.FrameFields.{FrameFields}

-- ---- facts about a result

module _ {T E P Q : Type 0} where
  -- what follows from a fact about a result without error holds of it
  pub ok-map : (r : Result T E) → (P → Q) → OnOk r P → OnOk r Q
  ok-map (Ok x) f p = f p
  ok-map (Err e) f p = tt

  -- what follows from a fact about an error holds of it
  pub err-map : (r : Result T E) → (P → Q) → OnErr r P → OnErr r Q
  err-map (Ok x) f p = tt
  err-map (Err e) f p = f p

-- what follows from two facts about a result holds of it
pub ok-both : {T E P Q R : Type 0} (r : Result T E) → (P → Q → R) → OnOk r P → OnOk r Q → OnOk r R
ok-both (Ok x) f p q = f p q
ok-both (Err e) f p q = tt

-- ---- one frame forwarded

-- a prefix of what waits and some bytes is a prefix of what waits and more of them
pub prefix-piece : {name : List ℕ} (unsent piece : List ℕ) {before : List ℕ} (after : List ℕ)
    {f g : Files} → piece ++ after ≡ before
    →
    AppendedPrefix name (unsent ++ piece) f g → AppendedPrefix name (unsent ++ before) f g
prefix-piece unsent piece after is p = grind (arith, append_assoc, length-append, take-append-le)

-- nothing was forwarded yet
pub handed-none : (held : WaitingFrames) → ForwardsFrames held held
handed-none held = grind (arith, append-nil)

-- what was forwarded in two steps was forwarded
pub handed-then : {old mid new : WaitingFrames} → ForwardsFrames old mid → ForwardsFrames mid new
    → ForwardsFrames old new
handed-then {old} {mid} {new} p q =
    grind (arith, append_assoc p.moved q.moved (held_bytes new), append_assoc)

module _ {old : WaitingFrames} {c : ClassFields} {k : FrameFields} {ks left : List FrameFields}
    {waiting less : WaitingAreas}
    (view : record { class = c; kept = ks; waiting = waiting } ≡ old) (is : ks ≡ k ∷ drop 1 ks)
    (rest : left ≡ drop 1 ks) (drops : less.bytes ≡ drop (frame_area k) waiting.bytes)
    (step : (given : List ℕ) (ps : List FrameData) → AreAreasLaid given waiting ps
    → AreAreasLaid (given ++ take (frame_area k) waiting.bytes) less ps)
    (within : frame_area k ≤ length waiting.bytes) where
  -- the first frame was taken
  pub first-handed : ForwardsFrames old (record { class = c; kept = left; waiting = less })
  first-handed =
      grind (
        arith,
        first-framed_bytes k (drop 1 ks) waiting.bytes,
        first-written,
        length-take-le
            (frame_area k) waiting.bytes within,
      )

  -- the first frame was taken, and a prefix of it was written
  pub first-part : {name unsent : List ℕ} {f g : Files}
      → AppendedPrefix name (unsent ++ first_bytes k waiting.bytes) f g → ForwardsPart name
      (writing_of old unsent) (record { class = c; kept = left; waiting = less }) f g
  unfolding first-handed
  first-part prefix = record { on = first-handed; prefix = prefix }

-- what was there before, and then what is taken
pub behind-more : {base bytes : List ℕ} {old new : WaitingFrames} {fs : List Frame}
    → (h : ForwardsFrames old new) → AreBytesBehind base bytes old fs
    → AreBytesBehind base (bytes ++ h.moved) new fs
behind-more {base} {bytes} {old} {new} {fs} h are = grind (arith, append_assoc)

-- what was forwarded, and what waits in the buffer, are the
-- bytes before and the bytes of the frames that were taken
passed-same : {name : List ℕ} (unsent : List ℕ) {mid : WaitingFrames} (new : Writing) {f g : Files}
    (p : AppendsWaiting name (unsent ++ held_bytes mid) (waiting_bytes new) f g)
    (h : ForwardsFrames mid new.held) → unsent ++ h.moved ≡ p.passed ++ new.unsent
passed-same unsent new p h = grind (arith, append_cancel_right, append_assoc)

-- once the frame waits after the others, the bytes before the file are the same
module _ (name : List ℕ) (f : Frame) (old : Writing) (mid : WaitingFrames) where
  abbrev Waits : Type 0
  Waits = (taken : List ℕ) (fs : List Frame) → AreFramesWritten taken old.held fs
      → AreFramesWritten taken mid (fs ++ f ∷ [])

  behind-frame : {base bytes : List ℕ} {fs : List Frame} → Waits
      → AreBytesBehind base bytes old.held fs → AreBytesBehind base bytes mid (fs ++ f ∷ [])
  behind-frame {base} {bytes} {fs} waits are = grind arith

  -- the writer continues
  pub writes-on : {new : Writing} {before after : Files} → Waits
      → ForwardsBytes name (writing_of mid old.unsent) new before after
      → ForwardsFrames mid new.held → AcceptsFrame name f old new before after
  writes-on {new} {before} {after} waits p h =
      grind (
        arith,
        passed-same old.unsent new p h,
        append_assoc,
        behind-more,
        behind-frame,
      )

  -- a write fails
  pub writes-part : {held : WaitingFrames} {before after : Files} → Waits
      → ForwardsPart name (writing_of mid old.unsent) held before after
      → WritesPart name f old held before after
  writes-part waits part = grind (arith, append_assoc, behind-more, behind-frame)

-- a part forwarded after frames that were
pub part-then : {name : List ℕ} {old mid : Writing} {held : WaitingFrames} {f g h : Files}
    → ForwardsBytes name old mid f g → ForwardsFrames old.held mid.held
    → ForwardsPart name mid held g h → ForwardsPart name old held f h
unfolding handed-then
part-then {name} {old} {mid} {f = f} {g = g} {h = h} passed on part =
    let same = passed-same old.unsent mid passed on in
    let moved = part.on.moved in
    let all : AppendsWaiting name (old.unsent ++ on.moved) mid.unsent f g =
    record { passed = passed.passed; split = same; files = passed.files } in
    record {
      on = handed-then on part.on;
      prefix = subst (λ (xs : List ℕ). AppendedPrefix name xs f h)
          (append_assoc old.unsent on.moved moved)
          (passed_then_prefix (passed_with moved all) part.prefix);
    }

-- if no frame waits, all that waits is in the buffer
pub none-left : (held : WaitingFrames) (unsent : List ℕ) → length held.kept ≡ 0
    → waiting_bytes (writing_of held unsent) ≡ unsent
none-left held unsent none = grind (arith, nil_from_length, append-nil)

-- some bytes were forwarded, and then others
pub passed-two : {name mid after : List ℕ} {f g h : Files} (before a b : List ℕ) {c : List ℕ}
    → a ++ b ≡ c → AppendsWaiting name (before ++ a) mid f g
    → AppendsWaiting name (mid ++ b) after g h → AppendsWaiting name (before ++ c) after f h
passed-two {name} {mid} {after} {f} {g} {h} before a b is p q =
    grind (arith, append_assoc, passed_more)

-- a piece that was forwarded, and then a prefix of the next, are a prefix of both
pub prefix-two : {name mid : List ℕ} {f g h : Files} (before a b : List ℕ) {c : List ℕ} → a ++ b ≡ c
    → AppendsWaiting name (before ++ a) mid f g → AppendedPrefix name (mid ++ b) g h
    → AppendedPrefix name (before ++ c) f h
prefix-two {name} {mid} {f} {g} {h} before a b is p q =
    grind (arith, append_assoc before a b, passed_more_prefix b p q)

-- ---- what waits in the buffer is written too

module _ {name bytes : List ℕ} {f g h : Files} (new : Writing)
    (p : AppendsWaiting name bytes (waiting_bytes new) f g) where
  -- the bytes that were forwarded into the buffer, and then all of it
  pub passed-sent : h ≡ with_appended_bytes g name new.unsent
      → AppendsWaiting name bytes (held_bytes new.held) f h
  passed-sent all = grind (arith, append_assoc, appended_twice)

  -- a prefix of what waits in the buffer is a prefix of all that waits
  pub unsent-prefix : AppendedPrefix name new.unsent g h → AppendedPrefix name bytes f h
  unsent-prefix part =
      passed_then_prefix p
      (prefix-piece [] new.unsent (held_bytes new.held) refl part)

module _ {name : List ℕ} {fr : Frame} {old : Writing} {f g h : Files} {new : Writing}
    (on : AcceptsFrame name fr old new f g) where
  -- a frame was given, and then the buffer was written
  pub writes-sent : h ≡ with_appended_bytes g name new.unsent
      → AcceptsFrame name fr old (writing_of new.held []) f h
  writes-sent all = grind (arith, appended_twice, append_assoc, append-nil)

  -- if the buffer couldn't be written, a part of the frames was
  pub writes-unsent : AppendedPrefix name new.unsent g h → WritesPart name fr old new.held f h
  writes-unsent part = record {
    settled = on.passed ++ new.unsent;
    prefix =
        passed_then_prefix (record { passed = on.passed; split = refl; files = on.files }) part;
    writer = λ base out fs are.
        subst (λ (xs : List ℕ). AreBytesBehind base xs new.held (fs ++ fr ∷ []))
        (append_assoc out on.passed new.unsent)
        (on.writer base out fs are);
  }

-- in an open writer nothing waits in the buffer, and the first frame can't go yet
pub is-open : {state : State} {held : WaitingFrames} {unsent : List ℕ}
    → IsWriterSettled state held unsent → state ≡ State.Open →
    (unsent ≡ []) × (IsNextSettled held → ⊥)
is-open {held = held} {unsent = unsent} is opened =
    subst (λ s. IsWriterSettled s held unsent) opened is
