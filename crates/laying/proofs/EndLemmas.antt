-- The bytes of frames that were passed to the writer.
use Rattle.std.proofs.Common.{ap, append-nil, append_assoc, arith, length, length-append, List, sym}
use Rattle.std.proofs.Common.{take, ℕ, [], ◌++◌, ◌∙◌, ◌≡◌}
use Rattle.std.proofs.lemmas.List.{length-take-le, take-append-le}
use Rattle.frame_header.specs.Fields.{ClassFields}
use Rattle.frame_writer.proofs.FrameLemmas.{laid-steps, later-frames}
use Rattle.frame_writer.specs.Frames.{bytes_of_frames, Frame, WaitingFrames}
use Rattle.frame_writer.specs.Writing.{IsNewQueue, IsWriterOf, waiting_bytes, Writing, writing_of}
use Rattle.laying.specs.Passing.{LaysFrames, LaysPart}
use Rattle.outside.proofs.BufferOutputLemmas.{passed_then, passed_then_prefix}
use Rattle.outside.proofs.PassLemmas.{prefix_piece}
use Rattle.outside.specs.{BufferOutput.{AppendedPrefix, AppendsWaiting}, Files.{Files, Holds}}
use Rattle.outside.specs.{Pass.{WritesMadeBytes, WritesPrefix}, declared.pass.Pass.Pass}
use Rattle.outside.specs.declared.pass.PassFault.{PassFault}

-- with a new queue, no frame was passed after what waits
pub new-behind : {class : ClassFields} {held : WaitingFrames} (waiting : List ℕ)
    → IsNewQueue class held → IsWriterOf waiting [] (writing_of held waiting) []
new-behind waiting new = grind (arith, append-nil)

-- what was appended and what waits are what waited before and the bytes of the frames
lays-passed : {input output : List ℕ} {made : List ℕ → List Frame} {base : List ℕ}
    {old new : Writing} {before now : Files} → IsWriterOf base [] old []
    → (lays : LaysFrames input output made old new before now) →
    AppendsWaiting output (base ++ bytes_of_frames lays.frames) (waiting_bytes new) before now
lays-passed {base = base} none lays =
    grind (arith, lays.writer base [] [] none, lays.passed, laid-steps, append_assoc, lays.files)

module _ (pass : Pass) (made : List ℕ → List Frame) {base : List ℕ} {old : Writing} (before : Files)
    (none : IsWriterOf base [] old []) where
  module _ {new : Writing} {now : Files}
      (lays : LaysFrames pass.input.now pass.output.now made old new before now) where
    -- all frames were laid, and what waited of them was passed on
    pub lays-written : {after : List ℕ} {end : Files}
        → AppendsWaiting pass.output.now (waiting_bytes new) after now end
        → WritesMadeBytes pass (λ file. bytes_of_frames (made file)) base after before end
    lays-written passed = record {
      piece = bytes_of_frames lays.frames;
      is = λ file holds. ap bytes_of_frames (lays.is file holds);
      passed = passed_then (lays-passed
          none lays) passed;
    }

    -- if the end failed, a prefix of the frames was passed on
    pub lays-prefix : {end : Files} {fault : PassFault}
        → AppendedPrefix pass.output.now (waiting_bytes new) now end
        → WritesPrefix pass (λ file. bytes_of_frames (made file)) base before end fault
    lays-prefix part =
        prefix_piece pass
        (λ file holds. ap bytes_of_frames (lays.is file holds))
        (passed_then_prefix
        (lays-passed none lays) part)

  -- if a part of the frames was laid, a prefix of their bytes was passed on
  pub part-prefix : {reach : ℕ} {after : Files} {fault : PassFault}
      → LaysPart pass.input.now pass.output.now made reach old before after fault
      → WritesPrefix pass (λ file. bytes_of_frames (made file)) base before after fault
  part-prefix part =
      let bytes = take part.prefix.count part.settled in
      let long : length bytes ≡ part.prefix.count = grind (arith, length-take-le) in
      let are = part.writer base [] [] none in
      let later : (file : List ℕ) → Holds before pass.input.now file
      → (more : List ℕ) × (base ++ bytes_of_frames (made file) ≡ part.settled ++ more) =
      λ file holds.
      let found = part.is file holds [] tt in
      let later = later-frames found.0 are.written found.2 in (
        later.0,
        ap (λ (xs : List ℕ). base ++ xs)
            (ap bytes_of_frames (sym (append-nil (made file)) ∙ sym found.1) ∙ later.1)
            ∙ sym (append_assoc base are.taken later.0)
            ∙ ap (λ (xs : List ℕ). xs ++ later.0) (sym are.is),
      ) in
      record {
        bytes = bytes;
        prefix = λ file holds.
            let more = later file holds in
            sym (ap (λ n. take n (base ++ bytes_of_frames (made file))) long
            ∙ ap (take part.prefix.count) more.1
            ∙ take-append-le part.prefix.count part.settled more.0 part.prefix.within);
        short = grind (arith, length-append);
        files = part.prefix.files;
      }
