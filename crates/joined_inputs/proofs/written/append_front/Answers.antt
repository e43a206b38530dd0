-- The blocks and the Info frame are written whole.
use Rattle.std.proofs.Common.{ap, append-nil, List, sym, ℕ, [], ◌++◌, ◌∙◌, ◌≡◌}
use Rattle.frame_writer.proofs.WritingLemmas.{ok-both}
use Rattle.outside.proofs.BufferOutputLemmas.{err_by}
use Rattle.outside.proofs.PassLemmas.{part_behind_none, writes_behind_none}
use Rattle.outside.specs.Files.{Files, with_appended_bytes}
use Rattle.outside.specs.{Pass.{AppendsMadeBytes, WritesMadeBytes}, declared.pass.Pass.Pass}
use Rattle.joined_inputs.proofs.written.append_front.Goals as goal

-- if nothing waits before and after, the bytes were appended
all_appended : {pass : Pass} {made : List ℕ → List ℕ} {mid : List ℕ} {old new : Files}
    → WritesMadeBytes pass made [] mid old new → mid ≡ [] →
    AppendsMadeBytes pass.input.now pass.output.now made old new
all_appended {pass} {made} {mid} {old} {new} w none = record {
  bytes = w.piece;
  is = w.is;
  files =
      w.passed.files
      ∙ ap (with_appended_bytes old pass.output.now)
      (sym (append-nil w.passed.passed) ∙ ap (λ (xs : List ℕ). w.passed.passed ++ xs) (sym none)
      ∙ sym w.passed.split);
}

pub returns-clause-written : goal.returns-clause-written
returns-clause-written g c =
    ok-both c.write_front.result
    (λ w none. all_appended (writes_behind_none c.requires.none w) none)
    c.write_front.ensures.adds.written c.write_front.ensures.none

pub returns-clause-prefix : goal.returns-clause-prefix
returns-clause-prefix g c =
    err_by c.write_front.result (λ fault part. part_behind_none c.requires.none part)
    c.write_front.ensures.adds.prefix
