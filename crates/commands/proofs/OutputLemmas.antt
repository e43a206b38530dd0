-- The output is created and then written by a pass over the input.
use Rattle.std.proofs.Common.{ap, inl, inr, length, List, refl, slice_index_or, sym, ℕ, [], ◌∙◌}
use Rattle.std.proofs.Common.{◌∷◌, ◌≡◌, ◌≢◌}
use Rattle.commands.specs.PassFaults.{pass_edit_fault}
use Rattle.commands.specs.SingleOutput.{first_input, IsLeftShort, IsOutputBegun, IsPassFault}
use Rattle.outside.proofs.FilesLemmas.{created_and_appended, emptied_holds_other, emptied_told}
use Rattle.outside.{proofs.FilesLemmas.{fails_told, holding_touches}, specs.Counts.Counts}
use Rattle.outside.specs.Files.{FailsToCreate, Files, files_holding, Holds, is_told, OnlyTouches}
use Rattle.outside.specs.Files.{Told, Untold, with_appended_bytes, with_empty_file}
use Rattle.outside.specs.Pass.{AppendsMadeBytes, AppendsPrefix, HasPassCause, route}
use Rattle.outside.specs.{Seen.seen_folder, declared.pass.PassFault.PassFault}
use Rattle.outside.specs.declared.pass.PassFault.TheVariants.{Read, Shrunk, Write}

-- if the output wasn't created, it is left short
pub not_begun : (made : List ℕ → List ℕ) (input output : List ℕ) (old : Files) {new : Files}
    → FailsToCreate output old new → IsLeftShort made input output old new
not_begun made input output (Told f) {new} failed file holds = inl (fails_told output failed)
not_begun made input output (Untold touched) failed file holds = absurd holds

-- the output was created, and then written
module _ (made : List ℕ → List ℕ) {input output : List ℕ} (apart : input ≢ output)
    (old : Files) {mid : Files} (new : Files) (created : mid ≡ with_empty_file old output) where
  held_mid : (file : List ℕ) → Holds old input file → Holds mid input file
  held_mid file holds = rw created (emptied_holds_other old file apart holds)

  files_holding-new : (bytes : List ℕ) → new ≡ with_appended_bytes mid output bytes
      → new ≡ files_holding old output bytes
  files_holding-new bytes is =
      is ∙ ap (λ f. with_appended_bytes f output bytes) created
      ∙ created_and_appended old output bytes

  -- with all bytes appended, it holds what was made of the input
  pub output_whole : AppendsMadeBytes input output made mid new → (file : List ℕ)
      → Holds old input file → new ≡ files_holding old output (made file)
  output_whole done file holds = files_holding-new done.bytes done.files
      ∙ ap (files_holding old output) (done.is file (held_mid file holds))

  -- with a prefix of the bytes appended, it was begun
  pub output_prefix : {fault : PassFault} → AppendsPrefix input output made mid new fault
      → IsOutputBegun made input output old new
  output_prefix part file holds = inr (
    length part.bytes,
    files_holding-new part.bytes part.files
        ∙ ap (files_holding old output) (part.prefix file (held_mid file holds)),
  )

  -- if a write failed, it lacks bytes
  output_short : AppendsPrefix input output made mid new Write
      → IsLeftShort made input output old new
  output_short part file holds =
      let held = held_mid file holds in
      inr (
        length part.bytes,
        part.short refl file held,
        files_holding-new part.bytes part.files
            ∙ ap (files_holding old output) (part.prefix file held),
      )

  touches_new : (bytes : List ℕ) → new ≡ with_appended_bytes mid output bytes
      → OnlyTouches (output ∷ []) old new
  touches_new bytes is = rw (files_holding-new bytes is) (holding_touches old output bytes)

  -- if all bytes were appended, only the output was touched
  pub touches_whole : AppendsMadeBytes input output made mid new → OnlyTouches (output ∷ []) old new
  touches_whole done = touches_new done.bytes done.files

  -- if only a prefix was appended, only the output was touched
  pub touches_prefix : {fault : PassFault} → AppendsPrefix input output made mid new fault
      → OnlyTouches (output ∷ []) old new
  touches_prefix part = touches_new part.bytes part.files

  -- an input could not be read again, or the output could not be written
  pub pass_fault : (inputs : List (List ℕ)) → first_input inputs ≡ input
      → (number : ℕ) (fault : PassFault) (size : ℕ) {before between : Counts} (after : Counts)
      → between ≡ before → AppendsPrefix input output made mid new fault
      → HasPassCause (route (slice_index_or inputs number []) output size) mid between after fault
      → IsPassFault made inputs output (seen_folder old before) (seen_folder new after)
      (pass_edit_fault number 0 fault)
  pass_fault inputs first number Read size after same part h = record {
    rose = rw (← same) h.0;
    files = rw first (output_prefix part);
  }
  pass_fault inputs first number (Shrunk from to) size after same part h = record {
    rose = rw (← same) h.3;
    counts = rw (← same) h.4;
    untold = sym (ap is_told created ∙ emptied_told old output) ∙ h.0;
  }
  pass_fault inputs first number Write size after same part h = (
    refl,
    record {
      rose = rw (← same) h.0;
      files = rw first (output_short part);
    },
  )
