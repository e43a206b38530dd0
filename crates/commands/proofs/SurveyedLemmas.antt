-- A command that begins with the survey of its first input: what a fault of that input leaves.
use Rattle.std.proofs.Common.{arith, Err, inl, length, List, None, Ok, refl, Result, slice_index_or}
use Rattle.std.proofs.Common.{Some, sym, ℕ, [], ◌∙◌, ◌≡◌, ◌≤◌}
use Rattle.commands.proofs.InputLemmas.{of_bytes_behind}
use Rattle.commands.proofs.NamedLemmas.{first_at, lost_name, missed_name, unread_name}
use Rattle.commands.proofs.{RefusingLemmas.before_first, WhyLemmas.each_why}
use Rattle.commands.specs.AfterCall.{IsCommandFault, TakesMemory, why_of}
use Rattle.commands.specs.Command.{clash_of, Command, HasAnswer}
use Rattle.commands.specs.SingleOutput.{first_input, IsFileFault, most_frames}
use Rattle.commands.specs.declared.fault.EditFault.{EditFault, TheVariants.Input}
use Rattle.outside.proofs.FilesLemmas.{there_holds, touches_none}
use Rattle.outside.specs.Files.{Contents, Files, Holds, IfTold, IsFileMissing, IsFileThere, Told}
use Rattle.outside.specs.{Files.Untold, Seen.Seen}
use Rattle.sync_survey.proofs.BytesFaultLemmas.{survey_fields-of_bytes}
use Rattle.sync_survey.proofs.FoldersLemmas.{survey_of-short}
use Rattle.sync_survey.specs.{Faults.{longest_file, SurveyFields}, Survey.survey_of}
use Rattle.sync_survey.specs.declared.survey_fault.SurveyFault.{SurveyFault, TheVariants.Absent}

-- no names clash, and the command is refused for its first input if that is absent or at fault;
-- otherwise memory is taken
pub record BeginsWithSurvey (command : Command) (input : List ℕ) : Type 0 where
  pub first : first_input command.inputs ≡ input
  pub names : clash_of command ≡ None
  pub absent : (f : Contents) → f input ≡ None → command.makes f ≡ Err (Input 0 Absent)
  pub refused : (f : Contents) (bytes : List ℕ) (fault : SurveyFault) → f input ≡ Some bytes
      → survey_of bytes most_frames ≡ Err fault → command.makes f ≡ Err (Input 0 fault)
  pub takes : (f : Contents) (bytes : List ℕ) (s : SurveyFields) → f input ≡ Some bytes
      → survey_of bytes most_frames ≡ Ok s → TakesMemory (command.makes f)

module _ {command : Command} {input : List ℕ} (begins : BeginsWithSurvey command input) where
  refused_there : (files : Files) {fault : SurveyFault} → IsFileThere files input
      → ((bytes : List ℕ) → Holds files input bytes → survey_of bytes most_frames ≡ Err fault)
      → HasAnswer command files (Err (Input 0 fault))
  refused_there (Untold touched) there refused = tt
  refused_there (Told f) {fault} there refused =
      let held = there_holds f there in
      begins.refused f held.0 fault held.1 (refused held.0 held.1)

  refused_absent : (files : Files) → IsFileMissing files input
      → HasAnswer command files (Err (Input 0 Absent))
  refused_absent files missing = grind (arith, begins)

  takes_by : (f : Contents) {bytes : List ℕ} (r : Result SurveyFields SurveyFault)
      → f input ≡ Some bytes → length bytes ≤ longest_file → survey_of bytes most_frames ≡ r
      → TakesMemory (command.makes f)
  takes_by f {bytes} (Ok s) held few is = begins.takes f bytes s held is
  takes_by f {bytes} (Err fault) held few is =
      rw (begins.refused f bytes fault held is) (of_bytes_behind fault
      (survey_fields-of_bytes bytes most_frames
      (sym (survey_of-short bytes most_frames few) ∙ is)))

  takes_there : (files : Files) → IsFileThere files input
      → ((bytes : List ℕ) → Holds files input bytes → length bytes ≤ longest_file)
      → IfTold files (λ f. TakesMemory (command.makes f))
  takes_there (Untold touched) there few = tt
  takes_there (Told f) there few =
      let held = there_holds f there in
      takes_by f (survey_of held.0 most_frames) held.1 (few held.0 held.1) refl

  -- a fault of the input is one of the command, and leaves everything as it was
  pub survey_left : (old new : Seen) (fault : EditFault)
      → IsFileFault 0 most_frames input old new fault → IsCommandFault command old new fault
  survey_left old new fault h =
      let named : input ≡ slice_index_or command.inputs 0 [] =
      sym begins.first ∙ first_at command.inputs in
      each_why (why_of fault) h (record {
        rejected = λ r. record {
          defined = rw r.1 (refused_there old.files r.2.there r.2.bytes);
          stays = r.2.stays;
        };
        missing = λ m. record {
          defined = rw m.is (refused_absent old.files m.missing);
          rose = missed_name command.inputs named m;
          files = m.files;
        };
        unread = λ u. record {
          names = begins.names;
          before = before_first old.files command.makes u.is;
          rose = unread_name command.inputs named u;
          files = inl u.files;
        };
        shorter = λ l. record {
          ended = lost_name command.inputs named l;
          touches = rw l.files (touches_none command.outputs old.files);
        };
        unwritten = λ k w. absurd w;
        unsent = λ w. absurd w;
        no_memory = λ n. record {
          names = begins.names;
          takes = takes_there old.files n.there n.few;
          stays = n.stays;
        };
      })
