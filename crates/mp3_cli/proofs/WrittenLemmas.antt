-- The outputs that were written are there, each with the frames that were chosen.
use Rattle.std.proofs.Common.{List, Ok, Result, Some, subst, sym, ℕ, [], ◌∙◌, ◌∷◌, ◌≡◌}
use Rattle.std.specs.Prelude.{IfOk}
use Rattle.chosen_streams.proofs.{JobLemmas.streams-chosen, NamedLemmas.outputs-named}
use Rattle.chosen_streams.specs.{Exact.{AllConsistOf, ConsistsOf}, Laws.AreNamed}
use Rattle.command_table.{proofs.NameLemmas.names-are, specs.Chosen.Frames}
use Rattle.command_table.specs.Table.{chosen_of, command_of}
use Rattle.commands.specs.AfterCall.{IsCommandDone}
use Rattle.commands.specs.Command.{AreStreams, HoldsStreams, Made, MakesStreams, Output}
use Rattle.commands.specs.Command.{written_files}
use Rattle.job_words.specs.{Request.{IsSoundRequest, Request}, Words.job_of}
use Rattle.mp3_cli.proofs.{OtherFileLemmas.written-other, RunLemmas.if_told}
use Rattle.mp3_cli.specs.Run.{HoldFrames, HoldsAllStreams, HoldsWritten}
use Rattle.outside.proofs.FilesLemmas.{with_file_here}
use Rattle.outside.specs.{Files.{Contents, Files, IfTold, Told, with_file}, Seen.Seen}
use Rattle.sync_survey.specs.MainData.{StreamFrame}

hold-frames : (names : List (List ℕ)) (outputs : List Output) (streams : List (List StreamFrame))
    (chosen : List Frames) (files : Contents) → AreNamed names outputs → AreStreams outputs streams
    → AllConsistOf chosen streams → HoldFrames (written_files outputs files) names chosen
hold-frames names outputs streams [] files named are consist = tt
hold-frames names outputs [] (frames ∷ more) files named are consist = absurd consist
hold-frames names [] (stream ∷ streams) (frames ∷ more) files named are consist = absurd are
hold-frames [] (output ∷ outputs) (stream ∷ streams) (frames ∷ more) files named are consist =
    absurd named
hold-frames (name ∷ names) (output ∷ outputs) (stream ∷ streams)
    (frames ∷ more) files named are consist =
    let now = with_file files output.name output.bytes in
    let held : written_files outputs now output.name ≡ Some output.bytes =
    written-other outputs now named.1 ∙ with_file_here files output.name output.bytes in (
      (
        output.bytes,
        subst (λ (n : List ℕ). written_files outputs now n ≡ Some output.bytes) named.0 held,
        are.0.well_formed,
        subst (ConsistsOf frames) (sym are.0.stream_is) consist.0,
      ),
      hold-frames names outputs streams more now named.2 are.1 consist.1,
    )

-- ---- whatever is asked for

there : {asked : Request} {f : Contents} {made : Made} → IsSoundRequest asked
    → (command_of asked).makes f ≡ Ok made → MakesStreams (command_of asked) f made
    → HoldsWritten asked f (written_files made.outputs f)
there {asked} {f} {made} sound e holds =
    let named = subst (λ names. AreNamed names made.outputs) (sym (names-are asked).outputs)
    (outputs-named asked sound f made e) in
    record {
      sources = holds.sources;
      outputs = hold-frames (command_of asked).outputs made.outputs
          ((command_of asked).streams f) (chosen_of asked f) f named holds.streams
          (streams-chosen asked f made e);
    }

-- after a command that was done, each output is there, with the frames that were chosen
pub written-streams : (words : List (List ℕ)) {asked : Request} → job_of words ≡ Ok asked
    → IsSoundRequest asked → {old new : Seen} → IsCommandDone (command_of asked) old new
    → HoldsStreams (command_of asked) old.files → HoldsAllStreams words old.files new.files
written-streams words {asked} is sound {old} {new} done holds =
    subst (λ (r : Result Request ℕ). IfOk r
    (λ a. IfTold old.files (λ f. IfTold new.files (λ g. HoldsWritten a f g)))) (sym is)
    (if_told old.files (λ f told.
    let made = subst (λ (files : Files). IfTold files (λ f. (made : Made)
    × ((command_of asked).makes f ≡ Ok made)
    × (new.files ≡ Told (written_files made.outputs f)))) told done.made in
    let held = subst (HoldsStreams (command_of asked)) told holds in
    subst (λ (files : Files). IfTold files (λ g. HoldsWritten asked f g)) (sym made.2)
    (there sound made.1 (held made.0 made.1))))
