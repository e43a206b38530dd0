-- Commands that send a text, and commands without one.
use Rattle.std.proofs.Common.{Bool, false, List, Some, true, ℕ, [], ◌≢◌}
use Rattle.std.proofs.lemmas.Result.{on_ok_weaker}
use Rattle.command_table.specs.Table.{command_of}
use Rattle.drill.{proofs.PackedLemmas.drill_text-some, specs.Drilled.{drill_command, drill_text}}
use Rattle.job_words.specs.Request.{SplitBy}
use Rattle.list_edits.specs.{InfoText.info_of, Listing.listing, TextCommand.text_command}
use Rattle.mp3_cli.proofs.RunLemmas.{asked_ends, asked_holds, asked_silent, fixed_makes-none}
use Rattle.mp3_cli.proofs.RunLemmas.{fixed_streams, IsSilent, one_silent, run_ends, said_ends}
use Rattle.mp3_cli.proofs.RunLemmas.{sent_alone, split_silent, text_ends, text_makes-none}
use Rattle.mp3_cli.proofs.RunLemmas.{told_ends}
use Rattle.outside.proofs.CountsLemmas.{none_fell_by_reads}
use Rattle.program_texts.specs.Texts.{fixed_text_command, help_text, version_text}
use Rattle.split_edits.specs.Split.{sheet_cutting, sheet_exact_cutting}
use Rattle.mp3_cli.proofs.jobs.do_job.Goals as goal

some_help : Some help_text ≢ Some []
unfolding help_text
some_help e = absurd cc

some_version : Some version_text ≢ Some []
unfolding version_text
some_version e = absurd cc

-- a split by a sheet sends nothing, to a frame or to a sample
sheet_silent : (exact : Bool) (input prefix sheet : List ℕ)
    → IsSilent (command_of (SplitBy exact input prefix sheet))
sheet_silent false input prefix sheet = split_silent (sheet_cutting sheet) prefix input
sheet_silent true input prefix sheet = split_silent (sheet_exact_cutting sheet) prefix input

pub returns-in-Help-clause-ends : goal.returns-in-Help-clause-ends
returns-in-Help-clause-ends g c =
    rw c.in-Help.is (asked_ends g.D.Folder.keeping (fixed_text_command help_text)
    (fixed_makes-none) (said_ends some_help _ c.say_help.result
    (c.say_help.ensures.says (g.D.Folder.seen c.args.folder.now).files)
    (sent_alone c.say_help.result c.say_help.ensures.fault)))

pub returns-in-Help-clause-streams : goal.returns-in-Help-clause-streams
returns-in-Help-clause-streams g c = rw c.in-Help.is (fixed_streams g.D.Folder.keeping help_text
    (g.D.Folder.seen c.args.folder.now).files c.say_help.result)

pub returns-in-Version-clause-ends : goal.returns-in-Version-clause-ends
returns-in-Version-clause-ends g c =
    rw c.in-Version.is (asked_ends g.D.Folder.keeping (fixed_text_command version_text)
    (fixed_makes-none)
    (said_ends some_version _ c.say_version.result
    (c.say_version.ensures.says (g.D.Folder.seen c.args.folder.now).files)
    (sent_alone c.say_version.result c.say_version.ensures.fault)))

pub returns-in-Version-clause-streams : goal.returns-in-Version-clause-streams
returns-in-Version-clause-streams g c = rw c.in-Version.is (fixed_streams g.D.Folder.keeping
    version_text (g.D.Folder.seen c.args.folder.now).files c.say_version.result)

pub returns-in-Drill-clause-ends : goal.returns-in-Drill-clause-ends
returns-in-Drill-clause-ends g c =
    rw c.in-Drill.is
    (asked_ends g.D.Folder.keeping (drill_command c.in-Drill.seed c.in-Drill.count)
    (fixed_makes-none)
    (said_ends
    (drill_text-some c.in-Drill.seed c.in-Drill.count) _ c.drill.result
    (c.drill.ensures.says (g.D.Folder.seen c.args.folder.now).files) c.drill.ensures.fault))

pub returns-in-Drill-clause-streams : goal.returns-in-Drill-clause-streams
returns-in-Drill-clause-streams g c = rw c.in-Drill.is (fixed_streams g.D.Folder.keeping
    (drill_text c.in-Drill.seed c.in-Drill.count) (g.D.Folder.seen c.args.folder.now).files
    c.drill.result)

pub returns-in-List-clause-ends : goal.returns-in-List-clause-ends
returns-in-List-clause-ends g c =
    rw c.in-List.is
    (asked_ends g.D.Folder.keeping (text_command (λ file. listing) c.in-List.input.now)
    (text_makes-none (λ file. listing) c.in-List.input.now)
    (text_ends (λ file. listing) c.list.result c.list.ensures))

pub returns-in-Info-clause-ends : goal.returns-in-Info-clause-ends
returns-in-Info-clause-ends g c =
    rw c.in-Info.is (asked_ends g.D.Folder.keeping (text_command info_of c.in-Info.input.now)
    (text_makes-none info_of c.in-Info.input.now)
    (text_ends info_of c.info.result c.info.ensures))

pub returns-in-Gain-clause-ends : goal.returns-in-Gain-clause-ends
returns-in-Gain-clause-ends g c =
    rw c.in-Gain.is (run_ends
    (asked_silent g.D.Folder.keeping (one_silent _ _)) _ c.gain.ensures)

pub returns-in-Undo-clause-ends : goal.returns-in-Undo-clause-ends
returns-in-Undo-clause-ends g c =
    rw c.in-Undo.is (run_ends
    (asked_silent g.D.Folder.keeping (one_silent _ _)) _ c.undo.ensures)

pub returns-in-Cut-clause-ends : goal.returns-in-Cut-clause-ends
returns-in-Cut-clause-ends g c =
    rw c.in-Cut.is (run_ends
    (asked_silent g.D.Folder.keeping (one_silent _ _)) _ c.cut.ensures)

pub returns-in-CutExact-clause-ends : goal.returns-in-CutExact-clause-ends
returns-in-CutExact-clause-ends g c =
    rw c.in-CutExact.is (run_ends
    (asked_silent g.D.Folder.keeping (one_silent _ _)) _ c.cut_exact.ensures)

pub returns-in-Pack-clause-ends : goal.returns-in-Pack-clause-ends
returns-in-Pack-clause-ends g c =
    rw c.in-Pack.is
    (run_ends (asked_silent g.D.Folder.keeping (one_silent _ _)) _ c.pack_with.ensures.run)

pub returns-in-SplitAt-clause-ends : goal.returns-in-SplitAt-clause-ends
returns-in-SplitAt-clause-ends g c =
    rw (c.in-SplitAt.is, ← c.as_slice.ensures.value)
    (run_ends
    (asked_silent g.D.Folder.keeping (split_silent _ _ _)) _ c.split.ensures)

pub returns-in-SplitExact-clause-ends : goal.returns-in-SplitExact-clause-ends
returns-in-SplitExact-clause-ends g c =
    rw (c.in-SplitExact.is, ← c.as_slice-in-SplitExact.ensures.value)
    (run_ends
    (asked_silent g.D.Folder.keeping (split_silent _ _ _)) _
    c.split_exact.ensures)

pub returns-in-SplitBy-clause-ends : goal.returns-in-SplitBy-clause-ends
returns-in-SplitBy-clause-ends g c =
    rw c.in-SplitBy.is
    (run_ends (asked_silent g.D.Folder.keeping (sheet_silent c.in-SplitBy.exact
    c.in-SplitBy.input.now c.in-SplitBy.prefix.now c.in-SplitBy.sheet.now)) _
    c.split_by_sheet.ensures)

pub returns-in-Join-clause-ends : goal.returns-in-Join-clause-ends
returns-in-Join-clause-ends g c = rw c.in-Join.is c.join_files.ensures.ends

pub returns-in-Remove-clause-ends : goal.returns-in-Remove-clause-ends
returns-in-Remove-clause-ends g c =
    rw (c.in-Remove.is, ← c.as_slice-in-Remove.ensures.value)
    (run_ends
    (asked_silent g.D.Folder.keeping (one_silent _ _)) _ c.remove.ensures)

pub returns-in-Fade-clause-ends : goal.returns-in-Fade-clause-ends
returns-in-Fade-clause-ends g c =
    rw c.in-Fade.is (run_ends
    (asked_silent g.D.Folder.keeping (one_silent _ _)) _ c.fade.ensures)

pub returns-in-Salvage-clause-ends : goal.returns-in-Salvage-clause-ends
returns-in-Salvage-clause-ends g c =
    let is = c.salvage.ensures in
    rw c.in-Salvage.is
    (told_ends c.salvage.result
    is.run.done is.run.left is.says is.run.numbers is.run.names)

pub returns-in-List-clause-streams : goal.returns-in-List-clause-streams
returns-in-List-clause-streams g c = rw c.in-List.is (on_ok_weaker c.list.result (asked_holds
    g.D.Folder.keeping (text_command (λ file. listing) c.in-List.input.now)
    (text_makes-none (λ file. listing) c.in-List.input.now)
    (g.D.Folder.seen c.args.folder.now).files) c.list.ensures.streams)

pub returns-in-Info-clause-streams : goal.returns-in-Info-clause-streams
returns-in-Info-clause-streams g c = rw c.in-Info.is (on_ok_weaker c.info.result (asked_holds
    g.D.Folder.keeping (text_command info_of c.in-Info.input.now)
    (text_makes-none info_of c.in-Info.input.now)
    (g.D.Folder.seen c.args.folder.now).files) c.info.ensures.streams)

pub returns-in-Gain-clause-streams : goal.returns-in-Gain-clause-streams
returns-in-Gain-clause-streams g c = rw c.in-Gain.is c.gain.ensures.streams

pub returns-in-Undo-clause-streams : goal.returns-in-Undo-clause-streams
returns-in-Undo-clause-streams g c = rw c.in-Undo.is c.undo.ensures.streams

pub returns-in-Pack-clause-streams : goal.returns-in-Pack-clause-streams
returns-in-Pack-clause-streams g c = rw c.in-Pack.is c.pack_with.ensures.run.streams

pub returns-in-SplitAt-clause-streams : goal.returns-in-SplitAt-clause-streams
returns-in-SplitAt-clause-streams g c =
    rw (c.in-SplitAt.is, ← c.as_slice.ensures.value) c.split.ensures.streams

pub returns-in-SplitExact-clause-streams : goal.returns-in-SplitExact-clause-streams
returns-in-SplitExact-clause-streams g c =
    rw (c.in-SplitExact.is, ← c.as_slice-in-SplitExact.ensures.value) c.split_exact.ensures.streams

pub returns-in-SplitBy-clause-streams : goal.returns-in-SplitBy-clause-streams
returns-in-SplitBy-clause-streams g c = rw c.in-SplitBy.is c.split_by_sheet.ensures.streams

pub returns-in-Remove-clause-streams : goal.returns-in-Remove-clause-streams
returns-in-Remove-clause-streams g c =
    rw (c.in-Remove.is, ← c.as_slice-in-Remove.ensures.value) c.remove.ensures.streams

pub returns-in-Fade-clause-streams : goal.returns-in-Fade-clause-streams
returns-in-Fade-clause-streams g c = rw c.in-Fade.is c.fade.ensures.streams

pub returns-in-Cut-clause-streams : goal.returns-in-Cut-clause-streams
returns-in-Cut-clause-streams g c = rw c.in-Cut.is c.cut.ensures.streams

pub returns-in-CutExact-clause-streams : goal.returns-in-CutExact-clause-streams
returns-in-CutExact-clause-streams g c = rw c.in-CutExact.is c.cut_exact.ensures.streams

pub returns-in-Join-clause-streams : goal.returns-in-Join-clause-streams
returns-in-Join-clause-streams g c = rw c.in-Join.is c.join_files.ensures.streams

pub returns-in-Salvage-clause-streams : goal.returns-in-Salvage-clause-streams
returns-in-Salvage-clause-streams g c = rw c.in-Salvage.is c.salvage.ensures.run.streams

pub returns-in-List-clause-counts : goal.returns-in-List-clause-counts
returns-in-List-clause-counts g c = none_fell_by_reads c.list.ensures.counts

pub returns-in-Info-clause-counts : goal.returns-in-Info-clause-counts
returns-in-Info-clause-counts g c = none_fell_by_reads c.info.ensures.counts
