-- A clash of names, faults met before the first output is created, and the second pass.
use Rattle.std.proofs.Common.{ap, ap₂, arith, length, List, Ok, refl, rules, ℕ, ◌∙◌, ◌≡◌, ◌≤◌}
use Rattle.std.proofs.lemmas.Result.{IfErr-weaker, on_ok_weaker}
use Rattle.commands.proofs.KeptLemmas.{asked_early, asked_run, asked_stopped}
use Rattle.commands.proofs.MakeLemmas.{names_free, no_clash, refused_run}
use Rattle.commands.proofs.SurveyedLemmas.{survey_left}
use Rattle.frame_writer.proofs.WritingLemmas.{ok-both}
use Rattle.outside.proofs.CountsLemmas.{none_fell_by_reads, none_fell_by_writes, none_fell_then}
use Rattle.outside.{proofs.CountsLemmas.only_reads_then, specs.{Counts.NoneFell, Files.Holds}}
use Rattle.outside.specs.Seen.{Seen, seen_folder}
use Rattle.split_edits.proofs.CommandLemmas.{AreSplitPieces, begins, CanSplit, clash-found}
use Rattle.split_edits.proofs.CommandLemmas.{equal-left, head-before, head-left, head-numbers}
use Rattle.split_edits.proofs.CommandLemmas.{IsSplitAt, IsSplitSurveyed, memory-left}
use Rattle.split_edits.proofs.CommandLemmas.{pieces-numbers, pieces-to-write, places-before}
use Rattle.split_edits.proofs.CommandLemmas.{places-left, places-numbers, range-before, range-left}
use Rattle.split_edits.proofs.CommandLemmas.{range-numbers, split-done, split-left, split-streams}
use Rattle.split_edits.proofs.CommandLemmas.{survey-before, survey-numbers}
use Rattle.split_edits.proofs.PiecesLemmas.{can-be-written, fault-of-all}
use Rattle.split_edits.proofs.split_file.split_by.Goals.{After-as_slice, After-survey_at}
use Rattle.split_edits.proofs.split_file.split_by.Goals.{In_ok-pieces, In_ok-survey}
use Rattle.split_edits.specs.{Cutting.split_command, Steps.{IsSplitSource, SaysPlaces}}
use Rattle.sync_survey.specs.Faults.{survey_view}
use Rattle.split_edits.proofs.split_file.split_by.Given as given
use Rattle.split_edits.proofs.split_file.split_by.Goals as goal

pub returns-in-Some : goal.returns-in-Some
returns-in-Some g c =
    let cut = g.C.Cut.cutting c.args.cut.now in
    let clash = clash-found cut c.args.input.now c.args.prefix.now
    c.sheet.ensures c.clash.ensures c.in-Some.is in
    asked_early (split_command cut c.args.input.now c.args.prefix.now) g.D.Folder.keeping _ refl tt
    refl (record {
      done = tt;
      left = grind (arith, equal-left);
      numbers = clash;
      names = search rules;
      streams = tt;
      counts = search rules;
    })

-- no name of a piece is the name of the input or of a sheet
can : (g : given.Over) (c : After-survey_at g)
    → CanSplit (g.C.Cut.cutting c.args.cut.now) c.args.input.now c.args.prefix.now
can g c = record {
  proper = c.requires.proper;
  apart = clash-found (g.C.Cut.cutting c.args.cut.now) c.args.input.now c.args.prefix.now
      c.sheet.ensures c.clash.ensures c.in_default.is;
}

-- the input was surveyed
surveyed : (g : given.Over) (c : In_ok-survey g) → IsSplitSurveyed (g.C.Cut.cutting c.args.cut.now)
    c.args.input.now c.args.prefix.now (survey_view c.in_ok-survey.survey)
    (g.D.Folder.seen c.args.folder.now)
surveyed g c = record {
  can = can g (goal.at.In_ok-survey g c).After-survey_at;
  there = c.in_ok-survey.ensures.there;
  surveyed = c.in_ok-survey.ensures.surveyed;
}

pub returns-in_err-survey : goal.returns-in_err-survey
returns-in_err-survey g c =
    let cut = g.C.Cut.cutting c.args.cut.now in
    let input = c.args.input.now in
    let prefix = c.args.prefix.now in
    let can_split = can g (goal.at.returns-in_err-survey g c).After-survey_at in
    asked_early (split_command cut input prefix) g.D.Folder.keeping _ c.from_residual.ensures.1
    (survey-before _ c.in_err-survey.ensures.numbers) c.survey_at.ensures.reads.files
    (refused_run _ can_split.apart c.from_residual.ensures.1
    (survey_left (begins can_split) _ _ _ c.in_err-survey.ensures.refused)
    (survey-numbers cut input prefix _ c.in_err-survey.ensures.numbers)
    (none_fell_by_reads c.survey_at.ensures.reads.counts))

pub returns-in_err-source : goal.returns-in_err-source
returns-in_err-source g c =
    let cut = g.C.Cut.cutting c.args.cut.now in
    let input = c.args.input.now in
    let prefix = c.args.prefix.now in
    let can_split = can g (goal.at.returns-in_err-source g c).After-survey_at in
    asked_early (split_command cut input prefix) g.D.Folder.keeping _
    c.from_residual-in_err-source.ensures.1 (head-before _ c.in_err-source.ensures.numbers)
    (c.read.ensures.reads.files ∙ c.survey_at.ensures.reads.files)
    (refused_run _ can_split.apart c.from_residual-in_err-source.ensures.1
    (head-left can_split _ _ (ap₂ seen_folder c.survey_at.ensures.reads.files
    c.in_ok-survey.ensures.reads.done) c.in_err-source.ensures.refused)
    (head-numbers cut input prefix _ c.in_err-source.ensures.numbers)
    (none_fell_by_reads
    (only_reads_then c.survey_at.ensures.reads.counts c.read.ensures.reads.counts)))

pub returns-in_err-places : goal.returns-in_err-places
returns-in_err-places g c =
    let cut = g.C.Cut.cutting c.args.cut.now in
    let input = c.args.input.now in
    let prefix = c.args.prefix.now in
    let source = surveyed g (goal.at.returns-in_err-places g c).In_ok-survey in
    asked_early (split_command cut input prefix) g.D.Folder.keeping _
    c.from_residual-in_err-places.ensures.1 (places-before cut _ c.in_err-places.ensures.numbers)
    (c.places.ensures.reads.files ∙ c.read.ensures.reads.files ∙ c.survey_at.ensures.reads.files)
    (refused_run _ source.can.apart c.from_residual-in_err-places.ensures.1
    (places-left source _ _
    (ap₂ seen_folder (c.read.ensures.reads.files ∙ c.survey_at.ensures.reads.files)
    (c.in_ok-source.ensures.reads.done ∙ c.in_ok-survey.ensures.reads.done))
    c.in_err-places.ensures.refused)
    (places-numbers cut input prefix _ c.in_err-places.ensures.numbers)
    (none_fell_by_reads (only_reads_then (only_reads_then
    c.survey_at.ensures.reads.counts c.read.ensures.reads.counts) c.places.ensures.reads.counts)))

-- the places are those that the files gave before, and nothing changed
module _ (g : given.Over) (c : After-as_slice g) where
  abbrev old : Seen
  old = g.D.Folder.seen c.args.folder.now

  abbrev mid : Seen
  mid = g.D.Folder.seen c.places.new.folder

  said : SaysPlaces (g.C.Cut.cutting c.args.cut.now) old.files (Ok c.as_slice.result.now)
  said = rw (← (c.read.ensures.reads.files ∙ c.survey_at.ensures.reads.files))
      (rw c.as_slice.ensures.value c.in_ok-places.ensures.places)

  split : IsSplitAt (g.C.Cut.cutting c.args.cut.now) c.args.input.now c.args.prefix.now
      (survey_view c.in_ok-survey.survey) old c.as_slice.result.now
  split = record { source = surveyed g (goal.at.After-as_slice g c).In_ok-survey; are = said }

  stays : mid ≡ old
  stays = ap₂ seen_folder (c.places.ensures.reads.files ∙ c.read.ensures.reads.files
      ∙ c.survey_at.ensures.reads.files) (c.in_ok-places.ensures.reads.done
      ∙ c.in_ok-source.ensures.reads.done ∙ c.in_ok-survey.ensures.reads.done)

  fell : NoneFell old.counts mid.counts
  fell = none_fell_by_reads (only_reads_then (only_reads_then
      c.survey_at.ensures.reads.counts c.read.ensures.reads.counts) c.places.ensures.reads.counts)

  known : (bytes : List ℕ) → Holds old.files c.args.input.now bytes
      → IsSplitSource (g.C.Cut.cutting c.args.cut.now) g.C.Cut.head c.in_ok-source.source bytes
      (survey_view c.in_ok-survey.survey)
  known bytes holds = c.in_ok-source.ensures.source bytes (rw c.survey_at.ensures.reads.files holds)

pub returns-in_err-pieces : goal.returns-in_err-pieces
returns-in_err-pieces g c =
    let at = (goal.at.returns-in_err-pieces g c).After-as_slice in
    let split_at = split g at in
    asked_early (split_command (g.C.Cut.cutting c.args.cut.now) c.args.input.now c.args.prefix.now)
    g.D.Folder.keeping _ c.from_residual-in_err-pieces.ensures.1
    (range-before (g.C.Cut.cutting c.args.cut.now) _ c.in_err-pieces.ensures.laid)
    (ap (λ (s : Seen). s.files) (stays g at))
    (refused_run {command = _} {old = _} {new = _} {r = _} _ split_at.source.can.apart
    c.from_residual-in_err-pieces.ensures.1
    (range-left split_at _ (stays g at)
    (fault-of-all (λ is bytes holds. is bytes (survey_view c.in_ok-survey.survey)
    (known g at bytes holds)) c.in_err-pieces.ensures.laid))
    (range-numbers (g.C.Cut.cutting c.args.cut.now) c.args.input.now c.args.prefix.now _
    c.in_err-pieces.ensures.laid) (fell g at))

pub returns-in_err-buffers : goal.returns-in_err-buffers
returns-in_err-buffers g c =
    let at = (goal.at.returns-in_err-buffers g c).After-as_slice in
    let split_at = split g at in
    asked_early (split_command (g.C.Cut.cutting c.args.cut.now) c.args.input.now c.args.prefix.now)
    g.D.Folder.keeping _ c.from_residual-in_err-buffers.ensures.1 tt
    (ap (λ (s : Seen). s.files) (stays g at))
    (refused_run _ split_at.source.can.apart c.from_residual-in_err-buffers.ensures.1
    (memory-left split_at.source (stays g at)) tt (fell g at))

-- there are no more pieces than names
few : (g : given.Over) (c : In_ok-pieces g) → length c.in_ok-pieces.pieces.items ≤ 99
few g c = omega (
  arith,
  c.in_ok-pieces.ensures.count,
  c.in_ok-places.ensures.sound.2,
  ap length c.as_slice.ensures.value,
)

-- the pieces, before their names are asked for
pieces-are : (g : given.Over) (c : In_ok-pieces g) → AreSplitPieces
    (g.C.Cut.cutting c.args.cut.now) c.args.input.now c.args.prefix.now
    (survey_view c.in_ok-survey.survey) (g.D.Folder.seen c.args.folder.now) c.as_slice.result.now
    c.in_ok-pieces.pieces.items
pieces-are g c = let at = (goal.at.In_ok-pieces g c).After-as_slice in record {
  split = split g at;
  named = rw c.in_ok-source.ensures.survey at c.in_ok-pieces.ensures.pieces;
  laid = λ bytes holds.
      c.in_ok-pieces.ensures.laid bytes (survey_view c.in_ok-survey.survey)
      (known g at bytes holds);
  few = few g c;
}

pub ask_all-requires : goal.ask_all-requires
ask_all-requires g c = omega (
  arith,
  few g (goal.at.ask_all-requires g c).In_ok-pieces,
  ap length c.as_slice-2.ensures.value,
)

pub returns-in_err-ask_all : goal.returns-in_err-ask_all
returns-in_err-ask_all g c =
    let at = (goal.at.returns-in_err-ask_all g c).After-as_slice in
    let same = stays g at in
    let items = c.as_slice-2.ensures.value in
    let stops = c.in_err-ask_all.ensures in
    asked_stopped
    (pieces-to-write (pieces-are g (goal.at.returns-in_err-ask_all g c).In_ok-pieces))
    c.from_residual-in_err-ask_all.ensures.1
    (none_fell_by_writes (rw same at c.ask_all.ensures.counts))
    stops.asked (rw (items, same) at stops.stops)

pub write_pieces-requires-clause-split : goal.write_pieces-requires-clause-split
write_pieces-requires-clause-split g c =
    let at = goal.at.write_pieces-requires-clause-split g c in
    let some = few g at.In_ok-pieces in
    let same = c.in_ok-ask_all.ensures.stays ∙ stays g at.After-as_slice in
    record {
      there = rw same c.in_ok-survey.ensures.there;
      laid = c.in_ok-source.ensures.laid;
      has = λ bytes holds.
          let is = known g at.After-as_slice bytes
          (rw (← same) holds) in
          rw is.survey is.has;
      few = omega (arith, some, ap length c.as_slice-3.ensures.value);
      ready = rw c.as_slice-3.ensures.value
          (can-be-written c.args.prefix.now 1
          _ (no_clash 0 (can g at.After-survey_at).apart).0 (omega arith)
          (omega (arith, some)) c.in_ok-pieces.ensures.pieces);
    }

pub returns : goal.returns
returns g c =
    let at = (goal.at.returns g c).After-as_slice in
    let are = pieces-are g (goal.at.returns g c).In_ok-pieces in
    let most = few g (goal.at.returns g c).In_ok-pieces in
    let items = c.as_slice-3.ensures.value in
    let asked = c.in_ok-ask_all.ensures.stays in
    let none = are.split.source.can.apart in
    let by = c.in_ok-source.ensures.survey in
    let touches = rw (items, asked) at c.write_pieces.ensures.touches in
    let numbers = IfErr-weaker c.write_pieces.result _ _
    (λ fault. pieces-numbers
    (g.C.Cut.cutting c.args.cut.now) c.args.input.now c.args.prefix.now fault
    (omega (arith, most))) (rw items at c.write_pieces.ensures.numbers) in
    asked_run (pieces-to-write are) g.D.Folder.keeping
    (λ keep. rw (c.as_slice-2.ensures.value, stays g at) at (c.in_ok-ask_all.ensures.free keep))
    (record {
      done = ok-both c.write_pieces.result
          (λ written done. split-done are (stays g at) written touches done)
          (rw (items, by, asked) at c.write_pieces.ensures.written)
          (rw asked at c.write_pieces.ensures.done);
      left = IfErr-weaker c.write_pieces.result _ _ (split-left are _ (stays g at) touches)
          (rw (items, by, asked) at c.write_pieces.ensures.left);
      numbers = numbers;
      names = grind (arith, names_free);
      streams = on_ok_weaker c.write_pieces.result
          (λ done. split-streams are.split c.in_ok-survey.ensures.octets)
          c.write_pieces.ensures.done;
      counts = none_fell_then (fell g at) (rw asked at c.write_pieces.ensures.counts);
    })
