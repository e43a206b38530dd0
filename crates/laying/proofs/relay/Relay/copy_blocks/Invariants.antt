-- The blocks before were passed on.
use Rattle.std.proofs.Common.{drop, ◌≡◌}
use Rattle.laying.specs.{Copying.chosen_bytes, Passing.IsRelayReady}
use Rattle.outside.proofs.PassLemmas.{WritesUpTo}
use Rattle.sync_survey.specs.Faults.{survey_view}
use Rattle.laying.proofs.relay.Relay.copy_blocks.Given as goal

abbrev pub invariant-loop-block : goal.invariant-loop-block
invariant-loop-block g l = record {
  up_to : WritesUpTo l.self.pass (chosen_bytes l.in_front (survey_view l.self.survey.now)
      (survey_view l.self.survey.now).blocks)
      (chosen_bytes l.in_front (survey_view l.self.survey.now)
      (drop l.block-index (survey_view l.self.survey.now).blocks))
      l.fn.waiting l.waiting (g.D.Folder.seen l.fn.folder).files (g.D.Folder.seen l.folder).files;
  ready : IsRelayReady l.self (g.D.Folder.seen l.folder).files l.feed;
  counts : (g.D.Folder.seen l.folder).counts ≡ (g.D.Folder.seen l.fn.folder).counts;
}
