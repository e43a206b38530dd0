-- The lines of the things so far wait or were sent, and no write failed.
use Rattle.std.proofs.Common.{length, ◌≡◌}
use Rattle.list_edits.{proofs.ListingLemmas.IsSaidTo, specs.Listing.thing_line}
use Rattle.list_edits.specs.Things.{ordered_things, things_left, things_of}
use Rattle.sync_survey.specs.Faults.{survey_view}
use Rattle.list_edits.proofs.list_file.send_listing.Given as goal

abbrev pub invariant-loop-things : goal.invariant-loop-things
invariant-loop-things g l = record {
  done : (g.T.Sink.heard l.out).faults ≡ (g.T.Sink.heard l.initial.out).faults;
  listed : IsSaidTo thing_line (ordered_things (things_of (survey_view l.survey)))
      (things_left l.things)
      l.buffer (g.T.Sink.heard l.initial.out).sent (g.T.Sink.heard l.out).sent;
}

abbrev pub decreases-loop-things : goal.decreases-loop-things
decreases-loop-things g l = length (things_left l.things)
