-- The lines so far wait or were sent, and no write failed.
use Rattle.std.proofs.Common.{length, List, ◌≡◌}
use Rattle.list_edits.proofs.ListingLemmas.{IsSaidTo}
use Rattle.salvage.specs.{Text.{damage_lines, DamageLine, line_text}, declared.gap.Gap.Gap}
use Rattle.salvage.specs.declared.mended.Emptied.{Emptied}
use Rattle.sync_survey.specs.{Merge.entries_left, declared.merge.Merge.Merge}
use Rattle.salvage_edits.proofs.report.send_report.Given as goal

-- the lines that are left
abbrev pub told-left : Merge Gap Emptied → List DamageLine
told-left = entries_left (λ g. g.offset) (λ e. e.offset)

abbrev pub invariant-loop-told : goal.invariant-loop-told
invariant-loop-told g l = record {
  done : (g.T.Sink.heard l.out).faults ≡ (g.T.Sink.heard l.initial.out).faults;
  said : IsSaidTo line_text (damage_lines l.report.gaps.items l.report.emptied.items)
      (told-left l.lines) l.buffer (g.T.Sink.heard l.initial.out).sent (g.T.Sink.heard l.out).sent;
}

abbrev pub decreases-loop-told : goal.decreases-loop-told
decreases-loop-told g l = length (told-left l.lines)
