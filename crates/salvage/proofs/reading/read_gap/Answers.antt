-- The gap ends at the next frame, or with the file.
use Rattle.std.proofs.Common.{ap, arith, rules, subst, ◌+◌, ◌<◌, ◌∙◌, ◌≡◌}
use Rattle.salvage.proofs.{ProgressLemmas.{gap_laid, gap_read}, WalkLemmas.gap_end-by}
use Rattle.salvage.specs.{JudgedFrames.AddsGap, Progress.begun_class}
use Rattle.salvage.specs.{UsableFrames.next_usable_frame, Walk.{gap_end, offset_or_end}}
use Rattle.salvage.proofs.reading.read_gap.Goals as goal

pub returns : goal.returns
returns g c = record {
  reading = let end_is = c.end_of-end.ensures.within (c.args.found.now.at + 1)
      (omega (arith, c.requires.before)) c.in_ok-next.ensures.placed in
      let some : c.args.found.now.at < c.end_of-end.result = omega (arith, end_is.0) in
      let old = c.args.found.now in
      let new = c.skip.new.self in
      let begun = c.args.begun.now in
      record {
        reading = record {
          told = λ bytes holds.
              let end : c.end_of-end.result ≡ gap_end bytes (begun_class begun) old.at =
              c.end_of-end.ensures.told bytes (c.requires.begun.known.long bytes holds)
              ∙ ap (offset_or_end bytes) (c.in_ok-next.ensures.next bytes holds
              ∙ ap (λ r. next_usable_frame bytes r (old.at + 1)) c.later_role-role.ensures)
              ∙ gap_end-by bytes (begun_class begun) old.at in
              gap_read bytes begun old new (c.requires.reading.told bytes holds)
              (omega (arith, c.requires.before, c.requires.begun.known.long bytes holds))
              (c.requires.none bytes holds)
              (subst (λ n. AddsGap n old new) end c.in_ok-skip.ensures);
          laid = gap_laid new c.requires.reading.laid some
              end_is.1 c.in_ok-skip.ensures;
        };
        on = omega (arith, some, c.in_ok-skip.ensures.at);
      };
  reads = search rules;
  refused = search rules;
}
