-- The ranges before were given to the writer, and the others are left.
use Rattle.std.proofs.Common.{drop, length, ◌≡◌, ◌≤◌}
use Rattle.joined_inputs.{proofs.StepLemmas.IsLaidTo, specs.Ranges.laid_ranges}
use Rattle.laying.specs.Passing.{writing_in}
use Rattle.sync_survey.specs.Faults.{survey_view}
use Rattle.joined_inputs.proofs.laid.lay_all.Given as goal

abbrev pub invariant-loop-i : goal.invariant-loop-i
invariant-loop-i g l = record {
  within : l.at ≤ length l.placed;
  laid : IsLaidTo (survey_view l.first.survey.now).class l.first.pass.input.now
      l.first.pass.output.now
      (laid_ranges (g.D.Folder.seen l.fn.folder).files (g.R.LaidRanges.ranges l.ranges) l.placed)
      (writing_in l.fn.buffers) (writing_in l.buffers) (g.D.Folder.seen l.fn.folder).files
      (g.D.Folder.seen l.folder).files (drop l.i (g.R.LaidRanges.ranges l.ranges))
      (drop l.at l.placed);
  counts : (g.D.Folder.seen l.folder).counts ≡ (g.D.Folder.seen l.fn.folder).counts;
}
