-- The inputs so far have their surveys, and no file and no count changed.
use Rattle.std.proofs.Common.{map, None, string_bytes, take, ◌+◌, ◌≡◌}
use Rattle.commands.specs.SingleOutput.{most_frames}
use Rattle.joined_inputs.specs.Inputs.{AreJoinInputs, frames_together, input_names, input_view}
use Rattle.joined_inputs.proofs.surveys.survey_all.Given as goal

abbrev pub invariant-loop-number : goal.invariant-loop-number
invariant-loop-number g l = record {
  surveyed : AreJoinInputs None most_frames (g.D.Folder.seen l.fn.folder).files
      (map input_view l.inputs.items);
  named : input_names (map input_view l.inputs.items) ≡ take l.number (map string_bytes l.names);
  allowed : l.left + frames_together (map input_view l.inputs.items) ≡ most_frames;
  files : (g.D.Folder.seen l.folder).files ≡ (g.D.Folder.seen l.fn.folder).files;
  counts : (g.D.Folder.seen l.folder).counts ≡ (g.D.Folder.seen l.fn.folder).counts;
}
