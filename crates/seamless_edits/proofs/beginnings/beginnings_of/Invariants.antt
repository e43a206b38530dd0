-- It is known how the inputs so far begin, and no file and no count changed.
use Rattle.std.proofs.Common.{map, take, ◌≡◌}
use Rattle.joined_inputs.specs.Inputs.{input_view}
use Rattle.seamless_edits.specs.Beginnings.{AreBeginnings}
use Rattle.seamless_edits.proofs.beginnings.beginnings_of.Given as goal

abbrev pub invariant-loop-place : goal.invariant-loop-place
invariant-loop-place g l = record {
  begun : AreBeginnings (g.D.Folder.seen l.fn.folder).files
      (take l.place (map input_view l.inputs)) l.beginnings.items;
  files : (g.D.Folder.seen l.folder).files ≡ (g.D.Folder.seen l.fn.folder).files;
  counts : (g.D.Folder.seen l.folder).counts ≡ (g.D.Folder.seen l.fn.folder).counts;
}
