-- The inputs so far are decided.
use Rattle.std.proofs.Common.{length, map, ◌≡◌, ◌≤◌}
use Rattle.joined_inputs.specs.Inputs.{input_view}
use Rattle.seamless_edits.specs.Deciding.{IsDecidingTo}
use Rattle.seamless_edits.proofs.decided.decide_all.Given as goal

abbrev pub invariant-loop-number : goal.invariant-loop-number
invariant-loop-number g l = record {
  within : l.number ≤ length l.inputs;
  decided : IsDecidingTo (g.D.Folder.seen l.fn.folder).files (map input_view l.inputs) l.beginnings
      l.number l.deciding;
  files : (g.D.Folder.seen l.folder).files ≡ (g.D.Folder.seen l.fn.folder).files;
  counts : (g.D.Folder.seen l.folder).counts ≡ (g.D.Folder.seen l.fn.folder).counts;
}
