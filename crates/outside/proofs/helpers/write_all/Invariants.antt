use Rattle.std.proofs.Common.{length, take, ◌-◌, ◌≡◌, ◌≤◌}
use Rattle.outside.specs.Files.{IsFileThere, with_appended_bytes}
use Rattle.outside.proofs.helpers.write_all.Given as goal

abbrev pub invariant-loop-done : goal.invariant-loop-done
invariant-loop-done g l = record {
  in_range : l.done ≤ length l.bytes;
  written : (g.D.Folder.seen l.folder).files
      ≡ with_appended_bytes (g.D.Folder.seen l.initial.folder).files l.name (take l.done l.bytes);
  there : IsFileThere (g.D.Folder.seen l.folder).files l.name;
  counts : (g.D.Folder.seen l.folder).counts ≡ (g.D.Folder.seen l.initial.folder).counts;
}

abbrev pub decreases-loop-done : goal.decreases-loop-done
decreases-loop-done g l = length l.bytes - l.done
