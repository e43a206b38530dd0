use Rattle.std.proofs.Common.{drop, length, List, take, ℕ, ◌-◌, ◌≡◌, ◌≤◌}
use Rattle.outside.specs.Files.{Holds}
use Rattle.outside.proofs.helpers.read_on.Given as goal

abbrev pub invariant-loop-done : goal.invariant-loop-done
invariant-loop-done g l = record {
  in_range : l.done ≤ length l.into;
  more : l.have ≤ l.done;
  read : (bytes : List ℕ) → Holds (g.D.Folder.seen l.initial.folder).files l.name bytes
      → take l.have l.initial.into ≡ take l.have (drop l.at bytes)
      → take l.done l.into ≡ take l.done (drop l.at bytes);
  within : (bytes : List ℕ) → Holds (g.D.Folder.seen l.initial.folder).files l.name bytes
      → l.have ≤ length bytes - l.at → l.done ≤ length bytes - l.at;
  rest : drop l.done l.into ≡ drop l.done l.initial.into;
  files : (g.D.Folder.seen l.folder).files ≡ (g.D.Folder.seen l.initial.folder).files;
  counts : (g.D.Folder.seen l.folder).counts ≡ (g.D.Folder.seen l.initial.folder).counts;
}

abbrev pub decreases-loop-done : goal.decreases-loop-done
decreases-loop-done g l = l.enough - l.done
