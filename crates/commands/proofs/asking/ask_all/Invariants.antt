-- None of the names before is there, and nothing changed.
use Rattle.std.proofs.Common.{drop, map, ◌≡◌}
use Rattle.commands.specs.Kept.{first_there}
use Rattle.outside.specs.Files.{IfTold}
use Rattle.commands.proofs.asking.ask_all.Given as goal

abbrev pub invariant-loop-number : goal.invariant-loop-number
invariant-loop-number g l = record {
  stays : g.D.Folder.seen l.folder ≡ g.D.Folder.seen l.fn.folder;
  none : IfTold (g.D.Folder.seen l.fn.folder).files (λ f.
      first_there f l.number (map g.N.AsStr.text (drop l.number l.outputs))
      ≡ first_there f 0 (map g.N.AsStr.text l.outputs));
}
