-- The frames so far sound the same.
use Rattle.std.proofs.Common.{drop, map, ◌+◌, ◌≡◌}
use Rattle.joined_inputs.specs.Inputs.{input_view}
use Rattle.outside.specs.Files.{IfTold}
use Rattle.seamless_edits.{proofs.DecideLemmas.sounds_from, specs.Sounds.all_splice_frames}
use Rattle.seamless_edits.proofs.decided.alike.Given as goal

abbrev pub invariant-loop-place : goal.invariant-loop-place
invariant-loop-place g l = record {
  frame : l.frame ≡ l.overlap.first_alike + l.place-index;
  files : (g.D.Folder.seen l.folder).files ≡ (g.D.Folder.seen l.fn.folder).files;
  counts : (g.D.Folder.seen l.folder).counts ≡ (g.D.Folder.seen l.fn.folder).counts;
  alike : IfTold (g.D.Folder.seen l.fn.folder).files (λ f.
      sounds_from (all_splice_frames f (map input_view l.inputs))
      l.number l.frame (drop l.place-index l.places)
      ≡ sounds_from (all_splice_frames f (map input_view l.inputs))
      l.number l.overlap.first_alike l.places);
}
