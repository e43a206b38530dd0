-- The file that was created is there.
use Rattle.std.proofs.Common.{subst, sym}
use Rattle.outside.{proofs.FilesLemmas.emptied_there, specs.Files.IsFileThere}
use Rattle.drill.proofs.stream.write_stream.Goals as goal

pub write-requires-clause-there : goal.write-requires-clause-there
write-requires-clause-there g c =
    let made = c.in-Ok-create.ensures.answer.created in
    subst (λ f. IsFileThere f c.args.name.now) (sym made)
    (emptied_there (g.D.Folder.seen c.args.folder.now).files c.args.name.now)
