-- The block is within the file.
use Rattle.std.proofs.Common.{arith, sym, ◌∙◌}
use Rattle.moved_gains.proofs.{FoundTagLemmas.tag-within, TagReadingLemmas.told-length}
use Rattle.outside.proofs.BufferOutputLemmas.{err_at}
use Rattle.moved_gains.proofs.tag_reading.read_block.Goals as goal

pub read_exact-requires-clause-found : goal.read_exact-requires-clause-found
read_exact-requires-clause-found g c = λ bytes holds.
    told-length c.args.name.now (g.D.Folder.seen c.args.folder.now).files
    c.requires.found.known.surveyed c.requires.found.tag bytes holds
    ∙ sym c.length.ensures

pub read_exact-requires-clause-within : goal.read_exact-requires-clause-within
read_exact-requires-clause-within g c =
    grind (
      arith,
      tag-within
          c.requires.found.known.laid c.requires.found.tag,
    )

pub returns-in_err-read_exact-clause-cause : goal.returns-in_err-read_exact-clause-cause
returns-in_err-read_exact-clause-cause g c = grind (arith, err_at)
