-- A sheet whose bytes can't be read lists no positions.
use Rattle.commands.proofs.RefusingLemmas.{err_with}
use Rattle.split_edits.proofs.SheetLemmas.{unread-fault, unread-number}
use Rattle.split_edits.proofs.sheet.sheet_places.Goals as goal

pub returns-in_err-bytes-clause-refused : goal.returns-in_err-bytes-clause-refused
returns-in_err-bytes-clause-refused g c =
    err_with _ _ c.from_residual.ensures.1
    (unread-fault c.args.sheet.now _ _ _ c.in_err-bytes.ensures.sheet.refused)

pub returns-in_err-bytes-clause-numbers : goal.returns-in_err-bytes-clause-numbers
returns-in_err-bytes-clause-numbers g c =
    err_with _ _ c.from_residual.ensures.1 (unread-number _ c.in_err-bytes.ensures.sheet.numbers)
