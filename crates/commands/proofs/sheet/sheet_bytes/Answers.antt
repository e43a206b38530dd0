-- All bytes of the sheet are read, or the cause is that of the read.
use Rattle.std.proofs.Common.{ap, rules}
use Rattle.commands.proofs.SheetLemmas.{read-stops}
use Rattle.commands.specs.declared.fault.EditFault.TheVariants.{Input}
use Rattle.commands.proofs.sheet.sheet_bytes.Goals as goal

pub read_exact-requires-clause-found : goal.read_exact-requires-clause-found
read_exact-requires-clause-found g c = search rules

pub returns-in-Err-clause-sheet : goal.returns-in-Err-clause-sheet
returns-in-Err-clause-sheet g c =
    let stops = read-stops c.args.sheet.now _ _ c.sheet_length.ensures.sheet.reads.files
    c.read_exact.ensures.files c.in_ok-length.ensures.sheet.reads.done c.in-Err.fault
    (ap (λ f. Input 1 f) c.into.ensures) c.in-Err.ensures.cause in
    record {
      there = tt;
      refused = stops.0;
      numbers = stops.1;
      reads = record { files = search rules; done = tt; counts = search rules };
    }
